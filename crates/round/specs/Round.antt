-- The rows round a node, by number: a chain of the rows of which it is the newest vertex, from the lowest on. Assumes nothing.
use Rattle.std.specs.Prelude.{◌≡◌, Bool, not, ◌&&◌, ◌||◌, List, [], ◌∷◌, ℕ, zero, suc, ◌+◌, ◌*◌, ◌≤◌, ◌<◌, eqb, length, get_or, set}
use Rattle.lists.specs.Lists.{any, only}
use Rattle.lists.specs.Tally.{bit}
use Rattle.lists.specs.Search.{lowest, items}
use Rattle.lists.specs.Loops.{code}
use Rattle.meaning.specs.declared.Tri.{Tri}
use Rattle.meaning.specs.Mesh.{tri}
use Rattle.meaning.specs.Tables.{row_at}
use Rattle.lists.specs.ChainLaw.{linked}
use Rattle.round.specs.declared.Round.{Round}

-- z is the newest vertex
abbrev pub newest : ℕ → Tri → Bool
newest z w = eqb w.p z

abbrev pub newest_at : List ℕ → ℕ → ℕ → Bool
newest_at rows z i = newest z (row_at rows i)

-- the row holds z, and not as its newest vertex
abbrev pub older : ℕ → Tri → Bool
older z w = eqb w.q z || eqb w.r z

-- the rows of which z is the newest vertex
abbrev pub rows_round : List ℕ → ℕ → ℕ → List Tri
rows_round rows t z = only (newest z) (items (row_at rows) 0 t)

-- what is noted of node z: its lowest row, and at each row the next one with the same newest vertex (one too large; 0: none); and
-- whether some row holds z otherwise
pub record Around (s : List ℕ) (nc : ℕ) (rows : List ℕ) (t z : ℕ) : Type 0 where
  pub head : get_or s z 0 ≡ code (lowest (newest_at rows z) 0 t)
  pub nexts : (j : ℕ) → j < t → get_or s (2 * nc + j) 0 ≡ code (lowest (newest_at rows (row_at rows j).p) (j + 1) t)
  pub elder : get_or s (nc + z) 0 ≡ bit (any (older z) (items (row_at rows) 0 t))
  pub below : z < nc
  pub long : 2 * nc + t ≤ length s

-- ---- how it is noted

unfoldable pub older_step : List ℕ → ℕ → ℕ → List ℕ → List ℕ
older_step rows nc i s = set (set s (nc + (row_at rows i).q) 1) (nc + (row_at rows i).r) 1

unfoldable pub link_step : List ℕ → ℕ → ℕ → List ℕ → List ℕ
link_step rows nc i s = linked (row_at rows i).p (2 * nc + i) i s

-- ---- how it is read

-- the note after row number k
unfoldable pub next_of : List ℕ → ℕ → ℕ → ℕ
next_of s nc zero = 0
next_of s nc (suc j) = get_or s (2 * nc + j) 0

-- the numbers of the rows of which a node is the newest vertex, lowest first; 0 is none
pub record Numbers : Type 0 where
  pub first : ℕ
  pub second : ℕ
  pub third : ℕ
  pub fourth : ℕ
  pub fifth : ℕ

abbrev pub numbers : Round → Numbers
numbers k = record { first = code k.first; second = code k.second; third = code k.third; fourth = code k.fourth; fifth = code k.fifth }

abbrev pub round : ℕ → ℕ → ℕ → ℕ → ℕ → Numbers
round a b c d e = record { first = a; second = b; third = c; fourth = d; fifth = e }

abbrev pub round_from : List ℕ → ℕ → ℕ → Numbers
round_from s nc k =
    round k (next_of s nc k) (next_of s nc (next_of s nc k)) (next_of s nc (next_of s nc (next_of s nc k))) (next_of s nc (next_of s nc (next_of s nc (next_of s nc k))))

unfoldable pub round_by : List ℕ → ℕ → ℕ → Numbers
round_by s nc z = round_from s nc (get_or s z 0)

-- two rows, or four
unfoldable pub two_or_four : Numbers → Bool
two_or_four k = not (eqb k.second 0) && eqb k.third 0 || not (eqb k.fourth 0) && eqb k.fifth 0

-- row number k, where there is one
unfoldable pub row_in : List ℕ → ℕ → Tri
row_in l zero = tri 0 0 0
row_in l (suc i) = row_at l i

-- the first four, where there are so many
abbrev pub four_rows : List ℕ → Numbers → List Tri
four_rows l k = row_in l k.first ∷ row_in l k.second ∷ row_in l k.third ∷ row_in l k.fourth ∷ []

-- the numbers are those of rows, or 0
pub record Within (l : List ℕ) (k : Numbers) : Type 0 where
  pub first-in : 3 * k.first ≤ length l
  pub second-in : 3 * k.second ≤ length l
  pub third-in : 3 * k.third ≤ length l
  pub fourth-in : 3 * k.fourth ≤ length l
