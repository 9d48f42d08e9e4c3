-- Which nodes go, what becomes of a row, the new numbers: by the notes in s. Assumes nothing.
use Rattle.std.specs.Prelude.{Bool, not, ◌&&◌, List, ℕ, zero, suc, ◌+◌, ◌-◌, ◌*◌, ◌/◌, ◌%◌, ◌≤◌, ◌<◌, eqb, ltb, get_or}
use Rattle.lists.specs.Lists.{cases}
use Rattle.meaning.specs.declared.Tri.{Tri}
use Rattle.meaning.specs.Mesh.{tri}
use Rattle.meaning.specs.Coarsen.{marked}
use Rattle.meaning.specs.Tables.{row_at}
use Rattle.gather.specs.declared.Fate.{Fate}
use Rattle.gather.specs.declared.Fate.TheVariants.{Stays, Goes, Becomes}

-- "Coarsen takes the nodes that are marked and good": a node is noted with twice its pair's number, and 1 more where it is good
unfoldable pub take_at : List ℕ → List ℕ → ℕ → ℕ → ℕ
take_at marks s nc z = cases (marked marks z && eqb (get_or s (nc + z) 0 % 2) 1) (get_or s (nc + z) 0 / 2) 0

-- a fate, as scratch holds it
abbrev pub number_of : Fate → ℕ
number_of Stays = 0
number_of Goes = 1
number_of (Becomes c) = c + 2

-- a row (z, q, r) of a node that goes with the pair b, c: a left row has r = b, or r = c, and becomes (q, r, c), or (q, r, b); any other
-- is a brother's and goes
unfoldable pub fate_no : ℕ → Tri → ℕ
fate_no v w =
    cases (eqb v 0) 0
    (cases (eqb w.r ((v - 1) / 32_768)) ((v - 1) % 32_768 + 2)
    (cases (eqb w.r ((v - 1) % 32_768)) ((v - 1) / 32_768 + 2)
    1))

-- the numbers of pairs that are noted
pub record Small (s : List ℕ) (nc n : ℕ) : Type 0 where
  pub small : (z : ℕ) → z < n → get_or s (nc + z) 0 ≤ 1_073_741_824

unfoldable pub fate_at : List ℕ → List ℕ → ℕ → ℕ → ℕ
fate_at l s nc i = fate_no (get_or s (nc + (row_at l i).p) 0) (row_at l i)

unfoldable pub gone_node : List ℕ → ℕ → ℕ → Bool
gone_node s nc z = not (eqb (get_or s (nc + z) 0) 0)

abbrev pub next_number : Bool → ℕ → ℕ
next_number gone k = cases gone k (k + 1)

-- how many below z stay
unfoldable pub number_below : (ℕ → Bool) → ℕ → ℕ
number_below gone zero = 0
number_below gone (suc z) = next_number (gone z) (number_below gone z)

unfoldable pub gone_row : List ℕ → ℕ → ℕ → Bool
gone_row s nc i = eqb (get_or s (2 * nc + i) 0) 1

unfoldable pub father_by : Tri → ℕ → Tri
father_by w f = cases (ltb f 2) w (tri w.q w.r (f - 2))

unfoldable pub renamed_by : List ℕ → Tri → Tri
renamed_by s w = tri (get_or s w.p 0) (get_or s w.q 0) (get_or s w.r 0)

abbrev pub made_row : List ℕ → ℕ → ℕ → Tri → Tri
made_row s nc i w = renamed_by s (father_by w (get_or s (2 * nc + i) 0))

unfoldable pub new_row : List ℕ → ℕ → List ℕ → ℕ → Tri
new_row s nc l i = made_row s nc i (row_at l i)
