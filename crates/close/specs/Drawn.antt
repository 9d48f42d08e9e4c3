-- The rows that are split, as notes of 1: a row with a starting edge, the row across its refinement edge, the row across that one's, and
-- so on. Then which edges start. Assumes nothing.
use Rattle.std.specs.Prelude.{List, [], ◌∷◌, ℕ, zero, suc, eqb, get_or, set, Option}
use Rattle.lists.specs.Lists.{cases}
use Rattle.lists.specs.Search.{lowest, iter}
use Rattle.meaning.specs.declared.Tri.{Tri}
use Rattle.meaning.specs.declared.Manner.{Manner}
use Rattle.meaning.specs.declared.Manner.TheVariants.{Newest, AllThree}
use Rattle.meaning.specs.Tables.{row_at}
use Rattle.tables.specs.Arrow.{arrow_at}
pub use Rattle.lists.specs.Lists.{on_found}

-- the row across the refinement edge of row i: the one that holds r→q
unfoldable pub across_row : List ℕ → ℕ → ℕ → Option ℕ
across_row l t i = lowest (arrow_at l (row_at l i).r (row_at l i).q) 0 t

-- how many notes are 0
abbrev pub zero_at : ℕ → ℕ → ℕ
zero_at zero n = suc n
zero_at (suc x) n = n

unfoldable pub zeros : List ℕ → ℕ
zeros [] = 0
zeros (x ∷ xs) = zero_at x (zeros xs)

-- row j and what it draws along, up to one whose note is not 0; at most k rows
unfoldable pub drawn : ℕ → List ℕ → ℕ → ℕ → List ℕ → List ℕ
drawn zero l t j s = s
drawn (suc k) l t j s =
    cases (eqb (get_or s j 0) 0) (on_found (across_row l t j) (λ i. drawn k l t i (set s j 1)) (set s j 1)) s

-- there are no more rows to draw than notes that are 0
unfoldable pub draws : List ℕ → ℕ → ℕ → List ℕ → List ℕ
draws l t j s = drawn (zeros s) l t j s

-- the row across the edge x→y, with what it draws along
unfoldable pub draw_across : List ℕ → ℕ → ℕ → ℕ → List ℕ → List ℕ
draw_across l t x y s = on_found (lowest (arrow_at l y x) 0 t) (λ j. draws l t j s) s

-- the rows across the sides p–q and r–p of w
unfoldable pub draw_sides : List ℕ → ℕ → Tri → List ℕ → List ℕ
draw_sides l t w s = draw_across l t w.r w.p (draw_across l t w.p w.q s)

-- row i, and where its sides start the split set too, the rows across them
unfoldable pub draw_from : Manner → List ℕ → ℕ → ℕ → List ℕ → List ℕ
draw_from Newest l t i s = draws l t i s
draw_from AllThree l t i s = draw_sides l t (row_at l i) (draws l t i s)

-- what becomes of the notes s at row i: a where it is marked
unfoldable pub when_marked : List ℕ → ℕ → List ℕ → List ℕ → List ℕ
when_marked marks i a s = cases (eqb (get_or marks i 0) 1) a s

abbrev pub draw_marked : Manner → List ℕ → ℕ → List ℕ → ℕ → List ℕ → List ℕ
draw_marked k l t marks i s = when_marked marks i (draw_from k l t i s) s

-- ---- which edges of a marked row start the split set, as bits of its note: q–r, p–q, r–p

unfoldable pub start_note : Manner → ℕ
start_note Newest = 1
start_note AllThree = 7

abbrev pub note_start : Manner → List ℕ → ℕ → List ℕ → List ℕ
note_start k marks i s = when_marked marks i (set s i (start_note k)) s

-- all notes: bit 0 where a row is split; then bits 1 and 2 where its sides start
unfoldable pub closed_notes : Manner → List ℕ → ℕ → List ℕ → List ℕ → List ℕ
closed_notes k l t marks s = iter (note_start k marks) 0 t (iter (draw_marked k l t marks) 0 t s)
