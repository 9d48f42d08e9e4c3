-- The index, computed: document 01's S, rows (1,2,0) (3,0,2), in tables with room for four nodes and two rows. Assumes nothing.
use Rattle.std.specs.Prelude.{◌≡◌, refl, List, [], ◌∷◌, ℕ, replicate, Some, None}
use Rattle.lists.specs.Search.{lowest, lowest_from, iter, iter_from}
use Rattle.meaning.specs.Tables.{row_at}
use Rattle.tables.specs.Arrow.{arrow_at}
use Rattle.neighbours.specs.Slots.{join_slot}
use Rattle.neighbours.specs.Ready.{named_at}
use Rattle.neighbours.specs.Walk.{rarer, hits, passes, row_of}

rows : List ℕ
rows = 1 ∷ 2 ∷ 0 ∷ 3 ∷ 0 ∷ 2 ∷ []

-- scratch after so many slots after
after : ℕ → List ℕ
after n = iter (λ k s. join_slot 4 10 k (named_at rows k) s) 0 n (replicate 24 0)

-- ten notes; each node's highest slot; how many name it; the next of each slot, and after the highest the lowest
all-six : after 6 ≡ 0 ∷ 0 ∷ 0 ∷ 0 ∷ 0 ∷ 0 ∷ 0 ∷ 0 ∷ 0 ∷ 0 ∷ 5 ∷ 1 ∷ 6 ∷ 4 ∷ 2 ∷ 1 ∷ 2 ∷ 1 ∷ 1 ∷ 6 ∷ 5 ∷ 4 ∷ 3 ∷ 2 ∷ []
unfolding after rows iter iter_from join_slot
all-six = refl

-- the first row alone: each slot is alone, those of the second are free
first-row : after 3 ≡ 0 ∷ 0 ∷ 0 ∷ 0 ∷ 0 ∷ 0 ∷ 0 ∷ 0 ∷ 0 ∷ 0 ∷ 3 ∷ 1 ∷ 2 ∷ 0 ∷ 1 ∷ 1 ∷ 1 ∷ 0 ∷ 1 ∷ 2 ∷ 3 ∷ 0 ∷ 0 ∷ 0 ∷ []
unfolding after rows iter iter_from join_slot
first-row = refl

-- 3→0 is sought from 3, which one slot names; 0→3 too
fewer-name-3 : rarer (after 6) 4 rows 3 0 ∷ rarer (after 6) 4 rows 0 3 ∷ [] ≡ 3 ∷ 3 ∷ []
unfolding after rows iter iter_from join_slot
fewer-name-3 = refl

-- among the slots that name 3: 3→0 is in row 1, and past the limit of one row; 0→3 in none
walked : row_of (lowest (passes rows 2 3 0 (named_at rows) 3) 0 6) ∷ row_of (lowest (passes rows 1 3 0 (named_at rows) 3) 0 6) ∷ row_of (lowest (passes rows 2 0 3 (named_at rows) 3) 0 6) ∷ [] ≡ Some 1 ∷ None ∷ None ∷ []
unfolding rows hits arrow_at row_at lowest lowest_from
walked = refl
