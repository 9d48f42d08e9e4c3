-- Document 01's tests of one node or one row, by its number in the tables. Assumes nothing.
use Rattle.std.specs.Prelude.{Bool, ◌||◌, List, ℕ, eqb, ℤ, get_or, set, is_some}
use Rattle.lists.specs.Search.{lowest, items}
use Rattle.meaning.specs.Fault.{Fault}
use Rattle.meaning.specs.Lawful.{node_outside, misnamed, unused, fault, or_later}
use Rattle.meaning.specs.Tables.{node_at, place_at, row_at}
use Rattle.plane.specs.Plane.{flat_tri}
use Rattle.tables.specs.Arrow.{arrow_at}

-- 3
unfoldable pub outside_at : List ℤ → ℕ → Bool
outside_at nodes k = node_outside (node_at nodes k)

-- 4
unfoldable pub misnamed_at : List ℕ → ℕ → ℕ → Bool
misnamed_at l n i = misnamed n (row_at l i)

-- a row below i holds x→y
abbrev pub arrow_below : List ℕ → ℕ → ℕ → ℕ → Bool
arrow_below l i x y = is_some (lowest (arrow_at l x y) 0 i)

-- 5
unfoldable pub repeat_at : List ℕ → ℕ → Bool
repeat_at l i =
    arrow_below l i (row_at l i).p (row_at l i).q || arrow_below l i (row_at l i).q (row_at l i).r || arrow_below l i (row_at l i).r (row_at l i).p

-- 6
unfoldable pub flat_at : List ℤ → List ℕ → ℕ → Bool
flat_at nodes l i = flat_tri (place_at nodes (row_at l i).p) (place_at nodes (row_at l i).q) (place_at nodes (row_at l i).r)

-- 7: the corners of a row are marked in scratch; a node without a mark is in no row
unfoldable pub mark_step : List ℕ → ℕ → List ℕ → List ℕ
mark_step l i s = set (set (set s (row_at l i).p 1) (row_at l i).q 1) (row_at l i).r 1

unfoldable pub blank_at : List ℕ → ℕ → Bool
blank_at s z = eqb (get_or s z 0) 0

-- ---- the chain, by number

-- 5 to 7
unfoldable pub later_by : List ℤ → List ℕ → ℕ → ℕ → Fault
later_by nodes l n t =
    or_later 5 (lowest (repeat_at l) 0 t)
    (or_later 6 (lowest (flat_at nodes l) 0 t)
    (or_later 7 (lowest (unused (items (row_at l) 0 t)) 0 n)
    (fault 0 0)))

-- 3 to 7
unfoldable pub fault_by : List ℤ → List ℕ → ℕ → ℕ → Fault
fault_by nodes l n t = or_later 3 (lowest (outside_at nodes) 0 n) (or_later 4 (lowest (misnamed_at l n) 0 t) (later_by nodes l n t))
