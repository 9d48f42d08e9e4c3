-- W7: the rows of a table as they stand in order, compared two by two: each with those behind it that begin in a column that it reaches, where
-- their extents across the columns meet. P gives the place of each node. Assumes nothing.
use Rattle.std.specs.Prelude.{Bool, ◌&&◌, List, ℕ, ◌+◌, leb, get_or}
use Rattle.lists.specs.Lists.{cases}
use Rattle.meaning.specs.declared.Place.{Place}
use Rattle.meaning.specs.Tables.{row_at}
use Rattle.pairs.specs.Pair.{grave_at}
use Rattle.columns.specs.Axis.{is_y}
use Rattle.columns.specs.declared.Scale.{Scale}
use Rattle.columns.specs.declared.Boxed.{Boxed}
use Rattle.columns.specs.Columns.{high, column, box_at}
use Rattle.sweep.specs.Highest.{highest}

-- the extents have a number in common
abbrev pub meeting : Boxed → Boxed → Bool
meeting b c = leb c.low b.high && leb b.low c.high

-- how grave it is of two rows, if they meet
unfoldable pub compared : (ℕ → Place) → List ℕ → Boxed → Boxed → ℕ
compared P rows b c = cases (meeting b c) (grave_at P rows b.row c.row) 0

-- of the row at b and the one at place q
abbrev pub visited : (ℕ → Place) → List ℕ → List ℕ → ℕ → Boxed → ℕ → ℕ
visited P rows scratch o b q = compared P rows b (box_at scratch o q)

-- where the last column that row i reaches ends
unfoldable pub reach : Scale → (ℕ → Place) → List ℕ → List ℕ → ℕ → ℕ
reach s P rows scratch i = get_or scratch (column s (high (is_y s.axis) P (row_at rows i))) 0

-- the gravest of the row at place p and those behind it
unfoldable pub swept_place : Scale → (ℕ → Place) → List ℕ → List ℕ → ℕ → ℕ
swept_place s P rows scratch p =
    highest (visited P rows scratch s.count (box_at scratch s.count p)) (p + 1) (reach s P rows scratch (box_at scratch s.count p).row)

-- the gravest of any
unfoldable pub swept : Scale → (ℕ → Place) → List ℕ → List ℕ → ℕ → ℕ
swept s P rows scratch t = highest (swept_place s P rows scratch) 0 t
