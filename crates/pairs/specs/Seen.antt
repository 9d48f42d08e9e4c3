-- A row as the code sees it: three corners, each a node and its place. The tests of Pair.antt on rows so seen. Assumes nothing.
use Rattle.std.specs.Prelude.{Bool, not, ◌&&◌, ◌||◌, ℕ, eqb, pos}
use Rattle.std.specs.Int.Signed.{le_z, lt_z}
use Rattle.lists.specs.Lists.{cases}
use Rattle.meaning.specs.declared.Place.{Place}
use Rattle.meaning.specs.declared.Tri.{Tri}
use Rattle.meaning.specs.Mesh.{turn}
use Rattle.meaning.specs.Good.{same_z}
use Rattle.meaning.specs.Lawful.{InRange}
use Rattle.meaning.specs.Proper.{facing}
use Rattle.pairs.specs.declared.Corner.{Corner}
use Rattle.pairs.specs.declared.Seen.{Seen}
use Rattle.pairs.specs.declared.Side.{Side}

abbrev pub corner_by : (ℕ → Place) → ℕ → Corner
corner_by P k = record { node = k; place = P k }

-- row t, seen by the places of the nodes
unfoldable pub seen_by : (ℕ → Place) → Tri → Seen
seen_by P t = record { p = corner_by P t.p; q = corner_by P t.q; r = corner_by P t.r }

-- all of it is in range
pub record Near (t : Seen) : Type 0 where
  pub near_p : InRange t.p.place
  pub near-q : InRange t.q.place
  pub near-r : InRange t.r.place

pub record NearSide (s : Side) : Type 0 where
  pub near-a : InRange s.a.place
  pub near-b : InRange s.b.place

-- ---- one side, from a to b, and one corner

unfoldable pub is_end : Corner → Corner → Corner → Bool
is_end a b c = eqb c.node a.node || eqb c.node b.node

-- c is strictly left, or strictly right, of the line
unfoldable pub left_of : Corner → Corner → Corner → Bool
left_of a b c = lt_z (pos 0) (turn a.place b.place c.place)

unfoldable pub right_of : Corner → Corner → Corner → Bool
right_of a b c = lt_z (turn a.place b.place c.place) (pos 0)

-- c, if it is on the line, is between the ends or at the place of one
unfoldable pub not_beyond : Corner → Corner → Corner → Bool
not_beyond a b c = le_z (facing a.place b.place c.place) (pos 0)

-- what `on_side` is of
unfoldable pub is_on : Corner → Corner → Corner → Bool
is_on a b c = not (is_end a b c) && same_z (turn a.place b.place c.place) (pos 0) && not_beyond a b c

-- c is an end of the side, or strictly right of its line
unfoldable pub is_clear : Corner → Corner → Corner → Bool
is_clear a b c = is_end a b c || right_of a b c

-- ---- one side and a row

unfoldable pub is_on_some : Corner → Corner → Seen → Bool
is_on_some a b t = is_on a b t.p || is_on a b t.q || is_on a b t.r

unfoldable pub some_left : Corner → Corner → Seen → Bool
some_left a b t = left_of a b t.p || left_of a b t.q || left_of a b t.r

-- the side is clean for the row
unfoldable pub all_clear : Corner → Corner → Seen → Bool
all_clear a b t = is_clear a b t.p && is_clear a b t.q && is_clear a b t.r

-- ---- two rows

-- a side of t is clean for u
unfoldable pub clean : Seen → Seen → Bool
clean t u = all_clear t.p t.q u || all_clear t.q t.r u || all_clear t.r t.p u

-- a corner of u is on a side of t
unfoldable pub meets : Seen → Seen → Bool
meets t u = is_on_some t.p t.q u || is_on_some t.q t.r u || is_on_some t.r t.p u

-- each side of t has a corner of u on its inner side
unfoldable pub crosses : Seen → Seen → Bool
crosses t u = some_left t.p t.q u && some_left t.q t.r u && some_left t.r t.p u

unfoldable pub grave_seen : Seen → Seen → ℕ
grave_seen t u = cases (meets t u || meets u t) 2 (cases (crosses t u && crosses u t) 1 0)
