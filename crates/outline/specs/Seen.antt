-- An arrow as the code sees it: two ends, each a node, its place and the key of that. The tests of Clear.antt on arrows so seen. Assumes nothing.
use Rattle.std.specs.Prelude.{Bool, not, ◌&&◌, ◌||◌, List, ◌≡◌, ℕ, ◌+◌, ◌*◌, ◌≤◌, ◌<◌, eqb, ℤ, pos, nat_abs, ◌+ℤ◌, length, get_or, Option, Some, None, is_some}
use Rattle.std.specs.Int.Signed.{le_z, lt_z}
use Rattle.lists.specs.Lists.{cases}
use Rattle.lists.specs.Search.{lowest}
use Rattle.lists.specs.ItemsLaw.{sum_to}
use Rattle.meaning.specs.declared.Place.{Place}
use Rattle.meaning.specs.Mesh.{Arrow, arrow, turn}
use Rattle.meaning.specs.Good.{same_z}
use Rattle.meaning.specs.Lawful.{InRange}
use Rattle.meaning.specs.Proper.{facing}
use Rattle.laws.specs.Meshes.{Stands}
use Rattle.border.specs.Clear.{steep, crosses}
use Rattle.border.specs.Under.{key}
use Rattle.outline.specs.declared.End.{End}
use Rattle.outline.specs.declared.Edge.{Edge}

-- ---- arrows and edges

abbrev pub end_by : (ℕ → Place) → ℕ → End
end_by P k = record { node = k; place = P k; key = key steep (P k) }

-- arrow e, seen by the places of the nodes
unfoldable pub edge_by : (ℕ → Place) → Arrow → Edge
edge_by P e = record { from = end_by P e.from; to = end_by P e.to }

-- arrow j of those in scratch
unfoldable pub arrow_in : List ℕ → ℕ → Arrow
arrow_in s j = arrow (get_or s (2 * j) 0) (get_or s (2 * j + 1) 0)

unfoldable pub edge_in : (ℕ → Place) → List ℕ → ℕ → Edge
edge_in P s j = edge_by P (arrow_in s j)

-- its place is in range, its key therefore too
pub record Near (a : End) : Type 0 where
  pub near : InRange a.place
  pub keyed : a.key ≡ key steep a.place
  pub key-near : nat_abs a.key ≤ 8_796_094_070_784

pub record Close (e : Edge) : Type 0 where
  pub from-near : Near e.from
  pub to-near : Near e.to

-- both ends of an arrow stand in the node table
pub record EndsStand (nodes : List ℤ) (e : Arrow) : Type 0 where
  pub from-stands : Stands nodes e.from
  pub to-stands : Stands nodes e.to

-- the first b arrows in scratch stand
pub record Listing (nodes : List ℤ) (s : List ℕ) (b : ℕ) : Type 0 where
  pub room : 2 * b ≤ length s
  pub few : b ≤ 1_000_000
  pub stand : (j : ℕ) → j < b → EndsStand nodes (arrow_in s j)

-- ---- two edges

-- both ends of g have keys below those of both ends of e
unfoldable pub all_before : Edge → Edge → Bool
all_before g e = lt_z g.from.key e.from.key && lt_z g.from.key e.to.key && lt_z g.to.key e.from.key && lt_z g.to.key e.to.key

-- the keys of the two do not overlap: such arrows neither meet nor run under each other's middle (FarLaw.antt)
unfoldable pub far : Edge → Edge → Bool
far e g = all_before g e || all_before e g

-- c is no end of e, and is on it
unfoldable pub is_on : Edge → End → Bool
is_on e c =
    not (eqb c.node e.from.node || eqb c.node e.to.node) && same_z (turn e.from.place e.to.place c.place) (pos 0) &&
    le_z (facing e.from.place e.to.place c.place) (pos 0)

unfoldable pub meet : Edge → Edge → Bool
meet e g = is_on e g.from || crosses e.from.place e.to.place g.from.place g.to.place

-- from a to b it rises under the middle of e
unfoldable pub rises_under : Edge → End → End → Bool
rises_under e a b =
    lt_z (a.key +ℤ a.key) (e.from.key +ℤ e.to.key) && lt_z (e.from.key +ℤ e.to.key) (b.key +ℤ b.key) &&
    lt_z (pos 0) (turn a.place b.place e.from.place +ℤ turn a.place b.place e.to.place)

-- none where g meets e; else one more than what g counts under the middle of e: 2 where it rises there, 0 where it falls, 1 where it does not run there
unfoldable pub look : Edge → Edge → Option ℕ
look e g = cases (meet e g) None (Some (cases (rises_under e g.from g.to) 2 (cases (rises_under e g.to g.from) 0 1)))

-- 1 if e falls
unfoldable pub falling : Edge → ℕ
falling e = cases (lt_z e.to.key e.from.key) 1 0

-- ---- all edges

-- what arrow j is to e
unfoldable pub look_at : (ℕ → Place) → List ℕ → Edge → ℕ → Option ℕ
look_at P s e j = look e (edge_in P s j)

-- what was counted, where it was
abbrev pub counted : Option ℕ → ℕ
counted (Some k) = k
counted None = 0

abbrev pub AtMost : ℕ → Option ℕ → Type 0
AtMost n o = counted o ≤ n

unfoldable pub is_met : (ℕ → Option ℕ) → ℕ → Bool
is_met f j = not (is_some (f j))

unfoldable pub count_at : (ℕ → Option ℕ) → ℕ → ℕ
count_at f j = counted (f j)

-- each of the first b looks counts, and they come to b + k: k is what the arrows count, the b is one more for each
unfoldable pub fine : (ℕ → Option ℕ) → ℕ → ℕ → Bool
fine f b k = not (is_some (lowest (is_met f) 0 b)) && eqb (sum_to (count_at f) b) (b + k)

-- one of the first b arrows in scratch meets arrow i, or those under its middle are not as many as a clear border has
unfoldable pub not_free : (ℕ → Place) → List ℕ → ℕ → ℕ → Bool
not_free P s b i = not (fine (look_at P s (edge_in P s i)) b (falling (edge_in P s i)))

-- this is so of none of them
unfoldable pub all_free : (ℕ → Place) → List ℕ → ℕ → Bool
all_free P s b = not (is_some (lowest (not_free P s b) 0 b))
