-- W7: "A supplier sent a base where one side of an edge had a middle node and the other had none." What the base check refuses as 11 and as 12, as
-- named facts, and as what is computed: tests of one node or one row, and the lowest at fault. Assumes nothing.
use Rattle.std.specs.Prelude.{Bool, not, ◌&&◌, ◌||◌, ◌≢◌, ◌≡◌, ℕ, ◌<◌, ℤ, pos, ◌+ℤ◌, ◌-ℤ◌, ◌*ℤ◌, ◌<ℤ◌, length, take, Option, is_some}
use mathlib.Core.List.{Memᴰ}
use Rattle.std.specs.Int.Signed.{le_z, lt_z}
use Rattle.lists.specs.Lists.{any, up_to, All}
use Rattle.lists.specs.Search.{lowest}
use Rattle.meaning.specs.Mesh.{Place, Tri, Mesh, Arrow, arrows, at, turn}
use Rattle.meaning.specs.Lawful.{row_of}
use Rattle.meaning.specs.Good.{same_z}

-- ---- points of the plane

-- a triangle by the places of its corners
pub record Shape : Type 0 where
  pub p : Place
  pub q : Place
  pub r : Place

-- row t, by the places of its corners; P gives the place of each node
abbrev pub shape_by : (ℕ → Place) → Tri → Shape
shape_by P t = record { p = P t.p; q = P t.q; r = P t.r }

abbrev pub shape : Mesh → Tri → Shape
shape m = shape_by (at m)

abbrev pub area : Shape → ℤ
area t = turn t.p t.q t.r

-- the point "(X/W, Y/W ..)"
pub record Point : Type 0 where
  pub X : ℤ
  pub Y : ℤ
  pub W : ℤ

-- twice the area of a, b and the point, times its W: above 0 where the point is strictly left of the line from a to b
abbrev pub left : Place → Place → Point → ℤ
left a b s = (b.x -ℤ a.x) *ℤ (s.Y -ℤ a.y *ℤ s.W) -ℤ (s.X -ℤ a.x *ℤ s.W) *ℤ (b.y -ℤ a.y)

-- the point is an interior one: strictly left of all three sides
pub record Inside (t : Shape) (s : Point) : Type 0 where
  pub pq : pos 0 <ℤ left t.p t.q s
  pub qr : pos 0 <ℤ left t.q t.r s
  pub rp : pos 0 <ℤ left t.r t.p s

-- "two triangles share an interior point (X/W, Y/W for some whole numbers X, Y and W, W above 0)"
pub record Share (s t : Shape) : Type 0 where
  pub point : Point
  pub weight : pos 0 <ℤ point.W
  pub in-first : Inside s point
  pub in-second : Inside t point

-- (A − P)·(B − P): for P on the line of A and B it is below 0 between them, 0 at either, and above 0 elsewhere
abbrev pub facing : Place → Place → Place → ℤ
facing A B P = (A.x -ℤ P.x) *ℤ (B.x -ℤ P.x) +ℤ (A.y -ℤ P.y) *ℤ (B.y -ℤ P.y)

-- P "lies strictly inside" the edge A–B: on its line, between its ends, at neither
pub record StrictlyInside (A B P : Place) : Type 0 where
  pub on_line : turn A B P ≡ pos 0
  pub between : facing A B P <ℤ pos 0

-- ---- as facts

-- a mesh that draws neither 11 nor 12
pub record Proper (m : Mesh) : Type 0 where
  -- not 11: "two nodes stand at one place"
  pub places-differ : (j k : ℕ) → j < k → k < length m.nodes → at m j ≢ at m k
  -- not 11: "a node lies strictly inside an edge"
  pub none_inside : (k : ℕ) → k < length m.nodes → All (λ t. All (λ e. ¬ StrictlyInside (at m e.from) (at m e.to) (at m k)) (arrows t)) m.tris
  -- not 12: "two triangles share an interior point"
  pub none-shared : (i j : ℕ) → i < j → j < length m.tris → ¬ Share (shape m (row_of m.tris i)) (shape m (row_of m.tris j))

-- node k is at fault: it stands where a lower one does, or strictly inside an edge
pub data Crowded (m : Mesh) (k : ℕ) : Type 0 where
  at-one-place : (j : ℕ) → j < k → at m j ≡ at m k → Crowded m k
  inside-edge : (t : Tri) → Memᴰ t m.tris → (e : Arrow) → Memᴰ e (arrows t) → StrictlyInside (at m e.from) (at m e.to) (at m k) → Crowded m k

-- row i is at fault: it shares an interior point with a lower one
pub data Overlaps (m : Mesh) (i : ℕ) : Type 0 where
  with-lower : (j : ℕ) → j < i → Share (shape m (row_of m.tris j)) (shape m (row_of m.tris i)) → Overlaps m i

-- ---- as tests of one node or one row; yes: it is at fault

abbrev pub same_place : Place → Place → Bool
same_place A B = same_z A.x B.x && same_z A.y B.y

abbrev pub strictly_inside : Place → Place → Place → Bool
strictly_inside A B P = same_z (turn A B P) (pos 0) && lt_z (facing A B P) (pos 0)

-- 11: node k stands where a lower one does, or strictly inside an edge
abbrev pub crowded : Mesh → ℕ → Bool
crowded m k =
    any (λ j. same_place (at m j) (at m k)) (up_to k) ||
    any (λ t. any (λ e. strictly_inside (at m e.from) (at m e.to) (at m k)) (arrows t)) m.tris

-- no corner of t is strictly left of the line from a to b
unfoldable pub none_left : Place → Place → Shape → Bool
none_left a b t = le_z (turn a b t.p) (pos 0) && le_z (turn a b t.q) (pos 0) && le_z (turn a b t.r) (pos 0)

-- a side of s has no corner of t on its inner side
unfoldable pub parted_by : Shape → Shape → Bool
parted_by s t = none_left s.p s.q t || none_left s.q s.r t || none_left s.r s.p t

-- a side of one has the other beyond it: 18 signs
unfoldable pub apart : Shape → Shape → Bool
apart s t = parted_by s t || parted_by t s

-- 12: row i is not apart from a lower row
abbrev pub overlaps : Mesh → ℕ → Bool
overlaps m i = any (λ t. not (apart (shape m t) (shape m (row_of m.tris i)))) (take i m.tris)

-- ---- as the lowest node or row at fault

unfoldable pub first_crowded : Mesh → Option ℕ
first_crowded m = lowest (crowded m) 0 (length m.nodes)

unfoldable pub first_overlap : Mesh → Option ℕ
first_overlap m = lowest (overlaps m) 0 (length m.tris)

-- not 11
unfoldable pub uncrowded : Mesh → Bool
uncrowded m = not (is_some (first_crowded m))

-- not 12
unfoldable pub disjoint : Mesh → Bool
disjoint m = not (is_some (first_overlap m))
