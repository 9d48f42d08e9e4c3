-- W6: "The raster side asks for the correction at a given point." The row that holds the point, its three weights, their mean; as named facts and as
-- what is computed. dx and dy are two values of a node, f : ℕ → ℤ (node number to value): each part of the answer is made of one alone. Assumes nothing.
use Rattle.std.specs.Prelude.{Bool, ◌&&◌, ℕ, ◌<◌, ℤ, pos, ◌+ℤ◌, ◌*ℤ◌, ◌≤ℤ◌, length, Option, Some, None}
use Rattle.std.specs.Int.Signed.{le_z}
use Rattle.lists.specs.Lists.{where_first}
use Rattle.meaning.specs.Rounding.{floor}
use Rattle.meaning.specs.Mesh.{Place, Correction, Tri, Mesh, correction, node_of, at, turn}
use Rattle.meaning.specs.Lawful.{row_of}

-- ---- a point and one row

-- "each weighted by the area the point makes with the side opposite": twice that area; below 0 where P is right of that side
abbrev pub weight_p : Mesh → Place → Tri → ℤ
weight_p m P t = turn (at m t.q) (at m t.r) P

abbrev pub weight_q : Mesh → Place → Tri → ℤ
weight_q m P t = turn (at m t.r) (at m t.p) P

abbrev pub weight_r : Mesh → Place → Tri → ℤ
weight_r m P t = turn (at m t.p) (at m t.q) P

-- the "closed triangle holds it": P is right of no side
pub record HoldsPoint (m : Mesh) (P : Place) (t : Tri) : Type 0 where
  pub off-qr : pos 0 ≤ℤ weight_p m P t
  pub off-rp : pos 0 ≤ℤ weight_q m P t
  pub off-pq : pos 0 ≤ℤ weight_r m P t

-- the same as a test
abbrev pub holds_point : Mesh → Place → Tri → Bool
holds_point m P t = le_z (pos 0) (weight_p m P t) && le_z (pos 0) (weight_q m P t) && le_z (pos 0) (weight_r m P t)

-- "the mean of its three corrections, each weighted by the area": the exact fraction is weighted / weights
unfoldable pub weighted : (ℕ → ℤ) → Mesh → Place → Tri → ℤ
weighted f m P t = weight_p m P t *ℤ f t.p +ℤ weight_q m P t *ℤ f t.q +ℤ weight_r m P t *ℤ f t.r

unfoldable pub weights : Mesh → Place → Tri → ℤ
weights m P t = weight_p m P t +ℤ weight_q m P t +ℤ weight_r m P t

-- "rounded down from the exact fraction": what row t makes of P
unfoldable pub mean_in : (ℕ → ℤ) → Mesh → Place → Tri → ℤ
mean_in f m P t = floor (weighted f m P t) (weights m P t)

-- ---- a point and a mesh

-- row i holds it
abbrev pub RowHolds : Mesh → Place → ℕ → Type 0
RowHolds m P i = HoldsPoint m P (row_of m.tris i)

-- some row does
pub record Covered (m : Mesh) (P : Place) : Type 0 where
  pub row : ℕ
  pub row_below : row < length m.tris
  pub row-holds : RowHolds m P row

-- "the lowest row whose closed triangle holds it"
unfoldable pub row_holding : Mesh → Place → Option ℕ
row_holding m P = where_first (holds_point m P) m.tris

-- what a node carries
abbrev pub dx_of : Mesh → ℕ → ℤ
dx_of m k = (node_of m k).correction.dx

abbrev pub dy_of : Mesh → ℕ → ℤ
dy_of m k = (node_of m k).correction.dy

-- "each part"
abbrev pub correction_in : Mesh → Place → Tri → Correction
correction_in m P t = correction (mean_in (dx_of m) m P t) (mean_in (dy_of m) m P t)

-- by the row that was found
abbrev pub correction_by : Mesh → Place → Option ℕ → Correction
correction_by m P (Some i) = correction_in m P (row_of m.tris i)
correction_by m P None = correction (pos 0) (pos 0)

unfoldable pub correction_at : Mesh → Place → Correction
correction_at m P = correction_by m P (row_holding m P)
