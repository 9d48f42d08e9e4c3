-- Laws of single steps, which the check finds alone today. Assumes nothing.
use Rattle.std.specs.Prelude.{◌≡◌, ◌&&◌, ◌||◌, List, ℕ, ◌*◌, ◌-◌, ◌≤◌, eqb, ℤ, pos, length, replicate}
use borrow.Rule.Slice.PartMut.{put_mid, mid_of}
use Rattle.lists.specs.Search.{items}
use Rattle.lists.specs.SearchLaw.{or-three}
use Rattle.meaning.specs.declared.Correction.{Correction}
use Rattle.meaning.specs.declared.Place.{Place}
use Rattle.meaning.specs.declared.Tri.{Tri}
use Rattle.meaning.specs.Mesh.{node, arrow, holds_arrow}
use Rattle.meaning.specs.Tables.{node_form, row_form, nodes-faithful, rows-faithful, row_at, node_at, place_at, flat_rows, flat_nodes, filled}
use Rattle.tables.specs.PutLaw.{cleared-from}

-- the code's three tests
pub has-arrow : (w : Tri) (x y : ℕ) → (eqb x w.p && eqb y w.q) || (eqb x w.q && eqb y w.r) || (eqb x w.r && eqb y w.p) ≡ holds_arrow (arrow x y) w
has-arrow w x y = or-three (eqb x w.p && eqb y w.q) (eqb x w.q && eqb y w.r) (eqb x w.r && eqb y w.p)

-- a node read as its two parts, in the form of needs
pub node-parts : (l : List ℤ) (k : ℕ) (a : Place) (c : Correction) → a ≡ place_at l k → c ≡ (node_at l k).correction → node a c ≡ node_at l k
node-parts l k a c e d = rw (e, d)

-- a table that is cleared from one row or node on
pub rows-cleared : (l ys : List ℕ) (t : ℕ) → 3 * t ≤ length l → ys ≡ replicate (length (mid_of (3 * t) (length l - 3 * t) l)) 0 →
    put_mid (3 * t) (length l - 3 * t) l ys ≡ filled 0 (length l) (flat_rows (items (row_at l) 0 t))
unfolding row_at
rows-cleared = cleared-from row_form rows-faithful

pub nodes-cleared : (l ys : List ℤ) (n : ℕ) → 4 * n ≤ length l → ys ≡ replicate (length (mid_of (4 * n) (length l - 4 * n) l)) (pos 0) →
    put_mid (4 * n) (length l - 4 * n) l ys ≡ filled (pos 0) (length l) (flat_nodes (items (node_at l) 0 n))
unfolding node_at
nodes-cleared = cleared-from node_form nodes-faithful
