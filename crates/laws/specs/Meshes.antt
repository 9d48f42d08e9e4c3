-- The mesh in the tables by its counts, its rows alone, and what a lawful mesh tells of nodes and rows by number. Assumes nothing.
use Rattle.std.specs.Prelude.{◌≡◌, true, List, [], ℕ, ◌+◌, ◌*◌, ◌≤◌, ◌<◌, ℤ, pos, ◌<ℤ◌, length}
use Rattle.std.proofs.Math.Path.{refl}
use Rattle.std.proofs.Common.{sym, ap, subst, arith}
use Rattle.lists.specs.ListsLaw.{All-at, All-get_or}
use Rattle.lists.specs.Search.{items}
use Rattle.lists.specs.IterLaw.{length-items, get_or-items}
use Rattle.lists.specs.ByNumberLaw.{items-in}
use Rattle.meaning.specs.declared.Place.{Place}
use Rattle.meaning.specs.declared.Tri.{Tri}
use Rattle.meaning.specs.Mesh.{Mesh, Arrow, mesh, node_of, at, origin, holds_arrow, twice_area}
use Rattle.meaning.specs.Lawful.{InRange, NodeInRange, Named, Lawful}
use Rattle.meaning.specs.Tables.{node_at, place_at, row_at, given, mesh_of}
use Rattle.laws.specs.Pairs.{RowsOnce, arrows-once, row-once, holder-item}

-- the first n nodes and t rows
unfoldable pub mesh_at : List ℤ → List ℕ → ℕ → ℕ → Mesh
mesh_at nodes rows n t = mesh (items (node_at nodes) 0 n) (items (row_at rows) 0 t)

-- the first t rows, without nodes: G1 and G2 ask for no place
abbrev pub rows_alone : List ℕ → ℕ → Mesh
rows_alone rows t = mesh [] (items (row_at rows) 0 t)

-- what the code relies on of the rows
pub record Fair (rows : List ℕ) (n t : ℕ) : Type 0 where
  pub room : 3 * t ≤ length rows
  pub few : t ≤ 87_382
  pub named : (i : ℕ) → i < t → Named n (row_at rows i)
  pub once : RowsOnce (items (row_at rows) 0 t)

-- node k is in the table, and in range
pub record Stands (nodes : List ℤ) (k : ℕ) : Type 0 where
  pub inside : 4 * k + 4 ≤ length nodes
  pub range : NodeInRange (node_at nodes k)

-- so are the corners of a row
pub record Standing (nodes : List ℤ) (w : Tri) : Type 0 where
  pub at_p : Stands nodes w.p
  pub at-q : Stands nodes w.q
  pub at-r : Stands nodes w.r

pub range-of : (nodes : List ℤ) (x : ℕ) (a : Place) → a ≡ place_at nodes x → Stands nodes x → InRange a
range-of nodes x a e c = subst InRange (sym e) c.range.place_in

pub standing-of : (nodes : List ℤ) (l : List ℕ) (i : ℕ) (w : Tri) → w ≡ row_at l i → Standing nodes (row_at l i) → Standing nodes w
standing-of nodes l i w e c = subst (Standing nodes) (sym e) c

module _ (nodes : List ℤ) (rows : List ℕ) (n t : ℕ) where
  pub mesh-is : (scratch : List ℕ) → mesh_of (given nodes rows scratch n t) ≡ mesh_at nodes rows n t
  unfolding mesh_at mesh_of
  mesh-is scratch = refl

  pub count-nodes : length (mesh_at nodes rows n t).nodes ≡ n
  unfolding mesh_at
  count-nodes = length-items (node_at nodes) n

  pub node-is : (k : ℕ) → k < n → node_of (mesh_at nodes rows n t) k ≡ node_at nodes k
  unfolding mesh_at
  node-is k h = get_or-items (node_at nodes) n k origin h

  pub place_is : (k : ℕ) → k < n → at (mesh_at nodes rows n t) k ≡ place_at nodes k
  place_is k h = ap (λ a. a.place) (node-is k h)

  module _ (law : Lawful (mesh_at nodes rows n t)) where
    pub row_named : (i : ℕ) → i < t → Named n (row_at rows i)
    unfolding mesh_at
    row_named i h = rw (length-items (node_at nodes) n) at (All-at law.named (items-in (row_at rows) t i h))

    node-near : (k : ℕ) → k < n → NodeInRange (node_at nodes k)
    node-near k h = subst NodeInRange (node-is k h) (All-get_or law.range k origin (rw count-nodes h))

    pub row-stands : 4 * n ≤ length nodes → (i : ℕ) → i < t → Standing nodes (row_at rows i)
    row-stands fit i h = let N = row_named i h in record { at_p = stands N.p-below; at-q = stands N.q-below; at-r = stands N.r-below }
      where
        stands : {k : ℕ} → k < n → Stands nodes k
        stands {k} b = record { inside = omega arith; range = node-near k b }

    pub row-above : (i : ℕ) → i < t → pos 0 <ℤ twice_area (mesh_at nodes rows n t) (row_at rows i)
    unfolding mesh_at
    row-above i h = All-at law.positive (items-in (row_at rows) t i h)

    -- a directed edge is in one row
    pub holder-at : (e : Arrow) (i j : ℕ) → i < t → j < t → holds_arrow e (row_at rows i) ≡ true → holds_arrow e (row_at rows j) ≡ true → i ≡ j
    unfolding mesh_at
    holder-at e = holder-item e (row_at rows) t (arrows-once (mesh_at nodes rows n t) law)

    pub fair : 3 * t ≤ length rows → length rows ≤ 262_144 → Fair rows n t
    unfolding mesh_at
    fair h k = record { room = h; few = omega arith; named = row_named; once = row-once (mesh_at nodes rows n t) law }
