-- A mesh in its tables: what is written is read back, what was read is written back. Assumes nothing.
use Rattle.std.specs.Prelude.{List, ◌≡◌, ℕ, ◌-◌, ◌*◌, ◌≤◌, pos, length, take, replicate}
use Rattle.std.proofs.Math.Path.{ap₂}
use Rattle.std.proofs.Common.{arith, length-append}
use Rattle.std.proofs.lemmas.List.{length-replicate}
use Rattle.lists.specs.IterLaw.{length-items}
use Rattle.lists.specs.TableLaw.{flatten-length, read_back, written_back}
use Rattle.meaning.specs.declared.Node.{Node}
use Rattle.meaning.specs.declared.Tri.{Tri}
use Rattle.meaning.specs.Mesh.{Mesh, mesh}
use Rattle.meaning.specs.Tables.{Given, Outcome, given, node_form, row_form, nodes-faithful, rows-faithful, node_at, row_at, mesh_of, flat_nodes, flat_rows, filled}
use Rattle.meaning.specs.Calls.{done}

-- ---- reading and writing

pub nodes-count : (g : Given) → length (mesh_of g).nodes ≡ g.n
unfolding mesh_of
nodes-count g = length-items (node_at g.nodes) g.n

pub rows-count : (g : Given) → length (mesh_of g).tris ≡ g.t
unfolding mesh_of
rows-count g = length-items (row_at g.rows) g.t

-- The counts fit the tables.
pub record Fits (g : Given) : Type 0 where
  pub nodes-fit : node_form.width * g.n ≤ length g.nodes
  pub rows_fit : row_form.width * g.t ≤ length g.rows

pub written : (g : Given) → Fits g →
    (flat_nodes (mesh_of g).nodes ≡ take (node_form.width * g.n) g.nodes) × (flat_rows (mesh_of g).tris ≡ take (row_form.width * g.t) g.rows)
unfolding mesh_of node_at row_at
written g f =
    (written_back node_form nodes-faithful g.nodes g.n f.nodes-fit, written_back row_form rows-faithful g.rows g.t f.rows_fit)

pub flat-nodes-length : (ns : List Node) → length (flat_nodes ns) ≡ node_form.width * length ns
flat-nodes-length = flatten-length node_form nodes-faithful

pub flat-rows-length : (ts : List Tri) → length (flat_rows ts) ≡ row_form.width * length ts
flat-rows-length = flatten-length row_form rows-faithful

pub filled-length : {A : Type 0} (z : A) (len : ℕ) (xs : List A) → length xs ≤ len → length (filled z len xs) ≡ len
filled-length z len xs h = omega (arith, length-append xs (replicate (len - length xs) z), length-replicate (len - length xs) z)

-- ---- what an outcome leaves

-- its tables, with its counts
abbrev pub tables_after : Outcome → Given
tables_after o = given o.nodes o.rows o.scratch o.answer.n o.answer.t

-- The tables of an accepted call hold its mesh, and have their lengths.
module _ (g : Given) (m : Mesh) (k : ℕ) where
  pub done-mesh : mesh_of (tables_after (done g m k)) ≡ m
  unfolding mesh_of node_at row_at
  done-mesh = ap₂ mesh (read_back node_form nodes-faithful m.nodes _) (read_back row_form rows-faithful m.tris _)

  module _ (a : node_form.width * length m.nodes ≤ length g.nodes) (b : row_form.width * length m.tris ≤ length g.rows) where
    pub done-nodes : length (done g m k).nodes ≡ length g.nodes
    done-nodes = filled-length (pos 0) (length g.nodes) (flat_nodes m.nodes) (omega (arith, flat-nodes-length m.nodes))

    pub done-rows : length (done g m k).rows ≡ length g.rows
    done-rows = filled-length 0 (length g.rows) (flat_rows m.tris) (omega (arith, flat-rows-length m.tris))
