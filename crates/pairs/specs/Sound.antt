-- What is known of a row before it is set beside another: its corners stand in the node table, in range, and its area is above 0. Assumes nothing.
use Rattle.std.specs.Prelude.{List, ℕ, ◌*◌, ◌≤◌, ◌<◌, ℤ, length}
use Rattle.meaning.specs.declared.Tri.{Tri}
use Rattle.meaning.specs.Mesh.{twice_area}
use Rattle.meaning.specs.Lawful.{Lawful}
use Rattle.meaning.specs.Tables.{place_at, row_at}
use Rattle.laws.specs.Meshes.{Standing, mesh_at, place_is, row_named, row-stands, row-above}
use Rattle.pairs.specs.Clear.{Above}

pub record Sound (nodes : List ℤ) (w : Tri) : Type 0 where
  pub stands : Standing nodes w
  pub above : Above (place_at nodes) w

-- the rows of a lawful mesh
pub row-sound : (nodes : List ℤ) (rows : List ℕ) (n t : ℕ) → Lawful (mesh_at nodes rows n t) → 4 * n ≤ length nodes → (i : ℕ) → i < t → Sound nodes (row_at rows i)
unfolding twice_area
row-sound nodes rows n t law fit i h =
    let N = row_named nodes rows n t law i h in
    record {
      stands = row-stands nodes rows n t law fit i h;
      above =
          rw (← place_is nodes rows n t (row_at rows i).p N.p-below, ← place_is nodes rows n t (row_at rows i).q N.q-below, ← place_is nodes rows n t (row_at rows i).r N.r-below)
          (row-above nodes rows n t law i h);
    }
