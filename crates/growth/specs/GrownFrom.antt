-- Meshes grown from a base: the invariant that refining, coarsening and setting keep. The base has it; with no node added the mesh is the base.
-- Assumes nothing.
use Rattle.std.specs.Prelude.{◌≡◌, refl, ℕ, ◌<◌, length}
use Rattle.std.proofs.Common.{subst, subst₂, ◌∙◌, ext_get_or}
use Rattle.meaning.specs.Mesh.{Mesh, mesh, tri, node_of, at, origin}
use Rattle.meaning.specs.Lawful.{Lawful, Compatible, row_of}
use Rattle.meaning.specs.Calls.{check_no}
use Rattle.laws.specs.Check.{check-passed}
use Rattle.growth.specs.Labels.Corners.{Corners, row}
use Rattle.growth.specs.Labels.Grown.{Grown, grown-base, grown-end}
use Rattle.growth.specs.Rows.{rows, all-rows, row-is-three, rows-length, base-below, base-used, base-compatible}

pub record GrownFrom (base m : Mesh) : Type 0 where
  pub lawful : Lawful m
  pub grown : Grown (all-rows base) (length base.nodes) (length m.nodes) (length m.tris) (rows m) (at m)
  -- the base nodes are as they were, places and corrections
  pub base-node : (k : ℕ) → k < length base.nodes → node_of m k ≡ node_of base k

-- THE BASE.
from_start : (base : Mesh) → Lawful base → Compatible base → GrownFrom base base
from_start base law c = record {
  lawful = law;
  grown = subst₂ (λ (t : ℕ) (f : ℕ → Corners ℕ). Grown (all-rows base) (length base.nodes) (length base.nodes) t f (at base)) (rows-length base) (λ i j. row-is-three base j i)
      (grown-base (all-rows base) (base-compatible base law c) (length base.nodes) (at base) (base-below base law) (base-used base law));
  base-node = λ k l. refl;
}

-- "a lawful base with a compatible labelling"
pub from-checked : (base : Mesh) → check_no base ≡ 0 → GrownFrom base base
from-checked base ok = let c = check-passed base ok in from_start base c.0 c.1

-- THE END.
pub grown-end-is-base : (base m : Mesh) → GrownFrom base m → length m.nodes ≡ length base.nodes → m ≡ base
grown-end-is-base base m G e = λ i. mesh (same_nodes i) (same_rows i)
  where
    end : (length m.tris ≡ length (all-rows base)) × ((j : ℕ) → j < length m.tris → rows m j ≡ row (all-rows base) j)
    end = grown-end (subst (λ (n : ℕ). Grown (all-rows base) (length base.nodes) n (length m.tris) (rows m) (at m)) e G.grown)

    same_row : (j : ℕ) → j < length m.tris → row_of m.tris j ≡ row_of base.tris j
    same_row j l = let f = end.1 j l ∙ row-is-three base j in λ i. record { p = (f i).p; q = (f i).q; r = (f i).r }

    same_rows : m.tris ≡ base.tris
    same_rows = ext_get_or (tri 0 0 0) m.tris base.tris (end.0 ∙ rows-length base) same_row

    same_nodes : m.nodes ≡ base.nodes
    same_nodes = ext_get_or origin m.nodes base.nodes e (λ k l. G.base-node k (rw e at l))
