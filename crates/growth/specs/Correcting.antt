-- Setting the correction of an added node keeps a mesh grown from its base: rows and places are as they were, and so are the base nodes.
-- Assumes nothing.
use Rattle.std.specs.Prelude.{◌≡◌, length}
use Rattle.std.proofs.Common.{sym, ◌∙◌, arith}
use Rattle.std.proofs.Math.Path.{subst₂}
use Prim.Native.Nat.{ℕ, ◌≤◌}
use Rattle.meaning.specs.declared.Place.{Place}
use Rattle.meaning.specs.declared.Correction.{Correction}
use Rattle.meaning.specs.Mesh.{Mesh, at}
use Rattle.meaning.specs.Lawful.{InBounds}
use Rattle.meaning.specs.Setting.{corrected, set_fault}
use Rattle.laws.specs.PlaceOnly.{at_same}
use Rattle.laws.specs.Setting.{corrected-count, corrected-places, corrected-other, corrected-lawful, set-0}
use Rattle.growth.specs.Labels.Grown.{Grown}
use Rattle.growth.specs.Rows.{rows, all-rows}
use Rattle.growth.specs.GrownFrom.{GrownFrom}

module _ (base m : Mesh) (G : GrownFrom base m) (z : ℕ) (c : Correction) where
  grown-still : Grown (all-rows base) (length base.nodes) (length (corrected m z c).nodes) (length (corrected m z c).tris) (rows (corrected m z c)) (at (corrected m z c))
  unfolding corrected
  grown-still =
      subst₂ (λ (n : ℕ) (f : ℕ → Place). Grown (all-rows base) (length base.nodes) n (length m.tris) (rows m) f) (sym (corrected-count m z c))
      (λ i k. at_same (corrected-places m z c) k i) G.grown

  -- SETTING KEEPS THE INVARIANT.
  pub from-corrected : length base.nodes ≤ z → InBounds c → GrownFrom base (corrected m z c)
  from-corrected added b = record {
    lawful = corrected-lawful m z c G.lawful b;
    grown = grown-still;
    base-node = λ k l. corrected-other m z c k (λ e. omega arith) ∙ G.base-node k l;
  }

  pub from-set : (set_fault (length base.nodes) m z c).number ≡ 0 → GrownFrom base (corrected m z c)
  from-set e = let (law, b, a, l) = (set-0 (length base.nodes) m z c).0 e in from-corrected a b
