-- A mesh grown from a base goes back to it: while nodes are added a full pass removes one, and a restore ends with the base.
-- Assumes nothing.
use mathlib.Core.List.Memᴰ
use mathlib.Core.List.{List, [], ◌∷◌, Memᴰ}
use Rattle.std.specs.Prelude.{◌≡◌, refl, ℕ, ◌<◌, length}
use Rattle.std.proofs.Common.{subst, arith}
use Rattle.std.proofs.Math.Decide.{dec_lt}
use Rattle.meaning.specs.Mesh.{Mesh}
use Rattle.meaning.specs.Coarsen.{good_nodes, all_marked, pass, restored}
use Rattle.laws.specs.Restore.{pass-fewer, restored-keeps, restored-ends}
use Rattle.growth.specs.GrownFrom.{GrownFrom, grown-end-is-base}
use Rattle.growth.specs.Goodness.{good-there}
use Rattle.growth.specs.Coarsening.{from-coarsened}

module _ (base : Mesh) where
  abbrev n₀ : ℕ
  n₀ = length base.nodes

  from-pass : {m : Mesh} → GrownFrom base m → GrownFrom base (pass (length base.nodes) m)
  unfolding pass
  from-pass {m} G = from-coarsened base m G (all_marked m.nodes)

  module _ {m : Mesh} (G : GrownFrom base m) where
    -- A FULL PASS REMOVES A NODE while nodes are added.
    pub pass-removes : length base.nodes < length m.nodes → length (pass (length base.nodes) m).nodes < length m.nodes
    pass-removes more = go (good_nodes n₀ m) refl
      where
        go : (zs : List ℕ) → good_nodes (length base.nodes) m ≡ zs → length (pass (length base.nodes) m).nodes < length m.nodes
        go [] e = let (z, i) = good-there base m G more in absurd (Memᴰ.not-nil (subst (Memᴰ z) e i))
        go (z ∷ zs) e = pass-fewer n₀ m z zs e

    -- With no good node left the mesh is the base.
    none-good-base : good_nodes (length base.nodes) m ≡ [] → m ≡ base
    none-good-base e = go (dec_lt n₀ (length m.nodes))
      where
        go : Dec (length base.nodes < length m.nodes) → m ≡ base
        go (yes l) = let (z, i) = good-there base m G l in absurd (Memᴰ.not-nil (subst (Memᴰ z) e i))
        go (no l) = grown-end-is-base base m G (omega (arith, G.grown.enough))

  -- RESTORE ENDS WITH THE BASE.
  pub restored-base : {m : Mesh} → GrownFrom base m → (restored (length base.nodes) m).end ≡ base
  restored-base {m} G = none-good-base (restored-keeps (GrownFrom base) n₀ (λ x. from-pass) m G) (restored-ends n₀ m)
