-- DEMAND 3 OF THE CALLS, of whoever holds what such calls left (Demand3Calls), by the law of the tables (growth/Demand3). Assumes nothing.
use Rattle.std.specs.Prelude.{Bool, true, false, ◌≡◌, refl, ℕ, ◌+◌, ◌≤◌, ◌<◌}
use Rattle.std.proofs.Common.{sym, subst, ap, ◌∙◌, arith}
use Rattle.lists.specs.Lists.{cases}
use Rattle.meaning.specs.Coarsen.{restored}
use Rattle.meaning.specs.Tables.{Given, Outcome, mesh_of}
use Rattle.meaning.specs.Calls.{sizes_fit, check_out, restore_out}
use Rattle.laws.specs.TableMesh.{tables_after}
use Rattle.growth.specs.Demand3.{Removals, Restores, demand3-tables}
use Rattle.demands.specs.Demand3Calls.{Held, Ends, held-reached}

-- DEMAND 3 OF THE CALLS: the base check, made on g₀, said 0; then any calls; then what is found.
pub demand3-calls : (g₀ : Given) (c : Outcome) → c ≡ check_out g₀ → c.answer.number ≡ 0 → {g : Given} → Held g₀ g → Ends g₀ g
demand3-calls g₀ c ce cz {g} h = record {
  pass-takes-one = λ more o e f. subst (λ x. (x.answer.number ≡ 0) × (x.answer.n < g.n)) (sym e) (R.pass-takes-one more f);
  refused-as-1 = λ o e. ap (λ x. x.answer.number) e ∙ R.restore-says;
  scratch-alone = R.sizes-are;
  base-again = λ o e z. e ∙ R.back-to-base (fits (sizes_fit g g₀.n) refl o e z);
  mesh-again = λ o e z. ap (λ x. mesh_of (tables_after x)) e ∙ R.mesh-back (fits (sizes_fit g g₀.n) refl o e z);
  passes-bounded = λ o e z. subst (λ k. k + g₀.n ≤ g.n) (sym (passes o e z)) R.passes-bounded;
  passes-true = λ o e z. subst (λ k. Removals g₀.n (mesh_of g) k (mesh_of g₀)) (sym (passes o e z)) R.passes-remove;
}
  where
    R : Restores g₀ g
    R = demand3-tables g₀ (ap (λ x. x.answer.number) (sym ce) ∙ cz) (held-reached g₀ h)

    fits : (b : Bool) → sizes_fit g g₀.n ≡ b → (o : Outcome) → o ≡ restore_out g g₀.n → o.answer.number ≡ 0 → sizes_fit g g₀.n ≡ true
    fits true q o e z = q
    fits false q o e z =
        let one : ◌≡◌ {A = ℕ} 0 1 = sym z ∙ ap (λ x. x.answer.number) e ∙ R.restore-says ∙ ap (λ b. cases b 0 1) q in
        absurd (omega arith)

    passes : (o : Outcome) → o ≡ restore_out g g₀.n → o.answer.number ≡ 0 → o.answer.passes ≡ (restored g₀.n (mesh_of g)).passes
    passes o e z = ap (λ x. x.answer.passes) (e ∙ R.back-to-base (fits (sizes_fit g g₀.n) refl o e z))
