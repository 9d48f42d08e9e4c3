use Rattle.std.proofs.Common.{rules, refl, ◌≡◌, ◌<◌, ℕ, false}
use Rattle.std.proofs.iter.Serving.{serving}
use Rattle.lists.specs.RangeLaw.{lowest-found}
use Rattle.lawful.specs.Tests.{flat_at, misnamed_at}
use Rattle.lawful.specs.TestsLaw.{not-misnamed}
use Rattle.lawful.proofs.first_flat.Goals as goal

pub returns : goal.returns
returns c = lowest-found (flat_at c.args.mesh.nodes.now c.args.mesh.rows.now) c.args.mesh.t _ _ _ _ c.find.ensures.ran refl refl (λ x b q h. search rules)

pub find-requires-clause-callable : goal.find-requires-clause-callable
find-requires-clause-callable c =
    let named : (i : ℕ) → i < c.args.mesh.t → misnamed_at c.args.mesh.rows.now c.args.mesh.n i ≡ false = λ i h. not-misnamed _ _ _ i c.requires.t_value h in
    grind (serving, named)
