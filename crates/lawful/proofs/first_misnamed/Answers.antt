use Rattle.std.proofs.Common.{rules, refl}
use Rattle.lists.specs.RangeLaw.{lowest-found}
use Rattle.lawful.specs.Tests.{misnamed_at}
use Rattle.lawful.proofs.first_misnamed.Goals as goal

pub returns : goal.returns
returns c = lowest-found (misnamed_at c.args.mesh.rows.now c.args.mesh.n) c.args.mesh.t _ _ _ _ c.find.ensures.ran refl refl (λ x b q h. search rules)
