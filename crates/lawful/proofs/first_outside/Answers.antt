use Rattle.std.proofs.Common.{rules, refl}
use Rattle.lists.specs.RangeLaw.{lowest-found}
use Rattle.lawful.specs.Tests.{outside_at}
use Rattle.lawful.proofs.first_outside.Goals as goal

pub returns : goal.returns
returns c = lowest-found (outside_at c.args.mesh.nodes.now) c.args.mesh.n _ _ _ _ c.find.ensures.ran refl refl (λ x b q h. search rules)
