use Rattle.std.proofs.Common.{rules, refl}
use Rattle.lists.specs.RangeLaw.{lowest-found}
use Rattle.lawful.specs.Tests.{blank_at}
use Rattle.lawful.proofs.first_blank.Goals as goal

pub returns : goal.returns
returns c = lowest-found (blank_at c.args.scratch.now) c.args.n _ _ _ _ c.find.ensures.ran refl refl (λ x b q h. search rules)
