use Rattle.std.proofs.Common.{rules, refl}
use Rattle.lists.specs.RangeLaw.{lowest-found}
use Rattle.cut.specs.Cutting.{wholly_at}
use Rattle.cut.proofs.find_wholly.Goals as goal

pub returns : goal.returns
returns c = lowest-found (wholly_at c.args.scratch.now) c.args.t _ _ _ _ c.find.ensures.ran refl refl (λ x b q h. search rules)
