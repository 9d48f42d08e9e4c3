use Rattle.std.proofs.Common.{rules}
use Rattle.cut.specs.Cutting.{wholly_at}
use Rattle.cut.proofs.wholly_at.Goals as goal

pub returns : goal.returns
unfolding wholly_at
returns c = search rules
