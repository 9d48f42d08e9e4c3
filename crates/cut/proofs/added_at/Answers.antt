use Rattle.cut.specs.Cutting.{splits}
use Rattle.cut.proofs.added_at.Goals as goal

pub returns : goal.returns
unfolding splits
returns c = cc
