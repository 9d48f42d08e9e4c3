use Rattle.std.proofs.Common.{rules}
use Rattle.cut.specs.Cutting.{red_at}
use Rattle.cut.proofs.made_red.Goals as goal

pub returns-in-Bisected : goal.returns-in-Bisected
unfolding red_at
returns-in-Bisected c = search rules

pub returns-in-Red : goal.returns-in-Red
unfolding red_at
returns-in-Red c = search rules
