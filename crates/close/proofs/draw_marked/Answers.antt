use Rattle.std.proofs.Common.{rules}
use Rattle.close.specs.Drawn.{when_marked}
use Rattle.close.proofs.draw_marked.Goals as goal

pub returns-then-marks-i-eq1 : goal.returns-then-marks-i-eq1
unfolding when_marked
returns-then-marks-i-eq1 c = search rules

pub returns-else-marks-i-eq1 : goal.returns-else-marks-i-eq1
unfolding when_marked
returns-else-marks-i-eq1 c = search rules
