use Rattle.std.proofs.Common.{arith}
use Rattle.std.proofs.lemmas.Grind.{common_steps}
use Rattle.asking.specs.Asking.{weights_in, holds_in}
use Rattle.asking.proofs.holds_point.Goals as goal
use Rattle.asking.proofs.holds_point.Goals.{then-not_right, else-not_right}

pub returns-then-not_right-2 : goal.returns-then-not_right-2
unfolding holds_in weights_in
returns-then-not_right-2 c = elim c.if-not_right.branch [ then-not_right w ↦ grind (arith, common_steps) | else-not_right w ↦ grind (arith, common_steps) ]

pub returns-else-not_right-2 : goal.returns-else-not_right-2
unfolding holds_in weights_in
returns-else-not_right-2 c = elim c.if-not_right.branch [ then-not_right w ↦ grind (arith, common_steps) | else-not_right w ↦ grind (arith, common_steps) ]
