use Rattle.std.proofs.Common.{arith}
use Rattle.std.proofs.lemmas.Grind.{common_steps}
use Rattle.lawful.specs.Tests.{repeat_at}
use Rattle.lawful.proofs.repeat_at.Goals as goal
use Rattle.lawful.proofs.repeat_at.Goals.{then-edge_below, else-edge_below}

pub returns-then-edge_below-2 : goal.returns-then-edge_below-2
unfolding repeat_at
returns-then-edge_below-2 c = elim c.if-edge_below.branch [ then-edge_below w ↦ grind (arith, common_steps) | else-edge_below w ↦ grind (arith, common_steps) ]

pub returns-else-edge_below-2 : goal.returns-else-edge_below-2
unfolding repeat_at
returns-else-edge_below-2 c = elim c.if-edge_below.branch [ then-edge_below w ↦ grind (arith, common_steps) | else-edge_below w ↦ grind (arith, common_steps) ]
