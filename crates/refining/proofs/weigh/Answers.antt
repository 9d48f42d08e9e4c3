use Rattle.std.proofs.Common.{rules}
use Rattle.refining.specs.Refine.{weighed}
use Rattle.refining.proofs.weigh.Goals.{then-mesh-after-via-then-mesh-after, then-mesh-after-via-else-mesh-after+then-mesh-after-2}
use Rattle.refining.proofs.weigh.Goals as goal

pub returns-then-is_some : goal.returns-then-is_some
unfolding weighed
returns-then-is_some c = search rules

pub returns-then-mesh-after : goal.returns-then-mesh-after
unfolding weighed
returns-then-mesh-after c = elim c.then-mesh-after.branch [
  | then-mesh-after-via-then-mesh-after w ↦ search rules
  | then-mesh-after-via-else-mesh-after+then-mesh-after-2 w ↦ search rules
]

pub returns : goal.returns
unfolding weighed
returns c = search rules
