use Rattle.std.proofs.Common.{rules}
use Rattle.nodes.specs.Nodes.{place_edge}
use Rattle.nodes.proofs.place_edge.Goals as goal

pub returns-else-first-eq1 : goal.returns-else-first-eq1
unfolding place_edge
returns-else-first-eq1 c = search rules

pub returns-then-first-eq1 : goal.returns-then-first-eq1
unfolding place_edge
returns-then-first-eq1 c = search rules
