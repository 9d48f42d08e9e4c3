use Rattle.std.proofs.Common.{rules}
use Rattle.nodes.specs.Nodes.{odd_split}
use Rattle.nodes.proofs.odd_split.Goals as goal

pub returns-then-on-ne0 : goal.returns-then-on-ne0
unfolding odd_split
returns-then-on-ne0 c = search rules

pub returns-else-on-ne0 : goal.returns-else-on-ne0
unfolding odd_split
returns-else-on-ne0 c = search rules
