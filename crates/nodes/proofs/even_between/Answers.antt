use Rattle.std.proofs.Common.{rules}
use Rattle.nodes.specs.Nodes.{even_between}
use Rattle.nodes.proofs.even_between.Goals as goal

pub returns-then-even_sum : goal.returns-then-even_sum
unfolding even_between
returns-then-even_sum c = search rules

pub returns-else-even_sum : goal.returns-else-even_sum
unfolding even_between
returns-else-even_sum c = search rules
