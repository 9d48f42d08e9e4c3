use Rattle.std.proofs.Common.{rules}
use Rattle.nodes.specs.Nodes.{between}
use Rattle.nodes.proofs.between.Goals as goal

pub returns : goal.returns
unfolding between
returns c = search rules
