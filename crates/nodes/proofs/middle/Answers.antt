use Rattle.std.proofs.Common.{rules}
use Rattle.nodes.specs.Nodes.{middle_of}
use Rattle.nodes.proofs.middle.Goals as goal

pub returns : goal.returns
unfolding middle_of
returns c = search rules
