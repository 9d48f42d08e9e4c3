use Rattle.std.proofs.Common.{rules}
use Rattle.text.specs.LinesLaw.{node-put}
use Rattle.text.proofs.write.Out.node.Goals as goal

pub returns-clause-text : goal.returns-clause-text
returns-clause-text c = search (rules, node-put)
