use Rattle.std.proofs.Common.{rules}
use Rattle.text.specs.LinesLaw.{red-left-out}
use Rattle.text.proofs.write.Out.red.Goals as goal

pub returns-else-kind-eq10-clause-text : goal.returns-else-kind-eq10-clause-text
returns-else-kind-eq10-clause-text c = search (rules, red-left-out)
