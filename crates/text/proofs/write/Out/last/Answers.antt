use Rattle.std.proofs.Common.{rules}
use Rattle.text.specs.Writing.{then-last}
use Rattle.text.proofs.write.Out.last.Goals as goal

pub returns-clause-text : goal.returns-clause-text
returns-clause-text c = search (rules, then-last)
