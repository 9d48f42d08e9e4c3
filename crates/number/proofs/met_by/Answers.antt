use Rattle.number.specs.NumberStep.{by-lower, by_first}
use borrow.Author.Rules.{rules}
use Rattle.number.proofs.met_by.Goals as goal

pub returns-then-j-i : goal.returns-then-j-i
returns-then-j-i c = search (rules, by-lower)

pub returns-else-j-i : goal.returns-else-j-i
returns-else-j-i c = search (rules, by_first)
