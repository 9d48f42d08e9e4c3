use Rattle.neighbours.specs.Join.{before-none, before-some}
use borrow.Author.Rules.{rules}
use Rattle.neighbours.proofs.index.before.Goals as goal

pub returns-then-m-eq0-clause-is : goal.returns-then-m-eq0-clause-is
returns-then-m-eq0-clause-is c = search (rules, before-none)

pub returns-clause-is : goal.returns-clause-is
returns-clause-is c = search (rules, before-some)
