use Rattle.neighbours.specs.Walk.{rarer-x, rarer-y}
use borrow.Author.Rules.{rules}
use Rattle.neighbours.proofs.Search.rarer.Goals as goal

pub returns-then-self-many : goal.returns-then-self-many
returns-then-self-many c = search (rules, rarer-x)

pub returns : goal.returns
returns c = search (rules, rarer-y)
