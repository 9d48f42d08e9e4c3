use Rattle.number.specs.NumberStep.{either-own, either-other}
use borrow.Author.Rules.{rules}
use Rattle.number.proofs.either.Goals as goal

pub returns-then-own-eq1 : goal.returns-then-own-eq1
returns-then-own-eq1 c = search (rules, either-own)

pub returns-else-own-eq1 : goal.returns-else-own-eq1
returns-else-own-eq1 c = search (rules, either-other)
