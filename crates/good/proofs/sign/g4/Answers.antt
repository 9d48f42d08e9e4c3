use Rattle.good.specs.SignLaw.{one-way, other-way}
use borrow.Author.Rules.{rules}
use Rattle.good.proofs.sign.g4.Goals as goal

pub returns-then-is_none : goal.returns-then-is_none
returns-then-is_none c = search (rules, other-way)

pub returns-else-is_none : goal.returns-else-is_none
returns-else-is_none c = search (rules, one-way)
