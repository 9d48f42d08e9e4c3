use Rattle.round.specs.Needs.{next-none, next-some, next_le}
use borrow.Author.Rules.{rules}
use Rattle.round.proofs.after.Goals as goal

pub returns-in_err-i-clause-next : goal.returns-in_err-i-clause-next
returns-in_err-i-clause-next c = search (rules, next-none, c.in_err-i.was)

pub returns-clause-next : goal.returns-clause-next
returns-clause-next c = search (rules, next-some, c.in_ok-i.was)

pub returns-clause-below : goal.returns-clause-below
returns-clause-below c = search (rules, next_le, c.in_ok-i.was)
