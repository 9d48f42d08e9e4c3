use Rattle.good.specs.SignLaw.{sign-base, sign-added}
use borrow.Author.Rules.{rules}
use Rattle.good.proofs.sign.sign_from.Goals as goal

pub returns-then-z-n0-clause-number : goal.returns-then-z-n0-clause-number
returns-then-z-n0-clause-number c = search (rules, sign-base)

pub returns-else-z-n0-clause-number : goal.returns-else-z-n0-clause-number
returns-else-z-n0-clause-number c = search (rules, sign-added)
