use Rattle.good.specs.SignLaw.{sign-not-3, sign-not-4, sign-yes}
use borrow.Author.Rules.{rules}
use Rattle.good.proofs.sign.sign_on.Goals.{else-g3-via-then-g3+else-g4, else-g3-via-else-g3}
use Rattle.good.proofs.sign.sign_on.Goals as goal

pub returns-then-g4-clause-number : goal.returns-then-g4-clause-number
returns-then-g4-clause-number c = search (rules, sign-yes)

pub returns-else-g3-clause-number : goal.returns-else-g3-clause-number
returns-else-g3-clause-number c =
    elim c.else-g3.branch [ else-g3-via-then-g3+else-g4 w ↦ search (rules, sign-not-4) | else-g3-via-else-g3 w ↦ search (rules, sign-not-3) ]
