use Rattle.good.specs.SignLaw.{sign-not-1, sign-not-2, sign-all}
use borrow.Author.Rules.{rules}
use Rattle.good.proofs.sign.sign.Goals.{else-g1-via-then-g1+else-g2, else-g1-via-else-g1}
use Rattle.good.proofs.sign.sign.Goals as goal

pub returns-then-g2-clause-number : goal.returns-then-g2-clause-number
returns-then-g2-clause-number c = search (rules, sign-all)

pub returns-else-g1-clause-number : goal.returns-else-g1-clause-number
returns-else-g1-clause-number c =
    elim c.else-g1.branch [ else-g1-via-then-g1+else-g2 w ↦ search (rules, sign-not-2) | else-g1-via-else-g1 w ↦ search (rules, sign-not-1) ]
