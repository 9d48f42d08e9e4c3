use Rattle.good.specs.Sign.{pair_no}
use borrow.Author.Rules.{rules}
use Rattle.good.proofs.sign.pair_number.Goals as goal

pub returns-clause-number : goal.returns-clause-number
unfolding pair_no
returns-clause-number c = search rules

pub returns-clause-small : goal.returns-clause-small
unfolding pair_no
returns-clause-small c = search rules
