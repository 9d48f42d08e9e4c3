use Rattle.round.specs.Needs.{is-zero, is-above}
use Rattle.round.specs.PairLaw.{G2-two, G2-four}
use borrow.Author.Rules.{rules}
use Rattle.round.proofs.g2.Goals as goal

pub returns-then-is_none : goal.returns-then-is_none
returns-then-is_none c = search (rules, G2-two, is-zero)

pub returns-else-is_none : goal.returns-else-is_none
returns-else-is_none c = search (rules, G2-four, is-above)
