use Rattle.gather.specs.Needs.{number-turn, number-next, number-start, number-few}
use Rattle.gather.specs.Goes.{number_below}
use Rattle.lists.specs.LoopsLaw.{noted-start, noted-end}
use borrow.Author.Rules.{rules}
use Rattle.gather.proofs.numbers.Goals as goal

pub loop-z-init : goal.loop-z-init
loop-z-init c = (search rules, search rules, noted-start _ (number_below _) _, number-start _)

pub loop-z-preserved : goal.loop-z-preserved
loop-z-preserved c = (search rules, search (rules, number-few), search (rules, number-turn), search (rules, number-next))

pub returns : goal.returns
returns c = search (rules, noted-end)
