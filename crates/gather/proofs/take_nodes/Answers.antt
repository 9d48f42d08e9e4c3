use Rattle.gather.specs.Needs.{take-turn}
use Rattle.gather.specs.Goes.{take_at}
use Rattle.lists.specs.LoopsLaw.{noted-start, noted-end}
use borrow.Author.Rules.{rules}
use Rattle.gather.proofs.take_nodes.Goals as goal

pub loop-z-init : goal.loop-z-init
loop-z-init c = (search rules, noted-start _ (take_at _ _ _) _)

pub loop-z-preserved : goal.loop-z-preserved
loop-z-preserved c = (search rules, search (rules, take-turn))

pub returns : goal.returns
returns c = search (rules, noted-end)
