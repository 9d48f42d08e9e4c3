use Rattle.number.specs.NumberStep.{count_next, ready-next}
use Rattle.lists.specs.IterLaw.{looping}
use borrow.Author.Rules.{rules}
use Rattle.number.proofs.number.Goals as goal

pub loop-i-preserved : goal.loop-i-preserved
loop-i-preserved c = search (rules, looping, count_next, ready-next)

pub returns : goal.returns
returns c = search (rules, looping)
