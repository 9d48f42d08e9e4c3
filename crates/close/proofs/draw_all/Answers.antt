use Rattle.close.specs.DrawLaw.{ready_marked}
use Rattle.lists.specs.IterLaw.{looping}
use borrow.Author.Rules.{rules}
use Rattle.close.proofs.draw_all.Goals as goal

pub loop-i-preserved : goal.loop-i-preserved
loop-i-preserved c = search (rules, looping, ready_marked)

pub returns : goal.returns
returns c = search (rules, looping)
