use Rattle.close.specs.DrawLaw.{zeros-less, draw-on, draw-out, draw-stop, across-below, ready-note}
use Rattle.neighbours.specs.Ready.{searched}
use borrow.Author.Rules.{rules}
use Rattle.close.proofs.draw.Goals as goal

pub invariant_of-search : goal.invariant_of-search
invariant_of-search c = searched _ _ _ _ (search (rules, ready-note))

pub loop-scratch-smaller : goal.loop-scratch-smaller
loop-scratch-smaller c = search (rules, zeros-less)

pub loop-scratch-preserved : goal.loop-scratch-preserved
loop-scratch-preserved c = search (rules, draw-on, across-below, ready-note)

pub returns-in_default : goal.returns-in_default
returns-in_default c = search (rules, draw-out)

pub returns : goal.returns
returns c = search (rules, draw-stop)
