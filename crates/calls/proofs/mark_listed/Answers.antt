use Rattle.lists.specs.IterLaw.{iter_turn, iter_end}
use Rattle.calls.specs.MarksLaw.{mark_one}
use Rattle.calls.proofs.mark_listed.Goals as goal

pub loop-i-preserved : goal.loop-i-preserved
loop-i-preserved c = iter_turn (mark_one c.args.fields.now) _ _ _ _ c.loop-i.invariant _ c.loop-i-test.true c.mark.ensures

pub returns : goal.returns
returns c = iter_end (mark_one c.args.fields.now) _ _ _ _ c.loop-i.invariant c.loop-i-test.false
