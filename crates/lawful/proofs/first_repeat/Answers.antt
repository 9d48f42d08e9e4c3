use Rattle.lawful.specs.TestsLaw.{notes-kept}
use Rattle.lists.specs.SearchLaw.{searching, lowest-on, at_some}
use Rattle.neighbours.specs.Ready.{ready-end, searched}
use Rattle.lawful.specs.Tests.{repeat_at}
use Rattle.lawful.specs.TestsLaw.{corners-at}
use Rattle.std.proofs.Common.{rules, arith}
use Rattle.lawful.proofs.first_repeat.Goals as goal

pub loop-i-preserved : goal.loop-i-preserved
loop-i-preserved c = let on = lowest-on (repeat_at _) _ _ _ _ (omega arith) c.repeat_at.ensures c.if-repeat_at.false c.loop-i.invariant.3 in
    (search rules, search notes-kept, search rules, on)

pub returns-then-repeat_at-clause-answer : goal.returns-then-repeat_at-clause-answer
returns-then-repeat_at-clause-answer c = search (rules, searching)

pub returns-then-repeat_at-clause-ready : goal.returns-then-repeat_at-clause-ready
returns-then-repeat_at-clause-ready c = λ e. at_some _ e

pub add_row-requires : goal.add_row-requires
add_row-requires c = search (rules, corners-at)

pub returns-clause-answer : goal.returns-clause-answer
returns-clause-answer c = search (rules, searching)

pub returns-clause-ready : goal.returns-clause-ready
returns-clause-ready c = search (rules, ready-end)

pub invariant_of-below : goal.invariant_of-below
invariant_of-below c = searched _ _ _ _ c.loop-i.invariant.2
