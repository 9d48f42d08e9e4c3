use Rattle.neighbours.specs.Ready.{ready-start}
use Rattle.lawful.specs.FaultLaw.{chain, judged-late, judged-last, judged-right, front-zero}
use Rattle.lawful.specs.Tests.{later_by}
use borrow.Author.Rules.{rules}
use Rattle.lawful.proofs.later_fault.Goals as goal

pub returns-in-Some-clause-answer : goal.returns-in-Some-clause-answer
unfolding later_by
returns-in-Some-clause-answer c = search (rules, chain)

pub returns-in-Some-clause-after : goal.returns-in-Some-clause-after
returns-in-Some-clause-after c = search (rules, judged-late)

pub returns-in-Some-first_flat-clause-answer : goal.returns-in-Some-first_flat-clause-answer
unfolding later_by
returns-in-Some-first_flat-clause-answer c = search (rules, chain)

pub returns-in-Some-first_flat-clause-after : goal.returns-in-Some-first_flat-clause-after
returns-in-Some-first_flat-clause-after c = search (rules, judged-late)

pub returns-in-Some-first_unused-clause-answer : goal.returns-in-Some-first_unused-clause-answer
unfolding later_by
returns-in-Some-first_unused-clause-answer c = search (rules, chain)

pub returns-in-Some-first_unused-clause-after : goal.returns-in-Some-first_unused-clause-after
returns-in-Some-first_unused-clause-after c = search (rules, judged-last)

pub returns-clause-answer : goal.returns-clause-answer
unfolding later_by
returns-clause-answer c = search (rules, chain)

pub returns-clause-after : goal.returns-clause-after
returns-clause-after c = search (rules, judged-right)

pub first_repeat-requires-clause-ready_2 : goal.first_repeat-requires-clause-ready_2
first_repeat-requires-clause-ready_2 c = search (rules, ready-start)

pub first_unused-requires-clause-scratch_value : goal.first_unused-requires-clause-scratch_value
first_unused-requires-clause-scratch_value c = search (rules, front-zero)
