use Rattle.lawful.specs.MeshLaw.{fault_by-is}
use Rattle.lawful.specs.FaultLaw.{chain, judged-early}
use Rattle.lawful.specs.Tests.{fault_by}
use borrow.Author.Rules.{rules}
use Rattle.lawful.proofs.lowest_fault.Goals as goal

pub returns-in-Some-clause-answer : goal.returns-in-Some-clause-answer
unfolding fault_by
returns-in-Some-clause-answer c = rw (← fault_by-is) (search (rules, chain))

pub returns-in-Some-clause-after : goal.returns-in-Some-clause-after
returns-in-Some-clause-after c = search (rules, judged-early)

pub returns-in-Some-first_misnamed-clause-answer : goal.returns-in-Some-first_misnamed-clause-answer
unfolding fault_by
returns-in-Some-first_misnamed-clause-answer c = rw (← fault_by-is) (search (rules, chain))

pub returns-in-Some-first_misnamed-clause-after : goal.returns-in-Some-first_misnamed-clause-after
returns-in-Some-first_misnamed-clause-after c = search (rules, judged-early)

pub later_fault-requires-clause-n_le_nc : goal.later_fault-requires-clause-n_le_nc
later_fault-requires-clause-n_le_nc c = search rules

pub later_fault-requires-clause-n_value : goal.later_fault-requires-clause-n_value
later_fault-requires-clause-n_value c = search (rules, chain)

pub later_fault-requires-clause-t_value : goal.later_fault-requires-clause-t_value
later_fault-requires-clause-t_value c = search (rules, chain)

pub returns-clause-answer : goal.returns-clause-answer
unfolding fault_by
returns-clause-answer c = rw (← fault_by-is) (search (rules, chain))

pub returns-clause-after : goal.returns-clause-after
returns-clause-after c = search rules
