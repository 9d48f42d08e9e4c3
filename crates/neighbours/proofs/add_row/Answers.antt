use Rattle.neighbours.specs.Ready.{Ready}
use Rattle.neighbours.specs.Join.{exact-ready, ready-exact, ready-in-range, notes-on}
use borrow.Author.Rules.{rules}
use Rattle.neighbours.proofs.add_row.Goals as goal

pub is_free-requires : goal.is_free-requires
unfolding Ready
is_free-requires c = search rules

pub join_slots-requires-clause-exact_2 : goal.join_slots-requires-clause-exact_2
join_slots-requires-clause-exact_2 c = search (rules, exact-ready)

pub join_slots-requires-clause-in_range : goal.join_slots-requires-clause-in_range
join_slots-requires-clause-in_range c = search (rules, ready-in-range)

pub returns-then-is_free-clause-ready : goal.returns-then-is_free-clause-ready
returns-then-is_free-clause-ready c = search (rules, ready-exact)

pub clear_index-requires : goal.clear_index-requires
unfolding Ready
clear_index-requires c = search rules

pub join_slots-requires-2-clause-in_range : goal.join_slots-requires-2-clause-in_range
join_slots-requires-2-clause-in_range c = search (rules, ready-in-range)

pub returns-clause-notes : goal.returns-clause-notes
returns-clause-notes c = search (rules, notes-on)

pub returns-clause-ready : goal.returns-clause-ready
returns-clause-ready c = search (rules, ready-exact)
