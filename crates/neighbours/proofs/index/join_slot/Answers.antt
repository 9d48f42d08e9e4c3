use Rattle.neighbours.specs.Join.{top_small, count_small, exact-join, notes-join}
use borrow.Author.Rules.{rules}
use Rattle.neighbours.proofs.index.join_slot.Goals as goal

pub put_slot-requires-clause-v_bound : goal.put_slot-requires-clause-v_bound
put_slot-requires-clause-v_bound c = search (rules, top_small)

pub put_slot-requires-clause-v_bound_2 : goal.put_slot-requires-clause-v_bound_2
put_slot-requires-clause-v_bound_2 c = search (rules, count_small)

pub returns-clause-notes : goal.returns-clause-notes
returns-clause-notes c = search (rules, notes-join)

pub returns-clause-exact : goal.returns-clause-exact
returns-clause-exact c = search (rules, exact-join)
