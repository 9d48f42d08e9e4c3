use Rattle.neighbours.specs.Join.{exact-end, notes-on, in-range-at}
use borrow.Author.Rules.{rules}
use Rattle.neighbours.proofs.index.join_slots.Goals as goal

pub join_slot-requires-clause-k_bound_2 : goal.join_slot-requires-clause-k_bound_2
join_slot-requires-clause-k_bound_2 c = search in-range-at

pub loop-k-preserved : goal.loop-k-preserved
loop-k-preserved c = (search rules, search notes-on, search rules)

pub returns-clause-exact : goal.returns-clause-exact
returns-clause-exact c = exact-end _ _ _ _ _ (c.loop-k.auto.k-end c.requires.from_le_n) c.loop-k-test.false c.loop-k.invariant.2
