use Rattle.neighbours.specs.Ready.{searched}
use Rattle.number.specs.NumberStep.{few-rows, note-tight, row-noted}
use borrow.Author.Rules.{rules}
use Rattle.number.proofs.number_row.Goals as goal

pub pack-requires : goal.pack-requires
pack-requires c = search (rules, note-tight)

pub with_new-requires-clause-k_bound : goal.with_new-requires-clause-k_bound
with_new-requires-clause-k_bound c = search (rules, few-rows)

pub with_new-requires-clause-tight : goal.with_new-requires-clause-tight
with_new-requires-clause-tight c = search (rules, note-tight)

pub returns : goal.returns
returns c = search (rules, row-noted)

pub invariant_of-search : goal.invariant_of-search
invariant_of-search c = searched _ _ _ _ c.requires.ready
