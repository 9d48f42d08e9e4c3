use Rattle.neighbours.specs.Ready.{searched}
use Rattle.cut.specs.CutLaw.{children-some, children-few, children-end, children-room, children-begin, children-put}
use borrow.Author.Rules.{rules}
use Rattle.cut.proofs.cut_row.Goals as goal

pub overflow_sub-at : goal.overflow_sub-at
overflow_sub-at c = search (rules, children-end)

pub place-requires-clause-le_count : goal.place-requires-clause-le_count
place-requires-clause-le_count c = (search (rules, children-some), search (rules, children-few))

pub place-requires-clause-count_in_bounds : goal.place-requires-clause-count_in_bounds
place-requires-clause-count_in_bounds c = search (rules, children-room)

pub returns-clause-begin : goal.returns-clause-begin
returns-clause-begin c = search (rules, children-begin)

pub returns-clause-table : goal.returns-clause-table
returns-clause-table c = search (rules, children-put)

pub invariant_of-search : goal.invariant_of-search
invariant_of-search c = searched _ _ _ _ c.requires.ready
