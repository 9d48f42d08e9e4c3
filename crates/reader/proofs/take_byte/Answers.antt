use Rattle.reader.specs.ReaderLaw.{used-count, byte-end, byte-joins, longer-fits}
use borrow.Author.Rules.{rules}
use Rattle.reader.proofs.take_byte.Goals as goal

pub slice_bounds-line-end-then-b-eq10 : goal.slice_bounds-line-end-then-b-eq10
slice_bounds-line-end-then-b-eq10 c = search (rules, used-count)

pub returns-then-b-eq10-clause-out_after : goal.returns-then-b-eq10-clause-out_after
returns-then-b-eq10-clause-out_after c = search (rules, byte-end)

pub returns-else-b-eq10-clause-out_after : goal.returns-else-b-eq10-clause-out_after
returns-else-b-eq10-clause-out_after c = search (rules, byte-joins)

pub returns-else-b-eq10-clause-used_bound_2 : goal.returns-else-b-eq10-clause-used_bound_2
returns-else-b-eq10-clause-used_bound_2 c = search (rules, longer-fits)
