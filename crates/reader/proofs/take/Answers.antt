use Rattle.reader.specs.ReaderLaw.{take-misfit, nothing-taken, nothing_written, take-takes, take_part, take-few, fits_line, fits-used}
use borrow.Author.Rules.{rules}
use Rattle.reader.proofs.take.Goals as goal

pub returns-then-not-fits-clause-out_after : goal.returns-then-not-fits-clause-out_after
returns-then-not-fits-clause-out_after c = search (rules, take-misfit)

pub returns-then-not-fits-clause-taken_in_bounds : goal.returns-then-not-fits-clause-taken_in_bounds
returns-then-not-fits-clause-taken_in_bounds c = search (rules, nothing-taken)

pub returns-then-not-fits-clause-written_bound : goal.returns-then-not-fits-clause-written_bound
returns-then-not-fits-clause-written_bound c = search (rules, nothing_written)

pub take_piece-requires-clause-line_len : goal.take_piece-requires-clause-line_len
take_piece-requires-clause-line_len c = search (rules, fits_line)

pub take_piece-requires-clause-used_bound : goal.take_piece-requires-clause-used_bound
take_piece-requires-clause-used_bound c = search (rules, fits-used)

pub returns-clause-out_after : goal.returns-clause-out_after
returns-clause-out_after c = search (rules, take-takes)

pub returns-clause-taken_in_bounds : goal.returns-clause-taken_in_bounds
returns-clause-taken_in_bounds c = search (rules, take_part)

pub returns-clause-written_bound : goal.returns-clause-written_bound
returns-clause-written_bound c = search (rules, take-few)
