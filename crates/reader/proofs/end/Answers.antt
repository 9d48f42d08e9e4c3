use Rattle.reader.specs.ReaderLaw.{end-misfit, nothing_written, end-again, end-first, end-few, fits_out, fits-room}
use borrow.Author.Rules.{rules}
use Rattle.reader.proofs.end.Goals as goal

pub returns-then-not-fits-clause-out_after : goal.returns-then-not-fits-clause-out_after
returns-then-not-fits-clause-out_after c = search (rules, end-misfit)

pub returns-then-not-fits-clause-written_bound : goal.returns-then-not-fits-clause-written_bound
returns-then-not-fits-clause-written_bound c = search (rules, nothing_written)

pub returns-then-carried-clause-out_after : goal.returns-then-carried-clause-out_after
returns-then-carried-clause-out_after c = search (rules, end-again)

pub returns-then-carried-clause-written_bound : goal.returns-then-carried-clause-written_bound
returns-then-carried-clause-written_bound c = search (rules, nothing_written)

pub put_last-written-requires : goal.put_last-written-requires
put_last-written-requires c = search (rules, fits_out)

pub wipe-requires : goal.wipe-requires
wipe-requires c = search (rules, fits-room)

pub returns-clause-out_after : goal.returns-clause-out_after
returns-clause-out_after c = search (rules, end-first)

pub returns-clause-written_bound : goal.returns-clause-written_bound
returns-clause-written_bound c = search (rules, end-few)
