use Rattle.std.proofs.Common.{ap, not}
use Rattle.reader.specs.ReaderLaw.{begin-misfit, nothing_written, begin-begins, begin-few, fits_out}
use borrow.Author.Rules.{rules}
use Rattle.reader.proofs.begin.Goals as goal

pub returns-then-not-fits-clause-out_after : goal.returns-then-not-fits-clause-out_after
returns-then-not-fits-clause-out_after c = search (rules, begin-misfit)

pub returns-then-not-fits-clause-written_bound : goal.returns-then-not-fits-clause-written_bound
returns-then-not-fits-clause-written_bound c = search (rules, nothing_written)

pub put_first-requires : goal.put_first-requires
put_first-requires c = search (rules, fits_out)

pub returns-clause-out_after : goal.returns-clause-out_after
returns-clause-out_after c =
    let q = rw c.new-carried.ensures at c.fits.ensures in
    rw c.new-carried.ensures
    (begin-begins c.args.line.now c.args.nodes.now c.args.rows.now c.args.scratch.now c.args.out.now c.fits.result q _ _ _ _ _ _ (ap not c.if-not-fits.false)
    (c.fill.ensures.after (λ y e. e)) (c.fill-2.ensures.after (λ y e. e)) (c.fill-3.ensures.after (λ y e. e)) (c.fill-4.ensures.after (λ y e. e)) c.put_first.ensures)

pub returns-clause-written_bound : goal.returns-clause-written_bound
returns-clause-written_bound c =
    let q = rw c.new-carried.ensures at c.fits.ensures in
    begin-few c.args.line.now c.args.nodes.now c.args.rows.now c.args.scratch.now c.args.out.now c.fits.result q _ _ _ _ _ _ (ap not c.if-not-fits.false)
    (c.fill.ensures.after (λ y e. e)) (c.fill-2.ensures.after (λ y e. e)) (c.fill-3.ensures.after (λ y e. e)) (c.fill-4.ensures.after (λ y e. e)) c.put_first.ensures
