use Rattle.std.proofs.Common.{arith}
use Rattle.gather.specs.Closing.{closing-start, closing-gone, closing-kept, closing-done, items-count, table-closed}
use borrow.Author.Rules.{rules}
use Rattle.gather.proofs.close.Goals.{in-Some, in_default}
use Rattle.gather.proofs.close.Goals as goal

pub loop-i-init : goal.loop-i-init
loop-i-init g c = (search rules, closing-start _ _ _ _ _)

pub loop-i-preserved : goal.loop-i-preserved
loop-i-preserved g c =
    let told = c.requires.1.1.1.1.1 c.loop-i.i _ _ c.loop-i-test.true c.after.ensures in
    elim c.match-after.branch [
      | in-Some w ↦ (
        omega arith,
        closing-kept g.R.Record.form g.met.R.Record.faithful g.all _ _ _ _ _ _ _ _ _ c.loop-i.invariant.1 c.loop-i-test.true c.read.ensures told
            _ _ c.requires.1.1.1.0 c.loop-i.invariant.0 w.in-Some.is w.put.ensures w.table-is w.k-is,
      )
      | in_default w ↦ (
        omega arith,
        closing-gone g.R.Record.form g.met.R.Record.faithful g.all _ _ _ _ _ _ _ _ _ c.loop-i.invariant.1 c.loop-i-test.true c.read.ensures told
            w.in_default.is w.table-is w.k-is,
      )
    ]

pub returns-clause-count : goal.returns-clause-count
returns-clause-count g c = items-count _ _ _ (closing-done _ _ _ _ _ _ _ _ c.loop-i.invariant.1 c.loop-i-test.false)

pub returns-clause-table : goal.returns-clause-table
returns-clause-table g c =
    table-closed g.R.Record.form _ _ _ _ _ _ c.loop-i.auto.table (closing-done _ _ _ _ _ _ _ _ c.loop-i.invariant.1 c.loop-i-test.false) c.clear_from.ensures
