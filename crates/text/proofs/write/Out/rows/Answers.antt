use Rattle.std.proofs.Common.{arith}
use Rattle.meaning.specs.Tables.{row_at}
use Rattle.text.specs.Lines.{row_line}
use Rattle.text.specs.Writing.{line-turn, line-end}
use Rattle.text.proofs.write.Out.rows.Goals as goal

pub loop-i-preserved : goal.loop-i-preserved
loop-i-preserved c = record {
  same = cc;
  long = omega arith;
  next = omega arith;
  text = line-turn row_line (row_at c.args.rows.now) _ _ _ _ _ c.loop-i.invariant.text _ _ c.loop-i-test.true c.row_at.ensures c.row.ensures.text;
}

pub returns-clause-text : goal.returns-clause-text
returns-clause-text c = line-end row_line (row_at c.args.rows.now) _ _ _ _ _ c.loop-i.invariant.text c.loop-i-test.false
