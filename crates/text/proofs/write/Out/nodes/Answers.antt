use Rattle.std.proofs.Common.{arith}
use Rattle.meaning.specs.Tables.{node_at}
use Rattle.text.specs.Lines.{node_line}
use Rattle.text.specs.Writing.{line-turn, line-end}
use Rattle.text.proofs.write.Out.nodes.Goals as goal

pub loop-i-preserved : goal.loop-i-preserved
loop-i-preserved c = record {
  same = cc;
  long = omega arith;
  next = omega arith;
  text = line-turn node_line (node_at c.args.nodes.now) _ _ _ _ _ c.loop-i.invariant.text _ _ c.loop-i-test.true c.node_at.ensures c.node.ensures.text;
}

pub returns-clause-text : goal.returns-clause-text
returns-clause-text c = line-end node_line (node_at c.args.nodes.now) _ _ _ _ _ c.loop-i.invariant.text c.loop-i-test.false
