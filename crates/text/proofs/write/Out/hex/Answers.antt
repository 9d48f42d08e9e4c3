use Rattle.std.proofs.Common.{arith}
use Rattle.text.specs.HexLaw.{twos-turn, hex-end}
use Rattle.text.proofs.write.Out.hex.Goals as goal

pub loop-w-preserved : goal.loop-w-preserved
loop-w-preserved g c = record {
  same = cc;
  long = omega arith;
  next = omega arith;
  text = twos-turn _ _ _ _ _ _ c.loop-w-test.true c.two.ensures.text c.loop-w.invariant.text;
}

pub returns-clause-text : goal.returns-clause-text
returns-clause-text g c = hex-end _ _ _ _ _ (omega arith) c.loop-w.invariant.text
