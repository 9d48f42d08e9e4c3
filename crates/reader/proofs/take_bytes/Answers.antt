use Rattle.std.proofs.Common.{arith}
use Rattle.reader.specs.ReaderLaw.{bytes-turn, bytes-stop, bytes-end}
use Rattle.reader.proofs.take_bytes.Goals as goal

pub returns-then-heard-ne0 : goal.returns-then-heard-ne0
returns-then-heard-ne0 c =
    bytes-stop c.args.piece.now c.loop-i.i c.loop-i.heard.carried _ _ _ _ _ _ c.loop-i.invariant.so_far c.take_byte-heard.result _ _ _ _ _ c.loop-i-test.true
    c.take_byte-heard.ensures.out_after c.if-heard-ne0.true

pub loop-i-preserved : goal.loop-i-preserved
loop-i-preserved c = record {
  line = omega arith;
  used = c.take_byte-heard.ensures.used_bound_2;
  so_far =
      bytes-turn c.args.piece.now c.loop-i.i c.loop-i.heard.carried _ _ _ _ _ _ c.loop-i.invariant.so_far c.take_byte-heard.result _ _ _ _ _ c.loop-i-test.true
      c.take_byte-heard.ensures.out_after c.if-heard-ne0.false;
}

pub returns : goal.returns
returns c = bytes-end c.args.piece.now c.loop-i.i c.loop-i.heard.carried _ _ _ _ _ _ c.loop-i.invariant.so_far (omega arith)
