use Rattle.std.proofs.Common.{◌≡◌, ◌≤◌, length, drop}
use Rattle.text.specs.Writing.{wrote}
use Rattle.pieces.specs.Reader.{tells, unchanged, further}
use Rattle.reader.specs.Values.{carries}
use Rattle.reader.proofs.take_bytes.Given as goal

abbrev pub invariant-loop-i : goal.invariant-loop-i
invariant-loop-i l = record {
  line : length l.line ≡ 255;
  used : l.heard.carried.used ≤ 255;
  so_far : further (tells 0 l.i (wrote 0 l.out) (carries l.heard.carried l.line l.nodes l.rows l.scratch)) (drop l.i l.piece) ≡ further (unchanged 0 (carries l.fn.carried l.fn.line l.fn.nodes l.fn.rows l.fn.scratch) l.fn.out) l.piece;
}
