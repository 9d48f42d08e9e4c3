use Rattle.std.proofs.Common.{◌≡◌, ◌≤◌, ◌+◌, ◌*◌, length}
use Rattle.text.specs.Digits.{hex}
use Rattle.text.specs.Writing.{writes}
use Rattle.text.specs.Out.{held}
use Rattle.text.proofs.write.Out.hex.Given as goal

abbrev pub invariant-loop-w : goal.invariant-loop-w
invariant-loop-w g l = record {
  same : l.self.buf.ghost_name ≡ l.fn.self.buf.ghost_name;
  long : length l.self.buf.now ≡ length l.fn.self.buf.now;
  next : l.self.at + 2 * l.w ≤ l.fn.self.at + g.row.D;
  text : writes (held l.self) (hex (2 * l.w) l.v) ≡ writes (held l.fn.self) (hex g.row.D l.v);
}
