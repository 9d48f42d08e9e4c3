use Rattle.std.proofs.Common.{◌≡◌, ◌≤◌, ◌+◌, ◌*◌, length}
use Rattle.lists.specs.Lists.{joined}
use Rattle.lists.specs.Search.{items}
use Rattle.meaning.specs.Tables.{node_at}
use Rattle.text.specs.Lines.{node_line}
use Rattle.text.specs.Writing.{writes}
use Rattle.text.specs.Out.{held}
use Rattle.text.proofs.write.Out.nodes.Given as goal

abbrev pub invariant-loop-i : goal.invariant-loop-i
invariant-loop-i l = record {
  same : l.self.buf.ghost_name ≡ l.fn.self.buf.ghost_name;
  long : length l.self.buf.now ≡ length l.fn.self.buf.now;
  next : l.self.at ≤ l.fn.self.at + 27 * l.i;
  text : writes (held l.self) (joined node_line (items (node_at l.nodes) l.i l.n)) ≡ writes (held l.fn.self) (joined node_line (items (node_at l.nodes) 0 l.n));
}
