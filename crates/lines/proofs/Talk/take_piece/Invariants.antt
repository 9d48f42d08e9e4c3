use Rattle.std.proofs.Common.{◌≤◌, length}
use Rattle.lines.proofs.Talk.take_piece.Given as goal

abbrev pub invariant-loop-call : goal.invariant-loop-call
invariant-loop-call g l = l.at ≤ length l.piece
