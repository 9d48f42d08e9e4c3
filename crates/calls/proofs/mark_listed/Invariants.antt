use Rattle.std.proofs.Common.{◌≡◌, ◌/◌, length}
use Rattle.lists.specs.Search.{iter}
use Rattle.calls.specs.MarksLaw.{mark_one}
use Rattle.calls.proofs.mark_listed.Given as goal

abbrev pub invariant-loop-i : goal.invariant-loop-i
invariant-loop-i l = iter (mark_one l.fields) l.i (length l.fields / 4) l.marks ≡ iter (mark_one l.fields) 0 (length l.fields / 4) l.fn.marks
