use Rattle.close.specs.Drawn.{note_start}
use Rattle.lists.specs.Search.{iter}
use lib.ListN.{length}
use mathlib.Core.Path.{◌≡◌}
use Rattle.close.proofs.note_starts.Given as goal

abbrev pub invariant-loop-i : goal.invariant-loop-i
invariant-loop-i l = (length l.scratch ≡ length l.initial.scratch) × (iter (note_start l.manner l.marks) l.i l.t l.scratch ≡ iter (note_start l.manner l.marks) 0 l.t l.initial.scratch)
