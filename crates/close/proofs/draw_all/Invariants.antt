use Rattle.close.specs.Drawn.{draw_marked}
use Rattle.neighbours.specs.Ready.{Ready}
use Rattle.lists.specs.Search.{iter}
use lib.ListN.{length}
use mathlib.Core.Path.{◌≡◌}
use Rattle.close.proofs.draw_all.Given as goal

abbrev pub invariant-loop-i : goal.invariant-loop-i
invariant-loop-i l = (length l.scratch ≡ length l.initial.scratch) × Ready l.scratch l.nc l.rows l.t × (iter (draw_marked l.manner l.rows l.t l.marks) l.i l.t l.scratch ≡ iter (draw_marked l.manner l.rows l.t l.marks) 0 l.t l.initial.scratch)
