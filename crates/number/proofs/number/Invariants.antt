use Rattle.number.specs.Numbered.{numbers, number_row}
use Rattle.neighbours.specs.Ready.{Ready}
use Rattle.lists.specs.Search.{iter}
use lib.ListN.{length}
use Prim.Native.Nat.{◌≤◌, ◌*◌}
use mathlib.Core.Path.{◌≡◌}
use Rattle.number.proofs.number.Given as goal

abbrev pub invariant-loop-i : goal.invariant-loop-i
invariant-loop-i l = (length l.scratch ≡ length l.initial.scratch) × Ready l.scratch l.nc l.rows l.t × (l.k ≤ 3 * l.i) × (iter (number_row l.rows l.t) l.i l.t (numbers l.scratch l.k) ≡ iter (number_row l.rows l.t) 0 l.t (numbers l.initial.scratch 0))
