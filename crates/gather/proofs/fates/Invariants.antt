use Rattle.gather.specs.Goes.{fate_at}
use Rattle.lists.specs.Loops.{noted}
use lib.ListN.{length}
use Prim.Native.Nat.{◌*◌}
use mathlib.Core.Path.{◌≡◌}
use Rattle.gather.proofs.fates.Given as goal

abbrev pub invariant-loop-i : goal.invariant-loop-i
invariant-loop-i l = (length l.scratch ≡ length l.initial.scratch) × (l.scratch ≡ noted (2 * l.nc) (fate_at l.rows l.initial.scratch l.nc) l.i l.initial.scratch)
