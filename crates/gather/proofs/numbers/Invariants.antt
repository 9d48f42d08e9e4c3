use Rattle.gather.specs.Goes.{gone_node, number_below}
use Rattle.lists.specs.Loops.{noted}
use lib.ListN.{length}
use Prim.Native.Nat.{◌≤◌}
use mathlib.Core.Path.{◌≡◌}
use Rattle.gather.proofs.numbers.Given as goal

abbrev pub invariant-loop-z : goal.invariant-loop-z
invariant-loop-z l = (length l.scratch ≡ length l.initial.scratch) × (l.k ≤ l.z) × (l.scratch ≡ noted 0 (number_below (gone_node l.initial.scratch l.nc)) l.z l.initial.scratch) × (l.k ≡ number_below (gone_node l.initial.scratch l.nc) l.z)
