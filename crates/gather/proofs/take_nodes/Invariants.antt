use Rattle.gather.specs.Goes.{take_at}
use Rattle.lists.specs.Loops.{noted}
use lib.ListN.{length}
use mathlib.Core.Path.{◌≡◌}
use Rattle.gather.proofs.take_nodes.Given as goal

abbrev pub invariant-loop-z : goal.invariant-loop-z
invariant-loop-z l = (length l.scratch ≡ length l.initial.scratch) × (l.scratch ≡ noted l.nc (take_at l.marks l.initial.scratch l.nc) l.z l.initial.scratch)
