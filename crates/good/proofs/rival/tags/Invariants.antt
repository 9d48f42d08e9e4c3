use Rattle.good.specs.Rival.{numbers_at, tagged}
use Rattle.lists.specs.Loops.{noted}
use lib.ListN.{length}
use mathlib.Core.Path.{◌≡◌}
use Rattle.good.proofs.rival.tags.Given as goal

abbrev pub invariant-loop-z : goal.invariant-loop-z
invariant-loop-z l = (length l.scratch ≡ length l.initial.scratch) × (l.scratch ≡ noted l.nc (tagged (numbers_at l.initial.scratch l.nc) l.n) l.z l.initial.scratch)
