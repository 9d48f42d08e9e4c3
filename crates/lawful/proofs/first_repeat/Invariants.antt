use mathlib.Core.Path.{◌≡◌}
use lib.ListN.{length, take}
use Rattle.lists.specs.Search.{lowest}
use Rattle.neighbours.specs.Sized.{index_at}
use Rattle.neighbours.specs.Ready.{Ready}
use Rattle.lawful.specs.Tests.{repeat_at}
use Rattle.lawful.proofs.first_repeat.Given as goal

abbrev pub invariant-loop-i : goal.invariant-loop-i
invariant-loop-i l = (length l.scratch ≡ length l.initial.scratch) × (take (index_at l.nc (length l.mesh.rows.now)) l.scratch ≡ take (index_at l.nc (length l.mesh.rows.now)) l.initial.scratch) × Ready l.scratch l.nc l.mesh.rows.now l.i × (lowest (repeat_at l.mesh.rows.now) l.i l.mesh.t ≡ lowest (repeat_at l.mesh.rows.now) 0 l.mesh.t)
