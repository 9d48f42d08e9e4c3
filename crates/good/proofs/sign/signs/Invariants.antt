use Rattle.good.specs.Sign.{fresh}
use Rattle.laws.specs.Meshes.{mesh_at}
use Rattle.lists.specs.Loops.{noted}
use lib.ListN.{length}
use mathlib.Core.Path.{◌≡◌}
use Rattle.good.proofs.sign.signs.Given as goal

abbrev pub invariant-loop-z : goal.invariant-loop-z
invariant-loop-z l = (length l.scratch ≡ length l.initial.scratch) × (l.scratch ≡ noted l.nc (fresh l.n0 (mesh_at l.nodes l.rows l.n l.t)) l.z l.initial.scratch)
