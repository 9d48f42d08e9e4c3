use Rattle.close.specs.Drawn.{draws, zeros}
use Rattle.neighbours.specs.Ready.{Ready}
use lib.ListN.{length}
use Prim.Native.Nat.{◌<◌}
use mathlib.Core.Path.{◌≡◌}
use Rattle.close.proofs.draw.Given as goal

abbrev pub invariant-loop-scratch : goal.invariant-loop-scratch
invariant-loop-scratch l = (l.j < l.t) × (length l.scratch ≡ length l.initial.scratch) × Ready l.scratch l.nc l.rows l.t × (draws l.rows l.t l.j l.scratch ≡ draws l.rows l.t l.i l.initial.scratch)

abbrev pub decreases-loop-scratch : goal.decreases-loop-scratch
decreases-loop-scratch l = zeros l.scratch
