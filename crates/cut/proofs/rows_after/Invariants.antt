use Rattle.cut.specs.Cutting.{splits}
use Rattle.lists.specs.ItemsLaw.{sum_to}
use Prim.Native.Nat.{◌+◌}
use mathlib.Core.Path.{◌≡◌}
use Rattle.cut.proofs.rows_after.Given as goal

abbrev pub invariant-loop-i : goal.invariant-loop-i
invariant-loop-i l = l.r ≡ l.t + sum_to (splits l.scratch) l.i
