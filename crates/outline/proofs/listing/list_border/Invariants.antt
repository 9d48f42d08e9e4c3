use lib.ListN.{length}
use Rattle.outline.specs.Listed.{Holding}
use mathlib.Core.Path.{◌≡◌}
use Rattle.outline.proofs.listing.list_border.Given as goal

abbrev pub invariant-loop-i : goal.invariant-loop-i
invariant-loop-i l = (length l.scratch ≡ length l.initial.scratch) × Holding l.scratch l.nc l.rows l.t l.i l.b
