use Rattle.round.specs.Round.{older_step}
use Rattle.lists.specs.Search.{iter}
use lib.ListN.{length}
use mathlib.Core.Path.{◌≡◌}
use Rattle.round.proofs.notes.mark_olders.Given as goal

abbrev pub invariant-loop-i : goal.invariant-loop-i
invariant-loop-i l = (length l.scratch ≡ length l.initial.scratch) × (iter (older_step l.rows l.nc) l.i l.t l.scratch ≡ iter (older_step l.rows l.nc) 0 l.t l.initial.scratch)
