use Rattle.round.specs.Round.{link_step}
use Rattle.lists.specs.Loops.{down}
use lib.ListN.{length}
use mathlib.Core.Path.{◌≡◌}
use Rattle.round.proofs.notes.link_rows.Given as goal

abbrev pub invariant-loop-i : goal.invariant-loop-i
invariant-loop-i l = (length l.scratch ≡ length l.initial.scratch) × (down (link_step l.rows l.nc) l.i l.scratch ≡ down (link_step l.rows l.nc) l.t l.initial.scratch)
