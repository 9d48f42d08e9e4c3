use mathlib.Core.Path.{◌≡◌}
use lib.ListN.{length}
use Rattle.lists.specs.Search.{iter}
use Rattle.lawful.specs.Tests.{mark_step}
use Rattle.lawful.proofs.mark_rows.Given as goal

abbrev pub invariant-loop-i : goal.invariant-loop-i
invariant-loop-i l = (length l.scratch ≡ length l.initial.scratch) × (iter (mark_step l.mesh.rows.now) l.i l.mesh.t l.scratch ≡ iter (mark_step l.mesh.rows.now) 0 l.mesh.t l.initial.scratch)
