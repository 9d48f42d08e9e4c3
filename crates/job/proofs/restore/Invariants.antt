use Rattle.job.specs.Pass.{after}
use Rattle.meaning.specs.Calls.{restore_out}
use Rattle.meaning.specs.Tables.{given}
use lib.ListN.{length}
use Prim.Native.Nat.{◌≤◌, ◌+◌}
use mathlib.Core.Path.{◌≡◌}
use Rattle.job.proofs.restore.Given as goal

abbrev pub invariant-loop-counts : goal.invariant-loop-counts
invariant-loop-counts l = (length l.nodes ≡ length l.initial.nodes) × (length l.rows ≡ length l.initial.rows) × (length l.scratch ≡ length l.initial.scratch) × (l.passes + l.counts.n ≤ l.n) × (after l.passes l.n l.t (restore_out (given l.nodes l.rows l.scratch l.counts.n l.counts.t) l.n0) ≡ restore_out (given l.initial.nodes l.initial.rows l.initial.scratch l.n l.t) l.n0)

abbrev pub decreases-loop-counts : goal.decreases-loop-counts
decreases-loop-counts l = l.counts.n
