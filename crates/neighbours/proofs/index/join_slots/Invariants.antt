use mathlib.Core.Path.{◌≡◌}
use lib.ListN.{length, take}
use Rattle.neighbours.specs.Sized.{index_at}
use Rattle.neighbours.specs.Join.{Exact}
use Rattle.neighbours.proofs.index.join_slots.Given as goal

abbrev pub invariant-loop-k : goal.invariant-loop-k
invariant-loop-k l = (length l.scratch ≡ length l.initial.scratch) × (take (index_at l.nc (length l.rows)) l.scratch ≡ take (index_at l.nc (length l.rows)) l.initial.scratch) × Exact l.scratch l.nc l.rows l.k
