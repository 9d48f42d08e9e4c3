use Rattle.laws.specs.Meshes.{Standing}
use Rattle.nodes.specs.Nodes.{place_row}
use Rattle.meaning.specs.Tables.{row_at}
use Rattle.lists.specs.Search.{iter}
use lib.ListN.{length}
use Prim.Native.Nat.{ℕ, ◌<◌}
use mathlib.Core.Path.{◌≡◌}
use Rattle.nodes.proofs.place_nodes.Given as goal

abbrev pub invariant-loop-i : goal.invariant-loop-i
invariant-loop-i l = (length l.nodes ≡ length l.initial.nodes) × ((j : ℕ) → j < l.t → Standing l.nodes (row_at l.rows j)) × (iter (place_row l.n l.rows l.scratch) l.i l.t l.nodes ≡ iter (place_row l.n l.rows l.scratch) 0 l.t l.initial.nodes)
