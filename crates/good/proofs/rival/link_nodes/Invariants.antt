use Rattle.good.specs.Rival.{link_node}
use Rattle.lists.specs.Loops.{down}
use lib.ListN.{length}
use mathlib.Core.Path.{◌≡◌}
use Rattle.good.proofs.rival.link_nodes.Given as goal

abbrev pub invariant-loop-z : goal.invariant-loop-z
invariant-loop-z l = (length l.scratch ≡ length l.initial.scratch) × (down (link_node l.nc l.t) l.z l.scratch ≡ down (link_node l.nc l.t) l.n l.initial.scratch)
