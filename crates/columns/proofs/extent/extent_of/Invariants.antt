use Rattle.columns.specs.Coords.{Reaches}
use Rattle.columns.proofs.extent.extent_of.Given as goal

abbrev pub invariant-loop-k : goal.invariant-loop-k
invariant-loop-k l = Reaches l.e
