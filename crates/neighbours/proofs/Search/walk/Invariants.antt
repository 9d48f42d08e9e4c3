use Rattle.std.proofs.Common.{◌-◌}
use Rattle.neighbours.specs.Walk.{Walk}
use Rattle.neighbours.proofs.Search.walk.Given as goal

abbrev pub invariant-loop-turn : goal.invariant-loop-turn
invariant-loop-turn l = ∥ Walk l.self.scratch.now l.self.nc l.self.rows.now l.self.t l.x l.y l.v l.m (l.many - l._turn) ∥₁
