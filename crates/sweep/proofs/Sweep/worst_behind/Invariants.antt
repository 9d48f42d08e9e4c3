use Rattle.pairs.specs.Gravity.{gravity}
use Rattle.sweep.specs.Sweep.{visited}
use Rattle.sweep.specs.Highest.{raised, highest}
use Rattle.meaning.specs.Tables.{place_at}
use Rattle.lists.specs.Search.{iter}
use mathlib.Core.Path.{◌≡◌}
use Rattle.sweep.proofs.Sweep.worst_behind.Given as goal

abbrev pub invariant-loop-q : goal.invariant-loop-q
invariant-loop-q l = iter (raised (visited (place_at l.self.nodes.now) l.self.rows.now l.self.scratch.now l.self.scale.count l.b)) l.q l.last (gravity l.worst) ≡ highest (visited (place_at l.self.nodes.now) l.self.rows.now l.self.scratch.now l.self.scale.count l.b) l.first l.last
