use Rattle.pairs.specs.Gravity.{gravity}
use Rattle.sweep.specs.Sweep.{swept_place, swept}
use Rattle.sweep.specs.Highest.{raised}
use Rattle.meaning.specs.Tables.{place_at}
use Rattle.lists.specs.Search.{iter}
use mathlib.Core.Path.{◌≡◌}
use Rattle.sweep.proofs.Sweep.sweep.Given as goal

abbrev pub invariant-loop-p : goal.invariant-loop-p
invariant-loop-p l = iter (raised (swept_place l.self.scale (place_at l.self.nodes.now) l.self.rows.now l.self.scratch.now)) l.p l.t (gravity l.worst) ≡ swept l.self.scale (place_at l.self.nodes.now) l.self.rows.now l.self.scratch.now l.t
