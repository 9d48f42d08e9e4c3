use Rattle.sweep.specs.Highest.{highest}
use Rattle.lists.specs.IterLaw.{iter_turn, iter_end}
use Rattle.std.proofs.Common.{refl, arith}
use Rattle.sweep.proofs.Graver.{gravity-max}
use Rattle.sweep.proofs.Sweep.worst_behind.Goals as goal

pub loop-q-init : goal.loop-q-init
unfolding highest
loop-q-init c = refl

pub loop-q-preserved : goal.loop-q-preserved
loop-q-preserved c = iter_turn _ _ _ _ _ c.loop-q.invariant _ c.loop-q-test.true (rw (c.max-worst.ensures, gravity-max, c.visit.ensures))

pub returns : goal.returns
returns c = iter_end _ _ _ _ _ c.loop-q.invariant (omega arith)
