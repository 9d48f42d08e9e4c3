use Rattle.sweep.specs.Highest.{highest}
use Rattle.sweep.specs.Sweep.{swept}
use Rattle.lists.specs.IterLaw.{iter_turn, iter_end}
use Rattle.std.proofs.Common.{refl, arith}
use Rattle.sweep.proofs.Graver.{gravity-max}
use Rattle.sweep.proofs.Sweep.sweep.Goals as goal

pub loop-p-init : goal.loop-p-init
unfolding swept highest
loop-p-init c = refl

pub loop-p-preserved : goal.loop-p-preserved
loop-p-preserved c = iter_turn _ _ _ _ _ c.loop-p.invariant _ c.loop-p-test.true (rw (c.max-worst.ensures, gravity-max, c.sweep_place.ensures))

pub returns : goal.returns
returns c = iter_end _ _ _ _ _ c.loop-p.invariant (omega arith)
