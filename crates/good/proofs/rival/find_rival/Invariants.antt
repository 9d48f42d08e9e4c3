use Rattle.good.specs.WalkLaw.{Walk}
use Rattle.lists.specs.ChainLaw.{ahead}
use Rattle.lists.specs.Loops.{code}
use Rattle.good.proofs.rival.find_rival.Given as goal

abbrev pub invariant-loop-next : goal.invariant-loop-next
invariant-loop-next l = Walk l.scratch l.nc l.n l.t l.z (code l.next)

abbrev pub decreases-loop-next : goal.decreases-loop-next
decreases-loop-next l = ahead l.n (code l.next)
