use Rattle.coarsening.specs.Coarsen.{coarsened-call}
use Rattle.judging.specs.Leaving.{zeroed}
use borrow.Author.Rules.{rules}
use Rattle.mesh.proofs.coarsen.Goals as goal

pub work-a-requires : goal.work-a-requires
work-a-requires c = search (rules, zeroed)

pub returns : goal.returns
returns c = coarsened-call _ _ _ _ _ _ _ _ _ _ _ _ _ c.clear.ensures c.work-a.ensures c.clear-2.ensures c.work-a.auto.scratch
