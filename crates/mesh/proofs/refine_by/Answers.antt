use Rattle.refining.specs.RefineLaw.{refined-call}
use Rattle.judging.specs.Leaving.{zeroed}
use borrow.Author.Rules.{rules}
use Rattle.mesh.proofs.refine_by.Goals as goal

pub returns : goal.returns
returns c = refined-call _ _ _ _ _ _ _ _ _ _ _ _ _ _ _ c.clear.ensures c.work-a.ensures c.clear-2.ensures c.work-a.auto.scratch

pub work-a-requires : goal.work-a-requires
work-a-requires c = search (rules, zeroed)
