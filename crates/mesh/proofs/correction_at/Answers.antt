use Rattle.asking.specs.WorkLaw.{ask-called}
use Rattle.judging.specs.Leaving.{zeroed}
use borrow.Author.Rules.{rules}
use Rattle.mesh.proofs.correction_at.Goals as goal

pub work-a-requires : goal.work-a-requires
work-a-requires c = search (rules, zeroed)

pub returns : goal.returns
returns c = ask-called _ _ _ _ _ _ _ _ _ _ _ c.clear.ensures c.work-a.ensures c.clear-2.ensures c.work-a.auto.scratch
