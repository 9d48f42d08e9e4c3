use Rattle.std.proofs.Common.{ap, ◌∙◌, Result}
use Rattle.refusals.specs.declared.Counts.{Counts}
use Rattle.refusals.specs.declared.Refusal.{Refusal}
use Rattle.refusals.specs.Refusals.{answer_in}
use Rattle.judging.specs.Leaving.{zeroed}
use Rattle.checking.specs.Check.{handed_call}
use borrow.Author.Rules.{rules}
use Rattle.mesh.proofs.check.Goals as goal

pub work-judged-requires : goal.work-judged-requires
work-judged-requires c = search (rules, zeroed)

pub returns : goal.returns
returns c =
    handed_call _ _ _ _ _ _ _ _ _ _ c.clear.ensures c.work-judged.ensures c.clear-2.ensures c.work-judged.auto.scratch
    (c.answer.ensures ∙ ap (λ (r : Result Counts Refusal). answer_in r c.args.n c.args.t) c.and.ensures)
