use Rattle.std.proofs.Common.{ap, ◌∙◌, refl, Result}
use Rattle.meaning.specs.Tables.{outcome}
use Rattle.refusals.specs.declared.Counts.{Counts}
use Rattle.refusals.specs.declared.Refusal.{Refusal}
use Rattle.refusals.specs.Refusals.{answer_in}
use Rattle.judging.specs.Leaving.{passed-on, numbered}
use Rattle.setting.specs.SettingLaw.{set-refused, set-fits, rows_fit, set-worked}
use Rattle.setting.proofs.set.Goals as goal

pub returns-in_err-fault_of : goal.returns-in_err-fault_of
returns-in_err-fault_of c =
    ap (λ (r : Result Counts Refusal). outcome (answer_in r c.args.n c.args.t) c.args.nodes.now c.args.rows.now c.args.scratch.now) (passed-on _ _ c.from_residual.ensures.1)
    ∙ set-refused _ _ _ _ _ _ _ _ c.requires _ _ c.judge-judged.ensures.verdict c.in_err-fault_of.ensures _ (numbered c.in_err-fault_of.field-0.0) refl

pub set_node-requires : goal.set_node-requires
set_node-requires c = set-fits _ _ _ _ _ _ _ _ c.requires _ _ c.judge-judged.ensures.verdict c.in_ok-fault_of.ensures refl

pub clear_rows_from-requires : goal.clear_rows_from-requires
clear_rows_from-requires c = rows_fit _ _ _ _ _ _ _ _ c.requires _ _ c.judge-judged.ensures.verdict c.in_ok-fault_of.ensures refl

pub returns : goal.returns
returns c =
    set-worked _ _ _ _ _ _ _ _ c.requires _ _ c.judge-judged.ensures.verdict c.in_ok-fault_of.ensures refl _ _ _ c.set_node.ensures c.clear_rows_from.ensures refl
