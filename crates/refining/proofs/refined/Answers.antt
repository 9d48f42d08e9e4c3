use Rattle.std.proofs.Common.{ap, ◌∙◌, refl, Result}
use Rattle.refusals.specs.declared.Refusal.{Refusal}
use Rattle.judging.specs.Leaving.{passed-on}
use Rattle.refining.specs.declared.Plan.{Plan}
use Rattle.refining.specs.Refine.{left_in}
use Rattle.refining.specs.RefineLaw.{work-refused, work-refused-late, work-done}
use Rattle.refining.proofs.refined.Goals as goal

pub returns-in_err-judge : goal.returns-in_err-judge
returns-in_err-judge c =
    ap (λ (r : Result Plan Refusal). left_in r c.args.nodes.now c.args.rows.now c.args.scratch.now c.args.n c.args.t) (passed-on _ _ c.from_residual.ensures.1)
    ∙ work-refused _ _ _ _ _ _ _ _ _ c.requires _ c.in_err-judge.ensures.verdict _ refl

pub returns-in_err-plan : goal.returns-in_err-plan
returns-in_err-plan c =
    ap (λ (r : Result Plan Refusal). left_in r c.args.nodes.now c.args.rows.now c.args.scratch.now c.args.n c.args.t) (passed-on _ _ c.from_residual-in_err-plan.ensures.1)
    ∙ work-refused-late _ _ _ _ _ _ _ _ _ c.requires _ c.in_ok-judge.ensures.verdict refl _ c.in_err-plan.ensures.verdict _ refl

pub returns : goal.returns
returns c =
    work-done _ _ _ _ _ _ _ _ _ c.requires _ c.in_ok-judge.ensures.verdict refl _ c.in_ok-plan.ensures.verdict _ _ _ _ refl
    c.in_ok-plan.ensures.plan c.carry_out.ensures
