use Rattle.std.proofs.Common.{sym, ◌∙◌}
use Rattle.admit.specs.AdmitLaw.{unformed, uncoded, told}
use Rattle.admit.proofs.admitted.Goals as goal

pub returns-then-not-well_formed : goal.returns-then-not-well_formed
returns-then-not-well_formed c = unformed _ _ (sym c.well_formed-2.ensures.value ∙ c.if-not-well_formed.true)

pub returns-in_err-kind : goal.returns-in_err-kind
returns-in_err-kind c =
    rw c.from_residual.ensures
    (uncoded c.args.session c.args.line.now (sym c.well_formed-2.ensures.value ∙ c.if-not-well_formed.false)
    (λ kind e. c.in_err-kind.ensures kind (e ∙ sym c.number.ensures.value)))

pub returns : goal.returns
returns c =
    told _ _ (sym c.well_formed-2.ensures.value ∙ c.if-not-well_formed.false) _ _ _ (c.in_ok-kind.ensures ∙ c.number.ensures.value) c.admits.ensures
    c.then_some.ensures
