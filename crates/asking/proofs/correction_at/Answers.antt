use Rattle.std.proofs.Common.{ap, ◌∙◌, ◌≡◌, Err}
use Rattle.refusals.specs.declared.Refusal.TheVariants.{Nowhere}
use Rattle.judging.specs.Leaving.{passed-on}
use Rattle.asking.specs.Asking.{told_in}
use Rattle.asking.specs.WorkLaw.{ask-refused, ask-none, ask-found, rows-stand, found_below, found-balanced}
use Rattle.asking.proofs.correction_at.Goals as goal

pub returns-in_err-judge : goal.returns-in_err-judge
returns-in_err-judge c = ap told_in (passed-on _ _ c.from_residual.ensures.1) ∙ ask-refused _ _ _ _ _ _ _ _ c.in_err-judge.ensures.verdict

pub row_holding-requires : goal.row_holding-requires
row_holding-requires c = (rows-stand _ _ _ _ _ c.in_ok-judge.ensures.admitted).1

pub returns-in_err-i : goal.returns-in_err-i
returns-in_err-i c =
    let none = c.in_err-i.ensures.ok_part in
    let made = rw none at c.in_err-i.ensures.value in
    let why : c.in_err-i.field-0.0 ≡ Nowhere = cc in
    ap told_in (passed-on _ _ c.from_residual-in_err-i.ensures.1 ∙ ap Err why)
    ∙ ask-none _ _ _ _ _ _ _ c.in_ok-judge.ensures.verdict _ c.in_ok-judge.ensures.admitted _ c.row_holding.ensures none

pub row-requires : goal.row-requires
row-requires c = found_below _ _ _ _ _ c.in_ok-judge.ensures.admitted _ _ c.row_holding.ensures _ c.in_ok-i.ensures.ok_part

pub correction_in-requires : goal.correction_in-requires
correction_in-requires c =
    let found = found-balanced _ _ _ _ _ c.in_ok-judge.ensures.admitted _ _ c.row_holding.ensures _ c.in_ok-i.ensures.ok_part _ c.row.ensures in
    record { standing = found.0; balanced = found.1 }

pub returns : goal.returns
returns c = ask-found _ _ _ _ _ _ _ c.in_ok-judge.ensures.verdict _ c.in_ok-judge.ensures.admitted _ c.row_holding.ensures _ c.in_ok-i.ensures.ok_part _ c.row.ensures _ c.correction_in.ensures
