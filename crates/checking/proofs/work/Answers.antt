use Rattle.std.proofs.Common.{ap, ◌∙◌, refl}
use Rattle.refusals.specs.Refusals.{verdict}
use Rattle.judging.specs.Leaving.{passed-on, numbered}
use Rattle.checking.specs.Check.{check-early, check-late}
use Rattle.checking.proofs.work.Goals as goal

pub returns-in_err-judge : goal.returns-in_err-judge
returns-in_err-judge c = ap verdict (passed-on _ _ c.from_residual.ensures.1) ∙ check-early _ _ _ _ _ _ c.in_err-judge.ensures.verdict (numbered c.in_err-judge.field-0.0)

pub returns : goal.returns
returns c = c.late.ensures ∙ check-late _ _ _ _ _ _ c.in_ok-judge.ensures.verdict refl _ refl
