use Rattle.std.proofs.Common.{ap, ◌∙◌}
use Rattle.refusals.specs.Refusals.{verdict}
use Rattle.judging.specs.Leaving.{passed-on}
use Rattle.setting.specs.SettingLaw.{settled-first, settled-value, settled-later, settled-late}
use Rattle.setting.proofs.fault_of.Goals as goal

pub returns-then-comes_first : goal.returns-then-comes_first
returns-then-comes_first c = settled-first c.args.judged _ _ _ _ c.if-comes_first.ensures

pub returns-then-beyond : goal.returns-then-beyond
returns-then-beyond c = settled-value c.args.judged _ _ _ _ c.if-comes_first.ensures c.if-beyond.ensures

pub returns-in_err-judged : goal.returns-in_err-judged
returns-in_err-judged c =
    ap verdict (passed-on _ _ c.from_residual.ensures.1) ∙ settled-later c.args.judged _ _ _ _ c.if-comes_first.ensures c.if-beyond.ensures _ c.in_err-judged.was

pub returns : goal.returns
returns c = settled-late c.args.judged _ _ _ _ c.if-comes_first.ensures c.if-beyond.ensures _ c.in_ok-judged.was _ c.late_fault.ensures
