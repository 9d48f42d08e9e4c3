use Rattle.std.proofs.Common.{◌∙◌, sym}
use Rattle.calls.specs.Steps.{after_check, after-work}
use Rattle.calls.proofs.session_after.Goals as goal

pub returns-then-kind-code : goal.returns-then-kind-code
returns-then-kind-code c = after_check _ _ _ (c.if-kind-code.true ∙ c.code.ensures)

pub returns-else-kind-code : goal.returns-else-kind-code
returns-else-kind-code c = after-work _ _ _ (λ e. c.if-kind-code.false (e ∙ sym c.code.ensures))
