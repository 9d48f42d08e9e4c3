use Rattle.std.proofs.Common.{rules}
use Rattle.calls.specs.CallsLaw.{check-kept, check-dropped}
use Rattle.calls.proofs.check_base.Goals as goal

pub returns-then-checked-eq0 : goal.returns-then-checked-eq0
returns-then-checked-eq0 c = search (rules, check-kept)

pub returns : goal.returns
returns c = search (rules, check-dropped)
