use Rattle.calls.specs.MarksLaw.{mark-in, mark-out}
use borrow.Author.Rules.{rules}
use Rattle.calls.proofs.mark.Goals as goal

pub returns-then-k-marks : goal.returns-then-k-marks
returns-then-k-marks c = search (rules, mark-in)

pub returns-else-k-marks : goal.returns-else-k-marks
returns-else-k-marks c = search (rules, mark-out)
