use Rattle.calls.specs.CallsLaw.{set-read}
use borrow.Author.Rules.{rules}
use Rattle.calls.proofs.set_given.Goals as goal

pub returns : goal.returns
returns c = search (rules, set-read)
