use Rattle.gather.specs.Needs.{fate-made}
use borrow.Author.Rules.{rules}
use Rattle.gather.proofs.fate_at.Goals as goal

pub returns-clause-number : goal.returns-clause-number
returns-clause-number c = search (rules, fate-made)
