use Rattle.round.specs.Needs.{row-none, row-some}
use borrow.Author.Rules.{rules}
use Rattle.round.proofs.pair.row_in.Goals as goal

pub returns-in-Some : goal.returns-in-Some
returns-in-Some c = search (rules, row-some)

pub returns-in-None : goal.returns-in-None
returns-in-None c = search (rules, row-none)
