use Rattle.round.specs.Needs.{link-row-put}
use borrow.Author.Rules.{rules}
use Rattle.round.proofs.notes.link_row.Goals as goal

pub returns : goal.returns
returns c = search (rules, link-row-put)
