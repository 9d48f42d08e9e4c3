use Rattle.round.specs.Needs.{link-put}
use borrow.Author.Rules.{rules}
use Rattle.round.proofs.link.Goals as goal

pub returns : goal.returns
returns c = search (rules, link-put)
