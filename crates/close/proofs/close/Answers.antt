use Rattle.close.specs.DrawLaw.{closed_is}
use borrow.Author.Rules.{rules}
use Rattle.close.proofs.close.Goals as goal

pub returns : goal.returns
returns c = search (rules, closed_is)
