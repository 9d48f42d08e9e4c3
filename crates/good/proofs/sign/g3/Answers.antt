use Rattle.good.specs.SignLaw.{G3-is}
use borrow.Author.Rules.{rules}
use Rattle.good.proofs.sign.g3.Goals as goal

pub returns : goal.returns
returns c = search (rules, G3-is)
