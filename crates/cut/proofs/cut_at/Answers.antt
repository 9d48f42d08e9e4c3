use Rattle.cut.specs.CutLaw.{cut-is}
use borrow.Author.Rules.{rules}
use Rattle.cut.proofs.cut_at.Goals as goal

pub returns : goal.returns
returns c = search (rules, cut-is)
