use Rattle.refining.specs.RefineLaw.{plainly}
use borrow.Author.Rules.{rules}
use Rattle.mesh.proofs.bisect_by.Goals as goal

pub returns : goal.returns
returns c = search (rules, plainly)
