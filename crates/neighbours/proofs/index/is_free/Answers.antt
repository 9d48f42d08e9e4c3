use Rattle.neighbours.specs.Join.{free-at}
use borrow.Author.Rules.{rules}
use Rattle.neighbours.proofs.index.is_free.Goals as goal

pub returns : goal.returns
returns c = search (rules, free-at)
