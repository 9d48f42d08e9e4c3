use Rattle.neighbours.specs.Join.{after-put}
use borrow.Author.Rules.{rules}
use Rattle.neighbours.proofs.index.put_after.Goals as goal

pub returns : goal.returns
returns c = search (rules, after-put)
