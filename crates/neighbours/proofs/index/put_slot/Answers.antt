use Rattle.neighbours.specs.Join.{slot-put}
use borrow.Author.Rules.{rules}
use Rattle.neighbours.proofs.index.put_slot.Goals as goal

pub returns : goal.returns
returns c = search (rules, slot-put)
