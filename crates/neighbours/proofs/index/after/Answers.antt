use Rattle.neighbours.specs.Walk.{after-some, after_is}
use borrow.Author.Rules.{rules}
use Rattle.neighbours.proofs.index.after.Goals as goal

pub slot-requires-2 : goal.slot-requires-2
slot-requires-2 c = search (rules, after-some)

pub returns : goal.returns
returns c = search (rules, after_is)
