use Rattle.whole.specs.Room.{room}
use borrow.Author.Rules.{rules}
use Rattle.outline.proofs.Edge.ahead.Goals as goal

pub overflow_add-result : goal.overflow_add-result
overflow_add-result c = search (rules, room)

pub overflow_add-result-2 : goal.overflow_add-result-2
overflow_add-result-2 c = search (rules, room)

pub returns : goal.returns
returns c = search (rules, room)
