use Rattle.lawful.specs.TestsLaw.{mark-p, mark-q, mark-r, marked_row}
use borrow.Author.Rules.{rules}
use Rattle.lawful.proofs.mark_row.Goals as goal

pub mark-requires : goal.mark-requires
mark-requires c = search (rules, mark-p)

pub mark-requires-2 : goal.mark-requires-2
mark-requires-2 c = search (rules, mark-q)

pub mark-requires-3 : goal.mark-requires-3
mark-requires-3 c = search (rules, mark-r)

pub returns : goal.returns
returns c = search (rules, marked_row)
