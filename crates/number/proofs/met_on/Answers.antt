use Rattle.number.specs.NumberStep.{row-in-table, note-in-scratch, met-found, met-alone}
use borrow.Author.Rules.{rules}
use Rattle.number.proofs.met_on.Goals as goal

pub row_at-w-requires : goal.row_at-w-requires
row_at-w-requires c = search (rules, row-in-table)

pub note_at-c-requires : goal.note_at-c-requires
note_at-c-requires c = search (rules, note-in-scratch)

pub returns : goal.returns
returns c = search (rules, met-found)

pub returns-in_default : goal.returns-in_default
returns-in_default c = search (rules, met-alone)
