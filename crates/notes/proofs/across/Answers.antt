use Rattle.notes.specs.NotesLaw.{row-found, note-found, across-at, across-none}
use borrow.Author.Rules.{rules}
use Rattle.notes.proofs.across.Goals as goal

pub row_at-w-requires : goal.row_at-w-requires
row_at-w-requires c = search (rules, row-found)

pub note_at-c-requires : goal.note_at-c-requires
note_at-c-requires c = search (rules, note-found)

pub returns : goal.returns
returns c = search (rules, across-at)

pub returns-in_default : goal.returns-in_default
returns-in_default c = search (rules, across-none)
