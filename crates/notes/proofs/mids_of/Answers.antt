use Rattle.notes.specs.NotesLaw.{row-note, mids-are}
use borrow.Author.Rules.{rules}
use Rattle.notes.proofs.mids_of.Goals as goal

pub note_at-c-requires : goal.note_at-c-requires
note_at-c-requires c = search (rules, row-note)

pub returns : goal.returns
returns c = search (rules, mids-are)
