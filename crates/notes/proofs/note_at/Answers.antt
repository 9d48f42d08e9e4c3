use Rattle.notes.specs.NotesLaw.{note-read}
use borrow.Author.Rules.{rules}
use Rattle.notes.proofs.note_at.Goals as goal

pub returns : goal.returns
returns c = search (rules, note-read)
