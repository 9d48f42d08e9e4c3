use Rattle.round.specs.NotesLaw.{rows-around, rows-ready}
use borrow.Author.Rules.{rules}
use Rattle.round.proofs.note_rows.Goals as goal

pub returns-clause-around : goal.returns-clause-around
returns-clause-around c = search (rules, rows-around)

pub returns-clause-ready : goal.returns-clause-ready
returns-clause-ready c = search (rules, rows-ready)
