use Rattle.number.specs.NumberStep.{note-whole, note-split}
use borrow.Author.Rules.{rules}
use Rattle.number.proofs.note_of.Goals as goal

pub returns-then-c-eq0 : goal.returns-then-c-eq0
returns-then-c-eq0 c = search (rules, note-whole)

pub returns : goal.returns
returns c = search (rules, note-split)
