use Rattle.notes.specs.NotesLaw.{middle}
use borrow.Author.Rules.{rules}
use Rattle.notes.proofs.mid_for.Goals as goal

pub returns-then-on-eq0 : goal.returns-then-on-eq0
returns-then-on-eq0 c = search (rules, middle)

pub returns-then-first-eq1 : goal.returns-then-first-eq1
returns-then-first-eq1 c = search (rules, middle)

pub returns-else-first-eq1 : goal.returns-else-first-eq1
returns-else-first-eq1 c = search (rules, middle)
