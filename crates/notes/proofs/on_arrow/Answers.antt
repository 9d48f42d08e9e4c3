use Rattle.std.proofs.Common.{rules}
use Rattle.notes.specs.NotesLaw.{picked}
use Rattle.notes.proofs.on_arrow.Goals as goal

pub returns-then-w-y : goal.returns-then-w-y
returns-then-w-y c = search (rules, picked)

pub returns-then-w-y-2 : goal.returns-then-w-y-2
returns-then-w-y-2 c = search (rules, picked)

pub returns-else-w-x-2 : goal.returns-else-w-x-2
returns-else-w-x-2 c = search (rules, picked)
