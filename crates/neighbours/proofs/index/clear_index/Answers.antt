use Rattle.neighbours.specs.Join.{exact-blank, notes-blank}
use borrow.Author.Rules.{rules}
use Rattle.neighbours.proofs.index.clear_index.Goals as goal

pub returns-clause-notes : goal.returns-clause-notes
returns-clause-notes c = search (rules, notes-blank)

pub returns-clause-exact : goal.returns-clause-exact
returns-clause-exact c = search (rules, exact-blank)
