use Rattle.round.specs.Needs.{older-put}
use borrow.Author.Rules.{rules}
use Rattle.round.proofs.notes.mark_older.Goals as goal

pub returns : goal.returns
returns c = search (rules, older-put)
