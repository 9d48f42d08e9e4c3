use Rattle.notes.specs.Notes.{unpacked}
use borrow.Author.Rules.{rules}
use Rattle.notes.proofs.unpack.Goals as goal

pub returns : goal.returns
unfolding unpacked
returns c = search rules
