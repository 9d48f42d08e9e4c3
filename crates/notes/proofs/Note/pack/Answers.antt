use Rattle.notes.specs.Notes.{packed}
use Rattle.std.proofs.Common.{arith}
use Rattle.notes.proofs.Note.pack.Goals as goal

pub returns : goal.returns
unfolding packed
returns c = omega arith
