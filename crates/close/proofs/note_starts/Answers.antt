use Rattle.lists.specs.IterLaw.{looping}
use borrow.Author.Rules.{rules}
use Rattle.close.proofs.note_starts.Goals as goal

pub loop-i-preserved : goal.loop-i-preserved
loop-i-preserved c = search (rules, looping)

pub returns : goal.returns
returns c = search (rules, looping)
