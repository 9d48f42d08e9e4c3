use Rattle.lists.specs.LoopsLaw.{downward}
use borrow.Author.Rules.{rules}
use Rattle.round.proofs.notes.link_rows.Goals as goal

pub loop-i-preserved : goal.loop-i-preserved
loop-i-preserved c = search (rules, downward)

pub returns : goal.returns
returns c = search (rules, downward)
