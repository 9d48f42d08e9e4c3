use Rattle.lists.specs.IterLaw.{looping}
use Rattle.lawful.specs.TestsLaw.{not-misnamed}
use borrow.Author.Rules.{rules}
use Rattle.lawful.proofs.mark_rows.Goals as goal

pub mark_row-requires : goal.mark_row-requires
mark_row-requires c = search (rules, not-misnamed)

pub loop-i-preserved : goal.loop-i-preserved
loop-i-preserved c = search (rules, looping)

pub returns : goal.returns
returns c = search (rules, looping)
