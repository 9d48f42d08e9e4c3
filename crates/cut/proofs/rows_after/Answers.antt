use Rattle.cut.specs.CutLaw.{count-start, count_fits, count_turn}
use borrow.Author.Rules.{rules}
use Rattle.cut.proofs.rows_after.Goals as goal

pub loop-i-init : goal.loop-i-init
loop-i-init c = search (rules, count-start)

pub overflow_add-r : goal.overflow_add-r
overflow_add-r c = search (rules, count_fits)

pub loop-i-preserved : goal.loop-i-preserved
loop-i-preserved c = search (rules, count_turn)
