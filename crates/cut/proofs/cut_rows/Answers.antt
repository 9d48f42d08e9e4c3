use Rattle.cut.specs.CutLaw.{cutting}
use borrow.Author.Rules.{rules}
use Rattle.cut.proofs.cut_rows.Goals as goal

pub loop-i-init : goal.loop-i-init
loop-i-init c = search (rules, cutting)

pub cut_row-end-requires-clause-ready : goal.cut_row-end-requires-clause-ready
cut_row-end-requires-clause-ready c = search (rules, cutting)

pub cut_row-end-requires-clause-i_bound : goal.cut_row-end-requires-clause-i_bound
cut_row-end-requires-clause-i_bound c = search (rules, cutting)

pub cut_row-end-requires-clause-end_in_bounds : goal.cut_row-end-requires-clause-end_in_bounds
cut_row-end-requires-clause-end_in_bounds c = search (rules, cutting)

pub loop-i-preserved : goal.loop-i-preserved
loop-i-preserved c = search (rules, cutting)

pub returns : goal.returns
returns c = search (rules, cutting)
