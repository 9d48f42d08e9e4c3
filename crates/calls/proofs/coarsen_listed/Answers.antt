use Rattle.calls.specs.MarksLaw.{marked-count}
use Rattle.calls.specs.CallsLaw.{coarsen-marked}
use borrow.Author.Rules.{rules}
use Rattle.calls.proofs.coarsen_listed.Goals as goal

pub slice_bounds-coarsen-end : goal.slice_bounds-coarsen-end
slice_bounds-coarsen-end c = search (rules, marked-count)

pub returns : goal.returns
returns c = search (rules, coarsen-marked)
