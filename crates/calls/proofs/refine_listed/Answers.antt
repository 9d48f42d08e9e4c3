use Rattle.calls.specs.MarksLaw.{marked-count}
use Rattle.calls.specs.CallsLaw.{refine-marked}
use borrow.Author.Rules.{rules}
use Rattle.calls.proofs.refine_listed.Goals as goal

pub slice_bounds-refine_by-end : goal.slice_bounds-refine_by-end
slice_bounds-refine_by-end c = search (rules, marked-count)

pub returns : goal.returns
returns c = search (rules, refine-marked)
