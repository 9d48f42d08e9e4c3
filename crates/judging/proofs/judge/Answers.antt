use Rattle.judging.specs.Judge.{early-one, early-two, early-fault, fits-sizes, fits-nodes, fits-rows, admitted}
use borrow.Author.Rules.{rules}
use Rattle.judging.proofs.judge.Goals as goal

pub returns-then-not-sizes_fit-clause-verdict : goal.returns-then-not-sizes_fit-clause-verdict
returns-then-not-sizes_fit-clause-verdict c = search (rules, early-one)

pub returns-then-not-marks_fit-clause-verdict : goal.returns-then-not-marks_fit-clause-verdict
returns-then-not-marks_fit-clause-verdict c = search (rules, early-two)

pub lowest_fault-requires-clause-sized : goal.lowest_fault-requires-clause-sized
lowest_fault-requires-clause-sized c = search (rules, fits-sizes)

pub invariant_of-mesh : goal.invariant_of-mesh
invariant_of-mesh c = record { nodes_fit = search (rules, fits-nodes); rows_fit = search (rules, fits-rows) }

pub returns-clause-verdict : goal.returns-clause-verdict
returns-clause-verdict c = search (rules, early-fault)

pub returns-clause-admitted : goal.returns-clause-admitted
returns-clause-admitted c =
    admitted _ _ c.args.scratch.now _ _ c.args.n0 _ _ _ c.sizes_fit.ensures c.if-not-sizes_fit.false _ c.marks_fit.ensures c.if-not-marks_fit.false
    _ c.lowest_fault.ensures.answer _ c.lowest_fault.auto.scratch c.lowest_fault.ensures.after
