use Rattle.sweep.specs.SweptMesh.{severity-none, some-node, some-column, all-lined, severity-swept}
use Rattle.laws.specs.Meshes.{row-stands}
use borrow.Author.Rules.{rules}
use Rattle.sweep.proofs.severity.Goals as goal

pub returns-then-t-eq0 : goal.returns-then-t-eq0
returns-then-t-eq0 c = search (rules, severity-none)

pub scale_of-scale-requires-clause-n_nonzero : goal.scale_of-scale-requires-clause-n_nonzero
scale_of-scale-requires-clause-n_nonzero c = search (rules, some-node)

pub order-requires-clause-count_nonzero : goal.order-requires-clause-count_nonzero
order-requires-clause-count_nonzero c = search (rules, some-column)

pub order-requires-clause-by_index : goal.order-requires-clause-by_index
order-requires-clause-by_index c = search (rules, row-stands)

pub sweep-requires : goal.sweep-requires
sweep-requires c = search (rules, all-lined)

pub returns : goal.returns
returns c = search (rules, severity-swept)
