use Rattle.nodes.specs.NodesLaw.{row_is}
use borrow.Author.Rules.{rules}
use Rattle.nodes.proofs.place_row.Goals as goal

pub returns : goal.returns
returns c = search (rules, row_is)
