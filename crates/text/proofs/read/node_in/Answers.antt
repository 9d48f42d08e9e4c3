use borrow.Author.Rules.{rules}
use Rattle.text.specs.DigitsLaw.{node-fields}
use Rattle.text.proofs.read.node_in.Goals as goal

pub returns : goal.returns
returns c = search (rules, node-fields)
