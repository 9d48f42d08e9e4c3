use Rattle.tables.specs.Put.{set_node}
use native.Mathlib.Numerals.{add-one, add-two, add-three}
use borrow.Author.Rules.{rules}
use Rattle.tables.proofs.put_node.Goals as goal

pub returns : goal.returns
unfolding set_node
returns c = search (rules, add-one, add-two, add-three)
