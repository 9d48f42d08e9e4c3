use Rattle.round.specs.PairLaw.{span-made, lo-below, hi-below}
use borrow.Author.Rules.{rules}
use Rattle.round.proofs.span_of.Goals as goal

pub returns-clause-pair : goal.returns-clause-pair
returns-clause-pair c = search (rules, span-made)

pub returns-clause-nodes : goal.returns-clause-nodes
returns-clause-nodes c = search (rules, lo-below, hi-below)
