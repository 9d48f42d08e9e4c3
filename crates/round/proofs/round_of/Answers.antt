use Rattle.round.specs.Needs.{head-le, round-made, round-within}
use borrow.Author.Rules.{rules}
use Rattle.round.proofs.round_of.Goals as goal

pub after-second-requires-clause-k_le_t : goal.after-second-requires-clause-k_le_t
after-second-requires-clause-k_le_t c = search (rules, head-le)

pub returns-clause-numbers : goal.returns-clause-numbers
returns-clause-numbers c = search (rules, round-made)

pub returns-clause-within : goal.returns-clause-within
returns-clause-within c = search (rules, round-within, head-le)
