use Rattle.round.specs.RoundLaw.{G1-round, G1-held}
use borrow.Author.Rules.{rules}
use Rattle.round.proofs.g1.Goals as goal

pub returns-then-a-eq0 : goal.returns-then-a-eq0
returns-then-a-eq0 c = search (rules, G1-round)

pub returns-else-a-eq0 : goal.returns-else-a-eq0
returns-else-a-eq0 c = search (rules, G1-held)
