use Rattle.outline.specs.TurnsLaw.{look-edge, look-small}
use Rattle.outline.specs.SeenLaw.{close-in}
use borrow.Author.Rules.{rules}
use Rattle.outline.proofs.look_at.Goals as goal

pub look-requires : goal.look-requires
look-requires c = (search rules, search (rules, close-in))

pub returns-clause-is : goal.returns-clause-is
returns-clause-is c = search (rules, look-edge)

pub returns-clause-small : goal.returns-clause-small
returns-clause-small c = search (rules, look-small)
