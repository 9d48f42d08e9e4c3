use Rattle.close.specs.DrawLaw.{ready-draws, from-newest, from_all}
use borrow.Author.Rules.{rules}
use Rattle.close.proofs.draw_from.Goals as goal

pub draw_sides-requires-clause-ready : goal.draw_sides-requires-clause-ready
draw_sides-requires-clause-ready c = search (rules, ready-draws)

pub returns-in_default : goal.returns-in_default
returns-in_default c = search (rules, from-newest)

pub returns-in-AllThree : goal.returns-in-AllThree
returns-in-AllThree c = search (rules, from_all)
