use Rattle.std.proofs.Common.{rules}
use Rattle.close.specs.Drawn.{draw_sides}
use Rattle.close.specs.DrawLaw.{ready-across}
use Rattle.close.proofs.draw_sides.Goals as goal

pub draw_across-requires-2-clause-ready : goal.draw_across-requires-2-clause-ready
draw_across-requires-2-clause-ready c = search (rules, ready-across)

pub returns : goal.returns
unfolding draw_sides
returns c = search rules
