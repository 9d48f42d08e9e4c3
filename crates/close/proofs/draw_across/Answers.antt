use Rattle.std.proofs.Common.{rules}
use Rattle.close.specs.Drawn.{draw_across}
use Rattle.close.specs.DrawLaw.{found_below}
use Rattle.neighbours.specs.Ready.{searched}
use Rattle.close.proofs.draw_across.Goals as goal

pub draw-requires : goal.draw-requires
draw-requires c = search (rules, found_below)

pub returns-in-Some : goal.returns-in-Some
unfolding draw_across
returns-in-Some c = search rules

pub returns-in_default : goal.returns-in_default
unfolding draw_across
returns-in_default c = search rules

pub invariant_of-search : goal.invariant_of-search
invariant_of-search c = searched _ _ _ _ c.requires.ready
