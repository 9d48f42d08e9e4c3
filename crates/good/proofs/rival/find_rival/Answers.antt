use Rattle.good.specs.WalkLaw.{walk_start, walk-note, walk-next, walk-hit, walk-on, walk-less, walk-over}
use borrow.Author.Rules.{rules}
use Rattle.good.proofs.rival.find_rival.Goals as goal

pub loop-next-init : goal.loop-next-init
loop-next-init c = search (rules, walk_start)

pub rival-requires-clause-y_in_bounds : goal.rival-requires-clause-y_in_bounds
rival-requires-clause-y_in_bounds c = search (rules, walk-note)

pub returns-then-rival : goal.returns-then-rival
returns-then-rival c = search (rules, walk-hit)

pub note_at-requires-in-Some : goal.note_at-requires-in-Some
note_at-requires-in-Some c = search (rules, walk-next)

pub loop-next-smaller : goal.loop-next-smaller
loop-next-smaller c = search (rules, walk-less)

pub loop-next-preserved : goal.loop-next-preserved
loop-next-preserved c = search (rules, walk-on)

pub returns : goal.returns
returns c = search (rules, walk-over)
