use Rattle.outline.specs.ListedLaw.{ended-ready, ended-listing, ended-clear, none-clear}
use Rattle.neighbours.specs.Ready.{ready-rows, ready-sized}
use borrow.Author.Rules.{rules}
use Rattle.outline.proofs.is_clear.Goals as goal

pub list_border-requires-clause-sized : goal.list_border-requires-clause-sized
list_border-requires-clause-sized c = search (rules, ready-sized)

pub list_border-requires-clause-t_in_bounds : goal.list_border-requires-clause-t_in_bounds
list_border-requires-clause-t_in_bounds c = search (rules, ready-rows)

pub all_free-requires : goal.all_free-requires
all_free-requires c = search (rules, ended-listing)

pub returns-in-Some-clause-ready : goal.returns-in-Some-clause-ready
returns-in-Some-clause-ready c = search (rules, ended-ready)

pub returns-in-Some-clause-clear : goal.returns-in-Some-clause-clear
returns-in-Some-clause-clear c = search (rules, ended-clear)

pub returns-in-None-clause-ready : goal.returns-in-None-clause-ready
returns-in-None-clause-ready c = search (rules, ended-ready)

pub returns-in-None-clause-clear : goal.returns-in-None-clause-clear
returns-in-None-clause-clear c = none-clear
