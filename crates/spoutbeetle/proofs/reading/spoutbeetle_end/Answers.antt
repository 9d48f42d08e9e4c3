use Rattle.spoutbeetle.specs.Exported.{exported}
use borrow.Author.Rules.{rules}
use Rattle.spoutbeetle.proofs.reading.spoutbeetle_end.Goals as goal

pub returns-clause-accepted_after : goal.returns-clause-accepted_after
returns-clause-accepted_after c = rw (c.leave.ensures.line, c.leave.ensures.end, c.leave.ensures.known) (search (rules, exported))
