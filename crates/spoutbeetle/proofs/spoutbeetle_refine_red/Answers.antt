use borrow.Author.Rules.{rules}
use Rattle.spoutbeetle.specs.Exported.{exported}
use Rattle.spoutbeetle.proofs.spoutbeetle_refine_red.Goals as goal

pub returns : goal.returns
returns c = rw (c.tell.ensures.number, c.tell.ensures.nodes, c.tell.ensures.rows, c.tell.ensures.blamed) (search (rules, exported))
