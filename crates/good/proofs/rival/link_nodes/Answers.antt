use Rattle.good.specs.WalkLaw.{some-down}
use Rattle.lists.specs.LoopsLaw.{downward}
use borrow.Author.Rules.{rules}
use Rattle.good.proofs.rival.link_nodes.Goals as goal

pub link_node-requires-clause-t_nonzero : goal.link_node-requires-clause-t_nonzero
link_node-requires-clause-t_nonzero c = search (rules, some-down)

pub loop-z-preserved : goal.loop-z-preserved
loop-z-preserved c = search (rules, downward)

pub returns : goal.returns
returns c = search (rules, downward)
