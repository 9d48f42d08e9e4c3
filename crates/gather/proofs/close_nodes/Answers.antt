use Rattle.meaning.specs.Tables.{node_at}
use Rattle.gather.proofs.close_nodes.Goals as goal

pub returns-clause-count : goal.returns-clause-count
unfolding node_at
returns-clause-count c = c.close.ensures.count

pub returns-clause-nodes : goal.returns-clause-nodes
unfolding node_at
returns-clause-nodes c = c.close.ensures.table
