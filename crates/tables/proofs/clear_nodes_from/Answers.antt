use Rattle.meaning.specs.Tables.{node_at}
use Rattle.tables.proofs.clear_nodes_from.Goals as goal

pub returns : goal.returns
unfolding node_at
returns c = c.clear_from.ensures
