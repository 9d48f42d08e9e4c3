use Rattle.meaning.specs.Tables.{node_at}
use Rattle.tables.proofs.NodeRecord.read.Goals as goal

pub returns : goal.returns
unfolding node_at
returns c = c.node_at.ensures
