use Rattle.tables.specs.Put.{set_node}
use Rattle.tables.proofs.NodeRecord.put.Goals as goal

pub returns : goal.returns
unfolding set_node
returns c = c.put_node.ensures
