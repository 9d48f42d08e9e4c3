use Rattle.tables.specs.Arrow.{arrow_at}
use Rattle.tables.proofs.edge_at.Goals as goal

pub returns : goal.returns
unfolding arrow_at
returns c = cc
