use Rattle.tables.specs.Put.{set_row}
use Rattle.tables.proofs.TriRecord.put.Goals as goal

pub returns : goal.returns
unfolding set_row
returns c = c.put_row.ensures
