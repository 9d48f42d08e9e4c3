use Rattle.meaning.specs.Tables.{row_at}
use Rattle.tables.proofs.TriRecord.read.Goals as goal

pub returns : goal.returns
unfolding row_at
returns c = c.row_at.ensures
