use Rattle.meaning.specs.Tables.{row_at}
use Rattle.tables.proofs.clear_rows_from.Goals as goal

pub returns : goal.returns
unfolding row_at
returns c = c.clear_from.ensures
