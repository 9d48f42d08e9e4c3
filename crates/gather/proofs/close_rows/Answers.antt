use Rattle.gather.specs.Goes.{new_row}
use Rattle.meaning.specs.Tables.{row_at}
use Rattle.gather.proofs.close_rows.Goals as goal

pub returns-clause-count : goal.returns-clause-count
unfolding new_row row_at
returns-clause-count c = c.close.ensures.count

pub returns-clause-rows : goal.returns-clause-rows
unfolding new_row row_at
returns-clause-rows c = c.close.ensures.table
