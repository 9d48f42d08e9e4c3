use Rattle.meaning.specs.Tables.{row_at}
use borrow.Author.Rules.{rules}
use Rattle.tables.proofs.row_at.Goals as goal

pub returns : goal.returns
unfolding row_at
returns c = search rules
