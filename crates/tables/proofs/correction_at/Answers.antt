use Rattle.meaning.specs.Tables.{node_at}
use borrow.Author.Rules.{rules}
use Rattle.tables.proofs.correction_at.Goals as goal

pub returns : goal.returns
unfolding node_at
returns c = search rules
