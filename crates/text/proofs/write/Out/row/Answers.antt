use Rattle.std.proofs.Common.{rules}
use Rattle.text.specs.LinesLaw.{row_put}
use Rattle.text.proofs.write.Out.row.Goals as goal

pub returns-clause-text : goal.returns-clause-text
returns-clause-text c = search (rules, row_put)
