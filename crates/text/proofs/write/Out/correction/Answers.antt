use Rattle.std.proofs.Common.{rules}
use Rattle.text.specs.LinesLaw.{signed-put}
use Rattle.text.proofs.write.Out.correction.Goals as goal

pub returns-clause-text : goal.returns-clause-text
returns-clause-text c = search (rules, signed-put)
