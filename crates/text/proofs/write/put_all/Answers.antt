use Rattle.std.proofs.Common.{rules}
use Rattle.text.specs.LinesLaw.{all-put}
use Rattle.text.proofs.write.put_all.Goals as goal

pub returns : goal.returns
returns c = search (rules, all-put)
