use Rattle.std.proofs.Common.{rules}
use Rattle.text.specs.LinesLaw.{answer-put}
use Rattle.text.proofs.write.put_answer.Goals as goal

pub returns : goal.returns
returns c = search (rules, answer-put)
