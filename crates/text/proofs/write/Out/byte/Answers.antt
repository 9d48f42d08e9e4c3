use Rattle.std.proofs.Common.{rules}
use Rattle.text.specs.Writing.{put_one}
use Rattle.text.proofs.write.Out.byte.Goals as goal

pub returns-clause-text : goal.returns-clause-text
returns-clause-text c = search (rules, put_one)
