use Rattle.std.proofs.Common.{rules}
use Rattle.text.specs.DigitsLaw.{unsigned-is}
use Rattle.text.proofs.write.unsigned.Goals as goal

pub returns : goal.returns
returns c = search (rules, unsigned-is)
