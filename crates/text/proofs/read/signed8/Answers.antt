use Rattle.std.proofs.Common.{rules}
use Rattle.text.specs.DigitsLaw.{signed8-is}
use Rattle.text.proofs.read.signed8.Goals as goal

pub returns : goal.returns
returns c = search (rules, signed8-is)
