use Rattle.std.proofs.Common.{rules}
use Rattle.text.specs.DigitsLaw.{signed4-is}
use Rattle.text.proofs.read.signed4.Goals as goal

pub returns : goal.returns
returns c = search (rules, signed4-is)
