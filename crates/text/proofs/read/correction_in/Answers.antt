use borrow.Author.Rules.{rules}
use Rattle.text.specs.DigitsLaw.{correction-read}
use Rattle.text.proofs.read.correction_in.Goals as goal

pub returns : goal.returns
returns c = search (rules, correction-read)
