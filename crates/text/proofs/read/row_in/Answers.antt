use borrow.Author.Rules.{rules}
use Rattle.text.specs.DigitsLaw.{row_read}
use Rattle.text.proofs.read.row_in.Goals as goal

pub returns : goal.returns
returns c = search (rules, row_read)
