use Rattle.tables.specs.Put.{set_row}
use native.Mathlib.Numerals.{add-one, add-two}
use borrow.Author.Rules.{rules}
use Rattle.tables.proofs.put_row.Goals as goal

pub returns : goal.returns
unfolding set_row
returns c = search (rules, add-one, add-two)
