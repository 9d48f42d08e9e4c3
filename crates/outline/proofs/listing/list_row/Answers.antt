use Rattle.outline.specs.ListedLaw.{grown-row}
use borrow.Author.Rules.{rules}
use Rattle.outline.proofs.listing.list_row.Goals as goal

pub returns : goal.returns
returns c = search (rules, grown-row)
