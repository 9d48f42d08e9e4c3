use Rattle.good.specs.WalkLaw.{blanked-made}
use borrow.Author.Rules.{rules}
use Rattle.good.proofs.rival.blank_rows.Goals as goal

pub returns : goal.returns
returns c = search (rules, blanked-made)
