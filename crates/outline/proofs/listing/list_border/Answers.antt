use Rattle.outline.specs.ListedLaw.{holding-start, holding-on, holding-end, holding-out}
use borrow.Author.Rules.{rules}
use Rattle.outline.proofs.listing.list_border.Goals as goal

pub loop-i-init : goal.loop-i-init
loop-i-init c = (search rules, search (rules, holding-start))

pub returns-then-b-limit : goal.returns-then-b-limit
returns-then-b-limit c = search (rules, holding-out)

pub loop-i-preserved : goal.loop-i-preserved
loop-i-preserved c = (search rules, search (rules, holding-on))

pub returns : goal.returns
returns c = search (rules, holding-end)
