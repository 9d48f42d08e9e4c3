use Rattle.good.specs.WalkLaw.{link-not, link-it}
use borrow.Author.Rules.{rules}
use Rattle.good.proofs.rival.link_node.Goals as goal

pub returns-then-v-ne0 : goal.returns-then-v-ne0
returns-then-v-ne0 c = search (rules, link-it)

pub returns-else-v-ne0 : goal.returns-else-v-ne0
returns-else-v-ne0 c = search (rules, link-not)
