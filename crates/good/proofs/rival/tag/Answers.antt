use Rattle.good.specs.WalkLaw.{tag-none, tag-rival, tag-lone}
use borrow.Author.Rules.{rules}
use Rattle.good.proofs.rival.tag.Goals as goal

pub returns-then-v-eq0 : goal.returns-then-v-eq0
returns-then-v-eq0 c = search (rules, tag-none)

pub returns-then-find_rival : goal.returns-then-find_rival
returns-then-find_rival c = search (rules, tag-rival)

pub returns-else-find_rival : goal.returns-else-find_rival
returns-else-find_rival c = search (rules, tag-lone)
