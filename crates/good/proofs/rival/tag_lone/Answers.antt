use Rattle.good.specs.WalkLaw.{nodes-linked, all-tagged}
use borrow.Author.Rules.{rules}
use Rattle.good.proofs.rival.tag_lone.Goals as goal

pub tags-requires-clause-linked : goal.tags-requires-clause-linked
tags-requires-clause-linked c = search (rules, nodes-linked)

pub returns : goal.returns
returns c = search (rules, all-tagged)
