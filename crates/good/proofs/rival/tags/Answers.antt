use Rattle.good.specs.WalkLaw.{some_up, linked-still, tag-put}
use Rattle.good.specs.Rival.{tagged}
use Rattle.lists.specs.LoopsLaw.{noted-start, noting}
use borrow.Author.Rules.{rules}
use Rattle.good.proofs.rival.tags.Goals as goal

pub loop-z-init : goal.loop-z-init
loop-z-init c = (search rules, noted-start _ (tagged _ _) _)

pub tag-v-requires-clause-linked : goal.tag-v-requires-clause-linked
tag-v-requires-clause-linked c = search (rules, linked-still)

pub tag-v-requires-clause-t_nonzero : goal.tag-v-requires-clause-t_nonzero
tag-v-requires-clause-t_nonzero c = search (rules, some_up)

pub loop-z-preserved : goal.loop-z-preserved
loop-z-preserved c = (search rules, search (rules, tag-put))

pub returns : goal.returns
returns c = search (rules, noting)
