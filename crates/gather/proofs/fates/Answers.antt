use Rattle.std.proofs.Common.{◌∙◌}
use Rattle.gather.specs.Needs.{fate-turn, pairs-still}
use Rattle.gather.specs.Goes.{fate_at}
use Rattle.lists.specs.LoopsLaw.{noted-start, noted-end}
use borrow.Author.Rules.{rules}
use Rattle.gather.proofs.fates.Goals as goal

pub loop-i-init : goal.loop-i-init
loop-i-init c = (search rules, noted-start _ (fate_at _ _ _) _)

pub fate_at-requires-clause-small : goal.fate_at-requires-clause-small
fate_at-requires-clause-small c = search (rules, pairs-still)

pub loop-i-preserved : goal.loop-i-preserved
loop-i-preserved c = (search rules, search (rules, fate-turn, c.number-f.ensures ∙ c.fate_at.ensures.number))

pub returns : goal.returns
returns c = search (rules, noted-end)
