use Rattle.gather.specs.Needs.{take-yes, take-unmarked, take-bad}
use borrow.Author.Rules.{rules}
use Rattle.gather.proofs.taken.Goals.{else-is_marked-via-then-is_marked+else-v-eq1, else-is_marked-via-else-is_marked}
use Rattle.gather.proofs.taken.Goals as goal

pub returns-then-v-eq1 : goal.returns-then-v-eq1
returns-then-v-eq1 c = search (rules, take-yes)

pub returns-else-is_marked : goal.returns-else-is_marked
returns-else-is_marked c =
    elim c.else-is_marked.branch [ else-is_marked-via-then-is_marked+else-v-eq1 w ↦ search (rules, take-bad) | else-is_marked-via-else-is_marked w ↦ search (rules, take-unmarked) ]
