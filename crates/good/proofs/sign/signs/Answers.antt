use Rattle.neighbours.specs.Ready.{searched}
use Rattle.round.specs.NotesLaw.{around-still, ready-still}
use Rattle.good.specs.SignLaw.{sign-put}
use Rattle.good.specs.Sign.{fresh}
use Rattle.lists.specs.LoopsLaw.{noted-start, noting}
use borrow.Author.Rules.{rules}
use Rattle.good.proofs.sign.signs.Goals as goal

pub sign_from-requires-clause-around : goal.sign_from-requires-clause-around
sign_from-requires-clause-around c = search (rules, around-still)

pub invariant_of-search : goal.invariant_of-search
invariant_of-search c = searched _ _ _ _ (search (rules, ready-still))

pub loop-z-init : goal.loop-z-init
loop-z-init c = (search rules, noted-start _ (fresh _ _) _)

pub loop-z-preserved : goal.loop-z-preserved
loop-z-preserved c = (search rules, search (rules, sign-put))

pub returns : goal.returns
returns c = search (rules, noting)
