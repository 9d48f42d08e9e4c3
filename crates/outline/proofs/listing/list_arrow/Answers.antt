use Rattle.neighbours.specs.Ready.{searched}
use Rattle.outline.specs.ListedLaw.{few-arrows}
use Rattle.outline.specs.ListedLaw.{note-room, grown-in, grown-not}
use borrow.Author.Rules.{rules}
use Rattle.outline.proofs.listing.list_arrow.Goals as goal

pub put_arrow-requires : goal.put_arrow-requires
put_arrow-requires c = search (rules, note-room)

pub overflow_add-result : goal.overflow_add-result
overflow_add-result c = let few = few-arrows _ _ _ _ _ c.requires.ready c.requires.b_bound in
    search rules

pub returns-then-is_border : goal.returns-then-is_border
returns-then-is_border c = search (rules, grown-in)

pub returns-else-is_border : goal.returns-else-is_border
returns-else-is_border c = search (rules, grown-not)

pub invariant_of-search : goal.invariant_of-search
invariant_of-search c = searched _ _ _ _ c.requires.ready
