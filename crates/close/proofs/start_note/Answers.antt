use Rattle.std.proofs.Common.{rules}
use Rattle.close.specs.Drawn.{start_note}
use Rattle.close.proofs.start_note.Goals as goal

pub returns-in-Newest : goal.returns-in-Newest
unfolding start_note
returns-in-Newest c = search rules

pub returns-in-AllThree : goal.returns-in-AllThree
unfolding start_note
returns-in-AllThree c = search rules
