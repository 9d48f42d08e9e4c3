use Rattle.close.specs.Drawn.{across_row}
use Rattle.close.proofs.across.Goals as goal

pub returns : goal.returns
unfolding across_row
returns c = cc
