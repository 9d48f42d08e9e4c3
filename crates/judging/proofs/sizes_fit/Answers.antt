use Rattle.std.proofs.Common.{arith}
use Rattle.std.proofs.lemmas.Grind.{common_steps}
use Rattle.judging.specs.Sizes.{fitting, quarter}
use Rattle.judging.proofs.sizes_fit.Goals as goal

pub returns-then-t-tl : goal.returns-then-t-tl
unfolding fitting
returns-then-t-tl c = grind (arith, common_steps, quarter)

pub returns-else-t-tl : goal.returns-else-t-tl
unfolding fitting
returns-else-t-tl c = grind (arith, common_steps)
