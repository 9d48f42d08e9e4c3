use Rattle.std.proofs.Common.{rules}
use Rattle.lists.specs.IterLaw.{iter_turn, iter_end}
use Rattle.cut.specs.CutLaw.{append-turn, place-done}
use Rattle.cut.proofs.place.Goals as goal

pub loop-k-preserved : goal.loop-k-preserved
loop-k-preserved c = search (rules, iter_turn, append-turn)

pub returns : goal.returns
returns c = search (rules, iter_end, place-done)
