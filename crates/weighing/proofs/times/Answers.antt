use mir.Facts.{to_z-of_z}
use Rattle.weighing.specs.MeanLaw.{part-wide, times-fit}
use Rattle.weighing.proofs.times.Goals as goal

pub returns : goal.returns
returns c =
    simp (c.from.ensures, to_z-of_z, c.ranges.x, c.ranges.v, part-wide c.args.x c.requires.1, times-fit c.args.v c.args.x c.requires)
