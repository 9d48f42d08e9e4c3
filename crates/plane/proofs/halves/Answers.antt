use Rattle.std.proofs.Common.{arith, ◌≡◌, pos, ◌+ℤ◌, ◌*ℤ◌}
use mir.Facts.{to_z-of_z}
use Rattle.whole.specs.Diff.{onℤ}
use Rattle.plane.specs.Wide.{fits-wide, wide-sum, same_bits}
use Rattle.plane.proofs.halves.Goals as goal

pub returns : goal.returns
returns c =
    let twice : pos 2 *ℤ c.args.z ≡ c.args.z +ℤ c.args.z = grind (arith, onℤ) in
    simp (c.from.ensures, c.from-2.ensures, c.from-3.ensures, to_z-of_z, c.ranges.z, c.ranges.b, c.ranges.c, fits-wide c.args.z c.ranges.z, fits-wide c.args.b c.ranges.b, fits-wide c.args.c c.ranges.c, twice)
    (same_bits _ _ (wide-sum c.args.z c.args.z c.ranges.z c.ranges.z) (wide-sum c.args.b c.args.c c.ranges.b c.ranges.c))
