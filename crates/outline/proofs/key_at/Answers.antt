use Rattle.outline.specs.SeenLaw.{key-times, key_fits}
use Rattle.plane.specs.Wide.{fits-wide}
use mir.Facts.{to_z-of_z}
use Rattle.outline.proofs.key_at.Goals as goal

pub overflow_mul-result : goal.overflow_mul-result
overflow_mul-result c = simp (c.from.ensures, to_z-of_z, c.ranges.x, fits-wide c.args.x c.ranges.x) (key-times c.args.x c.ranges.x)

pub overflow_add-result : goal.overflow_add-result
overflow_add-result c =
    simp (c.from.ensures, c.from-2.ensures, to_z-of_z, c.ranges.x, c.ranges.y, fits-wide c.args.x c.ranges.x, fits-wide c.args.y c.ranges.y, key-times c.args.x c.ranges.x)
    (key_fits c.args.x c.args.y c.ranges.x c.ranges.y)

pub returns : goal.returns
returns c = simp (
  c.from.ensures,
  c.from-2.ensures,
  to_z-of_z,
  c.ranges.x,
  c.ranges.y,
  fits-wide c.args.x c.ranges.x,
  fits-wide c.args.y c.ranges.y,
  key-times c.args.x c.ranges.x,
  key_fits c.args.x c.args.y c.ranges.x c.ranges.y,
)
