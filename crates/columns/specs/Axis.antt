-- The axes. Assumes nothing.
use Rattle.std.specs.Prelude.{Bool, true, false}
use Rattle.columns.specs.declared.Axis.{Axis}
use Rattle.columns.specs.declared.Axis.TheVariants.{X, Y}

abbrev pub is_y : Axis → Bool
is_y X = false
is_y Y = true
