-- What the code answers of two rows, as a number. Assumes nothing.
use Rattle.std.specs.Prelude.{ℕ}
use Rattle.pairs.specs.declared.Grave.{Grave}
use Rattle.pairs.specs.declared.Grave.TheVariants.{Apart, Lapping, Touching}

-- 2: a corner of one is on a side of the other; 1: they share an interior point; 0: neither
abbrev pub gravity : Grave → ℕ
gravity Apart = 0
gravity Lapping = 1
gravity Touching = 2
