-- Bisection keeps a mesh proper. Assumes nothing.
use Rattle.meaning.specs.Split.{bisected}
use Rattle.proper.specs.Dissects.{Dissects, bisected-back, bisected-pieces}

pub bisected-dissects : Dissects bisected
bisected-dissects = record { back = bisected-back; pieces = bisected-pieces }
