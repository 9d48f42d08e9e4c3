-- W7: what keeps two triangles apart, as facts. Definitions. Assumes nothing.
use Rattle.std.specs.Prelude.{pos, ◌≤ℤ◌}
use Rattle.meaning.specs.declared.Place.{Place}
use Rattle.meaning.specs.Mesh.{turn}
use Rattle.meaning.specs.Proper.{Shape}

-- no corner of t is strictly left of the line from a to b
pub record NoneLeft (a b : Place) (t : Shape) : Type 0 where
  pub at_p : turn a b t.p ≤ℤ pos 0
  pub at-q : turn a b t.q ≤ℤ pos 0
  pub at-r : turn a b t.r ≤ℤ pos 0

-- a side of s has no corner of t on its inner side
pub data PartedBy (s t : Shape) : Type 0 where
  by-pq : NoneLeft s.p s.q t → PartedBy s t
  by-qr : NoneLeft s.q s.r t → PartedBy s t
  by-rp : NoneLeft s.r s.p t → PartedBy s t

-- a side of one has the other beyond it
pub data Apart (s t : Shape) : Type 0 where
  by_first : PartedBy s t → Apart s t
  by-second : PartedBy t s → Apart s t
