-- What the code knows of spans between places, and the test of 6 on three places. Assumes nothing.
use Rattle.std.specs.Prelude.{◌≡◌, Bool, not, ◌≤◌, pos, nat_abs, ◌-ℤ◌}
use Rattle.std.specs.Int.Signed.{lt_z}
use Rattle.meaning.specs.declared.Place.{Place}
use Rattle.meaning.specs.Mesh.{turn}
use Rattle.meaning.specs.Lawful.{InRange}
use Rattle.plane.specs.declared.Span.{Span}

-- from a place in range to another
pub record Short (u : Span) : Type 0 where
  pub x-short : nat_abs u.x ≤ 2_097_152
  pub y-short : nat_abs u.y ≤ 2_097_152

-- from a place in range to any
pub record Wide (u : Span) : Type 0 where
  pub x-wide : nat_abs u.x ≤ 2_148_532_224
  pub y-wide : nat_abs u.y ≤ 2_148_532_224

pub record Spans (a b : Place) (r : Span) : Type 0 where
  pub x-is : r.x ≡ b.x -ℤ a.x
  pub y-is : r.y ≡ b.y -ℤ a.y
  pub wide : Wide r
  pub short : InRange b → Short r

-- 6, of three places
unfoldable pub flat_tri : Place → Place → Place → Bool
flat_tri a b c = not (lt_z (pos 0) (turn a b c))
