-- Laws of single steps, which the check finds alone today. Assumes nothing.
use Rattle.std.specs.Prelude.{◌≡◌, ℤ, ◌-ℤ◌}
use Rattle.std.specs.Int.{w32, w64}
use Rattle.std.proofs.Common.{SFits}
use Rattle.whole.specs.Bound.{abs-sub, fits-abs}
use Rattle.meaning.specs.declared.Place.{Place}
use Rattle.meaning.specs.Lawful.{InRange}
use Rattle.plane.specs.declared.Span.{Span}
use Rattle.plane.specs.Plane.{Spans}
use Rattle.plane.specs.Wide.{wide-abs}

pub wide-less : (a b : ℤ) → SFits w32 a → SFits w32 b → SFits w64 (a -ℤ b)
wide-less a b f g = fits-abs w64 (abs-sub a b (wide-abs a f) (wide-abs b g)) tt

pub spans-are : (a b : Place) (r : Span) → InRange a → SFits w32 b.x → SFits w32 b.y → r.x ≡ b.x -ℤ a.x → r.y ≡ b.y -ℤ a.y → Spans a b r
spans-are a b r h f g p q = record {
  x-is = p;
  y-is = q;
  wide = record { x-wide = rw p (abs-sub b.x a.x (wide-abs b.x f) h.x-near); y-wide = rw q (abs-sub b.y a.y (wide-abs b.y g) h.y-near) };
  short = λ k. record { x-short = rw p (abs-sub b.x a.x k.x-near h.x-near); y-short = rw q (abs-sub b.y a.y k.y-near h.y-near) };
}
