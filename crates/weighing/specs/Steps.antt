-- Laws of single steps, which the check finds alone today. Assumes nothing.
use Rattle.std.specs.Prelude.{◌≡◌, refl, true, false, ℕ, zero, suc, ◌≤◌, ◌<◌, ℤ, pos, nat_abs, ◌+ℤ◌, ◌-ℤ◌, ◌<ℤ◌}
use Rattle.std.proofs.Common.{sym, ◌∙◌, le_trans, arith, lit≤, SFits, to_z, of_z, to_z-of_z}
use Rattle.std.specs.Int.Signed.{lt_z, quot_z, rem_z, mag_rem}
use mir.Syntax.{w32, w64}
use Rattle.whole.specs.Bound.{abs-add, abs-sub, fits-abs}
use Rattle.whole.specs.Half.{abs-quot}
use Rattle.whole.specs.Order.{le_of_eq, lt_not_le}
use Rattle.whole.specs.Room.{fits-quot}
use Rattle.meaning.specs.declared.Correction.{Correction}
use Rattle.meaning.specs.Lawful.{InBounds}
use Rattle.meaning.specs.Rounding.{floor}
use Rattle.laws.specs.Floor.{floor-quot}
use Rattle.weighing.specs.declared.Weights.{Weights}
use Rattle.weighing.specs.Weighing.{sum_of, Balanced, Part, Weighable}
use Rattle.weighing.specs.MeanLaw.{part-near, p-most, q-most, r-most}

-- ---- bounds

module _ (v : Weights) (h : Balanced v) where
  pub two-fit : SFits w64 (v.p +ℤ v.q)
  two-fit = fits-abs w64 (abs-add v.p v.q (p-most v h) (q-most v h)) tt

  pub sum_fits : SFits w64 (sum_of v)
  sum_fits = fits-abs w64 (abs-add (v.p +ℤ v.q) v.r (abs-add v.p v.q (p-most v h) (q-most v h)) (r-most v h)) tt

-- ---- rounded down

-- a number above 0 is no 0 in its bits
pub above-bits : (d : ℤ) → SFits w64 d → pos 0 <ℤ d → 0 < of_z w64 d
above-bits d f h = go (of_z w64 d) (sym (to_z-of_z f))
  where
    go : (k : ℕ) → d ≡ to_z w64 k → 0 < k
    go zero e = absurd (lt_not_le h (rw e (le_of_eq refl)))
    go (suc k) e = omega arith

module _ (s d : ℤ) (h : (pos 0 <ℤ d) × (nat_abs s ≤ 864_691_128_455_135_232)) where
  pub rest-fits : SFits w64 s → SFits w64 (rem_z s d)
  rest-fits f = record { sfits = omega (arith, mag_rem s d, f.sfits) }

  pub quotient_fits : SFits w64 (quot_z s d)
  quotient_fits = fits-quot w64 s d 864_691_128_455_135_232 h.1 tt

  pub quotient-less-fits : SFits w64 (quot_z s d -ℤ pos 1)
  quotient-less-fits = fits-abs w64 (abs-sub (quot_z s d) (pos 1) {n = 1} (le_trans (abs-quot s d) h.1) (lit≤ tt)) tt

  pub floor-less : lt_z (rem_z s d) (pos 0) ≡ true → quot_z s d -ℤ pos 1 ≡ floor s d
  floor-less r = sym (floor-quot s d h.0 ∙ rw r)

  pub floor-kept : lt_z (rem_z s d) (pos 0) ≡ false → quot_z s d ≡ floor s d
  floor-kept r = sym (floor-quot s d h.0 ∙ rw r)

-- ---- each part of a correction

dx-part : (c : Correction) → InBounds c → Part c.dx
dx-part c h = record { from = h.dx-from; to = h.dx-to }

dy-part : (c : Correction) → InBounds c → Part c.dy
dy-part c h = record { from = h.dy-from; to = h.dy-to }

pub dx-fits : (c : Correction) → InBounds c → SFits w32 c.dx
dx-fits c h = fits-abs w32 (part-near c.dx (dx-part c h)) tt

pub dy-fits : (c : Correction) → InBounds c → SFits w32 c.dy
dy-fits c h = fits-abs w32 (part-near c.dy (dy-part c h)) tt

module _ (v : Weights) (a b c : Correction) (h : Balanced v) (i : InBounds a) (j : InBounds b) (k : InBounds c) where
  pub dx-weighable : Weighable v a.dx b.dx c.dx
  dx-weighable = record { balanced = h; at_p = dx-part a i; at-q = dx-part b j; at-r = dx-part c k }

  pub dy-weighable : Weighable v a.dy b.dy c.dy
  dy-weighable = record { balanced = h; at_p = dy-part a i; at-q = dy-part b j; at-r = dy-part c k }
