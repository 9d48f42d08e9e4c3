-- The mean of three values by weights, in 64 bits: every part of it fits, and it is in the range of the values. Assumes nothing.
use Rattle.std.specs.Prelude.{◌≤◌, ℤ, pos, negsuc, nat_abs, ◌+ℤ◌, ◌*ℤ◌, ◌<ℤ◌}
use Rattle.std.proofs.Common.{arith, SFits}
use mir.Syntax.{w32, w64}
use Rattle.whole.specs.Bound.{absℤ, abs-add, abs-mul, fits-abs}
use Rattle.whole.specs.Diff.{onℤ, sumℤ}
use Rattle.meaning.specs.Rounding.{floor}
use Rattle.laws.specs.Floor.{floor-is, floor-greatest, floor-least}
use Rattle.laws.specs.Weights.{mean-not-below, mean-not-above}
use Rattle.weighing.specs.declared.Weights.{Weights}
use Rattle.weighing.specs.Weighing.{sum_of, weighed, mean_of, Balanced, Part, Weighable}

-- ---- bounds

pub part-near : (x : ℤ) → Part x → nat_abs x ≤ 32_768
part-near x h = omega (arith, onℤ, absℤ x, h.from, h.to)

pub part-wide : (x : ℤ) → Part x → SFits w64 x
part-wide x h = fits-abs w64 (part-near x h) tt

pub weight-fits : (x : ℤ) → nat_abs x ≤ 8_796_093_022_208 → SFits w64 x
weight-fits x h = fits-abs w64 h tt

pub times-fit : (v x : ℤ) → (nat_abs v ≤ 8_796_093_022_208) × Part x → SFits w64 (v *ℤ x)
times-fit v x h = fits-abs w64 (abs-mul v x h.0 (part-near x h.1)) tt

-- no weight is above their sum
module _ (v : Weights) (h : Balanced v) where
  pub p-most : nat_abs v.p ≤ 8_796_093_022_208
  p-most = omega (arith, onℤ, h, absℤ v.p, sumℤ (v.p +ℤ v.q) v.r, sumℤ v.p v.q)

  pub q-most : nat_abs v.q ≤ 8_796_093_022_208
  q-most = omega (arith, onℤ, h, absℤ v.q, sumℤ (v.p +ℤ v.q) v.r, sumℤ v.p v.q)

  pub r-most : nat_abs v.r ≤ 8_796_093_022_208
  r-most = omega (arith, onℤ, h, absℤ v.r, sumℤ (v.p +ℤ v.q) v.r, sumℤ v.p v.q)

module _ (v : Weights) (a b c : ℤ) (m : Weighable v a b c) where
  abs-p : nat_abs (v.p *ℤ a) ≤ 288_230_376_151_711_744
  abs-p = abs-mul v.p a (p-most v m.balanced) (part-near a m.at_p)

  abs-q : nat_abs (v.q *ℤ b) ≤ 288_230_376_151_711_744
  abs-q = abs-mul v.q b (q-most v m.balanced) (part-near b m.at-q)

  abs-r : nat_abs (v.r *ℤ c) ≤ 288_230_376_151_711_744
  abs-r = abs-mul v.r c (r-most v m.balanced) (part-near c m.at-r)

  abs-two : nat_abs (v.p *ℤ a +ℤ v.q *ℤ b) ≤ 576_460_752_303_423_488
  abs-two = abs-add (v.p *ℤ a) (v.q *ℤ b) abs-p abs-q

  pub two-weighed-fit : SFits w64 (v.p *ℤ a +ℤ v.q *ℤ b)
  two-weighed-fit = fits-abs w64 abs-two tt

  weighed-near : nat_abs (weighed v a b c) ≤ 864_691_128_455_135_232
  weighed-near = abs-add (v.p *ℤ a +ℤ v.q *ℤ b) (v.r *ℤ c) abs-two abs-r

  pub weighed-fits : SFits w64 (weighed v a b c)
  weighed-fits = fits-abs w64 weighed-near tt

  -- what code asks of numerator and denominator
  pub mean-dividable : (pos 0 <ℤ sum_of v) × (nat_abs (weighed v a b c) ≤ 864_691_128_455_135_232)
  mean-dividable = (m.balanced.above, weighed-near)

  -- the mean of values in their range is in it
  mean-part : Part (floor (weighed v a b c) (sum_of v))
  mean-part =
      let h = m.balanced in
      let F = floor-is (weighed v a b c) (sum_of v) h.above in
      record {
        from = floor-greatest h.above (negsuc 32_767)
            (mean-not-below v.p v.q v.r h.p-from h.q-from h.r-from (negsuc 32_767) a b c m.at_p.from m.at-q.from m.at-r.from) F;
        to = floor-least h.above (pos 32_767) (mean-not-above v.p v.q v.r h.p-from h.q-from h.r-from (pos 32_767) a b c m.at_p.to m.at-q.to m.at-r.to) F;
      }

  pub mean-fits : SFits w32 (mean_of v a b c)
  unfolding mean_of
  mean-fits = fits-abs w32 (part-near (floor (weighed v a b c) (sum_of v)) mean-part) tt
