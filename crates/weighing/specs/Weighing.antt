-- The mean of three values by weights, as code has it. Assumes nothing.
use Rattle.std.specs.Prelude.{ℤ, pos, negsuc, ◌+ℤ◌, ◌*ℤ◌, ◌≤ℤ◌, ◌<ℤ◌}
use Rattle.meaning.specs.declared.Correction.{Correction}
use Rattle.meaning.specs.Mesh.{correction}
use Rattle.meaning.specs.Rounding.{floor}
use Rattle.weighing.specs.declared.Weights.{Weights}

abbrev pub sum_of : Weights → ℤ
sum_of v = v.p +ℤ v.q +ℤ v.r

abbrev pub weighed : Weights → ℤ → ℤ → ℤ → ℤ
weighed v a b c = v.p *ℤ a +ℤ v.q *ℤ b +ℤ v.r *ℤ c

unfoldable pub mean_of : Weights → ℤ → ℤ → ℤ → ℤ
mean_of v a b c = floor (weighed v a b c) (sum_of v)

-- each part
abbrev pub means : Weights → Correction → Correction → Correction → Correction
means v a b c = correction (mean_of v a.dx b.dx c.dx) (mean_of v a.dy b.dy c.dy)

-- ---- what the code knows

-- weights of a point that a triangle holds: at most the greatest twice-area there is
pub record Balanced (v : Weights) : Type 0 where
  pub p-from : pos 0 ≤ℤ v.p
  pub q-from : pos 0 ≤ℤ v.q
  pub r-from : pos 0 ≤ℤ v.r
  pub above : pos 0 <ℤ sum_of v
  pub most : sum_of v ≤ℤ pos 8_796_093_022_208

-- a part of a correction in its range
pub record Part (x : ℤ) : Type 0 where
  pub from : negsuc 32_767 ≤ℤ x
  pub to : x ≤ℤ pos 32_767

-- weights and three values
pub record Weighable (v : Weights) (a b c : ℤ) : Type 0 where
  pub balanced : Balanced v
  pub at_p : Part a
  pub at-q : Part b
  pub at-r : Part c
