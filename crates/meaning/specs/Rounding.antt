-- Rounding down, for W5's means ("rounded down (−3 and 0 give −2)") and W6's ("each part rounded down from the exact fraction"). Assumes nothing.
use Rattle.std.specs.Prelude.{◌/◌, ℤ, pos, negsuc, nat_abs, ◌+ℤ◌, ◌*ℤ◌, ◌≤ℤ◌, ◌<ℤ◌, ◌≡◌}

-- k is s / d, d above 0, rounded down: "the answer differs from the exact value by less than one unit and never exceeds it"
pub record Floor (s d k : ℤ) : Type 0 where
  pub not-above : (k *ℤ d) ≤ℤ s
  pub within-one : s <ℤ ((k +ℤ pos 1) *ℤ d)

-- the same, computed: −3 / 2 gives −2
abbrev pub floor : ℤ → ℤ → ℤ
floor (pos a) d = pos (a / nat_abs d)
floor (negsuc a) d = negsuc (a / nat_abs d)

-- two fractions are one
abbrev pub SameFraction : ℤ → ℤ → ℤ → ℤ → Type 0
SameFraction s d s' d' = s *ℤ d' ≡ s' *ℤ d
