-- W5: the mean of two corrections, rounded down, negative ones too (Floor): it lies between the two, and in the range in which both are.
-- Assumes nothing.
use Rattle.std.specs.Prelude.{◌≡◌, ℤ, pos, negsuc, ◌+ℤ◌, ◌≤ℤ◌}
use Rattle.std.proofs.Common.{ap₂, arith}
use Rattle.std.proofs.Math.IntN.{+ℤ_comm}
use Rattle.whole.specs.Diff.{onℤ, sumℤ, mulℤ}
use Rattle.meaning.specs.declared.Correction.{Correction}
use Rattle.meaning.specs.Mesh.{correction}
use Rattle.meaning.specs.Lawful.{InBounds}
use Rattle.meaning.specs.Rounding.{Floor, floor}
use Rattle.meaning.specs.Split.{mean}
use Rattle.laws.specs.Floor.{floor-is, floor-greatest, floor-least}

-- ---- of two numbers

module _ (a b : ℤ) where
  half-sum : Floor (a +ℤ b) (pos 2) (floor (a +ℤ b) (pos 2))
  half-sum = floor-is (a +ℤ b) (pos 2) (omega (arith, onℤ))

  -- not below what both reach, not above what neither passes
  pub mean-from : (l : ℤ) → l ≤ℤ a → l ≤ℤ b → l ≤ℤ floor (a +ℤ b) (pos 2)
  mean-from l p q = floor-greatest (omega (arith, onℤ)) l (omega (arith, onℤ, sumℤ a b, mulℤ l (pos 2))) half-sum

  pub mean-to : (g : ℤ) → a ≤ℤ g → b ≤ℤ g → floor (a +ℤ b) (pos 2) ≤ℤ g
  mean-to g p q = floor-least (omega (arith, onℤ)) g (omega (arith, onℤ, sumℤ a b, mulℤ g (pos 2))) half-sum

-- ---- of two corrections

-- e is the mean of c and d, each part rounded down
pub record MeanDown (e c d : Correction) : Type 0 where
  pub dx-mean : Floor (c.dx +ℤ d.dx) (pos 2) e.dx
  pub dy-mean : Floor (c.dy +ℤ d.dy) (pos 2) e.dy

pub mean-down : (c d : Correction) → MeanDown (mean c d) c d
mean-down c d = record { dx-mean = half-sum c.dx d.dx; dy-mean = half-sum c.dy d.dy }

-- A MEAN OF TWO CORRECTIONS IN THEIR RANGE IS IN IT.
pub mean-bounds : (c d : Correction) → InBounds c → InBounds d → InBounds (mean c d)
mean-bounds c d p q = record {
  dx-from = mean-from c.dx d.dx (negsuc 32_767) p.dx-from q.dx-from;
  dx-to = mean-to c.dx d.dx (pos 32_767) p.dx-to q.dx-to;
  dy-from = mean-from c.dy d.dy (negsuc 32_767) p.dy-from q.dy-from;
  dy-to = mean-to c.dy d.dy (pos 32_767) p.dy-to q.dy-to;
}

-- either way round
pub mean-swap : (c d : Correction) → mean c d ≡ mean d c
mean-swap c d = ap₂ (λ (x y : ℤ). correction (floor x (pos 2)) (floor y (pos 2))) (+ℤ_comm c.dx d.dx) (+ℤ_comm c.dy d.dy)
