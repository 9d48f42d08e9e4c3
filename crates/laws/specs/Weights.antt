-- W6: the weights of a point in a row add up to the row's twice-area, wherever the point is; at a corner all the weight is its own; and where none is
-- below 0 the weighted mean of three values lies between them. Assumes nothing.
use Rattle.std.specs.Prelude.{◌≡◌, ℕ, ℤ, pos, ◌+ℤ◌, ◌*ℤ◌, ◌≤ℤ◌}
use Rattle.std.proofs.Common.{arith}
use Rattle.whole.specs.Diff.{onℤ, sumℤ}
use Rattle.whole.specs.Ring.{◌:+◌, ◌:*◌, ring4, ring6, ring8, ring9}
use Rattle.whole.specs.Order.{times-le}
use Rattle.meaning.specs.declared.Place.{Place}
use Rattle.meaning.specs.declared.Tri.{Tri}
use Rattle.meaning.specs.Mesh.{Mesh, tri, at, twice_area}
use Rattle.meaning.specs.Asking.{weight_p, weight_q, weight_r, weighted, weights}
use Rattle.laws.specs.Area.{turn_expr, turn-cycle}

module _ (m : Mesh) (P : Place) (t : Tri) where
  -- THE WEIGHTS ADD UP TO THE ROW'S TWICE-AREA.
  pub weights-sum : weights m P t ≡ twice_area m t
  unfolding weights twice_area
  weights-sum =
      ring8 (λ a b c d e f x y. (turn_expr c d e f x y :+ turn_expr e f a b x y :+ turn_expr a b c d x y, turn_expr a b c d e f))
      (at m t.p).x (at m t.p).y (at m t.q).x (at m t.q).y (at m t.r).x (at m t.r).y P.x P.y tt

-- ---- the corners in turn

-- the corners taken from the next on
abbrev pub turned : Tri → Tri
turned t = tri t.q t.r t.p

pub weighted-turned : (f : ℕ → ℤ) (m : Mesh) (P : Place) (t : Tri) → weighted f m P t ≡ weighted f m P (turned t)
unfolding weighted
weighted-turned f m P t = ring6 (λ a b c u v w. (a :* u :+ b :* v :+ c :* w, b :* v :+ c :* w :+ a :* u)) (weight_p m P t) (weight_q m P t) (weight_r m P t) (f t.p) (f t.q) (f t.r) tt

pub area-turned : (m : Mesh) (t : Tri) → twice_area m t ≡ twice_area m (turned t)
unfolding twice_area
area-turned m t = turn-cycle (at m t.p) (at m t.q) (at m t.r)

-- at the first corner all the weight is its own
pub weighted-corner : (f : ℕ → ℤ) (m : Mesh) (t : Tri) → weighted f m (at m t.p) t ≡ f t.p *ℤ twice_area m t
unfolding weighted twice_area
weighted-corner f m t =
    ring9 (λ a b c d e g u v w. (turn_expr c d e g a b :* u :+ turn_expr e g a b a b :* v :+ turn_expr a b c d a b :* w, u :* turn_expr a b c d e g))
    (at m t.p).x (at m t.p).y (at m t.q).x (at m t.q).y (at m t.r).x (at m t.r).y (f t.p) (f t.q) (f t.r) tt

-- ---- the mean is between

-- weights that are not below 0
module _ (a b c : ℤ) (i : pos 0 ≤ℤ a) (j : pos 0 ≤ℤ b) (k : pos 0 ≤ℤ c) where
  weighted-le : (u v w u' v' w' : ℤ) → u ≤ℤ u' → v ≤ℤ v' → w ≤ℤ w' → (a *ℤ u +ℤ b *ℤ v +ℤ c *ℤ w) ≤ℤ (a *ℤ u' +ℤ b *ℤ v' +ℤ c *ℤ w')
  weighted-le u v w u' v' w' x y z =
      omega (
        arith,
        onℤ,
        times-le a u u' i x,
        times-le b v v' j y,
        times-le c w w' k z,
        sumℤ (a *ℤ u) (b *ℤ v),
        sumℤ (a *ℤ u +ℤ b *ℤ v) (c *ℤ w),
        sumℤ (a *ℤ u') (b *ℤ v'),
        sumℤ (a *ℤ u' +ℤ b *ℤ v') (c *ℤ w'),
      )

  spread : (l : ℤ) → l *ℤ (a +ℤ b +ℤ c) ≡ a *ℤ l +ℤ b *ℤ l +ℤ c *ℤ l
  spread l = ring4 (λ l a b c. (l :* (a :+ b :+ c), a :* l :+ b :* l :+ c :* l)) l a b c tt

  pub mean-not-below : (l u v w : ℤ) → l ≤ℤ u → l ≤ℤ v → l ≤ℤ w → (l *ℤ (a +ℤ b +ℤ c)) ≤ℤ (a *ℤ u +ℤ b *ℤ v +ℤ c *ℤ w)
  mean-not-below l u v w x y z = rw (spread l) (weighted-le l l l u v w x y z)

  pub mean-not-above : (g u v w : ℤ) → u ≤ℤ g → v ≤ℤ g → w ≤ℤ g → (a *ℤ u +ℤ b *ℤ v +ℤ c *ℤ w) ≤ℤ (g *ℤ (a +ℤ b +ℤ c))
  mean-not-above g u v w x y z = rw (spread g) (weighted-le u v w g g g x y z)
