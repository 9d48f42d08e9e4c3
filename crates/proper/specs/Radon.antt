-- Four points have a dependency: whole numbers, not all 0, whose sum of multiples is 0. Assumes nothing.
use Rattle.std.specs.Prelude.{◌≡◌, refl, List, [], ◌∷◌, ◌⊎◌, ℕ, zero, suc, ◌+◌, ◌<◌, ℤ, pos, negsuc, neg_ℤ, ◌+ℤ◌, ◌-ℤ◌, ◌*ℤ◌, ◌<ℤ◌}
use Rattle.std.proofs.Common.{inl, inr, arith}
use Rattle.whole.specs.Diff.{up, dn, onℤ}
use Rattle.whole.specs.Ring.{Expr, X, K, ◌:+◌, ◌:-◌, ◌:*◌, neg, solve, combine₁, ring4, ring6, ring7, ring10}
use Rattle.meaning.specs.Proper.{Point}

abbrev pub dot : ℤ → ℤ → ℤ → ℤ → ℤ → ℤ → ℤ → ℤ → ℤ
dot a b c d x y z w = (a *ℤ x +ℤ b *ℤ y) +ℤ (c *ℤ z +ℤ d *ℤ w)

abbrev pub size : ℤ → ℕ
size a = up a + dn a

pub record Tied (s t u v : Point) : Type 0 where
  pub a : ℤ
  pub b : ℤ
  pub c : ℤ
  pub d : ℤ
  pub some : 0 < size a + size b + size c + size d
  pub on-X : dot a b c d s.X t.X u.X v.X ≡ pos 0
  pub on-Y : dot a b c d s.Y t.Y u.Y v.Y ≡ pos 0
  pub on-W : dot a b c d s.W t.W u.W v.W ≡ pos 0

-- the determinant of three points
abbrev det : ℤ → ℤ → ℤ → ℤ → ℤ → ℤ → ℤ → ℤ → ℤ → ℤ
det x y w x' y' w' x'' y'' w'' = x *ℤ (y' *ℤ w'' -ℤ y'' *ℤ w') +ℤ x' *ℤ (y'' *ℤ w -ℤ y *ℤ w'') +ℤ x'' *ℤ (y *ℤ w' -ℤ y' *ℤ w)

abbrev det_expr : Expr → Expr → Expr → Expr → Expr → Expr → Expr → Expr → Expr → Expr
det_expr x y w x' y' w' x'' y'' w'' = x :* (y' :* w'' :- y'' :* w') :+ x' :* (y'' :* w :- y :* w'') :+ x'' :* (y :* w' :- y' :* w)

abbrev pub volume : Point → Point → Point → ℤ
volume s t u = det s.X s.Y s.W t.X t.Y t.W u.X u.Y u.W

abbrev cramer_expr : Expr → Expr → Expr → Expr → Expr
cramer_expr x y z w =
    (det_expr (X 3) (X 4) (X 5) (X 6) (X 7) (X 8) (X 9) (X 10) (X 11) :* x :+ neg (det_expr (X 0) (X 1) (X 2) (X 6) (X 7) (X 8) (X 9) (X 10) (X 11)) :* y)
    :+ (det_expr (X 0) (X 1) (X 2) (X 3) (X 4) (X 5) (X 9) (X 10) (X 11) :* z :+ neg (det_expr (X 0) (X 1) (X 2) (X 3) (X 4) (X 5) (X 6) (X 7) (X 8)) :* w)

module _ (s t u v : Point) where
  abbrev Crossed : ℤ → ℤ → ℤ → ℤ → Type 0
  Crossed x y z w = dot (volume t u v) (neg_ℤ (volume s u v)) (volume s t v) (neg_ℤ (volume s t u)) x y z w ≡ pos 0

  abbrev coords : List ℤ
  coords = s.X ∷ s.Y ∷ s.W ∷ t.X ∷ t.Y ∷ t.W ∷ u.X ∷ u.Y ∷ u.W ∷ v.X ∷ v.Y ∷ v.W ∷ []

  cramer-X : Crossed s.X t.X u.X v.X
  cramer-X = solve coords (cramer_expr (X 0) (X 3) (X 6) (X 9)) (K (pos 0)) tt

  cramer-Y : Crossed s.Y t.Y u.Y v.Y
  cramer-Y = solve coords (cramer_expr (X 1) (X 4) (X 7) (X 10)) (K (pos 0)) tt

  cramer-W : Crossed s.W t.W u.W v.W
  cramer-W = solve coords (cramer_expr (X 2) (X 5) (X 8) (X 11)) (K (pos 0)) tt

-- three on a line: the dependency that two of the coordinates show
abbrev minor_expr : Expr → Expr → Expr → Expr → Expr → Expr → Expr → Expr → Expr → Expr → Expr
minor_expr x w x' w' x'' w'' z z' z'' o = ((x' :* w'' :- x'' :* w') :* z :+ (x'' :* w :- x :* w'') :* z') :+ ((x :* w' :- x' :* w) :* z'' :+ K (pos 0) :* o)

minor-x : (x w x' w' x'' w'' o : ℤ) → dot (x' *ℤ w'' -ℤ x'' *ℤ w') (x'' *ℤ w -ℤ x *ℤ w'') (x *ℤ w' -ℤ x' *ℤ w) (pos 0) x x' x'' o ≡ pos 0
minor-x x w x' w' x'' w'' o = ring7 (λ x w x' w' x'' w'' o. (minor_expr x w x' w' x'' w'' x x' x'' o, K (pos 0))) x w x' w' x'' w'' o tt

minor-w : (x w x' w' x'' w'' o : ℤ) → dot (x' *ℤ w'' -ℤ x'' *ℤ w') (x'' *ℤ w -ℤ x *ℤ w'') (x *ℤ w' -ℤ x' *ℤ w) (pos 0) w w' w'' o ≡ pos 0
minor-w x w x' w' x'' w'' o = ring7 (λ x w x' w' x'' w'' o. (minor_expr x w x' w' x'' w'' w w' w'' o, K (pos 0))) x w x' w' x'' w'' o tt

module _ (s t u v : Point) (flat : volume s t u ≡ pos 0) where
  minor-y : dot (t.X *ℤ u.W -ℤ u.X *ℤ t.W) (u.X *ℤ s.W -ℤ s.X *ℤ u.W) (s.X *ℤ t.W -ℤ t.X *ℤ s.W) (pos 0) s.Y t.Y u.Y v.Y ≡ pos 0
  minor-y = combine₁ (negsuc 0) flat
      (ring10 (λ x y w x' y' w' x'' y'' w'' o. (minor_expr x w x' w' x'' w'' y y' y'' o :- K (pos 0), K (negsuc 0) :* (det_expr x y w x' y' w' x'' y'' w'' :- K (pos 0))))
      s.X s.Y s.W t.X t.Y t.W u.X u.Y u.W v.Y tt)

  minor-z : dot (t.Y *ℤ u.W -ℤ u.Y *ℤ t.W) (u.Y *ℤ s.W -ℤ s.Y *ℤ u.W) (s.Y *ℤ t.W -ℤ t.Y *ℤ s.W) (pos 0) s.X t.X u.X v.X ≡ pos 0
  minor-z = combine₁ (pos 1) flat
      (ring10 (λ x y w x' y' w' x'' y'' w'' o. (minor_expr y w y' w' y'' w'' x x' x'' o :- K (pos 0), K (pos 1) :* (det_expr x y w x' y' w' x'' y'' w'' :- K (pos 0))))
      s.X s.Y s.W t.X t.Y t.W u.X u.Y u.W v.X tt)

-- two at one place
same_place : (x w x' w' o o' : ℤ) → x *ℤ w' -ℤ x' *ℤ w ≡ pos 0 → dot w' (neg_ℤ w) (pos 0) (pos 0) x x' o o' ≡ pos 0
same_place x w x' w' o o' e = combine₁ (pos 1) e
    (ring6 (λ x w x' w' o o'. ((w' :* x :+ neg w :* x') :+ (K (pos 0) :* o :+ K (pos 0) :* o') :- K (pos 0), K (pos 1) :* (x :* w' :- x' :* w :- K (pos 0)))) x w x' w' o o' tt)

same_w : (w w' o o' : ℤ) → dot w' (neg_ℤ w) (pos 0) (pos 0) w w' o o' ≡ pos 0
same_w w w' o o' = ring4 (λ w w' o o'. ((w' :* w :+ neg w :* w') :+ (K (pos 0) :* o :+ K (pos 0) :* o'), K (pos 0))) w w' o o' tt

zero_or : (z : ℤ) → (z ≡ pos 0) ⊎ (0 < size z)
zero_or (pos zero) = inl refl
zero_or (pos (suc n)) = inr (omega arith)
zero_or (negsuc n) = inr (omega arith)

size-neg : (z : ℤ) → size (neg_ℤ z) ≡ size z
size-neg (pos zero) = refl
size-neg (pos (suc n)) = omega arith
size-neg (negsuc n) = omega arith

pub tied : (s t u v : Point) → pos 0 <ℤ t.W → Tied s t u v
tied s t u v h = go (zero_or (volume s t u)) (zero_or (s.X *ℤ t.W -ℤ t.X *ℤ s.W)) (zero_or (s.Y *ℤ t.W -ℤ t.Y *ℤ s.W))
  where
    heavy : (w : ℤ) → pos 0 <ℤ w → 0 < size w
    heavy w h = omega (arith, onℤ)

    go : (volume s t u ≡ pos 0) ⊎ (0 < size (volume s t u)) → (s.X *ℤ t.W -ℤ t.X *ℤ s.W ≡ pos 0) ⊎ (0 < size (s.X *ℤ t.W -ℤ t.X *ℤ s.W))
        → (s.Y *ℤ t.W -ℤ t.Y *ℤ s.W ≡ pos 0) ⊎ (0 < size (s.Y *ℤ t.W -ℤ t.Y *ℤ s.W)) → Tied s t u v
    go (inr k) m n = record {
      a = volume t u v;
      b = neg_ℤ (volume s u v);
      c = volume s t v;
      d = neg_ℤ (volume s t u);
      some = omega (arith, size-neg (volume s t u));
      on-X = cramer-X s t u v;
      on-Y = cramer-Y s t u v;
      on-W = cramer-W s t u v;
    }
    go (inl e) (inr k) n = record {
      a = t.X *ℤ u.W -ℤ u.X *ℤ t.W;
      b = u.X *ℤ s.W -ℤ s.X *ℤ u.W;
      c = s.X *ℤ t.W -ℤ t.X *ℤ s.W;
      d = pos 0;
      some = omega arith;
      on-X = minor-x s.X s.W t.X t.W u.X u.W v.X;
      on-Y = minor-y s t u v e;
      on-W = minor-w s.X s.W t.X t.W u.X u.W v.W;
    }
    go (inl e) (inl f) (inr k) = record {
      a = t.Y *ℤ u.W -ℤ u.Y *ℤ t.W;
      b = u.Y *ℤ s.W -ℤ s.Y *ℤ u.W;
      c = s.Y *ℤ t.W -ℤ t.Y *ℤ s.W;
      d = pos 0;
      some = omega arith;
      on-X = minor-z s t u v e;
      on-Y = minor-x s.Y s.W t.Y t.W u.Y u.W v.Y;
      on-W = minor-w s.Y s.W t.Y t.W u.Y u.W v.W;
    }
    go (inl e) (inl f) (inl g) = record {
      a = t.W;
      b = neg_ℤ s.W;
      c = pos 0;
      d = pos 0;
      some = omega (arith, heavy t.W h);
      on-X = same_place s.X s.W t.X t.W u.X v.X f;
      on-Y = same_place s.Y s.W t.Y t.W u.Y v.Y g;
      on-W = same_w s.W t.W u.W v.W;
    }
