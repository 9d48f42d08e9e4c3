-- W6: what one row makes of a point: the mean rounded down, and no other number; at a corner the corner's value; between the least and the
-- greatest of the three; and on a side of two rows both make one fraction of it. Of any value f of a node. Assumes nothing.
use Rattle.std.specs.Prelude.{Bool, true, false, ◌||◌, ◌≡◌, refl, ℕ, eqb, ℤ, pos, neg_ℤ, ◌+ℤ◌, ◌*ℤ◌, ◌≤ℤ◌, ◌<ℤ◌}
use mathlib.Core.List.{Memᴰ}
use Rattle.std.proofs.Common.{sym, ap, subst, ◌∙◌, arith, eqb-true}
use Rattle.std.proofs.Math.Path.{subst⁻¹}
use Rattle.whole.specs.Diff.{onℤ}
use Rattle.whole.specs.Ring.{K, ◌:+◌, ◌:-◌, ◌:*◌, neg, combine₁, ring6, ring10}
use Rattle.meaning.specs.declared.Place.{Place}
use Rattle.meaning.specs.declared.Tri.{Tri}
use Rattle.meaning.specs.Mesh.{Mesh, Arrow, tri, arrow, arrows, holds_node, at, turn, twice_area}
use Rattle.meaning.specs.Rounding.{Floor, floor, SameFraction}
use Rattle.meaning.specs.Asking.{HoldsPoint, weight_p, weight_q, weight_r, weighted, weights, mean_in}
use Rattle.laws.specs.Area.{turn_expr, turn-cycle, turn-from, turn-to, turn-back}
use Rattle.laws.specs.Floor.{floor-is, floor-only, floor-exact, floor-same, floor-greatest, floor-least}
use Rattle.laws.specs.Weights.{weights-sum, turned, weighted-turned, area-turned, weighted-corner, mean-not-below, mean-not-above}

-- the weights' sum is the twice-area
pub mean-by-area : (f : ℕ → ℤ) (m : Mesh) (P : Place) (t : Tri) → mean_in f m P t ≡ floor (weighted f m P t) (twice_area m t)
unfolding mean_in
mean-by-area f m P t = ap (floor (weighted f m P t)) (weights-sum m P t)

-- rows that make one fraction of a point tell one value
pub mean-same : (f g : ℕ → ℤ) (m n : Mesh) (P : Place) (t u : Tri) → pos 0 <ℤ twice_area m t → pos 0 <ℤ twice_area n u →
    SameFraction (weighted f m P t) (twice_area m t) (weighted g n P u) (twice_area n u) → mean_in f m P t ≡ mean_in g n P u
mean-same f g m n P t u h k e = mean-by-area f m P t ∙ floor-same (weighted f m P t) (twice_area m t) (weighted g n P u) (twice_area n u) h k e ∙ sym (mean-by-area g n P u)

-- ---- a corner

-- a node that a row names is one of its three corners
pub data CornerOf (t : Tri) : ℕ → Type 0 where
  is-p : CornerOf t t.p
  is-q : CornerOf t t.q
  is-r : CornerOf t t.r

pub corner-of : (t : Tri) (k : ℕ) → holds_node k t ≡ true → CornerOf t k
corner-of t k h = go (eqb t.p k) refl (eqb t.q k) refl h
  where
    go : (a : Bool) → eqb t.p k ≡ a → (b : Bool) → eqb t.q k ≡ b → a || b || eqb t.r k ≡ true → CornerOf t k
    go true e b f h = subst (CornerOf t) (eqb-true t.p k e) is-p
    go false e true f h = subst (CornerOf t) (eqb-true t.q k f) is-q
    go false e false f h = subst (CornerOf t) (eqb-true t.r k h) is-r

-- there all the weight is its own
weighted-at : (f : ℕ → ℤ) (m : Mesh) (t : Tri) {k : ℕ} → CornerOf t k → weighted f m (at m k) t ≡ f k *ℤ twice_area m t
weighted-at f m t is-p = weighted-corner f m t
weighted-at f m t is-q = weighted-turned f m (at m t.q) t ∙ weighted-corner f m (turned t) ∙ ap (λ d. f t.q *ℤ d) (sym (area-turned m t))
weighted-at f m t is-r =
    weighted-turned f m (at m t.r) t ∙ weighted-turned f m (at m t.r) (turned t) ∙ weighted-corner f m (turned (turned t))
    ∙ ap (λ d. f t.r *ℤ d) (sym (area-turned m t ∙ area-turned m (turned t)))

-- A ROW HOLDS ITS CORNERS.
pub corner-holds : (m : Mesh) (t : Tri) → pos 0 <ℤ twice_area m t → {k : ℕ} → CornerOf t k → HoldsPoint m (at m k) t
unfolding twice_area
corner-holds m t above is-p = record {
  off-qr = omega (arith, onℤ, turn-cycle (at m t.p) (at m t.q) (at m t.r));
  off-rp = omega (arith, onℤ, turn-to (at m t.r) (at m t.p));
  off-pq = omega (arith, onℤ, turn-from (at m t.p) (at m t.q));
}
corner-holds m t above is-q = record {
  off-qr = omega (arith, onℤ, turn-from (at m t.q) (at m t.r));
  off-rp = omega (arith, onℤ, turn-cycle (at m t.p) (at m t.q) (at m t.r), turn-cycle (at m t.q) (at m t.r) (at m t.p));
  off-pq = omega (arith, onℤ, turn-to (at m t.p) (at m t.q));
}
corner-holds m t above is-r = record {
  off-qr = omega (arith, onℤ, turn-to (at m t.q) (at m t.r));
  off-rp = omega (arith, onℤ, turn-from (at m t.r) (at m t.p));
  off-pq = omega (arith, onℤ, above);
}

-- ---- the mean

module _ (f : ℕ → ℤ) (m : Mesh) (t : Tri) (above : pos 0 <ℤ twice_area m t) where
  module _ (P : Place) where
    -- "ROUNDED DOWN FROM THE EXACT FRACTION; the answer differs from the exact value by less than one unit and never exceeds it."
    pub mean-floor : Floor (weighted f m P t) (twice_area m t) (mean_in f m P t)
    mean-floor = subst (Floor (weighted f m P t) (twice_area m t)) (sym (mean-by-area f m P t)) (floor-is (weighted f m P t) (twice_area m t) above)

    -- AND NO OTHER WHOLE NUMBER IS.
    pub mean-only : (k : ℤ) → Floor (weighted f m P t) (twice_area m t) k → mean_in f m P t ≡ k
    mean-only k h = mean-by-area f m P t ∙ floor-only above k h

    -- NOT BELOW THE LEAST OF THE THREE VALUES, NOR ABOVE THE GREATEST, where the row holds the point.
    module _ (h : HoldsPoint m P t) where
      pub mean-from-least : (l : ℤ) → l ≤ℤ f t.p → l ≤ℤ f t.q → l ≤ℤ f t.r → l ≤ℤ mean_in f m P t
      unfolding weighted weights
      mean-from-least l a b c =
          let n = mean-not-below (weight_p m P t) (weight_q m P t) (weight_r m P t) h.off-qr h.off-rp h.off-pq l (f t.p) (f t.q) (f t.r) a b c in
          floor-greatest above l (subst (λ d. (l *ℤ d) ≤ℤ weighted f m P t) (weights-sum m P t) n) mean-floor

      pub mean-to-greatest : (g : ℤ) → f t.p ≤ℤ g → f t.q ≤ℤ g → f t.r ≤ℤ g → mean_in f m P t ≤ℤ g
      unfolding weighted weights
      mean-to-greatest g a b c =
          let n = mean-not-above (weight_p m P t) (weight_q m P t) (weight_r m P t) h.off-qr h.off-rp h.off-pq g (f t.p) (f t.q) (f t.r) a b c in
          floor-least above g (subst (λ d. weighted f m P t ≤ℤ (g *ℤ d)) (weights-sum m P t) n) mean-floor

  -- AT A CORNER: ITS VALUE, EXACTLY.
  pub mean-corner : {k : ℕ} → CornerOf t k → mean_in f m (at m k) t ≡ f k
  mean-corner {k} c = mean-by-area f m (at m k) t ∙ floor-exact above (f k) (weighted-at f m t c)

-- ---- a side of two rows

-- (x, y, z) are the corners of row t in turn, from one of them on
record From (m : Mesh) (t : Tri) (x y : ℕ) : Type 0 where
  z : ℕ
  same_area : twice_area m t ≡ twice_area m (tri x y z)
  same-weighted : (f : ℕ → ℤ) (P : Place) → weighted f m P t ≡ weighted f m P (tri x y z)

from-arrow : (m : Mesh) (t : Tri) {e : Arrow} → Memᴰ e (arrows t) → From m t e.from e.to
from-arrow m t (Memᴰ.head e) = subst⁻¹ (λ d. From m t d.from d.to) e (record { z = t.r; same_area = refl; same-weighted = λ f P. refl })
from-arrow m t (Memᴰ.tail (Memᴰ.head e)) =
    subst⁻¹ (λ d. From m t d.from d.to) e (record { z = t.p; same_area = area-turned m t; same-weighted = λ f P. weighted-turned f m P t })
from-arrow m t {e = e} (Memᴰ.tail (Memᴰ.tail (Memᴰ.tail i))) = elim i [ ]
from-arrow m t (Memᴰ.tail (Memᴰ.tail (Memᴰ.head e))) =
    subst⁻¹ (λ d. From m t d.from d.to) e
    (record { z = t.q; same_area = area-turned m t ∙ area-turned m (turned t); same-weighted = λ f P. weighted-turned f m P t ∙ weighted-turned f m P (turned t) })

-- P on the line of A and B: the share of A, in a row on the left with C and in a row on the right with D
share-same : (A B C D P : Place) → turn A B P ≡ pos 0 → turn B C P *ℤ turn B A D ≡ turn D B P *ℤ turn A B C
share-same A B C D P e =
    combine₁ (neg_ℤ (turn B C D)) e
    (ring10 (λ ax ay bx by cx cy dx dy x y. (turn_expr bx by cx cy x y :* turn_expr bx by ax ay dx dy :- turn_expr dx dy bx by x y :* turn_expr ax ay bx by cx cy, neg (turn_expr bx by cx cy dx dy) :* (turn_expr ax ay bx by x y :- K (pos 0))))
    A.x A.y B.x B.y C.x C.y D.x D.y P.x P.y tt)

-- two means in which the third corners have no weight
shares-mean : (a b c d a' b' c' d' u v w w' : ℤ) → c ≡ pos 0 → c' ≡ pos 0 → a *ℤ d' ≡ b' *ℤ d → b *ℤ d' ≡ a' *ℤ d →
    SameFraction (a *ℤ u +ℤ b *ℤ v +ℤ c *ℤ w) d (a' *ℤ v +ℤ b' *ℤ u +ℤ c' *ℤ w') d'
shares-mean a b c d a' b' c' d' u v w w' none none' e g =
    (λ i. (a *ℤ u +ℤ b *ℤ v +ℤ none i *ℤ w) *ℤ d')
    ∙ ring6 (λ a b d u v w. ((a :* u :+ b :* v :+ K (pos 0) :* w) :* d, a :* d :* u :+ b :* d :* v)) a b d' u v w tt
    ∙ (λ i. e i *ℤ u +ℤ g i *ℤ v)
    ∙ ring6 (λ a b d u v w. (b :* d :* u :+ a :* d :* v, (a :* v :+ b :* u :+ K (pos 0) :* w) :* d)) a' b' d u v w' tt
    ∙ sym (λ i. (a' *ℤ v +ℤ b' *ℤ u +ℤ none' i *ℤ w') *ℤ d)

edge_same : (f : ℕ → ℤ) (m : Mesh) (P : Place) (x y z z' : ℕ) → turn (at m x) (at m y) P ≡ pos 0 →
    SameFraction (weighted f m P (tri x y z)) (twice_area m (tri x y z)) (weighted f m P (tri y x z')) (twice_area m (tri y x z'))
unfolding weighted twice_area
edge_same f m P x y z z' e =
    let t = tri x y z in
    let u = tri y x z' in
    let back = turn-back (at m x) (at m y) P e in
    shares-mean (weight_p m P t) (weight_q m P t) (weight_r m P t) (twice_area m t) (weight_p m P u) (weight_q m P u) (weight_r m P u) (twice_area m u) (f x) (f y) (f z) (f z') e back
    (share-same (at m x) (at m y) (at m z) (at m z') P e) (sym (share-same (at m y) (at m x) (at m z') (at m z) P back))

-- the same numbers, the same fractions
fraction-is : {s s' d d' r r' e e' : ℤ} → s ≡ s' → d ≡ d' → r ≡ r' → e ≡ e' → SameFraction s' d' r' e' → SameFraction s d r e
fraction-is p q v w h = (λ i. p i *ℤ w i) ∙ h ∙ sym (λ i. v i *ℤ q i)

-- A POINT ON A SIDE OF TWO ROWS: BOTH MAKE ONE FRACTION OF IT.
pub side_same : (f : ℕ → ℤ) (m : Mesh) (P : Place) {t u : Tri} {x y : ℕ} → Memᴰ (arrow x y) (arrows t) → Memᴰ (arrow y x) (arrows u) →
    turn (at m x) (at m y) P ≡ pos 0 → SameFraction (weighted f m P t) (twice_area m t) (weighted f m P u) (twice_area m u)
side_same f m P {t} {u} {x} {y} i j e =
    let T = from-arrow m t i in
    let U = from-arrow m u j in
    fraction-is (T.same-weighted f P) T.same_area (U.same-weighted f P) U.same_area (edge_same f m P x y T.z U.z e)
