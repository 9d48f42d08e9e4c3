-- W6 and W7: on a lawful mesh that draws neither 11 nor 12 any two rows that hold a point make one fraction of it, and so tell the same. The corners of
-- a row by the weights of a point are a sum of nodes at the point, and on such a mesh sums at one point are one sum. Assumes nothing.
use mathlib.Core.List.{Memᴰ}
use Rattle.std.specs.Prelude.{◌≡◌, ℕ, ◌*◌, ℤ, pos, nat_abs, ◌*ℤ◌, ◌+ℤ◌, ◌≤ℤ◌, ◌<ℤ◌}
use Rattle.std.proofs.Math.Path.{sym}
use Rattle.std.proofs.Common.{ap, ◌∙◌, arith}
use Rattle.std.proofs.Math.IntN.{*ℤ_comm}
use Rattle.std.specs.Int.Signed.{pos-nat_abs, yes_non_neg}
use Rattle.whole.specs.Diff.{onℤ}
use Rattle.whole.specs.Ring.{◌:+◌, ◌:*◌, ring3, ring7}
use Rattle.lists.specs.ListsLaw.{All-at}
use Rattle.meaning.specs.declared.Place.{Place}
use Rattle.meaning.specs.declared.Tri.{Tri}
use Rattle.meaning.specs.Mesh.{Mesh, at, twice_area}
use Rattle.meaning.specs.Lawful.{Lawful}
use Rattle.meaning.specs.Proper.{shape, Proper}
use Rattle.meaning.specs.Rounding.{SameFraction}
use Rattle.meaning.specs.Asking.{HoldsPoint, weight_p, weight_q, weight_r, weighted}
use Rattle.proper.specs.Convex.{val, spot}
use Rattle.proper.specs.Sharing.{left-turn, weights}
use Rattle.proper.specs.Sums.{Mix, mix, level, SamePoint, Affine, coordinate-affine}
use Rattle.proper.specs.ProperFaithful.{proper-faithful}

-- ---- the corners by a point's weights

module _ (m : Mesh) (P : Place) (t : Tri) where
  -- the mean of the corners' x is the point's, that of their y, and that of any linear form, wherever the point is
  weighted-form : {φ : ℕ → ℤ} (A : Affine m φ) → weighted φ m P t ≡ twice_area m t *ℤ val A.form (spot P)
  unfolding weighted twice_area
  weighted-form A =
      let p = left-turn (at m t.q) (at m t.r) P in
      let q = left-turn (at m t.r) (at m t.p) P in
      let r = left-turn (at m t.p) (at m t.q) P in
      (λ i. sym p i *ℤ A.is t.p i +ℤ sym q i *ℤ A.is t.q i +ℤ sym r i *ℤ A.is t.r i) ∙ sym (weights A.form (shape m t) (spot P))

  -- the corners by d times the point's weights
  abbrev mix_at : ℤ → Mix
  mix_at d = mix t (nat_abs d * nat_abs (weight_p m P t)) (nat_abs d * nat_abs (weight_q m P t)) (nat_abs d * nat_abs (weight_r m P t))

  as-pos : (z : ℤ) → pos 0 ≤ℤ z → pos (nat_abs z) ≡ z
  as-pos z h = pos-nat_abs z (yes_non_neg h)

  mix-weighted : HoldsPoint m P t → (d : ℤ) → pos 0 <ℤ d → (φ : ℕ → ℤ) → level (mix_at d) φ ≡ d *ℤ weighted φ m P t
  unfolding weighted
  mix-weighted h d above φ =
      ring7 (λ n a b c u v w. (n :* a :* u :+ n :* b :* v :+ n :* c :* w, n :* (a :* u :+ b :* v :+ c :* w)))
      (pos (nat_abs d)) (pos (nat_abs (weight_p m P t))) (pos (nat_abs (weight_q m P t))) (pos (nat_abs (weight_r m P t))) (φ t.p) (φ t.q) (φ t.r) tt
      ∙ (λ i. as-pos d (omega (arith, onℤ)) i *ℤ
      (as-pos (weight_p m P t) h.off-qr i *ℤ φ t.p +ℤ as-pos (weight_q m P t) h.off-rp i *ℤ φ t.q +ℤ as-pos (weight_r m P t) h.off-pq i *ℤ φ t.r))

-- ---- two rows

module _ {m : Mesh} (law : Lawful m) (proper : Proper m) {P : Place} {t u : Tri} (i : Memᴰ t m.tris) (j : Memᴰ u m.tris) (h : HoldsPoint m P t) (k : HoldsPoint m P u) where
  pub above-t : pos 0 <ℤ twice_area m t
  above-t = All-at law.positive i

  pub above-u : pos 0 <ℤ twice_area m u
  above-u = All-at law.positive j

  one-point : SamePoint m (level (mix_at m P t (twice_area m u))) (level (mix_at m P u (twice_area m t)))
  one-point φ c =
      let A = coordinate-affine c in
      mix-weighted m P t h (twice_area m u) above-u φ ∙ ap (λ w. twice_area m u *ℤ w) (weighted-form m P t A)
      ∙ ring3 (λ d e x. (e :* (d :* x), d :* (e :* x))) (twice_area m t) (twice_area m u) (val A.form (spot P)) tt
      ∙ sym (mix-weighted m P u k (twice_area m t) above-t φ ∙ ap (λ w. twice_area m t *ℤ w) (weighted-form m P u A))

  -- ANY TWO ROWS THAT HOLD A POINT MAKE ONE FRACTION OF IT, of any value of a node,
  pub any-row-same : (f : ℕ → ℤ) → SameFraction (weighted f m P t) (twice_area m t) (weighted f m P u) (twice_area m u)
  any-row-same f =
      *ℤ_comm (weighted f m P t) (twice_area m u)
      ∙ sym (mix-weighted m P t h (twice_area m u) above-u f)
      ∙ (proper-faithful m law proper).one-sum (mix_at m P t (twice_area m u)) (mix_at m P u (twice_area m t)) i j one-point f
      ∙ mix-weighted m P u k (twice_area m t) above-t f
      ∙ *ℤ_comm (twice_area m t) (weighted f m P u)
