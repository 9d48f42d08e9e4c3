-- Two points of a segment that have one key are one point: every arrow counts the same under both. Assumes nothing.
use Rattle.std.specs.Prelude.{◌&&◌, ◌≡◌, ℤ, pos, neg_ℤ, ◌+ℤ◌, ◌-ℤ◌, ◌*ℤ◌, ◌<ℤ◌}
use Rattle.std.proofs.Common.{sym, ap, subst, ◌∙◌}
use Rattle.std.specs.Int.Signed.{lt_z}
use Rattle.whole.specs.Ring.{K, ◌:+◌, ◌:-◌, ◌:*◌, neg, ring2, ring4, ring6, ring8, combine₁, combine₂}
use Rattle.whole.specs.Tests.{lt_z-true, lt-lt_z}
use Rattle.whole.specs.Order.{positive-times}
use Rattle.lists.specs.ListsLaw.{both_ways}
use Rattle.meaning.specs.declared.Place.{Place}
use Rattle.meaning.specs.Proper.{Point, left}
use Rattle.border.specs.Signs.{unscale-above, lt-zero}
use Rattle.border.specs.Sums.{one}
use Rattle.border.specs.Under.{Form, key, key_at, past, before, under, ahead}
use Rattle.border.specs.Segment.{Strictly, above, corner, rise, left-mix, left-spot}

abbrev pub SameKey : Form → Point → Point → Type 0
SameKey f s t = key_at f s *ℤ t.W ≡ key_at f t *ℤ s.W

sign-scaled : (x y a b : ℤ) → pos 0 <ℤ a → pos 0 <ℤ b → x *ℤ a ≡ y *ℤ b → lt_z (pos 0) x ≡ lt_z (pos 0) y
sign-scaled x y a b ha hb e =
    both_ways _ _ (λ h. lt-lt_z (pos 0) y (unscale-above y b hb (subst (λ k. pos 0 <ℤ k) e (positive-times x a (lt_z-true (pos 0) x h) ha))))
    (λ h. lt-lt_z (pos 0) x (unscale-above x a ha (subst (λ k. pos 0 <ℤ k) (sym e) (positive-times y b (lt_z-true (pos 0) y h) hb))))

module _ (f : Form) (A B : Place) (low-high : pos 0 <ℤ rise f A B) (s t : Point) (hs : Strictly f A B s) (ht : Strictly f A B t) (same : SameKey f s t) where
  ahead-alike : (C : Place) → ahead f C s *ℤ t.W ≡ ahead f C t *ℤ s.W
  ahead-alike C =
      combine₁ (pos 1) same
      (ring6 (λ k l w z c n. (((k :- c :* w) :* z) :- ((l :- c :* z) :* w), K (pos 1) :* (k :* z :- l :* w))) (key_at f s) (key_at f t) s.W t.W (key f C) (pos 0) tt)

  past-alike : (C : Place) → past f C s ≡ past f C t
  past-alike C =
      lt-zero (key f C *ℤ s.W) (key_at f s) ∙ sign-scaled (ahead f C s) (ahead f C t) t.W s.W ht.weight hs.weight (ahead-alike C) ∙
      sym (lt-zero (key f C *ℤ t.W) (key_at f t))

  before-alike : (C : Place) → before f C s ≡ before f C t
  before-alike C =
      lt-zero (key_at f s) (key f C *ℤ s.W) ∙
      sign-scaled (key f C *ℤ s.W -ℤ key_at f s) (key f C *ℤ t.W -ℤ key_at f t) t.W s.W ht.weight hs.weight
      (combine₁ (neg_ℤ (pos 1)) same
      (ring6 (λ k l w z c n. (((c :* w :- k) :* z) :- ((c :* z :- l) :* w), neg (K (pos 1)) :* (k :* z :- l :* w))) (key_at f s) (key_at f t) s.W t.W (key f C) (pos 0) tt)) ∙
      sym (lt-zero (key_at f t) (key f C *ℤ t.W))

  -- a point of the segment is the segment's point at its key
  on-spot : (C D : Place) (p : Point) → Strictly f A B p → rise f A B *ℤ left C D p ≡ neg_ℤ (ahead f B p) *ℤ left C D (corner A) +ℤ ahead f A p *ℤ left C D (corner B)
  on-spot C D p h =
      sym (left-spot f A B p C D ∙ ap (λ k. rise f A B *ℤ left C D p -ℤ rise f C D *ℤ k) h.on_line ∙
      ring2 (λ a b. (a :- b :* K (pos 0), a)) (rise f A B *ℤ left C D p) (rise f C D) tt) ∙
      left-mix C D (neg_ℤ (ahead f B p)) (ahead f A p) (corner A) (corner B)

  above-alike : (C D : Place) → above C D s ≡ above C D t
  above-alike C D =
      sign-scaled (left C D s) (left C D t) (rise f A B *ℤ t.W) (rise f A B *ℤ s.W) (positive-times (rise f A B) t.W low-high ht.weight) (positive-times (rise f A B) s.W low-high hs.weight)
      (move (left C D s) (rise f A B) t.W ∙ ap (λ k. k *ℤ t.W) (on-spot C D s hs) ∙
      combine₂ (neg_ℤ (left C D (corner A))) (left C D (corner B)) (ahead-alike B) (ahead-alike A)
      (ring8 (λ b d a c w z x y. (((neg b :* x :+ a :* y) :* z) :- ((neg d :* x :+ c :* y) :* w), neg x :* (b :* z :- d :* w) :+ y :* (a :* z :- c :* w)))
      (ahead f B s) (ahead f B t) (ahead f A s) (ahead f A t) s.W t.W (left C D (corner A)) (left C D (corner B)) tt) ∙
      sym (ap (λ k. k *ℤ s.W) (on-spot C D t ht)) ∙ sym (move (left C D t) (rise f A B) s.W))
    where
      move : (l r w : ℤ) → l *ℤ (r *ℤ w) ≡ r *ℤ l *ℤ w
      move l r w = ring4 (λ l r w n. (l :* (r :* w), r :* l :* w)) l r w (pos 0) tt

  pub under_alike : (C D : Place) → under f C D s ≡ under f C D t
  unfolding under
  under_alike C D =
      λ i. one (past-alike C i && before-alike D i && above-alike C D i) -ℤ one (past-alike D i && before-alike C i && above-alike D C i)
