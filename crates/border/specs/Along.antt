-- Along a segment: what an arrow that does not meet it counts, from one point of it to a later one, changes by what lies below it in between. Assumes nothing.
use Rattle.std.specs.Prelude.{Bool, false, not, ◌&&◌, ◌≢◌, ◌≡◌, ℤ, pos, neg_ℤ, ◌+ℤ◌, ◌*ℤ◌, ◌≤ℤ◌, ◌<ℤ◌}
use Rattle.std.proofs.Math.Bool.{true}
use Rattle.std.proofs.Math.Path.{refl, ap₂}
use Rattle.std.proofs.Common.{sym, ap, subst, ◌∙◌, arith}
use Rattle.std.proofs.Math.IntN.{◌-ℤ◌}
use Rattle.std.specs.Int.Signed.{lt_z}
use Rattle.whole.specs.Diff.{onℤ, subℤ}
use Rattle.whole.specs.Ring.{K, ◌:+◌, ◌:-◌, ◌:*◌, neg, ring3, ring4, ring6}
use Rattle.whole.specs.Tests.{lt_z-true, lt_z-false, lt-lt_z, le-lt_z}
use Rattle.whole.specs.Order.{positive-times}
use Rattle.lists.specs.ListsLaw.{clash, both_ways}
use Rattle.meaning.specs.declared.Place.{Place}
use Rattle.meaning.specs.Proper.{Point, left}
use Rattle.border.specs.Signs.{minus-above, unscale-above, zero-of-equal, below-of-minus, sum-above, not-lt, lt-zero, lt-le, difference-above, below-swapped, lt-of-difference}
use Rattle.border.specs.Sums.{one}
use Rattle.border.specs.Under.{Form, key, key_at, before, under, ahead}
use Rattle.border.specs.Segment.{Strictly, Within, Spans, Apart, above, corner, spot, rise, one_side, left-start, left_end, left-spot, ahead-corner, spot-strictly, spot-within}

-- the key of v is below that of s
abbrev pub behind : Form → Place → Point → Bool
behind f v s = lt_z (pos 0) (ahead f v s)

-- the key of s is below that of t
abbrev pub Earlier : Form → Point → Point → Type 0
Earlier f s t = (key_at f s *ℤ t.W) <ℤ (key_at f t *ℤ s.W)

ahead_lower : (f : Form) (C D : Place) (s : Point) → ahead f C s ≡ ahead f D s +ℤ rise f C D *ℤ s.W
ahead_lower f C D s = ring4 (λ c d k w. (k :- c :* w, (k :- d :* w) :+ (d :- c) :* w)) (key f C) (key f D) (key_at f s) s.W tt

-- past the higher end, so past the lower
behind-low : (f : Form) (C D : Place) (s : Point) → pos 0 <ℤ rise f C D → pos 0 <ℤ s.W → behind f D s ≡ true → behind f C s ≡ true
behind-low f C D s r w e =
    let p = positive-times (rise f C D) s.W r w in
    let q = lt_z-true (pos 0) (ahead f D s) e in
    lt-lt_z (pos 0) (ahead f C s) (subst (λ k. pos 0 <ℤ k) (sym (ahead_lower f C D s)) (sum-above (ahead f D s) (rise f C D *ℤ s.W) q (lt-le p)))

-- past it at a point, so past it later
behind-later : (f : Form) (v : Place) (s t : Point) → pos 0 <ℤ s.W → pos 0 <ℤ t.W → Earlier f s t → behind f v s ≡ true → behind f v t ≡ true
behind-later f v s t hs ht h e =
    let p = positive-times (ahead f v s) t.W (lt_z-true (pos 0) (ahead f v s) e) ht in
    let q : ahead f v t *ℤ s.W ≡ ahead f v s *ℤ t.W +ℤ (key_at f t *ℤ s.W -ℤ key_at f s *ℤ t.W) =
    ring6 (λ k l w z v n. ((l :- v :* z) :* w, (k :- v :* w) :* z :+ (l :* w :- k :* z))) (key_at f s) (key_at f t) s.W t.W (key f v) (pos 0) tt in
    lt-lt_z (pos 0) (ahead f v t) (unscale-above (ahead f v t) s.W hs (subst (λ k. pos 0 <ℤ k) (sym q)
    (sum-above (ahead f v s *ℤ t.W) (key_at f t *ℤ s.W -ℤ key_at f s *ℤ t.W) p (lt-le (difference-above (key_at f t *ℤ s.W) (key_at f s *ℤ t.W) h)))))

-- a rising arrow: 1 between its ends' keys, above it
pub under-rising : (f : Form) (C D : Place) (s : Point) → pos 0 <ℤ rise f C D → pos 0 <ℤ s.W → ahead f D s ≢ pos 0 →
    under f C D s ≡ one (behind f C s && (not (behind f D s) && above C D s))
unfolding under
under-rising f C D s r w n =
    let p_c = lt-zero (key f C *ℤ s.W) (key_at f s) in
    let p_d = lt-zero (key f D *ℤ s.W) (key_at f s) in
    let b_d = not-lt (key f D *ℤ s.W) (key_at f s) (λ e. n (zero-of-equal (key_at f s) (key f D *ℤ s.W) (sym e))) ∙ ap not p_d in
    (λ i. one (p_c i && b_d i && above C D s) -ℤ one (p_d i && before f C s && above D C s)) ∙
    go (behind f C s) (behind f D s) (before f C s) (above C D s) (above D C s)
    (λ e. le-lt_z (key_at f s) (key f C *ℤ s.W) (lt-le (lt-of-difference (key_at f s) (key f C *ℤ s.W) (lt_z-true (pos 0) (ahead f C s) (behind-low f C D s r w e)))))
  where
    go : (a b c l k : Bool) → (b ≡ true → c ≡ false) → one (a && not b && l) -ℤ one (b && c && k) ≡ one (a && (not b && l))
    go true true true l k h = clash (h refl)
    go true true false l k h = refl
    go true false c true k h = refl
    go true false c false k h = refl
    go false true true l k h = clash (h refl)
    go false true false l k h = refl
    go false false c l k h = refl

-- v is strictly right of A→B
abbrev pub lower : Place → Place → Place → Bool
lower A B v = lt_z (left A B (corner v)) (pos 0)

-- 1 for a place right of A→B whose key is between those of s and t
unfoldable pub between : Form → Place → Place → Point → Point → Place → ℤ
between f A B s t v = one (not (behind f v s) && (behind f v t && lower A B v))

-- ---- from s to t, both strictly between A and B

module _ (f : Form) (A B : Place) (low-high : pos 0 <ℤ rise f A B) (s t : Point) (hs : Strictly f A B s) (ht : Strictly f A B t) where
  from-difference : (a x y : ℤ) → a ≡ x -ℤ y → pos 0 <ℤ x → y ≤ℤ pos 0 → pos 0 <ℤ a
  from-difference a x y e h i = omega (arith, onℤ, subℤ x y)

  -- such a key is between those of A and B
  corner-spans : (v : Place) → behind f v s ≡ false → behind f v t ≡ true → Spans f A B (corner v)
  corner-spans v e g = record {
    weight = omega (arith, onℤ);
    past-low = subst (λ k. pos 0 <ℤ k) (sym (ahead-corner f A v)) from_low;
    before-high = subst (λ k. k <ℤ pos 0) (sym (ahead-corner f B v)) (below-swapped (key f v) (key f B) to_high);
  }
    where
      from_low : pos 0 <ℤ rise f A v
      from_low =
          let q : rise f A v *ℤ s.W ≡ ahead f A s -ℤ ahead f v s = ring4 (λ a v k w. ((v :- a) :* w, (k :- a :* w) :- (k :- v :* w))) (key f A) (key f v) (key_at f s) s.W tt in
          unscale-above (rise f A v) s.W hs.weight (from-difference (rise f A v *ℤ s.W) (ahead f A s) (ahead f v s) q hs.past-low (lt_z-false (pos 0) (ahead f v s) e))

      to_high : pos 0 <ℤ rise f v B
      to_high =
          let q : rise f v B *ℤ t.W ≡ ahead f v t -ℤ ahead f B t = ring4 (λ v b k w. ((b :- v) :* w, (k :- v :* w) :- (k :- b :* w))) (key f v) (key f B) (key_at f t) t.W tt in
          unscale-above (rise f v B) t.W ht.weight
          (from-difference (rise f v B *ℤ t.W) (ahead f v t) (ahead f B t) q (lt_z-true (pos 0) (ahead f v t) g) (lt-le ht.before-high))

  module _ (C D : Place) (up : pos 0 <ℤ rise f C D) (apart : Apart f A B C D) where
    within-at : (p : Point) → behind f C p ≡ true → behind f D p ≡ false → Within f C D p
    within-at p e g = record { from_low = lt-le (lt_z-true (pos 0) (ahead f C p) e); to_high = lt_z-false (pos 0) (ahead f D p) g }

    within-start : Within f C D (corner C)
    within-start = record { from_low = subst (λ k. pos 0 ≤ℤ k) (sym (ahead-corner f C C)) (own (key f C)); to_high = subst (λ k. k ≤ℤ pos 0) (sym (ahead-corner f D C)) (lt-le (below-swapped (key f C) (key f D) up)) }
      where
        own : (a : ℤ) → pos 0 ≤ℤ (a -ℤ a)
        own a = omega (arith, onℤ, subℤ a a)

    within_end : Within f C D (corner D)
    within_end = record { from_low = subst (λ k. pos 0 ≤ℤ k) (sym (ahead-corner f C D)) (lt-le up); to_high = subst (λ k. k ≤ℤ pos 0) (sym (ahead-corner f D D)) (own (key f D)) }
      where
        own : (a : ℤ) → (a -ℤ a) ≤ℤ pos 0
        own a = omega (arith, onℤ, subℤ a a)

    -- the point of the segment at an end's key is above C–D just if the end is right of A→B
    spot-side : (v : Place) → left C D (corner v) ≡ pos 0 → above C D (spot f A B (corner v)) ≡ lower A B v
    spot-side v e =
        ap (lt_z (pos 0)) (left-spot f A B (corner v) C D ∙ ap (λ k. rise f A B *ℤ k -ℤ rise f C D *ℤ left A B (corner v)) e) ∙ side (rise f A B) (rise f C D) (left A B (corner v)) up
      where
        side : (a r z : ℤ) → pos 0 <ℤ r → lt_z (pos 0) (a *ℤ pos 0 -ℤ r *ℤ z) ≡ lt_z z (pos 0)
        side a r z h =
            ap (lt_z (pos 0)) (ring3 (λ a r z. (a :* K (pos 0) :- r :* z, neg z :* r)) a r z tt) ∙
            both_ways _ _ (λ e. lt-lt_z z (pos 0) (below-of-minus z (unscale-above (neg_ℤ z) r h (lt_z-true (pos 0) (neg_ℤ z *ℤ r) e))))
            (λ e. lt-lt_z (pos 0) (neg_ℤ z *ℤ r) (positive-times (neg_ℤ z) r (minus-above z (lt_z-true z (pos 0) e)) h))

    -- an arrow that rises and does not meet the segment
    pub moved : Earlier f s t → ahead f D s ≢ pos 0 → ahead f D t ≢ pos 0 → under f C D t -ℤ under f C D s ≡ between f A B s t C -ℤ between f A B s t D
    unfolding between
    moved early ns nt =
        ap₂ ◌-ℤ◌ (under-rising f C D t up ht.weight nt) (under-rising f C D s up hs.weight ns) ∙
        go (behind f C s) (behind f C t) (behind f D s) (behind f D t) refl refl refl refl
      where
        later : (v : Place) → behind f v s ≡ true → behind f v t ≡ true
        later v = behind-later f v s t hs.weight ht.weight early

        side-start : behind f C s ≡ false → behind f C t ≡ true → (p : Point) → Strictly f A B p → Within f C D p → above C D p ≡ lower A B C
        side-start e g p h w =
            one_side f A B C D apart p (spot f A B (corner C)) h w (spot-strictly f A B (corner C) low-high (corner-spans C e g)) (spot-within f A B (corner C) low-high C D within-start) ∙
            spot-side C (left-start C D)

        side-end : behind f D s ≡ false → behind f D t ≡ true → (p : Point) → Strictly f A B p → Within f C D p → above C D p ≡ lower A B D
        side-end e g p h w =
            one_side f A B C D apart p (spot f A B (corner D)) h w (spot-strictly f A B (corner D) low-high (corner-spans D e g)) (spot-within f A B (corner D) low-high C D within_end) ∙
            spot-side D (left_end C D)

        cancel : (a : ℤ) → a -ℤ a ≡ pos 0
        cancel a = omega (arith, onℤ, subℤ a a)

        go : (x x' y y' : Bool) → behind f C s ≡ x → behind f C t ≡ x' → behind f D s ≡ y → behind f D t ≡ y' →
            one (x' && (not y' && above C D t)) -ℤ one (x && (not y && above C D s)) ≡ one (not x && (x' && lower A B C)) -ℤ one (not y && (y' && lower A B D))
        go true true true true e e' g g' = refl
        go true true true false e e' g g' = clash (sym (later D g) ∙ g')
        go true true false true e e' g g' = ap (λ b. pos 0 -ℤ one b) (side-end g g' s hs (within-at s e g))
        go true true false false e e' g g' =
            ap (λ b. one (above C D t) -ℤ one b) (one_side f A B C D apart s t hs (within-at s e g) ht (within-at t e' g')) ∙ cancel (one (above C D t))
        go true false y y' e e' g g' = clash (sym (later C e) ∙ e')
        go false x' true y' e e' g g' = clash (sym (behind-low f C D s up hs.weight g) ∙ e)
        go false true false true e e' g g' =
            let p = spot f A B (corner D) in
            let hp = spot-strictly f A B (corner D) low-high (corner-spans D g g') in
            let wp = spot-within f A B (corner D) low-high C D within_end in
            sym (cancel (one (lower A B C))) ∙ ap (λ b. one (lower A B C) -ℤ one b) (sym (side-start e e' p hp wp) ∙ side-end g g' p hp wp)
        go false true false false e e' g g' = ap (λ b. one b -ℤ pos 0) (side-start e e' t ht (within-at t e' g'))
        go false false false true e e' g g' = clash (sym (behind-low f C D t up ht.weight g') ∙ e')
        go false false false false e e' g g' = refl
