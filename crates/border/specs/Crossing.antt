-- Where a side of one triangle crosses a side of another, the two share an interior point: the crossing itself, moved a little to the left of both sides.
-- Assumes nothing.
use Rattle.std.specs.Prelude.{◌≡◌, ℤ, pos, neg_ℤ, ◌+ℤ◌, ◌-ℤ◌, ◌*ℤ◌, ◌<ℤ◌}
use Rattle.std.proofs.Common.{sym, ap₂, subst, ◌∙◌, arith}
use Rattle.whole.specs.Diff.{onℤ, subℤ}
use Rattle.whole.specs.Order.{le_of_eq, positive-times}
use Rattle.whole.specs.Ring.{K, ◌:+◌, ◌:-◌, ◌:*◌, neg, ring2, ring8}
use Rattle.meaning.specs.declared.Place.{Place}
use Rattle.meaning.specs.Mesh.{turn}
use Rattle.meaning.specs.Proper.{Point, Shape, Inside, Share, left}
use Rattle.laws.specs.Area.{turn_expr, turn-cycle}
use Rattle.border.specs.Signs.{minus-above}
use Rattle.border.specs.Segment.{mix, mix-line, corner, left-mix, left-corner, left-start, left_end}
use Rattle.border.specs.Near.{Eventually, both-from, imply-from, near, tilt, left-stays, left-turns, weight-stays}
use Rattle.border.specs.Meet.{Opposite, down, upwards, Cross}

abbrev triangle : Place → Place → Place → Shape
triangle A B C = record { p = A; q = B; r = C }

-- ---- beside a point of a side

module _ (A B C : Place) (area : pos 0 <ℤ turn A B C) (a b : ℤ) (a-above : pos 0 <ℤ a) (b-above : pos 0 <ℤ b) where
  -- the point of A–B by the weights a and b
  abbrev between : Point
  between = mix a (corner A) b (corner B)

  left-of-second : pos 0 <ℤ left B C between
  left-of-second =
      subst (λ k. pos 0 <ℤ k)
      (sym (left-mix B C a b (corner A) (corner B) ∙ ap₂ (λ x y. a *ℤ x +ℤ b *ℤ y) (left-corner B C A ∙ sym (turn-cycle A B C)) (left-start B C) ∙
      ring2 (λ p b. (p :+ b :* K (pos 0), p)) (a *ℤ turn A B C) b tt)) (positive-times a (turn A B C) a-above area)

  left-of-third : pos 0 <ℤ left C A between
  left-of-third =
      subst (λ k. pos 0 <ℤ k)
      (sym (left-mix C A a b (corner A) (corner B) ∙ ap₂ (λ x y. a *ℤ x +ℤ b *ℤ y) (left_end C A) (left-corner C A B ∙ turn-cycle C A B) ∙
      ring2 (λ a p. (a :* K (pos 0) :+ p, p)) a (b *ℤ turn A B C) tt)) (positive-times b (turn A B C) b-above area)

  -- a little to the left it is inside
  inside-beside : (u v : ℤ) → pos 0 <ℤ tilt A B u v → Eventually (λ n. Inside (triangle A B C) (near between u v n))
  inside-beside u v h =
      imply-from (λ n (p, (q, r)). record { pq = p; qr = q; rp = r })
      (both-from (left-turns between u v A B (le_of_eq (sym (mix-line A B a b))) h)
      (both-from (left-stays between u v B C left-of-second) (left-stays between u v C A left-of-third)))

-- ---- two sides that cross: C right of A→B and D left, A left of C→D and B right

module _ (A B C D : Place) where
  -- the crossing, by its weights on C–D
  abbrev crossing : Point
  crossing = mix (turn A B D) (corner C) (neg_ℤ (turn A B C)) (corner D)

  -- and on A–B
  crossing-too : mix (neg_ℤ (turn C D B)) (corner A) (turn C D A) (corner B) ≡ crossing
  crossing-too = λ i. record {
    X = ring8 (λ a b c d e f g h. (neg (turn_expr e f g h c d) :* a :+ turn_expr e f g h a b :* c, turn_expr a b c d g h :* e :+ neg (turn_expr a b c d e f) :* g))
        A.x A.y B.x B.y C.x C.y D.x D.y tt i;
    Y = ring8 (λ a b c d e f g h. (neg (turn_expr e f g h c d) :* b :+ turn_expr e f g h a b :* d, turn_expr a b c d g h :* f :+ neg (turn_expr a b c d e f) :* h))
        A.x A.y B.x B.y C.x C.y D.x D.y tt i;
    W = ring8 (λ a b c d e f g h. (neg (turn_expr e f g h c d) :* K (pos 1) :+ turn_expr e f g h a b :* K (pos 1), turn_expr a b c d g h :* K (pos 1) :+ neg (turn_expr a b c d e f) :* K (pos 1)))
        A.x A.y B.x B.y C.x C.y D.x D.y tt i;
  }

  -- how far C→D turns left of A→B
  turned : turn A B D -ℤ turn A B C ≡ turn C D A -ℤ turn C D B
  turned =
      ring8 (λ a b c d e f g h. (turn_expr a b c d g h :- turn_expr a b c d e f, turn_expr e f g h a b :- turn_expr e f g h c d)) A.x A.y B.x B.y C.x C.y D.x D.y tt

  -- along C→D and back along A→B leads to the left of both
  abbrev along : ℤ
  along = (D.x -ℤ C.x) -ℤ (B.x -ℤ A.x)

  abbrev across : ℤ
  across = (D.y -ℤ C.y) -ℤ (B.y -ℤ A.y)

  tilt-first : tilt A B along across ≡ turn A B D -ℤ turn A B C
  tilt-first =
      ring8 (λ a b c d e f g h. ((c :- a) :* ((h :- f) :- (d :- b)) :- ((g :- e) :- (c :- a)) :* (d :- b), turn_expr a b c d g h :- turn_expr a b c d e f))
      A.x A.y B.x B.y C.x C.y D.x D.y tt

  tilt-second : tilt C D along across ≡ turn A B D -ℤ turn A B C
  tilt-second =
      ring8 (λ a b c d e f g h. ((g :- e) :* ((h :- f) :- (d :- b)) :- ((g :- e) :- (c :- a)) :* (h :- f), turn_expr a b c d g h :- turn_expr a b c d e f))
      A.x A.y B.x B.y C.x C.y D.x D.y tt

  module _ (Z Y : Place) (first : pos 0 <ℤ turn A B Z) (second : pos 0 <ℤ turn C D Y)
      (c-right : turn A B C <ℤ pos 0) (d-left : pos 0 <ℤ turn A B D) (a-left : pos 0 <ℤ turn C D A) (b-right : turn C D B <ℤ pos 0) where
    more : (a b : ℤ) → b <ℤ pos 0 → pos 0 <ℤ a → pos 0 <ℤ (a -ℤ b)
    more a b h i = omega (arith, onℤ, subℤ a b)

    wide : pos 0 <ℤ (turn A B D -ℤ turn A B C)
    wide = more (turn A B D) (turn A B C) c-right d-left

    weight : pos 0 <ℤ crossing.W
    weight = subst (λ k. pos 0 <ℤ k) (ring2 (λ a b. (a :- b, a :* K (pos 1) :+ neg b :* K (pos 1))) (turn A B D) (turn A B C) tt) wide

    -- near enough, on that way, a point is inside both
    near-both : Eventually (λ n. (pos 0 <ℤ (near crossing along across n).W) × (Inside (triangle A B Z) (near crossing along across n) × Inside (triangle C D Y) (near crossing along across n)))
    near-both =
        both-from (weight-stays crossing along across weight)
        (both-from (subst (λ s. Eventually (λ n. Inside (triangle A B Z) (near s along across n))) crossing-too
        (inside-beside A B Z first (neg_ℤ (turn C D B)) (turn C D A) (minus-above (turn C D B) b-right) a-left along across (subst (λ k. pos 0 <ℤ k) (sym tilt-first) wide)))
        (inside-beside C D Y second (turn A B D) (neg_ℤ (turn A B C)) d-left (minus-above (turn A B C) c-right) along across (subst (λ k. pos 0 <ℤ k) (sym tilt-second) wide)))

    share : Share (triangle A B Z) (triangle C D Y)
    share =
        let n = near-both.start in
        let (w, (p, q)) = near-both.holds n (omega arith) in
        record { point = near crossing along across n; weight = w; in-first = p; in-second = q }

-- CROSSING SIDES: THEIR TRIANGLES SHARE AN INTERIOR POINT.
pub cross-share : {A B C D : Place} (Z Y : Place) → pos 0 <ℤ turn A B Z → pos 0 <ℤ turn C D Y → Cross A B C D → Share (triangle A B Z) (triangle C D Y)
cross-share {A} {B} {C} {D} Z Y first second cross = go cross.ends-of-second cross.ends-of-first
  where
    never : (a b c d : ℤ) → b -ℤ a ≡ c -ℤ d → a <ℤ pos 0 → pos 0 <ℤ b → c <ℤ pos 0 → pos 0 <ℤ d → ⊥
    never a b c d e f g h i = omega (arith, onℤ, subℤ b a, subℤ c d)

    swapped : Share (triangle C D Y) (triangle A B Z) → Share (triangle A B Z) (triangle C D Y)
    swapped s = record { point = s.point; weight = s.weight; in-first = s.in-second; in-second = s.in-first }

    go : Opposite (turn A B C) (turn A B D) → Opposite (turn C D A) (turn C D B) → Share (triangle A B Z) (triangle C D Y)
    go (upwards c d) (down a b) = share A B C D Z Y first second c d a b
    go (down c d) (upwards a b) = swapped (share C D A B Y Z second first a b c d)
    go (upwards c d) (upwards a b) = absurd (never (turn A B C) (turn A B D) (turn C D A) (turn C D B) (turned A B C D) c d a b)
    go (down c d) (down a b) = absurd (never (turn C D B) (turn C D A) (turn A B D) (turn A B C) (sym (turned A B C D)) b a d c)
