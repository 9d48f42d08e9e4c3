-- Edges whose keys do not overlap: neither meets the other, and neither runs under the other's middle. A form gives the keys. Assumes nothing.
use Rattle.std.specs.Prelude.{true, ◌≡◌, ℤ, pos, neg_ℤ, ◌+ℤ◌, ◌-ℤ◌, ◌*ℤ◌, ◌≤ℤ◌, ◌<ℤ◌}
use Rattle.std.proofs.Common.{sym, ap, ◌∙◌, arith}
use Rattle.whole.specs.Diff.{onℤ, sumℤ, subℤ, negℤ-ud}
use Rattle.whole.specs.Ring.{Expr, K, ◌:+◌, ◌:-◌, ◌:*◌, neg, ring2, ring4, ring8, ring10}
use Rattle.whole.specs.Order.{nonneg-times, positive-times, nonneg-square}
use Rattle.lists.specs.ListsLaw.{and_left, and_right}
use Rattle.meaning.specs.declared.Place.{Place}
use Rattle.meaning.specs.Mesh.{turn}
use Rattle.meaning.specs.Proper.{facing}
use Rattle.laws.specs.Area.{turn_expr}
use Rattle.border.specs.Signs.{lt-le, equal-of-zero, difference-above, minus-above, minus-below}
use Rattle.border.specs.Under.{Form, key}
use Rattle.border.specs.Meet.{Opposite, down, upwards}
use Rattle.border.proofs.Unmet.{opposite-signs}
use Rattle.border.specs.Clear.{opposite, crosses}

-- ---- (a) a place on an edge has its key between those of the ends

-- the place is C; p, q are the keys of the ends past its own, r, s what is left of the ends across; n is above 0
numbers_on : (n f p q r s : ℤ) → pos 0 <ℤ n → f ≤ℤ pos 0 → p *ℤ s ≡ r *ℤ q → n *ℤ f ≡ p *ℤ q +ℤ r *ℤ s → pos 0 <ℤ p → pos 0 <ℤ q → ⊥
numbers_on n f p q r s above low flat mean hp hq =
    let pq = positive-times p q hp hq in
    let nf : pos 0 ≤ℤ (n *ℤ neg_ℤ f) = nonneg-times n (neg_ℤ f) (lt-le above) (omega (arith, onℤ, negℤ-ud f)) in
    let e : n *ℤ neg_ℤ f ≡ neg_ℤ (p *ℤ q +ℤ r *ℤ s) = ring2 (λ n f. (n :* neg f, neg (n :* f))) n f tt ∙ ap neg_ℤ mean in
    let rs : pos 0 <ℤ neg_ℤ (r *ℤ s) = sides (p *ℤ q) (r *ℤ s) (n *ℤ neg_ℤ f) e nf pq in
    let down = positive-times q (neg_ℤ (r *ℤ s)) hq rs in
    let up = nonneg-times p (s *ℤ s) (lt-le hp) (nonneg-square s) in
    let same : q *ℤ neg_ℤ (r *ℤ s) ≡ neg_ℤ (p *ℤ (s *ℤ s)) =
    ring4 (λ p q r s. (q :* neg (r :* s), neg ((r :* q) :* s))) p q r s tt ∙ ap (λ k. neg_ℤ (k *ℤ s)) (sym flat) ∙ ring4 (λ p q r s. (neg ((p :* s) :* s), neg (p :* (s :* s)))) p q r s tt in
    last (q *ℤ neg_ℤ (r *ℤ s)) (p *ℤ (s *ℤ s)) same down up
  where
    sides : (a b c : ℤ) → c ≡ neg_ℤ (a +ℤ b) → pos 0 ≤ℤ c → pos 0 <ℤ a → pos 0 <ℤ neg_ℤ b
    sides a b c e h i = omega (arith, onℤ, sumℤ a b, negℤ-ud (a +ℤ b), negℤ-ud b)

    last : (a b : ℤ) → a ≡ neg_ℤ b → pos 0 <ℤ a → pos 0 ≤ℤ b → ⊥
    last a b e h i = omega (arith, onℤ, negℤ-ud b)

-- how far the key of A is past that of C, and the same across
abbrev gain : Form → Place → Place → ℤ
gain f C A = f.along *ℤ (A.x -ℤ C.x) +ℤ f.across *ℤ (A.y -ℤ C.y)

abbrev cross : Form → Place → Place → ℤ
cross f C A = f.along *ℤ (A.y -ℤ C.y) -ℤ f.across *ℤ (A.x -ℤ C.x)

abbrev size : Form → ℤ
size f = f.along *ℤ f.along +ℤ f.across *ℤ f.across

gain-is : (f : Form) (C A : Place) → gain f C A ≡ key f A -ℤ key f C
gain-is f C A =
    ring8 (λ k l cx cy ax ay m n. (k :* (ax :- cx) :+ l :* (ay :- cy), (k :* ax :+ l :* ay) :- (k :* cx :+ l :* cy))) f.along f.across C.x C.y A.x A.y (pos 0) (pos 0) tt

abbrev Gain : Expr → Expr → Expr → Expr → Expr → Expr → Expr
Gain k l cx cy ax ay = k :* (ax :- cx) :+ l :* (ay :- cy)

abbrev Cross : Expr → Expr → Expr → Expr → Expr → Expr → Expr
Cross k l cx cy ax ay = k :* (ay :- cy) :- l :* (ax :- cx)

module _ (f : Form) (A B C : Place) where
  flat-products : gain f C A *ℤ cross f C B -ℤ cross f C A *ℤ gain f C B ≡ size f *ℤ turn A B C
  flat-products =
      ring8 (λ k l ax ay bx by cx cy.
      (Gain k l cx cy ax ay :* Cross k l cx cy bx by :- Cross k l cx cy ax ay :* Gain k l cx cy bx by, (k :* k :+ l :* l) :* turn_expr ax ay bx by cx cy))
      f.along f.across A.x A.y B.x B.y C.x C.y tt

  facing-products : size f *ℤ facing A B C ≡ gain f C A *ℤ gain f C B +ℤ cross f C A *ℤ cross f C B
  facing-products =
      ring8 (λ k l ax ay bx by cx cy. (
        (k :* k :+ l :* l) :* ((ax :- cx) :* (bx :- cx) :+ (ay :- cy) :* (by :- cy)),
        Gain k l cx cy ax ay :* Gain k l cx cy bx by :+ Cross k l cx cy ax ay :* Cross k l cx cy bx by,
      ))
      f.along f.across A.x A.y B.x B.y C.x C.y tt

  pub not_on : pos 0 <ℤ size f → turn A B C ≡ pos 0 → facing A B C ≤ℤ pos 0 → key f C <ℤ key f A → key f C <ℤ key f B → ⊥
  not_on big flat between h_a h_b =
      numbers_on (size f) (facing A B C) (gain f C A) (gain f C B) (cross f C A) (cross f C B) big between
      (equal-of-zero _ _ (flat-products ∙ ap (λ k. size f *ℤ k) flat ∙ ring2 (λ a b. (a :* K (pos 0), K (pos 0))) (size f) (pos 0) tt)) facing-products
      (rw (gain-is f C A) (difference-above _ _ h_a)) (rw (gain-is f C B) (difference-above _ _ h_b))

-- ---- (b) edges that cross have a common point, so that their keys overlap

both_below : (a b : ℤ) → a <ℤ pos 0 → b <ℤ pos 0 → pos 0 <ℤ (a *ℤ b)
both_below a b h i = rw (sym (ring2 (λ a b. (neg a :* neg b, a :* b)) a b tt)) (positive-times (neg_ℤ a) (neg_ℤ b) (minus-above a h) (minus-above b i))

module _ (a b c d k_a k_b k_c k_d : ℤ) where
  -- the two weighted sums, multiplied out
  products : ((a *ℤ d) *ℤ (k_a -ℤ k_d) +ℤ (a *ℤ neg_ℤ c) *ℤ (k_b -ℤ k_d)) +ℤ ((neg_ℤ b *ℤ d) *ℤ (k_a -ℤ k_c) +ℤ (b *ℤ c) *ℤ (k_b -ℤ k_c)) ≡
      (a -ℤ b) *ℤ (d *ℤ k_a -ℤ c *ℤ k_b) -ℤ (d -ℤ c) *ℤ (a *ℤ k_d -ℤ b *ℤ k_c)
  products =
      ring8 (λ a b c d k_a k_b k_c k_d. (
        ((a :* d) :* (k_a :- k_d) :+ (a :* neg c) :* (k_b :- k_d)) :+ ((neg b :* d) :* (k_a :- k_c) :+ (b :* c) :* (k_b :- k_c)),
        (a :- b) :* (d :* k_a :- c :* k_b) :- (d :- c) :* (a :* k_d :- b :* k_c),
      ))
      a b c d k_a k_b k_c k_d tt

  four-above : {x y z w : ℤ} → pos 0 <ℤ x → pos 0 <ℤ y → pos 0 <ℤ z → pos 0 <ℤ w → (x +ℤ y) +ℤ (z +ℤ w) ≡ pos 0 → ⊥
  four-above {x} {y} {z} {w} h i j k e = omega (arith, onℤ, sumℤ x y, sumℤ z w, sumℤ (x +ℤ y) (z +ℤ w))

  -- a, b: how far C and D are left of A and B; c, d: how far A and B are left of C and D
  numbers-cross : a -ℤ b ≡ d -ℤ c → d *ℤ k_a -ℤ c *ℤ k_b ≡ a *ℤ k_d -ℤ b *ℤ k_c → opposite a b ≡ true → opposite c d ≡ true →
      k_c <ℤ k_a → k_c <ℤ k_b → k_d <ℤ k_a → k_d <ℤ k_b → ⊥
  numbers-cross weight point ab cd ca cb da db = go (opposite-signs a b ab) (opposite-signs c d cd)
    where
      none : ((a *ℤ d) *ℤ (k_a -ℤ k_d) +ℤ (a *ℤ neg_ℤ c) *ℤ (k_b -ℤ k_d)) +ℤ ((neg_ℤ b *ℤ d) *ℤ (k_a -ℤ k_c) +ℤ (b *ℤ c) *ℤ (k_b -ℤ k_c)) ≡ pos 0
      none =
          products ∙ rw (weight, point)
          (let w = d -ℤ c in let v = a *ℤ k_d -ℤ b *ℤ k_c in ring2 (λ w v. (w :* v :- w :* v, K (pos 0))) w v tt)

      sum : pos 0 <ℤ (a *ℤ d) → pos 0 <ℤ (a *ℤ neg_ℤ c) → pos 0 <ℤ (neg_ℤ b *ℤ d) → pos 0 <ℤ (b *ℤ c) → ⊥
      sum p q r s =
          four-above (positive-times _ _ p (difference-above _ _ da)) (positive-times _ _ q (difference-above _ _ db)) (positive-times _ _ r (difference-above _ _ ca)) (positive-times _ _ s (difference-above _ _ cb)) none

      go : Opposite a b → Opposite c d → ⊥
      go (upwards p q) (upwards r s) = omega (arith, onℤ, subℤ a b, subℤ d c)
      go (upwards p q) (down r s) = sum (both_below a d p s) (both_below a (neg_ℤ c) p (minus-below c r)) (both_below (neg_ℤ b) d (minus-below b q) s) (positive-times b c q r)
      go (down p q) (upwards r s) = sum (positive-times a d p s) (positive-times a (neg_ℤ c) p (minus-above c r)) (positive-times (neg_ℤ b) d (minus-above b q) s) (both_below b c q r)
      go (down p q) (down r s) = omega (arith, onℤ, subℤ a b, subℤ d c)

-- the keys of C and D are below those of A and B
pub record Below (f : Form) (A B C D : Place) : Type 0 where
  pub ca : key f C <ℤ key f A
  pub cb : key f C <ℤ key f B
  pub da : key f D <ℤ key f A
  pub db : key f D <ℤ key f B

module _ (f : Form) (A B C D : Place) where
  same-weight : turn A B C -ℤ turn A B D ≡ turn C D B -ℤ turn C D A
  same-weight =
      ring8 (λ ax ay bx by cx cy dx dy. (turn_expr ax ay bx by cx cy :- turn_expr ax ay bx by dx dy, turn_expr cx cy dx dy bx by :- turn_expr cx cy dx dy ax ay))
      A.x A.y B.x B.y C.x C.y D.x D.y tt

  same_point : turn C D B *ℤ key f A -ℤ turn C D A *ℤ key f B ≡ turn A B C *ℤ key f D -ℤ turn A B D *ℤ key f C
  same_point =
      ring10 (λ k l ax ay bx by cx cy dx dy. (
        turn_expr cx cy dx dy bx by :* (k :* ax :+ l :* ay) :- turn_expr cx cy dx dy ax ay :* (k :* bx :+ l :* by),
        turn_expr ax ay bx by cx cy :* (k :* dx :+ l :* dy) :- turn_expr ax ay bx by dx dy :* (k :* cx :+ l :* cy),
      ))
      f.along f.across A.x A.y B.x B.y C.x C.y D.x D.y tt

  pub not-crossed : Below f A B C D → crosses A B C D ≡ true → ⊥
  not-crossed h c =
      let x = opposite (turn A B C) (turn A B D) in
      let y = opposite (turn C D A) (turn C D B) in
      numbers-cross (turn A B C) (turn A B D) (turn C D A) (turn C D B) (key f A) (key f B) (key f C) (key f D) same-weight same_point (and_left x y c) (and_right x y c)
      h.ca h.cb h.da h.db

-- ---- the other way round

abbrev pub against : Form → Form
against f = record { along = neg_ℤ f.along; across = neg_ℤ f.across }

key-against : (f : Form) (A : Place) → key (against f) A ≡ neg_ℤ (key f A)
key-against f A = ring4 (λ k l x y. (neg k :* x :+ neg l :* y, neg (k :* x :+ l :* y))) f.along f.across A.x A.y tt

lower-against : (f : Form) (A B : Place) → key f A <ℤ key f B → key (against f) B <ℤ key (against f) A
lower-against f A B h = rw (key-against f A, key-against f B) (let a = key f A in let b = key f B in turned a b h)
  where
    turned : (a b : ℤ) → a <ℤ b → neg_ℤ b <ℤ neg_ℤ a
    turned a b h = omega (arith, onℤ, negℤ-ud a, negℤ-ud b)

-- the keys of A and B are below those of C and D
pub below-against : (f : Form) (A B C D : Place) → Below f C D A B → Below (against f) A B C D
below-against f A B C D h = record {
  ca = lower-against f A C h.ca;
  cb = lower-against f B C h.da;
  da = lower-against f A D h.cb;
  db = lower-against f B D h.db;
}
