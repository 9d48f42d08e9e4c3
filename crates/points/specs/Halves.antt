-- W6 and a row cut by bisection: a half makes of any point what the row makes, if the new node carries the exact mean of the two ends; what a half holds
-- the row holds, and what the row holds one of the halves holds. So it is with all the parts of a cut. Assumes nothing.
use mathlib.Core.List.{List, ◌∷◌, Memᴰ}
use Rattle.std.specs.Prelude.{◌⊎◌, ◌≡◌, refl, ℕ, ℤ, pos, ◌+ℤ◌, ◌-ℤ◌, ◌*ℤ◌, ◌≤ℤ◌, ◌<ℤ◌, Option, None, Some}
use Rattle.std.proofs.Common.{inl, inr, ⊎_elim, sym, ◌∙◌, arith}
use Rattle.std.proofs.Math.IntN.{+ℤ_comm}
use Rattle.whole.specs.Diff.{onℤ, sumℤ, negℤ-ud}
use Rattle.whole.specs.Ring.{◌:+◌, ◌:-◌, ◌:*◌, ring2, ring6, ring10, combine₂}
use Rattle.whole.specs.Order.{lt-or-le}
use Rattle.lists.specs.Lists.{All, nil, cons}
use Rattle.meaning.specs.declared.Place.{Place}
use Rattle.meaning.specs.declared.Tri.{Tri}
use Rattle.meaning.specs.Mesh.{Mesh, tri, correction, at, turn, twice_area}
use Rattle.meaning.specs.Good.{Middle}
use Rattle.meaning.specs.Split.{bisected}
use Rattle.meaning.specs.Rounding.{SameFraction}
use Rattle.meaning.specs.Asking.{HoldsPoint, weighted, mean_in, dx_of, dy_of, correction_in}
use Rattle.laws.specs.Area.{turn_expr, turn-cycle, turn-mirror, turn-from, left-half, right-half, half-positive}
use Rattle.laws.specs.Cut.{parts}
use Rattle.laws.specs.RowMean.{mean-same}

-- ---- the sides of the halves

-- N is the middle of B and C: what it makes with a side is the mean of what they make
turn-middle : (N B C X Y : Place) → Middle N B C → turn N X Y +ℤ turn N X Y ≡ turn B X Y +ℤ turn C X Y
turn-middle N B C X Y h =
    combine₂ (X.y -ℤ Y.y) (Y.x -ℤ X.x) h.x-middle h.y-middle
    (ring10 (λ a b c d e f g i k l. (
      (turn_expr a b g i k l :+ turn_expr a b g i k l) :- (turn_expr c d g i k l :+ turn_expr e f g i k l),
      (i :- l) :* ((a :+ a) :- (c :+ e)) :+ (k :- g) :* ((b :+ b) :- (d :+ f)),
    )) N.x N.y B.x B.y C.x C.y X.x X.y Y.x Y.y tt)

-- (A, B, C) bisected at N, and a point P: the halves of the side that is cut, and the cut from either side
module _ (A B C N P : Place) (h : Middle N B C) where
  first-half : turn B N P +ℤ turn B N P ≡ turn B C P
  first-half =
      let M = turn-middle N B C P B h in
      omega (arith, onℤ, sumℤ (turn B N P) (turn B N P), sumℤ (turn N P B) (turn N P B), sumℤ (turn B P B) (turn C P B), turn-from B P, turn-cycle B N P, turn-cycle B C P)

  second-half : turn N C P +ℤ turn N C P ≡ turn B C P
  second-half = omega (arith, onℤ, turn-middle N B C C P h, sumℤ (turn B C P) (turn C C P), turn-from C P, turn-cycle C C P)

  cut-first : (turn N A P +ℤ turn N A P) +ℤ turn A B P ≡ turn C A P
  cut-first =
      omega (arith, onℤ, turn-middle N B C A P h, sumℤ (turn N A P +ℤ turn N A P) (turn A B P), sumℤ (turn B A P) (turn C A P), turn-cycle A B P, turn-mirror B A P, negℤ-ud (turn B A P))

  cut-second : (turn A N P +ℤ turn A N P) +ℤ turn C A P ≡ turn A B P
  cut-second =
      let M = turn-middle N B C P A h in
      let S = sumℤ (turn A N P +ℤ turn A N P) (turn C A P) in
      omega (arith, onℤ, sumℤ (turn A N P) (turn A N P), sumℤ (turn N P A) (turn N P A), sumℤ (turn B P A) (turn C P A), turn-cycle A N P, turn-cycle A B P, turn-mirror C A P, negℤ-ud (turn C A P))

-- signs of these
half-nonneg : (x u : ℤ) → x +ℤ x ≡ u → pos 0 ≤ℤ u → pos 0 ≤ℤ x
half-nonneg x u e h = omega (arith, onℤ, sumℤ x x)

both-nonneg : (x u : ℤ) → x +ℤ x ≡ u → pos 0 ≤ℤ x → pos 0 ≤ℤ u
both-nonneg x u e h = omega (arith, onℤ, sumℤ x x)

cut-nonneg : (y s v : ℤ) → (y +ℤ y) +ℤ s ≡ v → pos 0 ≤ℤ y → pos 0 ≤ℤ s → pos 0 ≤ℤ v
cut-nonneg y s v e h k = omega (arith, onℤ, sumℤ y y, sumℤ (y +ℤ y) s)

other-side : (A N P : Place) → turn N A P <ℤ pos 0 → pos 0 ≤ℤ turn A N P
other-side A N P h = omega (arith, onℤ, turn-cycle A N P, turn-mirror N A P, negℤ-ud (turn N A P))

-- ---- one bisection

-- node n is half-way from b to c, in place and in what it carries
pub record Halfway (M : Mesh) (n b c : ℕ) : Type 0 where
  pub in_place : Middle (at M n) (at M b) (at M c)
  pub in-dx : dx_of M n +ℤ dx_of M n ≡ dx_of M b +ℤ dx_of M c
  pub in-dy : dy_of M n +ℤ dy_of M n ≡ dy_of M b +ℤ dy_of M c

-- twice the sum by the weights s, x, y of a half is the sum by those of the row
twice-sum : (s x y u v : ℤ) → x +ℤ x ≡ u → (y +ℤ y) +ℤ s ≡ v → (n a b c : ℤ) → n +ℤ n ≡ b +ℤ c →
    (s *ℤ n +ℤ x *ℤ a +ℤ y *ℤ b) +ℤ (s *ℤ n +ℤ x *ℤ a +ℤ y *ℤ b) ≡ u *ℤ a +ℤ v *ℤ b +ℤ s *ℤ c
twice-sum s x y u v e f n a b c g =
    ring6 (λ s x y n a b. ((s :* n :+ x :* a :+ y :* b) :+ (s :* n :+ x :* a :+ y :* b), (x :+ x) :* a :+ (y :+ y) :* b :+ s :* (n :+ n))) s x y n a b tt
    ∙ (λ i. (x +ℤ x) *ℤ a +ℤ (y +ℤ y) *ℤ b +ℤ s *ℤ g i)
    ∙ ring6 (λ s x y a b c. ((x :+ x) :* a :+ (y :+ y) :* b :+ s :* (b :+ c), (x :+ x) :* a :+ ((y :+ y) :+ s) :* b :+ s :* c)) s x y a b c tt
    ∙ (λ i. e i *ℤ a +ℤ f i *ℤ b +ℤ s *ℤ c)

-- what is half of both makes one fraction
half-fraction : (x d y e : ℤ) → x +ℤ x ≡ y → d +ℤ d ≡ e → SameFraction x d y e
half-fraction x d y e p q = (λ i. x *ℤ sym q i) ∙ ring2 (λ x d. (x :* (d :+ d), (x :+ x) :* d)) x d tt ∙ (λ i. p i *ℤ d)

module _ (M : Mesh) (P : Place) where
  -- row k is a part of row t: it is above 0, t holds what it holds, and both make the same of the point
  pub record Within (t k : Tri) : Type 0 where
    pub above : pos 0 <ℤ twice_area M k
    pub holds : HoldsPoint M P k → HoldsPoint M P t
    pub same : correction_in M P k ≡ correction_in M P t

  within_all : {t k l : Tri} → Within t k → Within k l → Within t l
  within_all a b = record { above = b.above; holds = λ h. a.holds (b.holds h); same = b.same ∙ a.same }

  -- half the area, half the sums by the weights
  half-within : (t k : Tri) → pos 0 <ℤ twice_area M t → twice_area M k +ℤ twice_area M k ≡ twice_area M t → (HoldsPoint M P k → HoldsPoint M P t) →
      weighted (dx_of M) M P k +ℤ weighted (dx_of M) M P k ≡ weighted (dx_of M) M P t → weighted (dy_of M) M P k +ℤ weighted (dy_of M) M P k ≡ weighted (dy_of M) M P t → Within t k
  half-within t k above area holds dx dy =
      let a = half-positive (twice_area M k) (twice_area M t) area above in
      let mean : (f : ℕ → ℤ) → weighted f M P k +ℤ weighted f M P k ≡ weighted f M P t → mean_in f M P k ≡ mean_in f M P t
      = λ f e. mean-same f f M M P k t a above (half-fraction (weighted f M P k) (twice_area M k) (weighted f M P t) (twice_area M t) e area) in
      record { above = a; holds = holds; same = λ i. correction (mean (dx_of M) dx i) (mean (dy_of M) dy i) }

  module _ (a b c n : ℕ) where
    abbrev A : Place
    A = at M a

    abbrev B : Place
    B = at M b

    abbrev C : Place
    C = at M c

    abbrev N : Place
    N = at M n

    module _ (h : Middle (at M n) (at M b) (at M c)) where
      twice-left : (f : ℕ → ℤ) → f n +ℤ f n ≡ f b +ℤ f c → weighted f M P (tri n a b) +ℤ weighted f M P (tri n a b) ≡ weighted f M P (tri a b c)
      unfolding weighted
      twice-left f e = twice-sum (turn A B P) (turn B N P) (turn N A P) (turn B C P) (turn C A P) (first-half A B C N P h) (cut-first A B C N P h) (f n) (f a) (f b) (f c) e

      twice-right : (f : ℕ → ℤ) → f n +ℤ f n ≡ f b +ℤ f c → weighted f M P (tri n c a) +ℤ weighted f M P (tri n c a) ≡ weighted f M P (tri a b c)
      unfolding weighted
      twice-right f e =
          let s = turn C A P in
          let x = turn N C P in
          let y = turn A N P in
          ring6 (λ s x y n a c. ((s :* n :+ y :* c :+ x :* a) :+ (s :* n :+ y :* c :+ x :* a), (s :* n :+ x :* a :+ y :* c) :+ (s :* n :+ x :* a :+ y :* c))) s x y (f n) (f a) (f c) tt
          ∙ twice-sum s x y (turn B C P) (turn A B P) (second-half A B C N P h) (cut-second A B C N P h) (f n) (f a) (f c) (f b) (e ∙ +ℤ_comm (f b) (f c))
          ∙ ring6 (λ u v s a b c. (u :* a :+ v :* c :+ s :* b, u :* a :+ s :* b :+ v :* c)) (turn B C P) (turn A B P) s (f a) (f b) (f c) tt

      left-held : HoldsPoint M P (tri n a b) → HoldsPoint M P (tri a b c)
      left-held k = record {
        off-qr = both-nonneg (turn B N P) (turn B C P) (first-half A B C N P h) k.off-rp;
        off-rp = cut-nonneg (turn N A P) (turn A B P) (turn C A P) (cut-first A B C N P h) k.off-pq k.off-qr;
        off-pq = k.off-qr;
      }

      right-held : HoldsPoint M P (tri n c a) → HoldsPoint M P (tri a b c)
      right-held k = record {
        off-qr = both-nonneg (turn N C P) (turn B C P) (second-half A B C N P h) k.off-pq;
        off-rp = k.off-qr;
        off-pq = cut-nonneg (turn A N P) (turn C A P) (turn A B P) (cut-second A B C N P h) k.off-rp k.off-qr;
      }

      -- WHAT THE ROW HOLDS, ONE OF ITS HALVES HOLDS.
      half-holds : HoldsPoint M P (tri a b c) → HoldsPoint M P (tri n a b) ⊎ HoldsPoint M P (tri n c a)
      half-holds k = go (lt-or-le (turn N A P) (pos 0))
        where
          go : (turn N A P <ℤ pos 0) ⊎ (pos 0 ≤ℤ turn N A P) → HoldsPoint M P (tri n a b) ⊎ HoldsPoint M P (tri n c a)
          go (inl l) = inr (record { off-qr = k.off-rp; off-rp = other-side A N P l; off-pq = half-nonneg (turn N C P) (turn B C P) (second-half A B C N P h) k.off-qr })
          go (inr l) = inl (record { off-qr = k.off-pq; off-rp = half-nonneg (turn B N P) (turn B C P) (first-half A B C N P h) k.off-qr; off-pq = l })

    -- EACH HALF IS A PART OF THE ROW.
    module _ (above : pos 0 <ℤ twice_area M (tri a b c)) (h : Halfway M n b c) where
      left-within : Within (tri a b c) (tri n a b)
      unfolding twice_area
      left-within =
          let i = h.in_place in
          half-within (tri a b c) (tri n a b) above (left-half A B C N i) (left-held i) (twice-left i (dx_of M) h.in-dx) (twice-left i (dy_of M) h.in-dy)

      right-within : Within (tri a b c) (tri n c a)
      unfolding twice_area
      right-within =
          let i = h.in_place in
          half-within (tri a b c) (tri n c a) above (right-half A B C N i) (right-held i) (twice-right i (dx_of M) h.in-dx) (twice-right i (dy_of M) h.in-dy)

-- ---- the parts of a cut

-- the same of a midpoint that may be absent
abbrev pub HalfwayIf : Mesh → ℕ → ℕ → Option ℕ → Type 0
HalfwayIf M a b None = Unit {0}
HalfwayIf M a b (Some n) = Halfway M n a b

-- o, u and v are the midpoints of q–r, p–q and r–p, where these edges are split
pub record Halved (M : Mesh) (t : Tri) (o u v : Option ℕ) : Type 0 where
  pub on-qr : HalfwayIf M t.q t.r o
  pub on-pq : HalfwayIf M t.p t.q u
  pub on-rp : HalfwayIf M t.r t.p v

module _ (M : Mesh) (P : Place) (t : Tri) where
  -- EACH PART OF A ROW'S CUT IS A PART OF THE ROW.
  pub parts_within : (o u v : Option ℕ) → pos 0 <ℤ twice_area M t → Halved M t o u v → All (Within M P t) (parts (bisected t o u v))
  parts_within None u v above h = cons (record { above = above; holds = λ k. k; same = refl }) nil
  parts_within (Some m) u v above h = go u v h.on-pq h.on-rp
    where
      left : Within M P t (tri m t.p t.q)
      left = left-within M P t.p t.q t.r m above h.on-qr

      right : Within M P t (tri m t.r t.p)
      right = right-within M P t.p t.q t.r m above h.on-qr

      left-of : {a b c : ℕ} (n : ℕ) → Within M P t (tri a b c) → Halfway M n b c → Within M P t (tri n a b)
      left-of {a} {b} {c} n w e = within_all M P w (left-within M P a b c n w.above e)

      right_of : {a b c : ℕ} (n : ℕ) → Within M P t (tri a b c) → Halfway M n b c → Within M P t (tri n c a)
      right_of {a} {b} {c} n w e = within_all M P w (right-within M P a b c n w.above e)

      go : (u v : Option ℕ) → HalfwayIf M t.p t.q u → HalfwayIf M t.r t.p v → All (Within M P t) (parts (bisected t (Some m) u v))
      go None None e f = cons left (cons right nil)
      go (Some u) None e f = cons (left-of u left e) (cons right (cons (right_of u left e) nil))
      go None (Some v) e f = cons left (cons (left-of v right f) (cons (right_of v right f) nil))
      go (Some u) (Some v) e f = cons (left-of u left e) (cons (left-of v right f) (cons (right_of u left e) (cons (right_of v right f) nil)))

  -- one of them holds the point
  abbrev pub SomeHolds : List Tri → Type 0
  SomeHolds ks = (k : Tri) × Memᴰ k ks × HoldsPoint M P k

  -- WHAT THE ROW HOLDS, A PART OF ITS CUT HOLDS.
  pub some-part : (o u v : Option ℕ) → Halved M t o u v → HoldsPoint M P t → SomeHolds (parts (bisected t o u v))
  some-part None u v h k = (t, Memᴰ.head refl, k)
  some-part (Some m) u v h k = go u v h.on-pq h.on-rp (half-holds M P t.p t.q t.r m h.on-qr.in_place k)
    where
      first : {x : Tri} {l : List Tri} → HoldsPoint M P x → SomeHolds (x ∷ l)
      first k = (_, Memᴰ.head refl, k)

      later : {x : Tri} {l : List Tri} → SomeHolds l → SomeHolds (x ∷ l)
      later (k, i, h) = (k, Memᴰ.tail i, h)

      go : (u v : Option ℕ) → HalfwayIf M t.p t.q u → HalfwayIf M t.r t.p v →
          HoldsPoint M P (tri m t.p t.q) ⊎ HoldsPoint M P (tri m t.r t.p) → SomeHolds (parts (bisected t (Some m) u v))
      go None None e f = ⊎_elim (λ l. first l) (λ r. later (first r))
      go (Some u) None e f = ⊎_elim (λ l. ⊎_elim (λ k. first k) (λ k. later (later (first k))) (half-holds M P m t.p t.q u e.in_place l)) (λ r. later (first r))
      go None (Some v) e f = ⊎_elim (λ l. first l) (λ r. ⊎_elim (λ k. later (first k)) (λ k. later (later (first k))) (half-holds M P m t.r t.p v f.in_place r))
      go (Some u) (Some v) e f =
          ⊎_elim (λ l. ⊎_elim (λ k. first k) (λ k. later (later (first k))) (half-holds M P m t.p t.q u e.in_place l))
          (λ r. ⊎_elim (λ k. later (first k)) (λ k. later (later (later (first k)))) (half-holds M P m t.r t.p v f.in_place r))
