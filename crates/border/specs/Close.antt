-- Points so close to a place that they are on the same side as it of whatever it is strictly beside, a little toward a triangle: inside it, if the place is in
-- the triangle or on its sides. Assumes nothing.
use Rattle.std.specs.Prelude.{Bool, true, false, ◌&&◌, ◌≢◌, ◌≡◌, refl, ◌≤◌, ◌<◌, ℤ, nat_abs, ◌+ℤ◌, ◌-ℤ◌, ◌*ℤ◌, ◌≤ℤ◌, ◌<ℤ◌}
use Rattle.std.proofs.Common.{sym, ap, subst, ◌∙◌, arith}
use Rattle.std.proofs.Math.IntN.{pos, neg_ℤ}
use Rattle.std.specs.Int.Signed.{lt_z}
use Rattle.whole.specs.Diff.{onℤ, sumℤ, subℤ, mulℤ, negℤ-ud}
use Rattle.whole.specs.Bound.{abs-add, abs-sub}
use Rattle.whole.specs.Order.{le_antisymm}
use Rattle.whole.specs.Ring.{K, ◌:+◌, ◌:-◌, ◌:*◌, ring8, ring9, ring10}
use Rattle.whole.specs.Tests.{lt_z-true, lt_z-false, lt-lt_z, le-lt_z}
use Rattle.meaning.specs.declared.Place.{Place}
use Rattle.meaning.specs.Mesh.{turn}
use Rattle.meaning.specs.Lawful.{InRange}
use Rattle.meaning.specs.Proper.{Shape, Point, Inside, left}
use Rattle.laws.specs.Area.{turn_expr, turn-from, turn-to}
use Rattle.border.specs.Signs.{lt-of-difference, difference-above}
use Rattle.border.specs.Keys.{turn_small, key-small}
use Rattle.border.specs.Sums.{one}
use Rattle.border.specs.Under.{left_expr, key, key_at, past, before, ahead, under, left-swapped}
use Rattle.border.specs.Clear.{steep}
use Rattle.border.specs.Nudge.{Upright, nudged, still-above, still-below, nudged-above, nudged-ahead, nudged-behind, nudged-inside}

-- 2^46 times P, and each corner once
abbrev pub toward : Place → Shape → Point
toward P t = record {
  X = pos 70_368_744_177_664 *ℤ P.x +ℤ (t.p.x +ℤ (t.q.x +ℤ t.r.x));
  Y = pos 70_368_744_177_664 *ℤ P.y +ℤ (t.p.y +ℤ (t.q.y +ℤ t.r.y));
  W = pos 70_368_744_177_664 +ℤ pos 3;
}

-- close to P, a little toward t
abbrev pub close : Place → Shape → Point
close P t = nudged (toward P t)

pub toward-weight : (P : Place) (t : Shape) → pos 0 <ℤ (toward P t).W
toward-weight P t = omega (arith, onℤ)

-- ---- what the corners add, which is small

abbrev corners-left : Place → Place → Shape → ℤ
corners-left A B t = turn A B t.p +ℤ (turn A B t.q +ℤ turn A B t.r)

left-toward : (A B P : Place) (t : Shape) → left A B (toward P t) ≡ pos 70_368_744_177_664 *ℤ turn A B P +ℤ corners-left A B t
left-toward A B P t =
    ring9 (λ a b c d x y X Y n. (left_expr a b c d (n :* x :+ X) (n :* y :+ Y) (n :+ K (pos 3)), n :* turn_expr a b c d x y :+ left_expr a b c d X Y (K (pos 3))))
    A.x A.y B.x B.y P.x P.y (t.p.x +ℤ (t.q.x +ℤ t.r.x)) (t.p.y +ℤ (t.q.y +ℤ t.r.y)) (pos 70_368_744_177_664) tt ∙
    ap (λ k. pos 70_368_744_177_664 *ℤ turn A B P +ℤ k)
    (ring10 (λ a b c d e f g h i j. (left_expr a b c d (e :+ (g :+ i)) (f :+ (h :+ j)) (K (pos 3)), turn_expr a b c d e f :+ (turn_expr a b c d g h :+ turn_expr a b c d i j)))
    A.x A.y B.x B.y t.p.x t.p.y t.q.x t.q.y t.r.x t.r.y tt)

abbrev corners-key : Place → Shape → ℤ
corners-key A t = (key steep t.p -ℤ key steep A) +ℤ ((key steep t.q -ℤ key steep A) +ℤ (key steep t.r -ℤ key steep A))

ahead-toward : (A P : Place) (t : Shape) → ahead steep A (toward P t) ≡ pos 70_368_744_177_664 *ℤ (key steep P -ℤ key steep A) +ℤ corners-key A t
ahead-toward A P t =
    ring8 (λ a b x y X Y n f. (
      (f :* (n :* x :+ X) :+ K (pos 1) :* (n :* y :+ Y)) :- (f :* a :+ K (pos 1) :* b) :* (n :+ K (pos 3)),
      n :* ((f :* x :+ K (pos 1) :* y) :- (f :* a :+ K (pos 1) :* b)) :+ ((f :* X :+ K (pos 1) :* Y) :- (f :* a :+ K (pos 1) :* b) :* K (pos 3)),
    ))
    A.x A.y P.x P.y (t.p.x +ℤ (t.q.x +ℤ t.r.x)) (t.p.y +ℤ (t.q.y +ℤ t.r.y)) (pos 70_368_744_177_664) (pos 8_388_608) tt ∙
    ap (λ k. pos 70_368_744_177_664 *ℤ (key steep P -ℤ key steep A) +ℤ k)
    (ring9 (λ a b c d e g h i f. (
      (f :* (c :+ (e :+ h)) :+ K (pos 1) :* (d :+ (g :+ i))) :- (f :* a :+ K (pos 1) :* b) :* K (pos 3),
      ((f :* c :+ K (pos 1) :* d) :- (f :* a :+ K (pos 1) :* b)) :+ (((f :* e :+ K (pos 1) :* g) :- (f :* a :+ K (pos 1) :* b)) :+ ((f :* h :+ K (pos 1) :* i) :- (f :* a :+ K (pos 1) :* b))),
    ))
    A.x A.y t.p.x t.p.y t.q.x t.q.y t.r.x t.r.y (pos 8_388_608) tt)

-- three small numbers are small
three-small : (a b c : ℤ) → nat_abs a ≤ 17_592_188_141_568 → nat_abs b ≤ 17_592_188_141_568 → nat_abs c ≤ 17_592_188_141_568 → nat_abs (a +ℤ (b +ℤ c)) < 70_368_744_177_664
three-small a b c h i j = omega (arith, abs-add a (b +ℤ c) h (abs-add b c i j))

-- numbers in the order of others are so by the tests too
carried : (a b c d : ℤ) → a ≢ b → (a <ℤ b → c <ℤ d) → (b <ℤ a → d <ℤ c) → lt_z c d ≡ lt_z a b
carried a b c d n f g = go (lt_z a b) refl (lt_z b a) refl
  where
    go : (u : Bool) → lt_z a b ≡ u → (v : Bool) → lt_z b a ≡ v → lt_z c d ≡ u
    go true e v w = lt-lt_z c d (f (lt_z-true a b e))
    go false e true w = le-lt_z c d (let l = g (lt_z-true b a w) in omega (arith, onℤ))
    go false e false w = absurd (n (le_antisymm (lt_z-false b a w) (lt_z-false a b e)))

-- ---- sides of close points

module _ (P : Place) {t : Shape} (u : Upright t) where
  module _ {A B : Place} (a : InRange A) (b : InRange B) where
    corners-small : nat_abs (corners-left A B t) < 70_368_744_177_664
    corners-small =
        let p = turn_small a b u.p-in in
        let q = turn_small a b u.q-in in
        let r = turn_small a b u.r-in in
        three-small (turn A B t.p) (turn A B t.q) (turn A B t.r) (omega arith) (omega arith) (omega arith)

    pub close-above : pos 0 <ℤ turn A B P → pos 0 <ℤ left A B (close P t)
    close-above h = nudged-above a b (toward P t) (subst (λ k. pos 0 <ℤ k) (sym (left-toward A B P t)) (still-above 70_368_744_177_664 (corners-left A B t) corners-small (turn A B P) h))

  module _ {A : Place} (a : InRange A) where
    keys-small : nat_abs (corners-key A t) < 70_368_744_177_664
    keys-small =
        three-small (key steep t.p -ℤ key steep A) (key steep t.q -ℤ key steep A) (key steep t.r -ℤ key steep A)
        (abs-sub (key steep t.p) (key steep A) (key-small u.p-in) (key-small a))
        (abs-sub (key steep t.q) (key steep A) (key-small u.q-in) (key-small a))
        (abs-sub (key steep t.r) (key steep A) (key-small u.r-in) (key-small a))

    close-ahead : key steep A <ℤ key steep P → (key steep A *ℤ (close P t).W) <ℤ key_at steep (close P t)
    close-ahead h = lt-of-difference (key_at steep (close P t)) (key steep A *ℤ (close P t).W)
        (nudged-ahead A (toward P t) (subst (λ k. pos 0 <ℤ k) (sym (ahead-toward A P t))
        (still-above 70_368_744_177_664 (corners-key A t) keys-small (key steep P -ℤ key steep A) (difference-above (key steep P) (key steep A) h))))

    close-behind : key steep P <ℤ key steep A → key_at steep (close P t) <ℤ (key steep A *ℤ (close P t).W)
    close-behind h = less (key_at steep (close P t)) (key steep A *ℤ (close P t).W)
        (nudged-behind A (toward P t) (subst (λ k. k <ℤ pos 0) (sym (ahead-toward A P t))
        (still-below 70_368_744_177_664 (corners-key A t) keys-small (key steep P -ℤ key steep A) (more (key steep P) (key steep A) h))))
      where
        more : (x y : ℤ) → x <ℤ y → (x -ℤ y) <ℤ pos 0
        more x y h = omega (arith, onℤ, subℤ x y)

        less : (x y : ℤ) → (x -ℤ y) <ℤ pos 0 → x <ℤ y
        less x y h = omega (arith, onℤ, subℤ x y)

    module _ (n : key steep A ≢ key steep P) where
      -- A's key is below the point's where it is below P's
      close-past : past steep A (close P t) ≡ lt_z (key steep A) (key steep P)
      close-past = carried (key steep A) (key steep P) (key steep A *ℤ (close P t).W) (key_at steep (close P t)) n close-ahead close-behind

      -- and above where it is above P's
      close-before : before steep A (close P t) ≡ lt_z (key steep P) (key steep A)
      close-before = carried (key steep P) (key steep A) (key_at steep (close P t)) (key steep A *ℤ (close P t).W) (λ e. n (sym e)) close-behind close-ahead

  -- an arrow with P on its left runs under the point where it passes P
  pub close-under : {A B : Place} → InRange A → InRange B → key steep A ≢ key steep P → key steep B ≢ key steep P → pos 0 <ℤ turn A B P →
      under steep A B (close P t) ≡ one (lt_z (key steep A) (key steep P) && lt_z (key steep P) (key steep B))
  unfolding under
  close-under {A} {B} a b m n h =
      let l = close-above a b h in
      let yes-left = lt-lt_z (pos 0) (left A B (close P t)) l in
      let no-left = le-lt_z (pos 0) (left B A (close P t)) (not_left (left A B (close P t)) (left B A (close P t)) l (left-swapped A B (close P t))) in
      (λ i. one (close-past a m i && close-before b n i && yes-left i) -ℤ one (past steep B (close P t) && before steep A (close P t) && no-left i)) ∙
      signs (lt_z (key steep A) (key steep P)) (lt_z (key steep P) (key steep B)) (past steep B (close P t)) (before steep A (close P t))
    where
      not_left : (x y : ℤ) → pos 0 <ℤ x → y ≡ neg_ℤ x → y ≤ℤ pos 0
      not_left x y h e = omega (arith, onℤ, negℤ-ud x)

      signs : (a b c d : Bool) → one (a && b && true) -ℤ one (c && d && false) ≡ one (a && b)
      signs true true true true = refl
      signs true true true false = refl
      signs true true false d = refl
      signs true false true true = refl
      signs true false true false = refl
      signs true false false d = refl
      signs false b true true = refl
      signs false b true false = refl
      signs false b false d = refl

  -- A TRIANGLE THAT P IS IN, OR ON A SIDE OF, HAS THE POINT INSIDE.
  pub close-inside : pos 0 ≤ℤ turn t.p t.q P → pos 0 ≤ℤ turn t.q t.r P → pos 0 ≤ℤ turn t.r t.p P → Inside t (close P t)
  close-inside h i j = nudged-inside u (toward P t) (record {
    pq = above t.p t.q h (subst (λ k. pos 0 <ℤ k) (sym (third _ _ _ (turn-from t.p t.q) (turn-to t.p t.q))) u.pqr);
    qr = above t.q t.r i (subst (λ k. pos 0 <ℤ k) (sym (first _ _ _ (turn-from t.q t.r) (turn-to t.q t.r))) u.qrp);
    rp = above t.r t.p j (subst (λ k. pos 0 <ℤ k) (sym (second _ _ _ (turn-from t.r t.p) (turn-to t.r t.p))) u.rpq);
  })
    where
      more : (z e : ℤ) → pos 0 ≤ℤ z → pos 0 <ℤ e → pos 0 <ℤ (pos 70_368_744_177_664 *ℤ z +ℤ e)
      more z e h i = omega (arith, onℤ, mulℤ (pos 70_368_744_177_664) z, sumℤ (pos 70_368_744_177_664 *ℤ z) e)

      above : (A B : Place) → pos 0 ≤ℤ turn A B P → pos 0 <ℤ corners-left A B t → pos 0 <ℤ left A B (toward P t)
      above A B h i = subst (λ k. pos 0 <ℤ k) (sym (left-toward A B P t)) (more (turn A B P) (corners-left A B t) h i)

      -- of three numbers two are 0
      first : (a b c : ℤ) → b ≡ pos 0 → c ≡ pos 0 → a +ℤ (b +ℤ c) ≡ a
      first a b c e f = omega (arith, onℤ, sumℤ b c, sumℤ a (b +ℤ c))

      second : (a b c : ℤ) → c ≡ pos 0 → a ≡ pos 0 → a +ℤ (b +ℤ c) ≡ b
      second a b c e f = omega (arith, onℤ, sumℤ b c, sumℤ a (b +ℤ c))

      third : (a b c : ℤ) → a ≡ pos 0 → b ≡ pos 0 → a +ℤ (b +ℤ c) ≡ c
      third a b c e f = omega (arith, onℤ, sumℤ b c, sumℤ a (b +ℤ c))
