-- Helly's theorem for four convex sets of the plane, by Radon's: where each three have a point in
-- common, all four have. Then for six, in two threes. Assumes nothing.
use Rattle.std.specs.Prelude.{◌≡◌, refl, ◌⊎◌, ℕ, zero, suc, ◌+◌, ◌<◌, ℤ, pos, negsuc, ◌+ℤ◌, ◌-ℤ◌, ◌*ℤ◌, ◌≤ℤ◌, ◌<ℤ◌}
use Rattle.std.proofs.Common.{sym, ap, subst, ◌∙◌, inl, inr, arith}
use Rattle.whole.specs.Diff.{up, dn, onℤ, subℤ}
use Rattle.whole.specs.Ring.{K, ◌:+◌, ◌:-◌, ◌:*◌, combine₁, ring3, ring4, ring8}
use Rattle.meaning.specs.Proper.{Point}
use Rattle.proper.specs.Convex.{mix, In, Convex, both, weigh4}
use Rattle.proper.specs.Radon.{dot, Tied, tied}

-- ---- what is above 0 to one side of a dependency, and what is below to the other
part : (l x : ℤ) → l *ℤ x ≡ pos (up l) *ℤ x -ℤ pos (dn l) *ℤ x
part l x = ap (λ (z : ℤ). z *ℤ x) (own l) ∙ ring3 (λ a b c. ((a :- b) :* c, a :* c :- b :* c)) (pos (up l)) (pos (dn l)) x tt
  where
    own : (l : ℤ) → l ≡ pos (up l) -ℤ pos (dn l)
    own l = omega (arith, onℤ, subℤ (pos (up l)) (pos (dn l)))

apart8 : (a b c d a' b' c' d' : ℤ) → ((a -ℤ a') +ℤ (b -ℤ b')) +ℤ ((c -ℤ c') +ℤ (d -ℤ d')) ≡ pos 0 → (a +ℤ b) +ℤ (c +ℤ d) ≡ (a' +ℤ b') +ℤ (c' +ℤ d')
apart8 a b c d a' b' c' d' e = combine₁ (pos 1) e
    (ring8 (λ a b c d a' b' c' d'. ((a :+ b) :+ (c :+ d) :- ((a' :+ b') :+ (c' :+ d')), K (pos 1) :* (((a :- a') :+ (b :- b')) :+ ((c :- c') :+ (d :- d')) :- K (pos 0)))) a b c d a' b' c' d' tt)

balance : (a b c d x y z w : ℤ) → dot a b c d x y z w ≡ pos 0
    → dot (pos (up a)) (pos (up b)) (pos (up c)) (pos (up d)) x y z w ≡ dot (pos (dn a)) (pos (dn b)) (pos (dn c)) (pos (dn d)) x y z w
balance a b c d x y z w e =
    apart8 (pos (up a) *ℤ x) (pos (up b) *ℤ y) (pos (up c) *ℤ z) (pos (up d) *ℤ w) (pos (dn a) *ℤ x) (pos (dn b) *ℤ y) (pos (dn c) *ℤ z) (pos (dn d) *ℤ w)
    (rw (part a x, part b y, part c z, part d w) at e)

none : (m n k l : ℕ) (x y z w : ℤ) → m + n + k + l ≡ 0 → dot (pos m) (pos n) (pos k) (pos l) x y z w ≡ pos 0
none m n k l x y z w e =
    let e₁ : m ≡ 0 = omega arith in
    let e₂ : n ≡ 0 = omega arith in
    let e₃ : k ≡ 0 = omega arith in
    let e₄ : l ≡ 0 = omega arith in
    rw (e₁, e₂, e₃, e₄) (ring4 (λ x y z w. ((K (pos 0) :* x :+ K (pos 0) :* y) :+ (K (pos 0) :* z :+ K (pos 0) :* w), K (pos 0))) x y z w tt)

-- two sums of one weight: the first has a weight above 0
module _ (x y z w : ℤ) (h : pos 0 <ℤ x) (i : pos 0 <ℤ y) (j : pos 0 <ℤ z) (k : pos 0 <ℤ w) where
  weighs : (a b c d a' b' c' d' n : ℕ) → a + b + c + d ≡ n → dot (pos a) (pos b) (pos c) (pos d) x y z w ≡ dot (pos a') (pos b') (pos c') (pos d') x y z w
      → 0 < (a + b + c + d) + (a' + b' + c' + d') → 0 < n
  weighs a b c d a' b' c' d' zero e f g =
      let le = weigh4 a' b' c' d' x y z w (inr h) (inr i) (inr j) (inr k) in
      let le' : pos (a' + b' + c' + d') ≤ℤ pos 0 = subst (λ (v : ℤ). pos (a' + b' + c' + d') ≤ℤ v) (sym f ∙ none a b c d x y z w e) le in
      omega (arith, onℤ)
  weighs a b c d a' b' c' d' (suc n) e f g = omega arith

-- ---- a point with W above 0 in C
pub record Meet (C : Point → Type 0) : Type 0 where
  pub at : Point
  pub heavy : pos 0 <ℤ at.W
  pub mem : C at

pub wider : {C D : Point → Type 0} → ((s : Point) → C s → D s) → Meet C → Meet D
wider f m = record { at = m.at; heavy = m.heavy; mem = f m.at m.mem }

sign : (l : ℤ) → (up l ≡ 0) ⊎ (dn l ≡ 0)
sign (pos n) = inr refl
sign (negsuc n) = inl refl

-- four points have two sums that are one: those of the weights above 0 and those of the weights below 0 in a dependency
module _ {A B C D : Point → Type 0} (s : Meet A) (t : Meet B) (u : Meet C) (v : Meet D) where
  abbrev g : Tied s.at t.at u.at v.at
  g = tied s.at t.at u.at v.at t.heavy

  abbrev ups : Point
  ups = mix (up g.a) (up g.b) (up g.c) (up g.d) s.at t.at u.at v.at

  abbrev dns : Point
  dns = mix (dn g.a) (dn g.b) (dn g.c) (dn g.d) s.at t.at u.at v.at

  balanced : dot (pos (up g.a)) (pos (up g.b)) (pos (up g.c)) (pos (up g.d)) s.at.W t.at.W u.at.W v.at.W ≡
      dot (pos (dn g.a)) (pos (dn g.b)) (pos (dn g.c)) (pos (dn g.d)) s.at.W t.at.W u.at.W v.at.W
  balanced = balance g.a g.b g.c g.d s.at.W t.at.W u.at.W v.at.W g.on-W

  one-point : dns ≡ ups
  one-point i = record {
    X = sym (balance g.a g.b g.c g.d s.at.X t.at.X u.at.X v.at.X g.on-X) i;
    Y = sym (balance g.a g.b g.c g.d s.at.Y t.at.Y u.at.Y v.at.Y g.on-Y) i;
    W = sym balanced i;
  }

  ups-some : 0 < up g.a + up g.b + up g.c + up g.d
  ups-some = weighs s.at.W t.at.W u.at.W v.at.W s.heavy t.heavy u.heavy v.heavy _ _ _ _ _ _ _ _ _ refl balanced (omega (arith, g.some))

  dns-some : 0 < dn g.a + dn g.b + dn g.c + dn g.d
  dns-some = weighs s.at.W t.at.W u.at.W v.at.W s.heavy t.heavy u.heavy v.heavy _ _ _ _ _ _ _ _ _ refl (sym balanced) (omega (arith, g.some))

  ups-heavy : pos 0 <ℤ ups.W
  ups-heavy =
      omega (
        arith,
        onℤ,
        ups-some,
        weigh4 (up g.a) (up g.b) (up g.c) (up g.d) s.at.W t.at.W u.at.W v.at.W (inr s.heavy) (inr t.heavy) (inr u.heavy) (inr v.heavy),
      )

  -- a convex set that has three of the points has the sum: the fourth has no weight above 0, or none below
  module _ (E : Point → Type 0) (e : Convex E) where
    pick : (l : ℤ) → (up l ≡ 0 → E ups) → (dn l ≡ 0 → E dns) → E ups
    pick l i j = go (sign l)
      where
        go : (up l ≡ 0) ⊎ (dn l ≡ 0) → E ups
        go (inl z) = i z
        go (inr z) = subst E one-point (j z)

    among-ups : In E (up g.a) s.at → In E (up g.b) t.at → In E (up g.c) u.at → In E (up g.d) v.at → E ups
    among-ups = e.closed _ _ _ _ s.at t.at u.at v.at ups-some

    among-dns : In E (dn g.a) s.at → In E (dn g.b) t.at → In E (dn g.c) u.at → In E (dn g.d) v.at → E dns
    among-dns = e.closed _ _ _ _ s.at t.at u.at v.at dns-some

    without-s : E t.at → E u.at → E v.at → E ups
    without-s i j k = pick g.a (λ z. among-ups (inl z) (inr i) (inr j) (inr k)) (λ z. among-dns (inl z) (inr i) (inr j) (inr k))

    without-t : E s.at → E u.at → E v.at → E ups
    without-t i j k = pick g.b (λ z. among-ups (inr i) (inl z) (inr j) (inr k)) (λ z. among-dns (inr i) (inl z) (inr j) (inr k))

    without-u : E s.at → E t.at → E v.at → E ups
    without-u i j k = pick g.c (λ z. among-ups (inr i) (inr j) (inl z) (inr k)) (λ z. among-dns (inr i) (inr j) (inl z) (inr k))

    without-v : E s.at → E t.at → E u.at → E ups
    without-v i j k = pick g.d (λ z. among-ups (inr i) (inr j) (inr k) (inl z)) (λ z. among-dns (inr i) (inr j) (inr k) (inl z))

helly : (C D E F : Point → Type 0) → Convex C → Convex D → Convex E → Convex F
    → Meet (λ s. D s × E s × F s) → Meet (λ s. C s × E s × F s) → Meet (λ s. C s × D s × F s) → Meet (λ s. C s × D s × E s)
    → Meet (λ s. C s × D s × E s × F s)
helly C D E F c d e f s t u v = record {
  at = ups s t u v;
  heavy = ups-heavy s t u v;
  mem = (
    without-s s t u v C c t.mem.0 u.mem.0 v.mem.0,
    without-t s t u v D d s.mem.0 u.mem.1 v.mem.1,
    without-u s t u v E e s.mem.1 t.mem.1 v.mem.2,
    without-v s t u v F f s.mem.2 t.mem.2 u.mem.2,
  );
}

-- ---- six: three and three, where each of the one three meets all of the other
module _ (A B C : Point → Type 0) (a : Convex A) (b : Convex B) (c : Convex C) where
  five : (D E : Point → Type 0) → Convex D → Convex E
      → Meet (λ s. A s × B s × C s × D s) → Meet (λ s. A s × B s × C s × E s)
      → Meet (λ s. A s × D s × E s) → Meet (λ s. B s × D s × E s) → Meet (λ s. C s × D s × E s)
      → Meet (λ s. A s × B s × C s × (D s × E s))
  five D E d e m n i j k =
      helly A B C (λ s. D s × E s) a b c (both D E d e)
      (wider (λ s h. (h.0, h.1, (h.2, h.3))) (helly B C D E b c d e k j (wider (λ s h. (h.1, h.2, h.3)) n) (wider (λ s h. (h.1, h.2, h.3)) m)))
      (wider (λ s h. (h.0, h.1, (h.2, h.3))) (helly A C D E a c d e k i (wider (λ s h. (h.0, h.2, h.3)) n) (wider (λ s h. (h.0, h.2, h.3)) m)))
      (wider (λ s h. (h.0, h.1, (h.2, h.3))) (helly A B D E a b d e j i (wider (λ s h. (h.0, h.1, h.3)) n) (wider (λ s h. (h.0, h.1, h.3)) m)))
      (wider (λ s h. (h.0, h.1, h.2)) m)

  pub six : (D E F : Point → Type 0) → Convex D → Convex E → Convex F
      → Meet (λ s. A s × B s × C s × D s) → Meet (λ s. A s × B s × C s × E s) → Meet (λ s. A s × B s × C s × F s)
      → Meet (λ s. A s × D s × E s × F s) → Meet (λ s. B s × D s × E s × F s) → Meet (λ s. C s × D s × E s × F s)
      → Meet (λ s. D s × E s × F s × (A s × B s × C s))
  six D E F d e f l m n i j k =
      helly D E F (λ s. A s × B s × C s) d e f three
      (turned (five E F e f m n (wider (λ s h. (h.0, h.2, h.3)) i) (wider (λ s h. (h.0, h.2, h.3)) j) (wider (λ s h. (h.0, h.2, h.3)) k)))
      (turned (five D F d f l n (wider (λ s h. (h.0, h.1, h.3)) i) (wider (λ s h. (h.0, h.1, h.3)) j) (wider (λ s h. (h.0, h.1, h.3)) k)))
      (turned (five D E d e l m (wider (λ s h. (h.0, h.1, h.2)) i) (wider (λ s h. (h.0, h.1, h.2)) j) (wider (λ s h. (h.0, h.1, h.2)) k)))
      (wider (λ s h. (h.1, h.2, h.3)) i)
    where
      turned : {D E : Point → Type 0} → Meet (λ s. A s × B s × C s × (D s × E s)) → Meet (λ s. D s × E s × (A s × B s × C s))
      turned m = wider (λ s h. (h.3.0, h.3.1, (h.0, h.1, h.2))) m

      nest : (n : ℕ) (s : Point) → In (λ s. A s × B s × C s) n s → In (λ s. A s × (B s × C s)) n s
      nest n s (inl e) = inl e
      nest n s (inr h) = inr (h.0, (h.1, h.2))

      three : Convex (λ s. A s × B s × C s)
      three = record {
        closed = λ m n k l s t u v h x y z w.
            let r = (both A (λ s. B s × C s) a (both B C b c)).closed m n k l s t u v h (nest m s x) (nest n t y) (nest k u z) (nest l v w) in (r.0, r.1.0, r.1.1);
      }
