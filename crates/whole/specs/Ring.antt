-- A solver for polynomial identities over ℤ: `solve ρ e f tt` proves ⟦ e ⟧ ρ ≡ ⟦ f ⟧ ρ, where e - f comes to 0.
use Rattle.std.specs.Prelude.{◌≡◌, refl, Bool, true, false, ◌&&◌, List, [], ◌∷◌, ℕ, zero, suc, T, eqb, ℤ, pos, negsuc, neg_ℤ, ◌+ℤ◌, ◌-ℤ◌, ◌*ℤ◌}
use Rattle.std.proofs.Common.{sym, ap, ap₂, subst, ◌∙◌, arith, eqb→eq}
use Rattle.whole.specs.Diff.{rep, diffs}

-- ---- the language
pub data Expr : Type 0 where
  X : ℕ → Expr
  K : ℤ → Expr
  ◌:+◌ : Expr → Expr → Expr
  ◌:-◌ : Expr → Expr → Expr
  ◌:*◌ : Expr → Expr → Expr
  neg : Expr → Expr

infixl 6 ◌:+◌ ◌:-◌
infixl 7 ◌:*◌
abbrev pub look : List ℤ → ℕ → ℤ
look [] i = pos 0
look (x ∷ ρ) zero = x
look (x ∷ ρ) (suc i) = look ρ i

abbrev pub eval : List ℤ → Expr → ℤ
eval ρ (X i) = look ρ i
eval ρ (K c) = c
eval ρ (a :+ b) = eval ρ a +ℤ eval ρ b
eval ρ (a :- b) = eval ρ a -ℤ eval ρ b
eval ρ (a :* b) = eval ρ a *ℤ eval ρ b
eval ρ (neg a) = neg_ℤ (eval ρ a)

-- ---- polynomials: in no variable a number, in one more a list of coefficients
abbrev Poly : List ℤ → Type 0
Poly [] = ℤ
Poly (x ∷ ρ) = List (Poly ρ)

module _ {A : Type 0} (ev : A → ℤ) (x : ℤ) where
  abbrev horner : List A → ℤ
  horner [] = pos 0
  horner (c ∷ cs) = ev c +ℤ x *ℤ horner cs

abbrev zip : {A : Type 0} → (A → A → A) → List A → List A → List A
zip f [] bs = bs
zip f (a ∷ us) [] = a ∷ us
zip f (a ∷ us) (b ∷ bs) = f a b ∷ zip f us bs

abbrev each : {A : Type 0} → (A → A) → List A → List A
each f [] = []
each f (a ∷ us) = f a ∷ each f us

abbrev times : {A : Type 0} → (A → A → A) → (A → A → A) → A → List A → List A → List A
times f g o [] bs = []
times f g o (a ∷ us) bs = zip f (each (g a) bs) (o ∷ times f g o us bs)

abbrev all_z : {A : Type 0} → (A → Bool) → List A → Bool
all_z p [] = true
all_z p (a ∷ us) = p a && all_z p us

abbrev value : (ρ : List ℤ) → Poly ρ → ℤ
value [] c = c
value (x ∷ ρ) p = horner (value ρ) x p

abbrev con : (ρ : List ℤ) → ℤ → Poly ρ
con [] c = c
con (x ∷ ρ) c = con ρ c ∷ []

abbrev var : (ρ : List ℤ) → ℕ → Poly ρ
var [] i = pos 0
var (x ∷ ρ) zero = con ρ (pos 0) ∷ con ρ (pos 1) ∷ []
var (x ∷ ρ) (suc i) = var ρ i ∷ []

abbrev plus : (ρ : List ℤ) → Poly ρ → Poly ρ → Poly ρ
plus [] a b = a +ℤ b
plus (x ∷ ρ) a b = zip (plus ρ) a b

abbrev minus : (ρ : List ℤ) → Poly ρ → Poly ρ
minus [] a = neg_ℤ a
minus (x ∷ ρ) a = each (minus ρ) a

abbrev mult : (ρ : List ℤ) → Poly ρ → Poly ρ → Poly ρ
mult [] a b = a *ℤ b
mult (x ∷ ρ) a b = times (plus ρ) (mult ρ) (con ρ (pos 0)) a b

abbrev is_z : ℤ → Bool
is_z (pos n) = eqb n 0
is_z (negsuc n) = false

abbrev zero_p : (ρ : List ℤ) → Poly ρ → Bool
zero_p [] c = is_z c
zero_p (x ∷ ρ) p = all_z (zero_p ρ) p

abbrev norm : (ρ : List ℤ) → Expr → Poly ρ
norm ρ (X i) = var ρ i
norm ρ (K c) = con ρ c
norm ρ (a :+ b) = plus ρ (norm ρ a) (norm ρ b)
norm ρ (a :- b) = plus ρ (norm ρ a) (minus ρ (norm ρ b))
norm ρ (a :* b) = mult ρ (norm ρ a) (norm ρ b)
norm ρ (neg a) = minus ρ (norm ρ a)

-- ---- each step keeps the value
s-nil : (x b : ℤ) → b ≡ pos 0 +ℤ b
s-nil x b = rw (rep b) (simp diffs (omega arith))

s-nil-r : (b : ℤ) → b ≡ b +ℤ pos 0
s-nil-r b = rw (rep b) (simp diffs (omega arith))

s-zip : (a b x p q : ℤ) → (a +ℤ b) +ℤ x *ℤ (p +ℤ q) ≡ (a +ℤ x *ℤ p) +ℤ (b +ℤ x *ℤ q)
s-zip a b x p q = rw (rep a, rep b, rep x, rep p, rep q) (simp diffs (omega arith))

s-neg : (a x p : ℤ) → neg_ℤ a +ℤ x *ℤ neg_ℤ p ≡ neg_ℤ (a +ℤ x *ℤ p)
s-neg a x p = rw (rep a, rep x, rep p) (simp diffs (omega arith))

s-mul : (a b x p : ℤ) → a *ℤ b +ℤ x *ℤ (a *ℤ p) ≡ a *ℤ (b +ℤ x *ℤ p)
s-mul a b x p = rw (rep a, rep b, rep x, rep p) (simp diffs (omega arith))

s-zero : (a : ℤ) → pos 0 ≡ a *ℤ pos 0
s-zero a = rw (rep a) (simp diffs (omega arith))

s-zero-l : (a : ℤ) → pos 0 ≡ pos 0 *ℤ a
s-zero-l a = rw (rep a) (simp diffs (omega arith))

s-times : (a b x p : ℤ) → a *ℤ b +ℤ (pos 0 +ℤ x *ℤ (p *ℤ b)) ≡ (a +ℤ x *ℤ p) *ℤ b
s-times a b x p = rw (rep a, rep b, rep x, rep p) (simp diffs (omega arith))

s-con : (a x : ℤ) → a +ℤ x *ℤ pos 0 ≡ a
s-con a x = rw (rep a, rep x) (simp diffs (omega arith))

s_var : (x : ℤ) → pos 0 +ℤ x *ℤ (pos 1 +ℤ x *ℤ pos 0) ≡ x
s_var x = rw (rep x) (simp diffs (omega arith))

module _ {A : Type 0} (ev : A → ℤ) (x : ℤ) where
  zip-ok : (f : A → A → A) → ((a b : A) → ev (f a b) ≡ ev a +ℤ ev b) → (p q : List A) → horner ev x (zip f p q) ≡ horner ev x p +ℤ horner ev x q
  zip-ok f h [] q = s-nil x (horner ev x q)
  zip-ok f h (a ∷ p) [] = s-nil-r (horner ev x (a ∷ p))
  zip-ok f h (a ∷ p) (b ∷ q) = rw (h a b, zip-ok f h p q) (s-zip (ev a) (ev b) x (horner ev x p) (horner ev x q))

  each-neg : (f : A → A) → ((a : A) → ev (f a) ≡ neg_ℤ (ev a)) → (p : List A) → horner ev x (each f p) ≡ neg_ℤ (horner ev x p)
  each-neg f h [] = refl
  each-neg f h (a ∷ p) = rw (h a, each-neg f h p) (s-neg (ev a) x (horner ev x p))

  each-mul : (f : A → A) (c : ℤ) → ((a : A) → ev (f a) ≡ c *ℤ ev a) → (p : List A) → horner ev x (each f p) ≡ c *ℤ horner ev x p
  each-mul f c h [] = s-zero c
  each-mul f c h (a ∷ p) = rw (h a, each-mul f c h p) (s-mul c (ev a) x (horner ev x p))

  times-ok : (f g : A → A → A) (o : A) → ((a b : A) → ev (f a b) ≡ ev a +ℤ ev b) → ((a b : A) → ev (g a b) ≡ ev a *ℤ ev b) → ev o ≡ pos 0 → (p q : List A) → horner ev x (times f g o p q) ≡ horner ev x p *ℤ horner ev x q
  times-ok f g o h m z [] q = s-zero-l (horner ev x q)
  times-ok f g o h m z (a ∷ p) q =
      zip-ok f h (each (g a) q) (o ∷ times f g o p q)
      ∙ rw (each-mul (g a) (ev a) (m a) q, z, times-ok f g o h m z p q) (s-times (ev a) (horner ev x q) x (horner ev x p))

  all-ok : (t : A → Bool) → ((a : A) → T (t a) → ev a ≡ pos 0) → (p : List A) → T (all_z t p) → horner ev x p ≡ pos 0
  all-ok t h [] w = refl
  all-ok t h (a ∷ p) w = go (t a) refl w (λ u. all-ok t h p u)
    where
      go : (b : Bool) → t a ≡ b → T (b && all_z t p) → (T (all_z t p) → horner ev x p ≡ pos 0) → horner ev x (a ∷ p) ≡ pos 0
      go true e u r = rw (h a (subst T (sym e) tt), r u) (sym (s-nil x (x *ℤ pos 0)) ∙ sym (s-zero x))
      go false e u r = absurd u

con-ok : (ρ : List ℤ) (c : ℤ) → value ρ (con ρ c) ≡ c
con-ok [] c = refl
con-ok (x ∷ ρ) c = s-con (value ρ (con ρ c)) x ∙ con-ok ρ c

var-ok : (ρ : List ℤ) (i : ℕ) → value ρ (var ρ i) ≡ look ρ i
var-ok [] i = refl
var-ok (x ∷ ρ) zero = rw (con-ok ρ (pos 0), con-ok ρ (pos 1)) (s_var x)
var-ok (x ∷ ρ) (suc i) = s-con (value ρ (var ρ i)) x ∙ var-ok ρ i

plus-ok : (ρ : List ℤ) (p q : Poly ρ) → value ρ (plus ρ p q) ≡ value ρ p +ℤ value ρ q
plus-ok [] p q = refl
plus-ok (x ∷ ρ) p q = zip-ok (value ρ) x (plus ρ) (plus-ok ρ) p q

minus-ok : (ρ : List ℤ) (p : Poly ρ) → value ρ (minus ρ p) ≡ neg_ℤ (value ρ p)
minus-ok [] p = refl
minus-ok (x ∷ ρ) p = each-neg (value ρ) x (minus ρ) (minus-ok ρ) p

mult-ok : (ρ : List ℤ) (p q : Poly ρ) → value ρ (mult ρ p q) ≡ value ρ p *ℤ value ρ q
mult-ok [] p q = refl
mult-ok (x ∷ ρ) p q = times-ok (value ρ) x (plus ρ) (mult ρ) (con ρ (pos 0)) (plus-ok ρ) (mult-ok ρ) (con-ok ρ (pos 0)) p q

norm-ok : (ρ : List ℤ) (e : Expr) → value ρ (norm ρ e) ≡ eval ρ e
norm-ok ρ (X i) = var-ok ρ i
norm-ok ρ (K c) = con-ok ρ c
norm-ok ρ (a :+ b) = plus-ok ρ (norm ρ a) (norm ρ b) ∙ ap₂ ◌+ℤ◌ (norm-ok ρ a) (norm-ok ρ b)
norm-ok ρ (a :- b) = plus-ok ρ (norm ρ a) (minus ρ (norm ρ b)) ∙ ap₂ ◌+ℤ◌ (norm-ok ρ a) (minus-ok ρ (norm ρ b) ∙ ap neg_ℤ (norm-ok ρ b))
norm-ok ρ (a :* b) = mult-ok ρ (norm ρ a) (norm ρ b) ∙ ap₂ ◌*ℤ◌ (norm-ok ρ a) (norm-ok ρ b)
norm-ok ρ (neg a) = minus-ok ρ (norm ρ a) ∙ ap neg_ℤ (norm-ok ρ a)

is_z-ok : (c : ℤ) → T (is_z c) → c ≡ pos 0
is_z-ok (pos n) t = ap pos (omega (arith, eqb→eq n 0 t))
is_z-ok (negsuc n) t = absurd t

zero_ok : (ρ : List ℤ) (p : Poly ρ) → T (zero_p ρ p) → value ρ p ≡ pos 0
zero_ok [] p t = is_z-ok p t
zero_ok (x ∷ ρ) p t = all-ok (value ρ) x (zero_p ρ) (zero_ok ρ) p t

apart : (a b : ℤ) → a -ℤ b ≡ pos 0 → a ≡ b
apart a b = rw (rep a, rep b) (simp diffs (omega arith))

pub solve : (ρ : List ℤ) (e f : Expr) → T (zero_p ρ (norm ρ (e :- f))) → eval ρ e ≡ eval ρ f
solve ρ e f t = apart (eval ρ e) (eval ρ f) (sym (norm-ok ρ (e :- f)) ∙ zero_ok ρ (norm ρ (e :- f)) t)

-- ---- with the variables bound by a λ: `ring3 (λ x y z. ((x :+ y) :* z, x :* z :+ y :* z)) a b c tt`
abbrev pub Holds : List ℤ → Expr × Expr → Type 0
Holds ρ q = eval ρ q.0 ≡ eval ρ q.1

abbrev pub Checks : List ℤ → Expr × Expr → Type 0
Checks ρ q = T (zero_p ρ (norm ρ (q.0 :- q.1)))

by-check : (ρ : List ℤ) (q : Expr × Expr) → Checks ρ q → Holds ρ q
by-check ρ q t = solve ρ q.0 q.1 t

pub ring1 : (q : Expr → Expr × Expr) (a : ℤ) → Checks (a ∷ []) (q (X 0)) → Holds (a ∷ []) (q (X 0))
ring1 q a t = by-check (a ∷ []) (q (X 0)) t

pub ring2 : (q : Expr → Expr → Expr × Expr) (a b : ℤ) → Checks (a ∷ b ∷ []) (q (X 0) (X 1)) → Holds (a ∷ b ∷ []) (q (X 0) (X 1))
ring2 q a b t = by-check (a ∷ b ∷ []) (q (X 0) (X 1)) t

pub ring3 : (q : Expr → Expr → Expr → Expr × Expr) (a b c : ℤ) → Checks (a ∷ b ∷ c ∷ []) (q (X 0) (X 1) (X 2)) → Holds (a ∷ b ∷ c ∷ []) (q (X 0) (X 1) (X 2))
ring3 q a b c t = by-check (a ∷ b ∷ c ∷ []) (q (X 0) (X 1) (X 2)) t

pub ring4 : (q : Expr → Expr → Expr → Expr → Expr × Expr) (a b c d : ℤ) → Checks (a ∷ b ∷ c ∷ d ∷ []) (q (X 0) (X 1) (X 2) (X 3)) → Holds (a ∷ b ∷ c ∷ d ∷ []) (q (X 0) (X 1) (X 2) (X 3))
ring4 q a b c d t = by-check (a ∷ b ∷ c ∷ d ∷ []) (q (X 0) (X 1) (X 2) (X 3)) t

pub ring5 : (q : Expr → Expr → Expr → Expr → Expr → Expr × Expr) (a b c d e : ℤ) → Checks (a ∷ b ∷ c ∷ d ∷ e ∷ []) (q (X 0) (X 1) (X 2) (X 3) (X 4)) → Holds (a ∷ b ∷ c ∷ d ∷ e ∷ []) (q (X 0) (X 1) (X 2) (X 3) (X 4))
ring5 q a b c d e t = by-check (a ∷ b ∷ c ∷ d ∷ e ∷ []) (q (X 0) (X 1) (X 2) (X 3) (X 4)) t

pub ring6 : (q : Expr → Expr → Expr → Expr → Expr → Expr → Expr × Expr) (a b c d e f : ℤ) → Checks (a ∷ b ∷ c ∷ d ∷ e ∷ f ∷ []) (q (X 0) (X 1) (X 2) (X 3) (X 4) (X 5)) → Holds (a ∷ b ∷ c ∷ d ∷ e ∷ f ∷ []) (q (X 0) (X 1) (X 2) (X 3) (X 4) (X 5))
ring6 q a b c d e f t = by-check (a ∷ b ∷ c ∷ d ∷ e ∷ f ∷ []) (q (X 0) (X 1) (X 2) (X 3) (X 4) (X 5)) t

pub ring7 : (q : Expr → Expr → Expr → Expr → Expr → Expr → Expr → Expr × Expr) (a b c d e f g : ℤ) → Checks (a ∷ b ∷ c ∷ d ∷ e ∷ f ∷ g ∷ []) (q (X 0) (X 1) (X 2) (X 3) (X 4) (X 5) (X 6)) → Holds (a ∷ b ∷ c ∷ d ∷ e ∷ f ∷ g ∷ []) (q (X 0) (X 1) (X 2) (X 3) (X 4) (X 5) (X 6))
ring7 q a b c d e f g t = by-check (a ∷ b ∷ c ∷ d ∷ e ∷ f ∷ g ∷ []) (q (X 0) (X 1) (X 2) (X 3) (X 4) (X 5) (X 6)) t

pub ring8 : (q : Expr → Expr → Expr → Expr → Expr → Expr → Expr → Expr → Expr × Expr) (a b c d e f g h : ℤ) → Checks (a ∷ b ∷ c ∷ d ∷ e ∷ f ∷ g ∷ h ∷ []) (q (X 0) (X 1) (X 2) (X 3) (X 4) (X 5) (X 6) (X 7)) → Holds (a ∷ b ∷ c ∷ d ∷ e ∷ f ∷ g ∷ h ∷ []) (q (X 0) (X 1) (X 2) (X 3) (X 4) (X 5) (X 6) (X 7))
ring8 q a b c d e f g h t = by-check (a ∷ b ∷ c ∷ d ∷ e ∷ f ∷ g ∷ h ∷ []) (q (X 0) (X 1) (X 2) (X 3) (X 4) (X 5) (X 6) (X 7)) t

pub ring9 : (q : Expr → Expr → Expr → Expr → Expr → Expr → Expr → Expr → Expr → Expr × Expr) (a b c d e f g h i : ℤ) → Checks (a ∷ b ∷ c ∷ d ∷ e ∷ f ∷ g ∷ h ∷ i ∷ []) (q (X 0) (X 1) (X 2) (X 3) (X 4) (X 5) (X 6) (X 7) (X 8)) → Holds (a ∷ b ∷ c ∷ d ∷ e ∷ f ∷ g ∷ h ∷ i ∷ []) (q (X 0) (X 1) (X 2) (X 3) (X 4) (X 5) (X 6) (X 7) (X 8))
ring9 q a b c d e f g h i t = by-check (a ∷ b ∷ c ∷ d ∷ e ∷ f ∷ g ∷ h ∷ i ∷ []) (q (X 0) (X 1) (X 2) (X 3) (X 4) (X 5) (X 6) (X 7) (X 8)) t

pub ring10 : (q : Expr → Expr → Expr → Expr → Expr → Expr → Expr → Expr → Expr → Expr → Expr × Expr) (a b c d e f g h i j : ℤ) → Checks (a ∷ b ∷ c ∷ d ∷ e ∷ f ∷ g ∷ h ∷ i ∷ j ∷ []) (q (X 0) (X 1) (X 2) (X 3) (X 4) (X 5) (X 6) (X 7) (X 8) (X 9)) → Holds (a ∷ b ∷ c ∷ d ∷ e ∷ f ∷ g ∷ h ∷ i ∷ j ∷ []) (q (X 0) (X 1) (X 2) (X 3) (X 4) (X 5) (X 6) (X 7) (X 8) (X 9))
ring10 q a b c d e f g h i j t = by-check (a ∷ b ∷ c ∷ d ∷ e ∷ f ∷ g ∷ h ∷ i ∷ j ∷ []) (q (X 0) (X 1) (X 2) (X 3) (X 4) (X 5) (X 6) (X 7) (X 8) (X 9)) t

-- ---- with equations as hypotheses (Lean's `linear_combination`): a - b is c times what one equation's sides differ by, and d times the other's
none₁ : (a b c r : ℤ) → a -ℤ b ≡ c *ℤ (r -ℤ r) → a ≡ b
none₁ a b c r = rw (rep a, rep b, rep c, rep r) (simp diffs (omega arith))

pub combine₁ : {a b l r : ℤ} (c : ℤ) → l ≡ r → a -ℤ b ≡ c *ℤ (l -ℤ r) → a ≡ b
combine₁ {a} {b} {l} {r} c h e = none₁ a b c r (rw h at e)

none₂ : (a b c r d s : ℤ) → a -ℤ b ≡ c *ℤ (r -ℤ r) +ℤ d *ℤ (s -ℤ s) → a ≡ b
none₂ a b c r d s = rw (rep a, rep b, rep c, rep r, rep d, rep s) (simp diffs (omega arith))

pub combine₂ : {a b l r m s : ℤ} (c d : ℤ) → l ≡ r → m ≡ s → a -ℤ b ≡ c *ℤ (l -ℤ r) +ℤ d *ℤ (m -ℤ s) → a ≡ b
combine₂ {a} {b} {l} {r} {m} {s} c d h i e = none₂ a b c r d s (rw (h, i) at e)
