-- Members of lists that are filtered, thinned out, joined or counted up; members by number. Assumes nothing.
use Rattle.std.proofs.lemmas.Option.{none-some}
use Rattle.std.specs.Prelude.{Bool, true, false, not, ◌||◌, ◌≢◌, ◌≡◌, refl, ℕ, zero, suc, ◌+◌, ◌≤◌, ◌<◌, eqb, length, get_or, Option, None, Some}
use mathlib.Core.List.Memᴰ
use mathlib.Core.List.{List, [], ◌∷◌, ◌++◌, Memᴰ}
use Rattle.std.proofs.Common.{sym, subst, ap, ap₂, ◌∙◌, arith, eqb-true}
use Rattle.std.proofs.lemmas.Bool.{eqb-false}
use Rattle.lists.specs.Lists.{any, only, once, cons_if, suc_if, count, first, first_or, joined, up_to, All, nil, cons}
use Rattle.lists.specs.ListsLaw.{clash, All-append, All-imp, All-at, All-of, FirstIs, no_row, row, first-is, count-append}

module _ {A : Type 0} where
  pub in_tail : {x y : A} {l : List A} → Memᴰ x (y ∷ l) → x ≢ y → Memᴰ x l
  in_tail (Memᴰ.head e) n = absurd (n e)
  in_tail (Memᴰ.tail i) n = i

  pub only-in : (f : A → Bool) {x : A} {l : List A} → Memᴰ x l → f x ≡ true → Memᴰ x (only f l)
  only-in f (Memᴰ.head {x = y} {xs = ys} e) t = rw (ap f (sym e) ∙ t) (Memᴰ.head e)
  only-in f {x} (Memᴰ.tail {x = y} {xs = ys} i) t = go (f y) (only-in f i t)
    where
      go : (b : Bool) → Memᴰ x (only f ys) → Memᴰ x (cons_if b y (only f ys))
      go true j = Memᴰ.tail j
      go false j = j

  pub only-passes : (f : A → Bool) (l : List A) → All (λ x. f x ≡ true) (only f l)
  only-passes f [] = nil
  only-passes f (x ∷ xs) = go (f x) refl (only-passes f xs)
    where
      go : (b : Bool) → f x ≡ b → All (λ y. f y ≡ true) (only f xs) → All (λ y. f y ≡ true) (cons_if b x (only f xs))
      go true e h = cons e h
      go false e h = h

  pub only_keeps : {P : A → Type 0} (f : A → Bool) {l : List A} → All P l → All P (only f l)
  only_keeps f nil = nil
  only_keeps {P} f (cons {x = x} {xs = xs} p h) = go (f x) (only_keeps f h)
    where
      go : (b : Bool) → All P (only f xs) → All P (cons_if b x (only f xs))
      go true r = cons p r
      go false r = r

  pub only_out : (f : A → Bool) {x : A} (l : List A) → Memᴰ x (only f l) → Memᴰ x l
  only_out f l i = All-at (only_keeps f (All-of l (λ y j. j))) i

  pub only-cong : (f g : A → Bool) {l : List A} → All (λ x. f x ≡ g x) l → only f l ≡ only g l
  only-cong f g nil = refl
  only-cong f g (cons {x = x} {xs = xs} e h) = ap₂ (λ b l. cons_if b x l) e (only-cong f g h)

  -- ---- the first that passes is the first of those that pass

  abbrev pub head_of : List A → Option A
  head_of [] = None
  head_of (x ∷ xs) = Some x

  pub first_head : (f : A → Bool) (l : List A) → first f l ≡ head_of (only f l)
  first_head f [] = refl
  first_head f (x ∷ xs) = go (f x) (first_head f xs)
    where
      go : (b : Bool) → first f xs ≡ head_of (only f xs) → first_or b x (first f xs) ≡ head_of (cons_if b x (only f xs))
      go true e = refl
      go false e = e

  pub first_cong : (f g : A → Bool) {l : List A} → All (λ x. f x ≡ g x) l → first f l ≡ first g l
  first_cong f g nil = refl
  first_cong f g (cons {x = x} {xs = xs} e h) = ap₂ (λ b o. first_or b x o) e (first_cong f g h)

  pub head-is : (l : List A) {x : A} → head_of l ≡ Some x → (xs : List A) × (l ≡ x ∷ xs)
  head-is [] {x} e = absurd (none-some x e)
  head-is (y ∷ ys) {x} e = (ys, ap (λ w. w ∷ ys) (let w : y ≡ x = cc in w))

  pub first_found : (f : A → Bool) (l : List A) {x : A} → first f l ≡ Some x → Memᴰ x l × (f x ≡ true)
  first_found f l {x} e = go (first-is f l) e
    where
      go : {o : Option A} → FirstIs f l o → o ≡ Some x → Memᴰ x l × (f x ≡ true)
      go (no_row h) e = absurd (none-some x e)
      go (row {x = y} i t) e = let w : y ≡ x = cc in (subst (λ v. Memᴰ v l) w i, subst (λ v. f v ≡ true) w t)

  pub once-keeps : {P : A → Type 0} (same : A → A → Bool) {l : List A} → All P l → All P (once same l)
  once-keeps same nil = nil
  once-keeps same (cons {x = x} p h) = cons p (only_keeps (λ y. not (same x y)) (once-keeps same h))

  -- ---- by number

  pub mem-at : {x : A} {l : List A} (d : A) → Memᴰ x l → (j : ℕ) × (j < length l) × (get_or l j d ≡ x)
  mem-at d (Memᴰ.head {xs = xs} e) = (0, omega arith, sym e)
  mem-at d (Memᴰ.tail i) = let r = mem-at d i in (suc r.0, omega (arith, r.1), r.2)

  pub at_mem : (l : List A) (j : ℕ) (d : A) → j < length l → Memᴰ (get_or l j d) l
  at_mem [] j d h = absurd (omega arith)
  at_mem (x ∷ xs) zero d h = Memᴰ.head refl
  at_mem (x ∷ xs) (suc j) d h = Memᴰ.tail (at_mem xs j d (omega arith))

  -- ---- none passes

  pub none_any : (f : A → Bool) {l : List A} → All (λ x. f x ≡ false) l → any f l ≡ false
  none_any f nil = refl
  none_any f (cons h hs) = rw (h, none_any f hs)

  none-count : (f : A → Bool) {l : List A} → All (λ x. f x ≡ false) l → count f l ≡ 0
  none-count f nil = refl
  none-count f (cons h hs) = rw (h, none-count f hs)

  -- ---- a count above 0 has a member

  pub count-some : (f : A → Bool) (l : List A) → 1 ≤ count f l → (x : A) × Memᴰ x l × (f x ≡ true)
  count-some f [] h = absurd (omega arith)
  count-some f (x ∷ xs) h = go (f x) refl h (count-some f xs)
    where
      go : (b : Bool) → f x ≡ b → 1 ≤ suc_if b (count f xs) → (1 ≤ count f xs → (y : A) × Memᴰ y xs × (f y ≡ true)) → (y : A) × Memᴰ y (x ∷ xs) × (f y ≡ true)
      go true e h below = (x, Memᴰ.head refl, e)
      go false e h below = let r = below h in (r.0, Memᴰ.tail r.1, r.2)

  pub any-count : (f : A → Bool) (l : List A) → any f l ≡ true → 1 ≤ count f l
  any-count f [] t = clash (sym t)
  any-count f (x ∷ xs) t = go (f x) t (any-count f xs)
    where
      go : (b : Bool) → b || any f xs ≡ true → (any f xs ≡ true → 1 ≤ count f xs) → 1 ≤ suc_if b (count f xs)
      go true e below = omega arith
      go false e below = below e

module _ {A B : Type 0} where
  pub joined_in : (f : A → List B) {x : A} {y : B} {l : List A} → Memᴰ x l → Memᴰ y (f x) → Memᴰ y (joined f l)
  joined_in f {x} {y} (Memᴰ.head {x = a} {xs = as'} e) j = Memᴰ.append_left (joined f as') (subst (λ z. Memᴰ y (f z)) e j)
  joined_in f {x} {y} (Memᴰ.tail {x = a} {xs = as'} i) j = Memᴰ.append_right (f a) (joined_in f i j)

-- ---- 0, 1, .. below n

pub up_to-below : (n : ℕ) → All (λ z. z < n) (up_to n)
up_to-below zero = nil
up_to-below (suc n) = All-append (All-imp (λ z h. omega arith) (up_to-below n)) (cons (omega arith) nil)

pub up_to-in : {z : ℕ} (n : ℕ) → z < n → Memᴰ z (up_to n)
up_to-in zero h = absurd (omega arith)
up_to-in {z} (suc n) h = go (eqb z n) refl (up_to-in n)
  where
    go : (b : Bool) → eqb z n ≡ b → (z < n → Memᴰ z (up_to n)) → Memᴰ z (up_to n ++ (n ∷ []))
    go true e below = Memᴰ.append_right (up_to n) (Memᴰ.head (eqb-true z n e))
    go false e below = let ne : z ≢ n = eqb-false z n e in Memᴰ.append_left (n ∷ []) (below (omega arith))

-- a test that one number alone can pass
pub up_to-once : (f : ℕ → Bool) (k : ℕ) → ((j : ℕ) → f j ≡ true → j ≡ k) → (n : ℕ) → count f (up_to n) ≤ 1
up_to-once f k h zero = omega arith
up_to-once f k h (suc n) = let a = count-append f (up_to n) (n ∷ []) in go (f n) refl a (up_to-once f k h n)
  where
    none_below : f n ≡ true → count f (up_to n) ≡ 0
    none_below e = none-count f (All-imp (λ j l. off j l (f j) refl) (up_to-below n))
      where
        off : (j : ℕ) → j < n → (b : Bool) → f j ≡ b → b ≡ false
        off j l true w = let p = h j w in let q = h n e in absurd (omega arith)
        off j l false w = refl

    go : (b : Bool) → f n ≡ b → count f (up_to n ++ (n ∷ [])) ≡ count f (up_to n) + suc_if b 0 → count f (up_to n) ≤ 1 → count f (up_to n ++ (n ∷ [])) ≤ 1
    go true e a below = let b = none_below e in omega arith
    go false e a below = omega arith
