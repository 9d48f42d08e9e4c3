-- Laws of lists. A test's outcome is an equation, `f x ≡ true`, so that `rw` can use it. Assumes nothing.
use Rattle.std.specs.Prelude.{Bool, true, false, ◌&&◌, ◌||◌, ◌≡◌, refl, ℕ, zero, suc, ◌+◌, ◌≤◌, ◌<◌, length, get_or, Option, Some, None}
use Rattle.std.proofs.Common.{true≢false, sym, ap, ◌∙◌, arith}
use mathlib.Core.List.{List, [], ◌∷◌, ◌++◌, map, Memᴰ}
use Rattle.std.proofs.Math.Path.{subst⁻¹}
use Rattle.lists.specs.Lists.{all, any, count, suc_if, first, first_or, where_first, next, joined, All, nil, cons}

-- ---- tests

pub clash : {X : Type 0} → true ≡ false → X
clash e = absurd (true≢false e)

pub and_both : {a b : Bool} → a ≡ true → b ≡ true → a && b ≡ true
and_both p q = rw p q

pub and_left : (a b : Bool) → a && b ≡ true → a ≡ true
and_left true b e = refl
and_left false b e = e

pub and_right : (a b : Bool) → a && b ≡ true → b ≡ true
and_right true b e = e
and_right false b e = clash (sym e)

pub or_left : {a : Bool} (b : Bool) → a ≡ true → a || b ≡ true
or_left b p = rw p

pub or_right : (a : Bool) {b : Bool} → b ≡ true → a || b ≡ true
or_right true p = refl
or_right false p = p

pub or_no : (a b : Bool) → a || b ≡ false → (a ≡ false) × (b ≡ false)
or_no true b e = clash e
or_no false b e = (refl, e)

pub both_ways : (a b : Bool) → (a ≡ true → b ≡ true) → (b ≡ true → a ≡ true) → a ≡ b
both_ways true b f g = sym (f refl)
both_ways false true f g = g refl
both_ways false false f g = refl

suc_if-le : (a b : Bool) {j k : ℕ} → (a ≡ true → b ≡ true) → j ≤ k → suc_if a j ≤ suc_if b k
suc_if-le true true i h = omega arith
suc_if-le true false i h = clash (sym (i refl))
suc_if-le false true i h = omega arith
suc_if-le false false i h = h

suc_if-add : (b : Bool) (k m n : ℕ) → k ≡ m + n → suc_if b k ≡ suc_if b m + n
suc_if-add true k m n e = omega arith
suc_if-add false k m n e = e

module _ {A : Type 0} where
  -- ---- All

  pub All-head : {P : A → Type 0} {x : A} {xs : List A} → All P (x ∷ xs) → P x
  All-head (cons h hs) = h

  pub All-tail : {P : A → Type 0} {x : A} {xs : List A} → All P (x ∷ xs) → All P xs
  All-tail (cons h hs) = hs

  pub All-imp : {P Q : A → Type 0} {l : List A} → ((x : A) → P x → Q x) → All P l → All Q l
  All-imp f nil = nil
  All-imp f (cons {x = x} h hs) = cons (f x h) (All-imp f hs)

  pub All-both : {P Q : A → Type 0} {l : List A} → All P l → All Q l → All (λ x. P x × Q x) l
  All-both nil nil = nil
  All-both (cons h hs) (cons k ks) = cons (h, k) (All-both hs ks)

  pub All-append : {P : A → Type 0} {xs ys : List A} → All P xs → All P ys → All P (xs ++ ys)
  All-append nil k = k
  All-append (cons h hs) k = cons h (All-append hs k)

  pub All-at : {P : A → Type 0} {x : A} {l : List A} → All P l → Memᴰ x l → P x
  All-at {P} (cons h hs) (Memᴰ.head e) = subst⁻¹ P e h
  All-at {P = P} nil x4 = elim x4 [ ]
  All-at (cons h hs) (Memᴰ.tail i) = All-at hs i

  pub All-of : {P : A → Type 0} (l : List A) → ((x : A) → Memᴰ x l → P x) → All P l
  All-of [] f = nil
  All-of (x ∷ xs) f = cons (f x (Memᴰ.head refl)) (All-of xs (λ y i. f y (Memᴰ.tail i)))

  -- a test of all rows
  pub all_yes : (f : A → Bool) (l : List A) → all f l ≡ true → All (λ x. f x ≡ true) l
  all_yes f [] t = nil
  all_yes f (x ∷ xs) t = cons (and_left (f x) (all f xs) t) (all_yes f xs (and_right (f x) (all f xs) t))

  pub yes-all : {f : A → Bool} {l : List A} → All (λ x. f x ≡ true) l → all f l ≡ true
  yes-all nil = refl
  yes-all (cons h hs) = and_both h (yes-all hs)

  pub any_at : (f : A → Bool) {x : A} {l : List A} → f x ≡ true → Memᴰ x l → any f l ≡ true
  any_at f t (Memᴰ.head {x = y} {xs = ys} e) = or_left (any f ys) (ap f (sym e) ∙ t)
  any_at f t (Memᴰ.tail {x = y} {xs = ys} i) = or_right (f y) (any_at f t i)

  any_step : (f : A → Bool) (x : A) (xs : List A) (b : Bool) → f x ≡ b → b || any f xs ≡ true → (any f xs ≡ true → (y : A) × Memᴰ y xs × (f y ≡ true)) → (y : A) × Memᴰ y (x ∷ xs) × (f y ≡ true)
  any_step f x xs true q e below = (x, Memᴰ.head refl, q)
  any_step f x xs false q e below = let r = below e in (r.0, Memᴰ.tail r.1, r.2)

  -- a row that passes
  pub any-row : (f : A → Bool) (l : List A) → any f l ≡ true → (x : A) × Memᴰ x l × (f x ≡ true)
  any-row f [] e = clash (sym e)
  any-row f (x ∷ xs) e = any_step f x xs (f x) refl e (any-row f xs)

  pub any_none : (f : A → Bool) (l : List A) → any f l ≡ false → All (λ x. f x ≡ false) l
  any_none f [] e = nil
  any_none f (x ∷ xs) e = let h = or_no (f x) (any f xs) e in cons h.0 (any_none f xs h.1)

  -- ---- the first row that passes

  pub data FirstIs (f : A → Bool) (l : List A) : Option A → Type 0 where
    no_row : All (λ x. f x ≡ false) l → FirstIs f l None
    row : {x : A} → Memᴰ x l → f x ≡ true → FirstIs f l (Some x)

  first_step : (f : A → Bool) (x : A) (xs : List A) (b : Bool) → f x ≡ b → {o : Option A} → FirstIs f xs o → FirstIs f (x ∷ xs) (first_or b x o)
  first_step f x xs true e r = row (Memᴰ.head refl) e
  first_step f x xs false e (no_row h) = no_row (cons e h)
  first_step f x xs false e (row i t) = row (Memᴰ.tail i) t

  pub first-is : (f : A → Bool) (l : List A) → FirstIs f l (first f l)
  first-is f [] = no_row nil
  first-is f (x ∷ xs) = first_step f x xs (f x) refl (first-is f xs)

  -- ---- the place of the first row that passes

  pub data WhereIs (f : A → Bool) (l : List A) (d : A) : Option ℕ → Type 0 where
    nowhere : All (λ x. f x ≡ false) l → WhereIs f l d None
    place_of : (i : ℕ) → i < length l → f (get_or l i d) ≡ true → WhereIs f l d (Some i)

  where-step : (f : A → Bool) (x : A) (xs : List A) (d : A) (b : Bool) → f x ≡ b → {o : Option ℕ} → WhereIs f xs d o → WhereIs f (x ∷ xs) d (next b o)
  where-step f x xs d true e r = place_of 0 (omega arith) e
  where-step f x xs d false e (nowhere h) = nowhere (cons e h)
  where-step f x xs d false e (place_of i h t) = place_of (suc i) (omega arith) t

  pub where-is : (f : A → Bool) (l : List A) (d : A) → WhereIs f l d (where_first f l)
  where-is f [] d = nowhere nil
  where-is f (x ∷ xs) d = where-step f x xs d (f x) refl (where-is f xs d)

  pub where-none : (f : A → Bool) (l : List A) → where_first f l ≡ None → All (λ x. f x ≡ false) l
  where-none f [] e = nil
  where-none f (x ∷ xs) e = go (f x) refl (where_first f xs) e (where-none f xs)
    where
      go : (b : Bool) → f x ≡ b → (o : Option ℕ) → next b o ≡ None → (o ≡ None → All (λ y. f y ≡ false) xs) → All (λ y. f y ≡ false) (x ∷ xs)
      go true q o e below = let z : ◌≡◌ {A = ℕ} 0 1 = cc in absurd (omega arith)
      go false q None e below = cons q (below refl)
      go false q (Some k) e below = let z : ◌≡◌ {A = ℕ} 0 1 = cc in absurd (omega arith)

  pub All-get_or : {P : A → Type 0} {l : List A} → All P l → (i : ℕ) (d : A) → i < length l → P (get_or l i d)
  All-get_or nil i d h = absurd (omega arith)
  All-get_or (cons p ps) zero d h = p
  All-get_or (cons p ps) (suc i) d h = All-get_or ps i d (omega arith)

  -- ---- counts

  pub count-append : (f : A → Bool) (xs ys : List A) → count f (xs ++ ys) ≡ count f xs + count f ys
  count-append f [] ys = omega arith
  count-append f (x ∷ xs) ys = suc_if-add (f x) _ _ _ (count-append f xs ys)

  count-le : (f g : A → Bool) → ((x : A) → f x ≡ true → g x ≡ true) → (l : List A) → count f l ≤ count g l
  count-le f g i [] = omega arith
  count-le f g i (x ∷ xs) = suc_if-le (f x) (g x) (i x) (count-le f g i xs)

  pub count-le-length : (f : A → Bool) (l : List A) → count f l ≤ length l
  count-le-length f [] = omega arith
  count-le-length f (x ∷ xs) = suc_if-le (f x) true (λ e. refl) (count-le-length f xs)

  -- a row that passes g and not f makes the count smaller
  pub count-lt : (f g : A → Bool) → ((x : A) → f x ≡ true → g x ≡ true) → {y : A} {l : List A} → Memᴰ y l → f y ≡ false → g y ≡ true → count f l < count g l
  count-lt f g i (Memᴰ.head {x = x} {xs = xs} e) n t =
      rw (ap f (sym e) ∙ n, ap g (sym e) ∙ t) (let h = count-le f g i xs in omega arith)
  count-lt f g i (Memᴰ.tail {x = x} {xs = xs} j) n t = step (f x) (g x) (i x) (count-lt f g i j n t)
    where
      step : (a b : Bool) {j k : ℕ} → (a ≡ true → b ≡ true) → j < k → suc_if a j < suc_if b k
      step true b i h = rw (i refl) (omega arith)
      step false true i h = omega arith
      step false false i h = h

  pub count_none : (f : A → Bool) {l : List A} → count f l ≡ 0 → All (λ x. f x ≡ false) l
  count_none f {l = l} e = go l e
    where
      here : (x : A) (xs : List A) (b : Bool) → f x ≡ b → (count f xs ≡ 0 → All (λ y. f y ≡ false) xs) → suc_if b (count f xs) ≡ 0 → All (λ y. f y ≡ false) (x ∷ xs)
      here x xs true q below e = absurd (omega arith)
      here x xs false q below e = cons q (below e)

      go : (k : List A) → count f k ≡ 0 → All (λ x. f x ≡ false) k
      go [] e = nil
      go (x ∷ xs) e = here x xs (f x) refl (go xs) e

module _ {A B : Type 0} where
  pub All-map : {P : B → Type 0} (f : A → B) {l : List A} → All (λ x. P (f x)) l → All P (map f l)
  All-map f nil = nil
  All-map f (cons h hs) = cons h (All-map f hs)

  pub All-joined : {P : B → Type 0} (f : A → List B) {l : List A} → All (λ x. All P (f x)) l → All P (joined f l)
  All-joined f nil = nil
  All-joined f (cons h hs) = All-append h (All-joined f hs)
