-- Sums of whole numbers over a list. Assumes nothing.
use Rattle.std.specs.Prelude.{Bool, true, false, not, ◌||◌, List, [], ◌∷◌, ◌++◌, ◌≡◌, refl, ◌≤◌, ℤ, pos, neg_ℤ, ◌+ℤ◌}
use Rattle.std.proofs.Common.{sym, ap, ◌∙◌, arith}
use Rattle.whole.specs.Diff.{onℤ, sumℤ, negℤ-ud}
use Rattle.lists.specs.Lists.{any, only, cons_if, count, suc_if, joined, All, nil, cons}

-- the number, where the test passes
abbrev pub when : Bool → ℤ → ℤ
when true k = k
when false k = pos 0

-- 1 where the test passes
abbrev pub one : Bool → ℤ
one b = when b (pos 1)

when-split : (b : Bool) (k : ℤ) → when b k +ℤ when (not b) k ≡ k
when-split true k = omega (arith, onℤ, sumℤ k (pos 0))
when-split false k = omega (arith, onℤ, sumℤ (pos 0) k)

pub when-neg : (b : Bool) (k : ℤ) → when b (neg_ℤ k) ≡ neg_ℤ (when b k)
when-neg true k = refl
when-neg false k = refl

-- four numbers, two by two
exchange : (a b c d : ℤ) → (a +ℤ b) +ℤ (c +ℤ d) ≡ (a +ℤ c) +ℤ (b +ℤ d)
exchange a b c d = omega (arith, onℤ, sumℤ a b, sumℤ c d, sumℤ (a +ℤ b) (c +ℤ d), sumℤ a c, sumℤ b d, sumℤ (a +ℤ c) (b +ℤ d))

regroup : (a b c : ℤ) → a +ℤ (b +ℤ c) ≡ (a +ℤ b) +ℤ c
regroup a b c = omega (arith, onℤ, sumℤ a b, sumℤ b c, sumℤ a (b +ℤ c), sumℤ (a +ℤ b) c)

neg_sum : (a b : ℤ) → neg_ℤ a +ℤ neg_ℤ b ≡ neg_ℤ (a +ℤ b)
neg_sum a b = omega (arith, onℤ, sumℤ a b, sumℤ (neg_ℤ a) (neg_ℤ b), negℤ-ud a, negℤ-ud b, negℤ-ud (a +ℤ b))

module _ {A : Type 0} where
  abbrev pub added : (A → ℤ) → List A → ℤ
  added f [] = pos 0
  added f (x ∷ xs) = f x +ℤ added f xs

  pub added-append : (f : A → ℤ) (xs ys : List A) → added f (xs ++ ys) ≡ added f xs +ℤ added f ys
  added-append f [] ys = let k = added f ys in omega (arith, onℤ, sumℤ (pos 0) k)
  added-append f (x ∷ xs) ys = rw (added-append f xs ys) (regroup (f x) (added f xs) (added f ys))

  pub added-eq : (f g : A → ℤ) {xs : List A} → All (λ x. f x ≡ g x) xs → added f xs ≡ added g xs
  added-eq f g nil = refl
  added-eq f g (cons h hs) = rw (h, added-eq f g hs)

  pub added-sum : (f g : A → ℤ) (xs : List A) → added (λ x. f x +ℤ g x) xs ≡ added f xs +ℤ added g xs
  added-sum f g [] = refl
  added-sum f g (x ∷ xs) = rw (added-sum f g xs) (exchange (f x) (g x) (added f xs) (added g xs))

  pub added-neg : (f : A → ℤ) (xs : List A) → added (λ x. neg_ℤ (f x)) xs ≡ neg_ℤ (added f xs)
  added-neg f [] = refl
  added-neg f (x ∷ xs) = rw (added-neg f xs) (neg_sum (f x) (added f xs))

  pub added-zero : (f : A → ℤ) {xs : List A} → All (λ x. f x ≡ pos 0) xs → added f xs ≡ pos 0
  added-zero f nil = refl
  added-zero f (cons h hs) = rw (h, added-zero f hs)

  -- the members that pass, added where they stand
  pub added-only : (f : A → ℤ) (p : A → Bool) (xs : List A) → added f (only p xs) ≡ added (λ x. when (p x) (f x)) xs
  added-only f p [] = refl
  added-only f p (x ∷ xs) = go (p x) (added-only f p xs)
    where
      go : (b : Bool) → added f (only p xs) ≡ added (λ y. when (p y) (f y)) xs → added f (cons_if b x (only p xs)) ≡ when b (f x) +ℤ added (λ y. when (p y) (f y)) xs
      go true h = ap (λ k. f x +ℤ k) h
      go false h = let k = added (λ y. when (p y) (f y)) xs in h ∙ omega (arith, onℤ, sumℤ (pos 0) k)

  -- the members that pass and those that do not
  pub added-parts : (f : A → ℤ) (p : A → Bool) (xs : List A) → added f xs ≡ added f (only p xs) +ℤ added f (only (λ x. not (p x)) xs)
  added-parts f p xs =
      sym (whole xs) ∙ added-sum (λ x. when (p x) (f x)) (λ x. when (not (p x)) (f x)) xs ∙
      rw (sym (added-only f p xs), sym (added-only f (λ x. not (p x)) xs)) refl
    where
      whole : (ys : List A) → added (λ x. when (p x) (f x) +ℤ when (not (p x)) (f x)) ys ≡ added f ys
      whole [] = refl
      whole (y ∷ ys) = rw (when-split (p y) (f y), whole ys)

  -- as many as pass
  pub added-count : (p : A → Bool) (xs : List A) → added (λ x. one (p x)) xs ≡ pos (count p xs)
  added-count p [] = refl
  added-count p (x ∷ xs) = go (p x) (added-count p xs)
    where
      go : (b : Bool) → added (λ y. one (p y)) xs ≡ pos (count p xs) → one b +ℤ added (λ y. one (p y)) xs ≡ pos (suc_if b (count p xs))
      go true h = rw h (ap pos (omega arith))
      go false h = rw h (ap pos (omega arith))

  -- at most one passes: a number added where the test passes is there once, or not at all
  pub added-any : (p : A → Bool) (k : ℤ) (xs : List A) → count p xs ≤ 1 → added (λ x. when (p x) k) xs ≡ when (any p xs) k
  added-any p k [] h = refl
  added-any p k (x ∷ xs) h = go (p x) h (added-any p k xs) (none xs)
    where
      none : (ys : List A) → count p ys ≡ 0 → added (λ y. when (p y) k) ys ≡ pos 0
      none [] e = refl
      none (y ∷ ys) e = step (p y) e (none ys)
        where
          step : (b : Bool) → suc_if b (count p ys) ≡ 0 → (count p ys ≡ 0 → added (λ y. when (p y) k) ys ≡ pos 0) → when b k +ℤ added (λ y. when (p y) k) ys ≡ pos 0
          step true e below = absurd (omega arith)
          step false e below = rw (below e)

      go : (b : Bool) → suc_if b (count p xs) ≤ 1 → (count p xs ≤ 1 → added (λ y. when (p y) k) xs ≡ when (any p xs) k) →
          (count p xs ≡ 0 → added (λ y. when (p y) k) xs ≡ pos 0) → when b k +ℤ added (λ y. when (p y) k) xs ≡ when (b || any p xs) k
      go true l below zero_left = rw (zero_left (omega arith)) (omega (arith, onℤ, sumℤ k (pos 0)))
      go false l below zero_left = let s = when (any p xs) k in rw (below l) (omega (arith, onℤ, sumℤ (pos 0) s))

module _ {A B : Type 0} where
  pub added-joined : (f : B → ℤ) (k : A → List B) (xs : List A) → added f (joined k xs) ≡ added (λ x. added f (k x)) xs
  added-joined f k [] = refl
  added-joined f k (x ∷ xs) = added-append f (k x) (joined k xs) ∙ ap (λ n. added f (k x) +ℤ n) (added-joined f k xs)

  -- a sum of sums, the other way round
  pub added-swap : (f : A → B → ℤ) (xs : List A) (ys : List B) → added (λ x. added (f x) ys) xs ≡ added (λ y. added (λ x. f x y) xs) ys
  added-swap f [] ys = sym (zeros ys)
    where
      zeros : (zs : List B) → added (λ y. pos 0) zs ≡ pos 0
      zeros [] = refl
      zeros (z ∷ zs) = rw (zeros zs)
  added-swap f (x ∷ xs) ys = rw (added-swap f xs ys) (sym (added-sum (f x) (λ y. added (λ x. f x y) xs) ys))
