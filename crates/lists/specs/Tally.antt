-- Sums of numbers over the rows of a list: split, bounded, exchanged, and the rows that a test picks. Assumes nothing.
use Rattle.std.specs.Prelude.{Bool, true, false, not, ◌||◌, ◌≡◌, refl, ℕ, ◌+◌, ◌≤◌, length}
use mathlib.Core.List.{List, [], ◌∷◌, ◌++◌, map, Memᴰ}
use Rattle.std.proofs.Common.{sym, ap, ◌∙◌, arith}
use Rattle.lists.specs.Lists.{any, only, cons_if, count, suc_if, joined, All, nil, cons}
use Rattle.lists.specs.ListsLaw.{All-of}

-- the number, where the test passes
abbrev pub if-so : Bool → ℕ → ℕ
if-so true k = k
if-so false k = 0

-- 1 where the test passes
abbrev pub bit : Bool → ℕ
bit b = if-so b 1

if-split : (b : Bool) (k : ℕ) → if-so b k + if-so (not b) k ≡ k
if-split true k = omega arith
if-split false k = omega arith

pub bit_le : (a b : Bool) → (a ≡ true → b ≡ true) → bit a ≤ bit b
bit_le true b h = rw (h refl) (omega arith)
bit_le false b h = omega arith

pub bit-yes : (b : Bool) → 1 ≤ bit b → b ≡ true
bit-yes true h = refl
bit-yes false h = absurd (omega arith)

pub bit-no : (b : Bool) → bit b ≡ 0 → b ≡ false
bit-no true h = absurd (omega arith)
bit-no false h = refl

pub bit-one : (b : Bool) → bit b ≤ 1
bit-one true = omega arith
bit-one false = omega arith

pub if-swap : (a b : Bool) → if-so a (bit b) ≡ if-so b (bit a)
if-swap true true = refl
if-swap true false = refl
if-swap false true = refl
if-swap false false = refl

module _ {A : Type 0} where
  abbrev pub tally : (A → ℕ) → List A → ℕ
  tally f [] = 0
  tally f (t ∷ ts) = f t + tally f ts

  pub tally-append : (f : A → ℕ) (xs ys : List A) → tally f (xs ++ ys) ≡ tally f xs + tally f ys
  tally-append f [] ys = omega arith
  tally-append f (x ∷ xs) ys = let h = tally-append f xs ys in omega arith

  pub tally-le : (f g : A → ℕ) {ts : List A} → All (λ t. f t ≤ g t) ts → tally f ts ≤ tally g ts
  tally-le f g nil = omega arith
  tally-le f g (cons h hs) = let k = tally-le f g hs in omega arith

  pub tally-eq : (f g : A → ℕ) {ts : List A} → All (λ t. f t ≡ g t) ts → tally f ts ≡ tally g ts
  tally-eq f g nil = refl
  tally-eq f g (cons h hs) = let k = tally-eq f g hs in omega arith

  pub tally-add : (f g : A → ℕ) (ts : List A) → tally (λ t. f t + g t) ts ≡ tally f ts + tally g ts
  tally-add f g [] = omega arith
  tally-add f g (t ∷ ts) = let k = tally-add f g ts in omega arith

  pub tally-zero : (f : A → ℕ) {ts : List A} → All (λ t. f t ≡ 0) ts → tally f ts ≡ 0
  tally-zero f nil = refl
  tally-zero f (cons h hs) = let k = tally-zero f hs in omega arith

  pub tally-at : (f : A → ℕ) {t : A} {ts : List A} → Memᴰ t ts → f t ≤ tally f ts
  tally-at f (Memᴰ.head {x = x} e) = let h = ap f e in omega arith
  tally-at f (Memᴰ.tail i) = let h = tally-at f i in omega arith

  pub tally-length : (ts : List A) → tally (λ t. 1) ts ≡ length ts
  tally-length [] = refl
  tally-length (t ∷ ts) = let k = tally-length ts in omega arith

  pub count-tally : (f : A → Bool) (ts : List A) → count f ts ≡ tally (λ t. bit (f t)) ts
  count-tally f [] = refl
  count-tally f (t ∷ ts) = go (f t) (count-tally f ts)
    where
      go : (b : Bool) → count f ts ≡ tally (λ t. bit (f t)) ts → suc_if b (count f ts) ≡ bit b + tally (λ t. bit (f t)) ts
      go true h = omega arith
      go false h = omega arith

  -- the rows that pass, counted where they stand
  pub tally-only : (f : A → ℕ) (p : A → Bool) (ts : List A) → tally f (only p ts) ≡ tally (λ t. if-so (p t) (f t)) ts
  tally-only f p [] = refl
  tally-only f p (t ∷ ts) = go (p t) (tally-only f p ts)
    where
      go : (b : Bool) → tally f (only p ts) ≡ tally (λ t. if-so (p t) (f t)) ts → tally f (cons_if b t (only p ts)) ≡ if-so b (f t) + tally (λ t. if-so (p t) (f t)) ts
      go true h = omega arith
      go false h = omega arith

  -- the rows that pass and those that do not
  pub tally-parts : (f : A → ℕ) (p : A → Bool) (ts : List A) → tally f ts ≡ tally (λ t. if-so (p t) (f t)) ts + tally (λ t. if-so (not (p t)) (f t)) ts
  tally-parts f p [] = omega arith
  tally-parts f p (t ∷ ts) = let h = tally-parts f p ts in let g = if-split (p t) (f t) in omega arith

  pub only-le : (f : A → ℕ) (p : A → Bool) (ts : List A) → tally f (only p ts) ≤ tally f ts
  only-le f p ts = let a = tally-only f p ts in let b = tally-parts f p ts in omega arith

  -- a row that passes: at least 1; none: 0
  pub bits-some : (p : A → Bool) {t : A} {ts : List A} → Memᴰ t ts → p t ≡ true → 1 ≤ tally (λ x. bit (p x)) ts
  bits-some p {t} i e = let h = tally-at (λ x. bit (p x)) i in let g = ap bit e in omega arith

  pub bits_none : (p : A → Bool) (g : A → ℕ) {ts : List A} → All (λ x. p x ≡ false) ts → tally (λ x. if-so (p x) (g x)) ts ≡ 0
  bits_none p g nil = refl
  bits_none p g (cons {x = x} h hs) = let k = bits_none p g hs in let l = ap (λ b. if-so b (g x)) h in omega arith

  -- at most one passes: the number is 1 exactly where any passes
  pub bits-any : (p : A → Bool) (ts : List A) → tally (λ x. bit (p x)) ts ≤ 1 → tally (λ x. bit (p x)) ts ≡ bit (any p ts)
  bits-any p [] h = refl
  bits-any p (t ∷ ts) h = go (p t) (bits-any p ts) h
    where
      go : (b : Bool) → (tally (λ x. bit (p x)) ts ≤ 1 → tally (λ x. bit (p x)) ts ≡ bit (any p ts)) → bit b + tally (λ x. bit (p x)) ts ≤ 1 → bit b + tally (λ x. bit (p x)) ts ≡ bit (b || any p ts)
      go true below h = omega arith
      go false below h = let e = below (omega arith) in omega arith

  -- at most one passes: a number summed where the test passes is there once, or not at all
  pub if-any : (p : A → Bool) (k : ℕ) (ts : List A) → tally (λ x. bit (p x)) ts ≤ 1 → tally (λ x. if-so (p x) k) ts ≡ if-so (any p ts) k
  if-any p k [] h = refl
  if-any p k (t ∷ ts) h = go (p t) (if-any p k ts) (bits-any p ts) h
    where
      go : (b : Bool) → (tally (λ x. bit (p x)) ts ≤ 1 → tally (λ x. if-so (p x) k) ts ≡ if-so (any p ts) k) →
          (tally (λ x. bit (p x)) ts ≤ 1 → tally (λ x. bit (p x)) ts ≡ bit (any p ts)) → bit b + tally (λ x. bit (p x)) ts ≤ 1 →
          if-so b k + tally (λ x. if-so (p x) k) ts ≡ if-so (b || any p ts) k
      go true below w h = let e = below (omega arith) in let g = w (omega arith) in zero_left (any p ts) e (omega arith)
        where
          zero_left : (d : Bool) → tally (λ x. if-so (p x) k) ts ≡ if-so d k → bit d ≡ 0 → k + tally (λ x. if-so (p x) k) ts ≡ k
          zero_left true e z = absurd (omega arith)
          zero_left false e z = omega arith
      go false below w h = let e = below (omega arith) in omega arith

  -- at most one passes: of what is summed where the test passes, only its own is left
  pub pick-one : (p : A → Bool) (g : A → ℕ) {t : A} {ts : List A} → Memᴰ t ts → p t ≡ true → tally (λ x. bit (p x)) ts ≤ 1 → tally (λ x. if-so (p x) (g x)) ts ≡ g t
  pick-one p g {t} (Memᴰ.head {x = x} {xs = xs} e) y h =
      let px = ap p (sym e) ∙ y in
      let b = ap bit px in
      let z = bits-zero xs (omega arith) in
      let k = ap (λ b. if-so b (g x)) px in
      let l = ap g e in
      omega arith
    where
      none-step : (b : Bool) (k l m : ℕ) → bit b + k ≡ 0 → (k ≡ 0 → m ≡ 0) → if-so b l + m ≡ 0
      none-step true k l m e f = absurd (omega arith)
      none-step false k l m e f = let g = f (omega arith) in omega arith

      bits-zero : (us : List A) → tally (λ x. bit (p x)) us ≡ 0 → tally (λ x. if-so (p x) (g x)) us ≡ 0
      bits-zero [] e = refl
      bits-zero (u ∷ us) e = none-step (p u) (tally (λ x. bit (p x)) us) (g u) (tally (λ x. if-so (p x) (g x)) us) e (bits-zero us)
  pick-one p g {t} (Memᴰ.tail {x = x} {xs = xs} i) y h = go (p x) h (pick-one p g i y) (bits-some p i y)
    where
      go : (b : Bool) → bit b + tally (λ x. bit (p x)) xs ≤ 1 → (tally (λ x. bit (p x)) xs ≤ 1 → tally (λ x. if-so (p x) (g x)) xs ≡ g t) → 1 ≤ tally (λ x. bit (p x)) xs → if-so b (g x) + tally (λ x. if-so (p x) (g x)) xs ≡ g t
      go true h below s = absurd (omega arith)
      go false h below s = let g = below (omega arith) in omega arith
      -- a test that no longer depends on the row

module _ {A B : Type 0} where
  pub tally-map : (f : B → ℕ) (k : A → B) (ts : List A) → tally f (map k ts) ≡ tally (λ t. f (k t)) ts
  tally-map f k [] = refl
  tally-map f k (t ∷ ts) = ap (λ n. f (k t) + n) (tally-map f k ts)

  pub tally-joined : (f : B → ℕ) (k : A → List B) (ts : List A) → tally f (joined k ts) ≡ tally (λ t. tally f (k t)) ts
  tally-joined f k [] = refl
  tally-joined f k (t ∷ ts) = tally-append f (k t) (joined k ts) ∙ ap (λ n. tally f (k t) + n) (tally-joined f k ts)

  -- a sum of sums, the other way round
  pub tally-swap : (f : A → B → ℕ) (xs : List A) (ys : List B) → tally (λ x. tally (f x) ys) xs ≡ tally (λ y. tally (λ x. f x y) xs) ys
  tally-swap f [] ys = sym (tally-zero (λ y. 0) (All-of ys (λ y i. refl)))
  tally-swap f (x ∷ xs) ys = let h = tally-swap f xs ys in let g = tally-add (f x) (λ y. tally (λ x. f x y) xs) ys in omega arith
