-- Laws of `items`: its first and last, its parts, its images; an induction over the turns of a counting loop; sums by number.
-- Assumes nothing.
use Rattle.std.specs.Prelude.{◌≡◌, length}
use Rattle.std.proofs.Math.Path.{refl, ap}
use Rattle.std.proofs.Common.{sym}
use mathlib.Core.List.{List, [], ◌∷◌, ◌++◌, map, append_assoc}
use Prim.Native.Nat.{ℕ, zero, suc, ◌+◌, ◌-◌, ◌*◌, ◌≤◌, ◌<◌}
use native.Mathlib.Omega.{arith}
use Rattle.std.proofs.Math.Nat.{mul-suc}
use Rattle.std.proofs.Math.Decide.{ℕ_discrete}
use Rattle.std.proofs.Math.Numerals.{add-one}
use Rattle.lists.specs.Lists.{joined}
use Rattle.lists.specs.Search.{items, items_from, iter, iter_from}

module _ {A B : Type 0} (f : A → List B) where
  pub joined-append : (xs ys : List A) → joined f (xs ++ ys) ≡ joined f xs ++ joined f ys
  joined-append [] ys = refl
  joined-append (x ∷ xs) ys = rw (joined-append xs ys) (sym (append_assoc (f x) (joined f xs) (joined f ys)))

module _ {R : Type 0} (f : ℕ → R) where
  pub items-cons : (i t : ℕ) → i < t → items f i t ≡ f i ∷ items f (i + 1) t
  unfolding items items_from
  items-cons i t h =
      let e : t - i ≡ suc (t - (i + 1)) = omega arith in
      rw e

  pub items-none : (i t : ℕ) → t ≤ i → items f i t ≡ []
  unfolding items items_from
  items-none i t h =
      let e : t - i ≡ 0 = omega arith in
      rw e

  from-snoc : (i k t : ℕ) → t ≡ i + k → items_from f i (suc k) ≡ items_from f i k ++ (f t ∷ [])
  unfolding items_from
  from-snoc i zero t e = let q : t ≡ i = omega arith in rw q
  from-snoc i (suc k) t e = ap (λ (r : List R). f i ∷ r) (from-snoc (i + 1) k t (omega arith))

  pub items-snoc : (i t : ℕ) → i ≤ t → items f i (t + 1) ≡ items f i t ++ (f t ∷ [])
  unfolding items
  items-snoc i t h =
      let e : t + 1 - i ≡ suc (t - i) = omega arith in
      rw e (from-snoc i (t - i) t (omega arith))

  from-split : (i k m : ℕ) → items_from f i (k + m) ≡ items_from f i k ++ items_from f (i + k) m
  unfolding items_from
  from-split i zero m =
      let e : 0 + m ≡ m = omega arith in
      let g : i + 0 ≡ i = omega arith in
      rw (e, g)
  from-split i (suc k) m =
      let e : suc k + m ≡ suc (k + m) = omega arith in
      let g : i + suc k ≡ i + 1 + k = omega arith in
      rw (e, g) (ap (λ (r : List R). f i ∷ r) (from-split (i + 1) k m))

  pub items-split : (i j t : ℕ) → i ≤ j → j ≤ t → items f i t ≡ items f i j ++ items f j t
  unfolding items
  items-split i j t a b =
      let e : t - i ≡ j - i + (t - j) = omega arith in
      let g : i + (j - i) ≡ j = omega arith in
      rw e (rw g at (from-split i (j - i) (t - j)))

  from-agree : (g : ℕ → R) (i k : ℕ) → ((j : ℕ) → i ≤ j → j < i + k → f j ≡ g j) → items_from f i k ≡ items_from g i k
  unfolding items_from
  from-agree g i zero h = refl
  from-agree g i (suc k) h = rw (h i (omega arith) (omega arith), from-agree g (i + 1) k (λ j a b. h j (omega arith) (omega arith)))

  pub items-agree : (g : ℕ → R) (i t : ℕ) → ((j : ℕ) → i ≤ j → j < t → f j ≡ g j) → items f i t ≡ items g i t
  unfolding items
  items-agree g i t h = from-agree g i (t - i) (λ j a b. h j a (omega arith))

  pub from-count : (i k : ℕ) → length (items_from f i k) ≡ k
  unfolding items_from
  from-count i zero = refl
  from-count i (suc k) = ap suc (from-count (i + 1) k)

  pub items-length : (i t : ℕ) → length (items f i t) ≡ t - i
  unfolding items
  items-length i t = from-count i (t - i)

module _ {A B : Type 0} (h : A → B) (f : ℕ → A) where
  from-map : (i k : ℕ) → map h (items_from f i k) ≡ items_from (λ j. h (f j)) i k
  unfolding items_from
  from-map i zero = refl
  from-map i (suc k) = ap (λ (r : List B). h (f i) ∷ r) (from-map (i + 1) k)

  pub items_map : (i t : ℕ) → map h (items f i t) ≡ items (λ j. h (f j)) i t
  unfolding items
  items_map i t = from-map i (t - i)

-- ---- what each turn of a counting loop carries on, it has in the end

module _ {S : Type 0} (f : ℕ → S → S) (P : ℕ → S → Type 0) where
  from-carries : (i k t : ℕ) (s : S) → t ≡ i + k → ((j : ℕ) (r : S) → i ≤ j → j < t → P j r → P (j + 1) (f j r)) → P i s → P t (iter_from f i k s)
  unfolding iter_from
  from-carries i zero t s e h p = let q : i ≡ t = omega arith in rw q at p
  from-carries i (suc k) t s e h p = from-carries (i + 1) k t (f i s) (omega arith) (λ j r a b. h j r (omega arith) b) (h i s (omega arith) (omega arith) p)

  pub iter-carries : (t : ℕ) (s : S) → ((j : ℕ) (r : S) → j < t → P j r → P (j + 1) (f j r)) → P 0 s → P t (iter f 0 t s)
  unfolding iter
  iter-carries t s h p = from-carries 0 (t - 0) t s (omega arith) (λ j r a b. h j r b) p

-- ---- f 0 + .. + f (i - 1)

unfoldable pub sum_to : (ℕ → ℕ) → ℕ → ℕ
sum_to f zero = 0
sum_to f (suc i) = sum_to f i + f i

module _ (f : ℕ → ℕ) where
  pub sum-none : sum_to f 0 ≡ 0
  unfolding sum_to
  sum-none = refl

  pub sum_more : (i : ℕ) → sum_to f (i + 1) ≡ sum_to f i + f i
  unfolding sum_to
  sum_more i = rw add-one

  pub sum-le : (i t : ℕ) → i ≤ t → sum_to f i ≤ sum_to f t
  unfolding sum_to
  sum-le i zero h = let e : i ≡ 0 = omega arith in rw e (omega arith)
  sum-le i (suc t) h = go (ℕ_discrete i (suc t)) (sum-le i t)
    where
      go : Dec (i ≡ suc t) → (i ≤ t → sum_to f i ≤ sum_to f t) → sum_to f i ≤ sum_to f t + f t
      go (yes e) below = rw e (omega arith)
      go (no o) below = let g = below (omega arith) in omega arith

  pub sum-agree : (g : ℕ → ℕ) (t : ℕ) → ((j : ℕ) → j < t → f j ≡ g j) → sum_to f t ≡ sum_to g t
  unfolding sum_to
  sum-agree g zero h = refl
  sum-agree g (suc t) h = rw (sum-agree g t (λ j a. h j (omega arith)), h t (omega arith))

  pub sum-few : (m t : ℕ) → ((j : ℕ) → j < t → f j ≤ m) → sum_to f t ≤ m * t
  unfolding sum_to
  sum-few m zero h = omega arith
  sum-few m (suc t) h =
      let a = sum-few m t (λ j b. h j (omega arith)) in
      let b = h t (omega arith) in
      let e : m * suc t ≡ m * t + m = mul-suc m t in
      omega arith
