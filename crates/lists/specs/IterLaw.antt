-- Laws of `items` and `iter`: the turns of a counting loop in the form of its needs. Assumes nothing.
use Rattle.std.specs.Prelude.{◌≡◌, length, get_or, take}
use Rattle.std.proofs.Math.Path.{refl, ap}
use Rattle.std.proofs.Common.{◌∙◌}
use mathlib.Core.List.{List, ◌∷◌}
use Prim.Native.Nat.{ℕ, zero, suc, ◌+◌, ◌-◌, ◌≤◌, ◌<◌}
use native.Mathlib.Omega.{arith}
use Rattle.lists.specs.Search.{items, items_from, iter, iter_from}
use Rattle.lists.specs.ItemsLaw.{items-length}

-- ---- w is what the whole loop gives, s the state now, s' after the turn

module _ {S : Type 0} (f : ℕ → S → S) (i t : ℕ) (s w : S) (inv : iter f i t s ≡ w) where
  pub iter_turn : (s' : S) → i < t → s' ≡ f i s → iter f (i + 1) t s' ≡ w
  unfolding iter iter_from
  iter_turn s' h e =
      let n : t - i ≡ suc (t - (i + 1)) = omega arith in
      rw e (rw n at inv)

  pub iter_end : t ≤ i → s ≡ w
  unfolding iter iter_from
  iter_end h =
      let n : t - i ≡ 0 = omega arith in
      rw n at inv

pub ruleset looping = (iter_turn, iter_end)

module _ {S : Type 0} (f : ℕ → S → S) (P : S → Type 0) where
  from-keeps : (i k : ℕ) (s : S) → ((j : ℕ) (r : S) → i ≤ j → j < i + k → P r → P (f j r)) → P s → P (iter_from f i k s)
  unfolding iter_from
  from-keeps i zero s h p = p
  from-keeps i (suc k) s h p = from-keeps (i + 1) k (f i s) (λ j r a b. h j r (omega arith) (omega arith)) (h i s (omega arith) (omega arith) p)

  -- what each turn keeps, the loop keeps
  pub iter-keeps : (t : ℕ) (s : S) → ((j : ℕ) (r : S) → j < t → P r → P (f j r)) → P s → P (iter f 0 t s)
  unfolding iter
  iter-keeps t s h p = from-keeps 0 (t - 0) s (λ j r a b. h j r (omega arith)) p

-- ---- items

module _ {R : Type 0} (f : ℕ → R) where
  pub length-items : (t : ℕ) → length (items f 0 t) ≡ t
  length-items t = items-length f 0 t ∙ omega arith

  from-get_or : (i k n : ℕ) (d : R) → n < k → get_or (items_from f i k) n d ≡ f (i + n)
  unfolding items_from
  from-get_or i zero n d h = absurd (omega arith)
  from-get_or i (suc k) zero d h = let e : i + 0 ≡ i = omega arith in rw e
  from-get_or i (suc k) (suc n) d h = let e : i + suc n ≡ i + 1 + n = omega arith in rw e (from-get_or (i + 1) k n d (omega arith))

  pub get_or-items : (t n : ℕ) (d : R) → n < t → get_or (items f 0 t) n d ≡ f n
  unfolding items
  get_or-items t n d h = let e : 0 + n ≡ n = omega arith in rw e at (from-get_or 0 (t - 0) n d (omega arith))

  from-take : (i k n : ℕ) → n ≤ k → take n (items_from f i k) ≡ items_from f i n
  unfolding items_from
  from-take i k zero h = refl
  from-take i zero (suc n) h = absurd (omega arith)
  from-take i (suc k) (suc n) h = ap (λ (r : List R). f i ∷ r) (from-take (i + 1) k n (omega arith))

  pub take-items : (t n : ℕ) → n ≤ t → take n (items f 0 t) ≡ items f 0 n
  unfolding items
  take-items t n h =
      let e : n - 0 ≡ n = omega arith in
      rw e (from-take 0 (t - 0) n (omega arith))
