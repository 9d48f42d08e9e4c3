-- Lists by number: members of `items`, parts of `items`, a search of a list, searches up to a lower end; what a counting loop has reached.
-- Assumes nothing.
use Rattle.std.specs.Prelude.{Bool, true, false, ◌≡◌, refl, length, get_or, Option, Some, None}
use mathlib.Core.List.{List, ◌∷◌, ◌++◌, Memᴰ}
use Rattle.std.proofs.Common.{sym, ap, ◌∙◌}
use Rattle.std.proofs.Math.Path.{subst}
use Prim.Native.Nat.{ℕ, zero, suc, ◌+◌, ◌-◌, ◌≤◌, ◌<◌}
use native.Mathlib.Omega.{arith}
use Rattle.std.proofs.Math.Decide.{dec_lt}
use Rattle.std.proofs.Math.Seq.{take_all}
use Rattle.lists.specs.Lists.{All, where_first}
use Rattle.lists.specs.ListsLaw.{clash, All-of}
use Rattle.lists.specs.MembersLaw.{mem-at, at_mem}
use Rattle.lists.specs.Search.{lowest, items, iter, iter_from}
use Rattle.lists.specs.SearchLaw.{lowest-below, lowest-true, lowest-lower, lowest-nothing, lowest-where}
use Rattle.lists.specs.IterLaw.{length-items, get_or-items}
use Rattle.lists.specs.ItemsLaw.{items-cons, items-split}
use Rattle.lists.specs.TableLaw.{from-taken}

module _ {A : Type 0} (f : ℕ → A) where
  -- ---- members

  pub items-in : (t i : ℕ) → i < t → Memᴰ (f i) (items f 0 t)
  items-in t i h =
      subst (λ a. Memᴰ a (items f 0 t)) (get_or-items f t i (f i) h)
      (at_mem (items f 0 t) i (f i) (rw (length-items f t) h))

  pub items_of : (t : ℕ) {a : A} → Memᴰ a (items f 0 t) → (i : ℕ) × (i < t) × (a ≡ f i)
  items_of t {a} m =
      let r = mem-at a m in
      let h : r.0 < t = rw (length-items f t) at r.1 in
      (r.0, h, sym r.2 ∙ get_or-items f t r.0 a h)

  pub items-all : {P : A → Type 0} (t : ℕ) → ((i : ℕ) → i < t → P (f i)) → All P (items f 0 t)
  items-all {P} t h = All-of (items f 0 t) (λ a m. let r = items_of t m in subst P (sym r.2) (h r.0 r.1))

  -- ---- those below i, the i-th, the rest

  pub items-around : (t i : ℕ) → i < t → items f 0 t ≡ items f 0 i ++ (f i ∷ items f (i + 1) t)
  items-around t i h = items-split f 0 i t (omega arith) (omega arith) ∙ ap (λ (r : List A). items f 0 i ++ r) (items-cons f i t h)

-- ---- a search of a list is a search by number

module _ {A : Type 0} (f : A → Bool) (l : List A) (d : A) where
  -- a list is its members, by number
  items-self : items (λ j. get_or l j d) 0 (length l) ≡ l
  unfolding items
  items-self = from-taken l d 0 (length l - 0) (omega arith) ∙ take_all (length l - 0) l (omega arith)

  -- so that what it found is below the end and passes, and no member before it does
  pub where-lowest : where_first f l ≡ lowest (λ j. f (get_or l j d)) 0 (length l)
  where-lowest = ap (where_first f) (sym items-self) ∙ sym (lowest-where f (λ j. get_or l j d) (λ j. f (get_or l j d)) (length l) (λ j h. refl))

-- ---- the same search, up to a lower end

module _ (f : ℕ → Bool) where
  pub lowest-at : (t j : ℕ) → j < t → f j ≡ true → ((k : ℕ) → k < j → f k ≡ false) → lowest f 0 t ≡ Some j
  lowest-at t j h e n = go (lowest f 0 t) refl
    where
      go : (r : Option ℕ) → lowest f 0 t ≡ r → r ≡ Some j
      go None q = clash (sym e ∙ lowest-nothing f t j q h)
      go (Some i) q = by (dec_lt i j) (dec_lt j i)
        where
          by : Dec (i < j) → Dec (j < i) → Some i ≡ Some j
          by (yes a) b = clash (sym (lowest-true f t i q) ∙ n i a)
          by (no a) (yes b) = clash (sym e ∙ lowest-lower f t i j q b)
          by (no a) (no b) = let z : i ≡ j = omega arith in ap Some z

  pub lowest-no : (t : ℕ) → ((k : ℕ) → k < t → f k ≡ false) → lowest f 0 t ≡ None
  lowest-no t n = go (lowest f 0 t) refl
    where
      go : (r : Option ℕ) → lowest f 0 t ≡ r → r ≡ None
      go None q = refl
      go (Some i) q = clash (sym (lowest-true f t i q) ∙ n i (lowest-below f t i q))

  pub lowest-cut : (t i j : ℕ) → lowest f 0 t ≡ Some j → j < i → lowest f 0 i ≡ Some j
  lowest-cut t i j e h = lowest-at i j h (lowest-true f t j e) (λ k b. lowest-lower f t j k e b)

  pub lowest-past : (t i j : ℕ) → lowest f 0 t ≡ Some j → i ≤ j → lowest f 0 i ≡ None
  lowest-past t i j e h = lowest-no i (λ k b. lowest-lower f t j k e (omega arith))

  pub lowest-none-below : (t i : ℕ) → lowest f 0 t ≡ None → i ≤ t → lowest f 0 i ≡ None
  lowest-none-below t i e h = lowest-no i (λ k b. lowest-nothing f t k e (omega arith))

-- ---- a loop that has reached i

module _ {S : Type 0} (f : ℕ → S → S) (P : ℕ → S → Type 1) where
  from-reach : (i k t : ℕ) (s : S) → i + k ≡ t → ((j : ℕ) (r : S) → j < t → P j r → P (j + 1) (f j r)) → P i s → P t (iter_from f i k s)
  unfolding iter_from
  from-reach i zero t s e h p = let q : i ≡ t = omega arith in subst (λ (n : ℕ). P n s) q p
  from-reach i (suc k) t s e h p = from-reach (i + 1) k t (f i s) (omega arith) h (h i s (omega arith) p)

  pub iter-reach : (t : ℕ) (s : S) → ((j : ℕ) (r : S) → j < t → P j r → P (j + 1) (f j r)) → P 0 s → P t (iter f 0 t s)
  unfolding iter
  iter-reach t s h p = from-reach 0 (t - 0) t s (omega arith) h p
