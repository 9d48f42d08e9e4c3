-- Laws of `lowest`: what is told of an answer fixes it; one number more at the end; an earlier start. Assumes nothing.
use Rattle.std.specs.Prelude.{◌≡◌, refl, Bool, true, false, ℕ, suc, ◌≤◌, ◌<◌, ltb, Option, Some, None}
use Rattle.std.proofs.Common.{sym, ap, ◌∙◌, arith, ltb-true, ltb-false}
use Rattle.std.proofs.Math.Decide.{ℕ_discrete}
use Rattle.lists.specs.Lists.{on_found}
use Rattle.lists.specs.ListsLaw.{clash}
use Rattle.lists.specs.Search.{lowest}
use Rattle.lists.specs.ChainLaw.{From, nowhere, there, search_is}

module _ (f : ℕ → Bool) where
  -- two answers that are told the same are the same
  same-found : (i t : ℕ) {a b : Option ℕ} → From f i t a → From f i t b → a ≡ b
  same-found i t (nowhere n) (nowhere m) = refl
  same-found i t (nowhere n) (there k l u y m) = clash (sym y ∙ n k l u)
  same-found i t (there j l u y n) (nowhere m) = clash (sym y ∙ m j l u)
  same-found i t (there j l u y n) (there k a b z m) = go (ltb j k) refl (ltb k j) refl
    where
      go : (c : Bool) → ltb j k ≡ c → (d : Bool) → ltb k j ≡ d → Some j ≡ Some k
      go true p d q = clash (sym y ∙ m j l (ltb-true j k p))
      go false p true q = clash (sym z ∙ n k a (ltb-true k j q))
      go false p false q = let g = ltb-false j k p in let h = ltb-false k j q in let e : j ≡ k = omega arith in rw e

  pub found-is : (i t : ℕ) {a : Option ℕ} → i ≤ t → From f i t a → lowest f i t ≡ a
  found-is i t h a = same-found i t (search_is f i t h) a

  pub one_more : (i n : ℕ) → i ≤ n → f n ≡ false → lowest f i (suc n) ≡ lowest f i n
  one_more i n h e = found-is i (suc n) (omega arith) (go (search_is f i n h))
    where
      go : {a : Option ℕ} → From f i n a → From f i (suc n) a
      go (nowhere m) = nowhere (λ j l u. here j l u (ℕ_discrete j n))
        where
          here : (j : ℕ) → i ≤ j → j < suc n → Dec (j ≡ n) → f j ≡ false
          here j l u (yes z) = rw z e
          here j l u (no z) = m j l (omega arith)
      go (there j l u y m) = there j l (omega arith) y m

  -- found already
  pub found-more : (i n j : ℕ) → i ≤ n → lowest f i n ≡ Some j → lowest f i (suc n) ≡ Some j
  found-more i n j h e = found-is i (suc n) (omega arith) (go (search_is f i n h) e)
    where
      go : {a : Option ℕ} → From f i n a → a ≡ Some j → From f i (suc n) (Some j)
      go (nowhere m) q = clash (ap (λ r. on_found r (λ k. false) true) q)
      go (there k l u y m) q = let z : k ≡ j = cc in rw (← z) (there k l (omega arith) y m)

  -- found only now
  pub found-last : (i n : ℕ) → i ≤ n → ((j : ℕ) → i ≤ j → j < n → f j ≡ false) → f n ≡ true → lowest f i (suc n) ≡ Some n
  found-last i n h none e = found-is i (suc n) (omega arith) (there n h (omega arith) e none)

  pub none_found : (i t : ℕ) → i ≤ t → ((j : ℕ) → i ≤ j → j < t → f j ≡ false) → lowest f i t ≡ None
  none_found i t h none = found-is i t h (nowhere none)

-- what a later start tells, an earlier one does, where none passes between
pub from-before : (f : ℕ → Bool) (i k t : ℕ) → i ≤ k → ((j : ℕ) → i ≤ j → j < k → f j ≡ false) → {g : Option ℕ} → From f k t g → From f i t g
from-before f i k t h none r = go r
  where
    either : (j : ℕ) → i ≤ j → (d : Bool) → ltb j k ≡ d → (k ≤ j → f j ≡ false) → f j ≡ false
    either j a true e later = none j a (ltb-true j k e)
    either j a false e later = later (ltb-false j k e)

    go : {g : Option ℕ} → From f k t g → From f i t g
    go (nowhere n) = nowhere (λ j a b. either j a (ltb j k) refl (λ c. n j c b))
    go (there l c d y n) = there l (omega arith) d y (λ j a b. either j a (ltb j k) refl (λ e. n j e b))
