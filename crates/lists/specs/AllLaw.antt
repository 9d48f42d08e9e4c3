-- The turns of a loop that tests all members, in the form of its needs: of a list, and of numbered items. Assumes nothing.
use Rattle.std.specs.Prelude.{◌≡◌, Bool, true, false, ◌&&◌, List, length, get_or, drop}
use Prim.Native.Nat.{ℕ, suc, ◌+◌, ◌-◌, ◌≤◌, ◌<◌}
use native.Mathlib.Omega.{arith}
use Rattle.std.proofs.Common.{add-one, drop_of_length-le, drop-cons}
use Rattle.lists.specs.Lists.{all}
use Rattle.lists.specs.Search.{items, items_from}

-- b is what the test said of member i, w the whole answer
module _ {A : Type 0} (f : A → Bool) (l : List A) (d : A) (i : ℕ) (b w : Bool) where
  rest : i < length l → all f (drop i l) ≡ f (get_or l i d) && all f (drop (i + 1) l)
  rest h = rw (add-one i, drop-cons l i d h)

  pub all-on : i < length l → b ≡ f (get_or l i d) → b ≡ true → all f (drop i l) ≡ w → all f (drop (i + 1) l) ≡ w
  all-on h e t inv = let r = rest h in rw (r, ← e, t) at inv

  pub all-off : i < length l → b ≡ f (get_or l i d) → b ≡ false → all f (drop i l) ≡ w → false ≡ w
  all-off h e t inv = let r = rest h in rw (r, ← e, t) at inv

pub all_end : {A : Type 0} (f : A → Bool) (l : List A) (i : ℕ) (w : Bool) → length l ≤ i → all f (drop i l) ≡ w → true ≡ w
all_end f l i w h inv = rw (drop_of_length-le l h) at inv

module _ {A : Type 0} (f : A → Bool) (g : ℕ → A) (i t : ℕ) (b w : Bool) where
  next : i < t → all f (items g i t) ≡ f (g i) && all f (items g (i + 1) t)
  unfolding items items_from
  next h = let e : t - i ≡ suc (t - (i + 1)) = omega arith in rw e

  pub items-on : i < t → b ≡ f (g i) → b ≡ true → all f (items g i t) ≡ w → all f (items g (i + 1) t) ≡ w
  items-on h e q inv = let r = next h in rw (r, ← e, q) at inv

  pub items-off : i < t → b ≡ f (g i) → b ≡ false → all f (items g i t) ≡ w → false ≡ w
  items-off h e q inv = let r = next h in rw (r, ← e, q) at inv

pub items-end : {A : Type 0} (f : A → Bool) (g : ℕ → A) (i t : ℕ) (w : Bool) → t ≤ i → all f (items g i t) ≡ w → true ≡ w
unfolding items items_from
items-end f g i t w h inv = let e : t - i ≡ 0 = omega arith in rw e at inv
