-- Laws of `lowest`: the turns of a search loop in the form of its needs, what an answer says, and that a search by number is a search
-- of the list. Assumes nothing.
use Rattle.std.specs.Prelude.{◌≡◌, ◌≢◌, Bool, ◌||◌, Option, Some, None, is_some}
use Rattle.std.proofs.Math.Path.{refl}
use Rattle.std.proofs.Common.{sym, ap, ◌∙◌}
use Rattle.std.proofs.Math.Bool.{true, false}
use Prim.Native.Nat.{ℕ, zero, suc, ◌+◌, ◌-◌, ◌≤◌, ◌<◌}
use native.Mathlib.Omega.{arith}
use Rattle.std.proofs.Math.Decide.{ℕ_discrete}
use Rattle.lists.specs.Lists.{cases, any, next, where_first}
use Rattle.lists.specs.ListsLaw.{clash}
use Rattle.lists.specs.Search.{lowest, lowest_from, items, items_from}

-- three tests, as code joins them and as `any` does
pub or-three : (a b c : Bool) → a || b || c ≡ a || (b || (c || false))
or-three true b c = refl
or-three false true c = refl
or-three false false true = refl
or-three false false false = refl

-- ---- the turns: w is the whole answer, b what the test said of i

lowest-cons : (f : ℕ → Bool) (i t : ℕ) → i < t → lowest f i t ≡ cases (f i) (Some i) (lowest f (i + 1) t)
unfolding lowest lowest_from
lowest-cons f i t h =
    let e : t - i ≡ suc (t - (i + 1)) = omega arith in
    rw e

module _ (f : ℕ → Bool) (i t : ℕ) (w : Option ℕ) (b : Bool) where
  pub lowest-here : i < t → b ≡ f i → b ≡ true → lowest f i t ≡ w → Some i ≡ w
  lowest-here h e g inv = rw (lowest-cons f i t, ← e, g) at inv

  pub lowest-on : i < t → b ≡ f i → b ≡ false → lowest f i t ≡ w → lowest f (i + 1) t ≡ w
  lowest-on h e g inv = rw (lowest-cons f i t, ← e, g) at inv

pub lowest-none : (f : ℕ → Bool) (i t : ℕ) (w : Option ℕ) → t ≤ i → lowest f i t ≡ w → None ≡ w
unfolding lowest lowest_from
lowest-none f i t w h inv =
    let e : t - i ≡ 0 = omega arith in
    rw e at inv

pub ruleset searching = (lowest-here, lowest-on, lowest-none)

-- ---- a match on an answer

pub found_at : (r : Option ℕ) (i : ℕ) → r ≡ Some i → true ≡ is_some r
found_at r i a = sym (ap is_some a)

pub found_nothing : (r : Option ℕ) → r ≡ None → false ≡ is_some r
found_nothing r a = sym (ap is_some a)

pub ruleset told = (found_at, found_nothing)

pub at_some : {X : Type 0} (i : ℕ) → Some i ≡ None → X
at_some i e = clash (ap is_some e)

pub not_found : (r : Option ℕ) → is_some r ≡ false → r ≡ None
not_found (Some i) e = clash e
not_found None e = refl

-- ---- what an answer says

-- j is the lowest of k numbers from i on that passes
record Lowest (f : ℕ → Bool) (i k j : ℕ) : Type 0 where
  from : i ≤ j
  below : j < i + k
  passes : f j ≡ true
  none-lower : (m : ℕ) → i ≤ m → m < j → f m ≡ false

from_at : (f : ℕ → Bool) (i k j : ℕ) → lowest_from f i k ≡ Some j → Lowest f i k j
unfolding lowest_from
from_at f i zero j e = at_some j (sym e)
from_at f i (suc k) j e = go (f i) refl (from_at f (i + 1) k j)
  where
    go : (b : Bool) → f i ≡ b → (lowest_from f (i + 1) k ≡ Some j → Lowest f (i + 1) k j) → Lowest f i (suc k) j
    go true g ih =
        let a : Some i ≡ Some j = rw g at e in
        let q : i ≡ j = cc in
        record { from = omega arith; below = omega arith; passes = rw (← q) g; none-lower = λ m l h. absurd (omega arith) }
    go false g ih = let h = ih (rw g at e) in record { from = omega (arith, h.from); below = omega (arith, h.below); passes = h.passes; none-lower = λ m l b. lower h m l b (ℕ_discrete i m) }
      where
        lower : Lowest f (i + 1) k j → (m : ℕ) → i ≤ m → m < j → Dec (i ≡ m) → f m ≡ false
        lower h m l b (yes d) = rw (← d) g
        lower h m l b (no d) = h.none-lower m (omega arith) b

-- what is found is below the end, and passes, and none below it does
pub lowest-below : (f : ℕ → Bool) (t j : ℕ) → lowest f 0 t ≡ Some j → j < t
unfolding lowest
lowest-below f t j e = let h = (from_at f 0 (t - 0) j e).below in omega arith

pub lowest-true : (f : ℕ → Bool) (t j : ℕ) → lowest f 0 t ≡ Some j → f j ≡ true
unfolding lowest
lowest-true f t j e = (from_at f 0 (t - 0) j e).passes

pub lowest-lower : (f : ℕ → Bool) (t j m : ℕ) → lowest f 0 t ≡ Some j → m < j → f m ≡ false
unfolding lowest
lowest-lower f t j m e h = (from_at f 0 (t - 0) j e).none-lower m (omega arith) h

from_nothing : (f : ℕ → Bool) (i k j : ℕ) → lowest_from f i k ≡ None → i ≤ j → j < i + k → f j ≡ false
unfolding lowest_from
from_nothing f i zero j e a b = absurd (omega arith)
from_nothing f i (suc k) j e a b = go (f i) refl (ℕ_discrete i j) (from_nothing f (i + 1) k j)
  where
    go : (b : Bool) → f i ≡ b → Dec (i ≡ j) → (lowest_from f (i + 1) k ≡ None → i + 1 ≤ j → j < i + 1 + k → f j ≡ false) → f j ≡ false
    go true g d ih = at_some i (rw g at e)
    go false g (yes d) ih = rw (← d) g
    go false g (no d) ih = ih (rw g at e) (omega arith) (omega arith)

-- where nothing is found, the test says no of each number below the end
pub lowest-nothing : (f : ℕ → Bool) (t j : ℕ) → lowest f 0 t ≡ None → j < t → f j ≡ false
unfolding lowest
lowest-nothing f t j e h = from_nothing f 0 (t - 0) j e (omega arith) (omega arith)

-- a number that passes is found, or a lower one
pub lowest-some : (f : ℕ → Bool) (t j : ℕ) → j < t → f j ≡ true → is_some (lowest f 0 t) ≡ true
lowest-some f t j h e = go (lowest f 0 t) refl
  where
    go : (r : Option ℕ) → lowest f 0 t ≡ r → is_some (lowest f 0 t) ≡ true
    go (Some i) g = ap is_some g
    go None g = clash (sym e ∙ lowest-nothing f t j g h)

lowest-from-agree : (f g : ℕ → Bool) (i k : ℕ) → ((j : ℕ) → i ≤ j → j < i + k → f j ≡ g j) → lowest_from f i k ≡ lowest_from g i k
unfolding lowest_from
lowest-from-agree f g i zero h = refl
lowest-from-agree f g i (suc k) h = rw (h i (omega arith) (omega arith), lowest-from-agree f g (i + 1) k (λ j a b. h j (omega arith) (omega arith)))

-- tests that agree below the end
pub lowest-agree : (f g : ℕ → Bool) (t : ℕ) → ((j : ℕ) → j < t → f j ≡ g j) → lowest f 0 t ≡ lowest g 0 t
unfolding lowest
lowest-agree f g t h = lowest-from-agree f g 0 (t - 0) (λ j a b. h j (omega arith))

-- the same, of a search from i on
pub lowest-agree-from : (f g : ℕ → Bool) (i t : ℕ) → ((j : ℕ) → i ≤ j → j < t → f j ≡ g j) → lowest f i t ≡ lowest g i t
unfolding lowest
lowest-agree-from f g i t h = lowest-from-agree f g i (t - i) (λ j a b. h j a (omega arith))

-- ---- by number and by list

module _ {A : Type 0} (f : A → Bool) (a : ℕ → A) (g : ℕ → Bool) where
  shift : ℕ → Option ℕ → Option ℕ
  shift i (Some k) = Some (i + k)
  shift i None = None

  shift-next : (i : ℕ) (o : Option ℕ) → shift (i + 1) o ≡ shift i (next false o)
  unfolding shift
  shift-next i (Some k) = let e : i + 1 + k ≡ i + suc k = omega arith in rw e
  shift-next i None = refl

  from-where : (i k : ℕ) → ((j : ℕ) → i ≤ j → j < i + k → g j ≡ f (a j)) → lowest_from g i k ≡ shift i (where_first f (items_from a i k))
  unfolding lowest_from items_from shift
  from-where i zero h = refl
  from-where i (suc k) h = rw (h i (omega arith) (omega arith)) (go (f (a i)) (from-where (i + 1) k (λ j l u. h j (omega arith) (omega arith))))
    where
      go : (b : Bool) → lowest_from g (i + 1) k ≡ shift (i + 1) (where_first f (items_from a (i + 1) k)) →
          cases b (Some i) (lowest_from g (i + 1) k) ≡ shift i (next b (where_first f (items_from a (i + 1) k)))
      go true ih = let e : i + 0 ≡ i = omega arith in rw e
      go false ih = ih ∙ shift-next i (where_first f (items_from a (i + 1) k))

  shift_none : (o : Option ℕ) → shift 0 o ≡ o
  unfolding shift
  shift_none (Some k) = let e : 0 + k ≡ k = omega arith in rw e
  shift_none None = refl

  -- a search by number is a search of the list
  pub lowest-where : (t : ℕ) → ((j : ℕ) → j < t → g j ≡ f (a j)) → lowest g 0 t ≡ where_first f (items a 0 t)
  unfolding lowest items
  lowest-where t h = from-where 0 (t - 0) (λ j l u. h j (omega arith)) ∙ shift_none (where_first f (items_from a 0 (t - 0)))

  from-any : (i k : ℕ) → ((j : ℕ) → i ≤ j → j < i + k → g j ≡ f (a j)) → is_some (lowest_from g i k) ≡ any f (items_from a i k)
  unfolding lowest_from items_from
  from-any i zero h = refl
  from-any i (suc k) h = rw (h i (omega arith) (omega arith)) (go (f (a i)) (from-any (i + 1) k (λ j l u. h j (omega arith) (omega arith))))
    where
      go : (b : Bool) → is_some (lowest_from g (i + 1) k) ≡ any f (items_from a (i + 1) k) →
          is_some (cases b (Some i) (lowest_from g (i + 1) k)) ≡ b || any f (items_from a (i + 1) k)
      go true ih = refl
      go false ih = ih

  -- whether anything is found
  pub lowest-any : (t : ℕ) → ((j : ℕ) → j < t → g j ≡ f (a j)) → is_some (lowest g 0 t) ≡ any f (items a 0 t)
  unfolding lowest items
  lowest-any t h = from-any 0 (t - 0) (λ j l u. h j (omega arith))

module _ {A : Type 0} (f : A → Bool) (a : ℕ → A) where
  any-from-none : (i k : ℕ) → ((j : ℕ) → i ≤ j → j < i + k → f (a j) ≡ false) → any f (items_from a i k) ≡ false
  unfolding items_from
  any-from-none i zero h = refl
  any-from-none i (suc k) h = rw (h i (omega arith) (omega arith)) (any-from-none (i + 1) k (λ j l u. h j (omega arith) (omega arith)))

  -- no number passes
  pub any-no : (t : ℕ) → ((j : ℕ) → j < t → f (a j) ≡ false) → any f (items a 0 t) ≡ false
  unfolding items
  any-no t h = any-from-none 0 (t - 0) (λ j l u. h j (omega arith))

  or-false : (b : Bool) → b || false ≡ b
  or-false true = refl
  or-false false = refl

  any-from-one : (i k m : ℕ) → i ≤ m → m < i + k → ((j : ℕ) → i ≤ j → j < i + k → j ≢ m → f (a j) ≡ false) → any f (items_from a i k) ≡ f (a m)
  unfolding items_from
  any-from-one i zero m l u h = absurd (omega arith)
  any-from-one i (suc k) m l u h =
      go (ℕ_discrete i m) (λ o. any-from-one (i + 1) k m (omega arith) (omega arith) (λ j a b. h j (omega arith) (omega arith)))
    where
      go : Dec (i ≡ m) → (i ≢ m → any f (items_from a (i + 1) k) ≡ f (a m)) → f (a i) || any f (items_from a (i + 1) k) ≡ f (a m)
      go (yes e) r = rw (any-from-none (i + 1) k (λ j b c. h j (omega arith) (omega arith) (omega arith)), e) (or-false (f (a m)))
      go (no o) r = rw (h i (omega arith) (omega arith) o) (r o)

  -- no other number passes
  pub any-one : (t m : ℕ) → m < t → ((j : ℕ) → j < t → j ≢ m → f (a j) ≡ false) → any f (items a 0 t) ≡ f (a m)
  unfolding items
  any-one t m u h = any-from-one 0 (t - 0) m (omega arith) (omega arith) (λ j b c. h j (omega arith))
