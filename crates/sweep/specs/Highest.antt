-- The highest that a function gives of the numbers from i up to, not including, t; 0 if there are none. A counting loop gives it. Assumes nothing.
use Rattle.std.specs.Prelude.{◌≡◌}
use Rattle.std.proofs.Common.{sym}
use Prim.Native.Nat.{ℕ, zero, suc, max, ◌+◌, ◌-◌, ◌≤◌, ◌<◌}
use native.Mathlib.Omega.{arith}
use Rattle.std.proofs.Math.Decide.{dec_lt, ℕ_discrete}
use Rattle.lists.specs.Search.{iter, iter_from}

-- r, or what f gives of q, if that is higher
abbrev pub raised : (ℕ → ℕ) → ℕ → ℕ → ℕ
raised f q r = max r (f q)

unfoldable pub highest : (ℕ → ℕ) → ℕ → ℕ → ℕ
highest f i t = iter (raised f) i t 0

-- it is 0, or what f gives of some number
pub data HighestIs (f : ℕ → ℕ) (i t : ℕ) : ℕ → Type 0 where
  of_none : HighestIs f i t 0
  of : (q : ℕ) → i ≤ q → q < t → HighestIs f i t (f q)

-- it is r, from which it began, or what f gives of some number
data Reached (f : ℕ → ℕ) (i k r : ℕ) : ℕ → Type 0 where
  still : Reached f i k r r
  by : (q : ℕ) → i ≤ q → q < i + k → Reached f i k r (f q)

module _ (f : ℕ → ℕ) where
  from-least : (i k r : ℕ) → r ≤ iter_from (raised f) i k r
  unfolding iter_from
  from-least i zero r = omega arith
  from-least i (suc k) r = let h = from-least (i + 1) k (max r (f i)) in omega arith

  from-most : (i k r q : ℕ) → i ≤ q → q < i + k → f q ≤ iter_from (raised f) i k r
  unfolding iter_from
  from-most i zero r q a b = absurd (omega arith)
  from-most i (suc k) r q a b = go (ℕ_discrete i q) (from-most (i + 1) k (max r (f i)) q)
    where
      go : Dec (i ≡ q) → (i + 1 ≤ q → q < i + 1 + k → f q ≤ iter_from (raised f) (i + 1) k (max r (f i))) → f q ≤ iter_from (raised f) (i + 1) k (max r (f i))
      go (yes e) below = rw (sym e) (let h = from-least (i + 1) k (max r (f i)) in omega arith)
      go (no e) below = below (omega arith) (omega arith)

  from-met : (i k r : ℕ) → Reached f i k r (iter_from (raised f) i k r)
  unfolding iter_from
  from-met i zero r = still
  from-met i (suc k) r = go (from-met (i + 1) k (max r (f i))) (dec_lt r (f i))
    where
      go : {w : ℕ} → Reached f (i + 1) k (max r (f i)) w → Dec (r < f i) → Reached f i (suc k) r w
      go still (yes h) = let e : max r (f i) ≡ f i = omega arith in rw e (by i (omega arith) (omega arith))
      go still (no h) = let e : max r (f i) ≡ r = omega arith in rw e still
      go (by q a b) d = by q (omega arith) (omega arith)

  pub highest-most : (i t q : ℕ) → i ≤ q → q < t → f q ≤ highest f i t
  unfolding highest iter
  highest-most i t q a b = from-most i (t - i) 0 q a (omega arith)

  pub highest-is : (i t : ℕ) → HighestIs f i t (highest f i t)
  unfolding highest iter
  highest-is i t = go (from-met i (t - i) 0)
    where
      go : {w : ℕ} → Reached f i (t - i) 0 w → HighestIs f i t w
      go still = of_none
      go (by q a b) = of q a (omega arith)
