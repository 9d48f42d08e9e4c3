-- Lists of slots in a list of numbers: for each key its highest slot and how many there are; for each slot the next higher one with the same
-- key, and for the highest the lowest. A slot's number is one too large, and 0 is none. A slot joins at the end, so that a list rises.
-- Assumes nothing.
use Rattle.std.specs.Prelude.{◌≡◌, Bool, List, get_or, set, Option, Some, None}
use Rattle.std.proofs.Math.Path.{refl}
use Rattle.std.proofs.Common.{sym, ap, ◌∙◌, eqb-true, eq-eqb, ne_eqb}
use Rattle.std.proofs.Math.Bool.{true, false}
use Prim.Native.Nat.{ℕ, zero, suc, ◌+◌, ◌-◌, ◌*◌, ◌≤◌, ◌<◌}
use native.Mathlib.Omega.{arith}
use Rattle.std.proofs.Math.Decide.{ℕ_discrete}
use Rattle.std.proofs.Math.Dec.{eqb}
use Rattle.lists.specs.Lists.{cases, suc_if, on_found}
use Rattle.lists.specs.ListsLaw.{clash}
use Rattle.lists.specs.Loops.{code}
use Rattle.lists.specs.Search.{lowest}
use Rattle.lists.specs.SearchLaw.{lowest-agree-from}
use Rattle.lists.specs.ChainLaw.{From, nowhere, there, search_is}
use Rattle.neighbours.specs.FoundLaw.{one_more, found-more, found-last, none_found}

-- the highest slot below n with the key v, one too large; 0 where there is none
unfoldable pub top : (ℕ → ℕ) → ℕ → ℕ → ℕ
top key v zero = 0
top key v (suc n) = cases (eqb (key n) v) (suc n) (top key v n)

-- how many slots below n have the key v
unfoldable pub many : (ℕ → ℕ) → ℕ → ℕ → ℕ
many key v zero = 0
many key v (suc n) = suc_if (eqb (key n) v) (many key v n)

-- the lowest slot from i on and below n with the key v
abbrev pub seek : (ℕ → ℕ) → ℕ → ℕ → ℕ → Option ℕ
seek key v i n = lowest (λ j. eqb (key j) v) i n

-- the next slot after k with its key, of those below n; after the highest comes the lowest
unfoldable pub following : (ℕ → ℕ) → ℕ → ℕ → ℕ
following key k n = on_found (seek key (key k) (k + 1) n) (λ j. j + 1) (code (seek key (key k) 0 n))

-- the slots below n are in, those from n up to `room` are not: from o on, `keys` highest slots, `keys` counts, then the next of each slot;
-- 0 there says that the slot is not in
pub record Listed (key : ℕ → ℕ) (keys room o n : ℕ) (s : List ℕ) : Type 0 where
  pub tops : (v : ℕ) → v < keys → get_or s (o + v) 0 ≡ top key v n
  pub counts : (v : ℕ) → v < keys → get_or s (o + keys + v) 0 ≡ many key v n
  pub nexts : (k : ℕ) → k < n → get_or s (o + 2 * keys + k) 0 ≡ following key k n
  pub free : (k : ℕ) → n ≤ k → k < room → get_or s (o + 2 * keys + k) 0 ≡ 0

-- the slot after which slot k comes, where m is the number of the highest: that one, or k itself
abbrev pub before : ℕ → ℕ → ℕ
before m k = cases (eqb m 0) k (m - 1)

-- slot k comes after slot a, and before the one that came after that; the next ones stand at z and on
abbrev pub put_after : ℕ → ℕ → ℕ → List ℕ → List ℕ
put_after z a k s = set (set s (z + k) (get_or s (z + a) 0)) (z + a) (k + 1)

-- slot k, with the key v, joins: it comes after the highest, whose next is the lowest, and becomes the highest
unfoldable pub join_slot : ℕ → ℕ → ℕ → ℕ → List ℕ → List ℕ
join_slot keys o k v s = set (set (put_after (o + 2 * keys) (before (get_or s (o + v) 0) k) k s) (o + v) (k + 1)) (o + keys + v) (get_or s (o + keys + v) 0 + 1)

pub not-turned : (a b : ℕ) → eqb a b ≡ false → eqb b a ≡ false
not-turned a b e = ne_eqb b a (λ q. clash (sym (eq-eqb a b (sym q)) ∙ e))

-- ---- laws of top and many

module _ (key : ℕ → ℕ) (v : ℕ) where
  pub top-le : (n : ℕ) → top key v n ≤ n
  unfolding top
  top-le zero = omega arith
  top-le (suc n) = go (eqb (key n) v) (top-le n)
    where
      go : (c : Bool) → top key v n ≤ n → cases c (suc n) (top key v n) ≤ suc n
      go true ih = omega arith
      go false ih = omega arith

  pub top_key : (n k : ℕ) → top key v n ≡ suc k → key k ≡ v
  unfolding top
  top_key zero k e = absurd (omega arith)
  top_key (suc n) k e = go (eqb (key n) v) refl e (top_key n k)
    where
      go : (c : Bool) → eqb (key n) v ≡ c → cases c (suc n) (top key v n) ≡ suc k → (top key v n ≡ suc k → key k ≡ v) → key k ≡ v
      go true q e below = let z : n ≡ k = omega arith in rw (← z) (eqb-true (key n) v q)
      go false q e below = below e

  -- none is higher
  pub top_above : (n j : ℕ) → top key v n ≤ j → j < n → eqb (key j) v ≡ false
  unfolding top
  top_above zero j h l = absurd (omega arith)
  top_above (suc n) j h l = go (eqb (key n) v) refl h (ℕ_discrete j n) (top_above n j)
    where
      go : (c : Bool) → eqb (key n) v ≡ c → cases c (suc n) (top key v n) ≤ j → Dec (j ≡ n) → (top key v n ≤ j → j < n → eqb (key j) v ≡ false) → eqb (key j) v ≡ false
      go true q h d below = absurd (omega arith)
      go false q h (yes z) below = rw z q
      go false q h (no z) below = below h (omega arith)

  pub many-le : (n : ℕ) → many key v n ≤ n
  unfolding many
  many-le zero = omega arith
  many-le (suc n) = go (eqb (key n) v) (many-le n)
    where
      go : (c : Bool) → many key v n ≤ n → suc_if c (many key v n) ≤ suc n
      go true ih = omega arith
      go false ih = omega arith

  pub many-here : (k : ℕ) → eqb (key k) v ≡ true → many key v (suc k) ≡ suc (many key v k)
  unfolding many
  many-here k e = rw e

  -- as many below i as below n: none between
  pub many-stays : (i n : ℕ) → i ≤ n → ((j : ℕ) → i ≤ j → j < n → eqb (key j) v ≡ false) → many key v n ≡ many key v i
  unfolding many
  many-stays i zero h none = let e : i ≡ 0 = omega arith in rw e
  many-stays i (suc n) h none = go (ℕ_discrete i (suc n)) (λ l. many-stays i n (omega arith) (λ j a b. none j a (omega arith)))
    where
      go : Dec (i ≡ suc n) → (i ≤ n → many key v n ≡ many key v i) → suc_if (eqb (key n) v) (many key v n) ≡ many key v i
      go (yes e) below = rw e
      go (no e) below = rw (none n (omega arith) (omega arith)) (below (omega arith))

  many-grows : (i n : ℕ) → i ≤ n → many key v i ≤ many key v n
  unfolding many
  many-grows i zero h = let e : i ≡ 0 = omega arith in rw e (omega arith)
  many-grows i (suc n) h = go (ℕ_discrete i (suc n)) (eqb (key n) v) refl (λ l. many-grows i n (omega arith))
    where
      go : Dec (i ≡ suc n) → (c : Bool) → eqb (key n) v ≡ c → (i ≤ n → many key v i ≤ many key v n) → many key v i ≤ suc_if c (many key v n)
      go (yes e) c q below = rw (e, q) (omega arith)
      go (no e) true q below = let b = below (omega arith) in omega arith
      go (no e) false q below = below (omega arith)

  -- one between: more
  pub many_more : (i j n : ℕ) → i ≤ j → j < n → eqb (key j) v ≡ true → many key v i < many key v n
  many_more i j n a b e = let c = many-grows i j a in let d = many-grows (suc j) n b in let f = many-here j e in omega arith

module _ (key key' : ℕ → ℕ) (v : ℕ) where
  pub top-agree : (n : ℕ) → ((k : ℕ) → k < n → key k ≡ key' k) → top key v n ≡ top key' v n
  unfolding top
  top-agree zero a = refl
  top-agree (suc n) a = rw (a n (omega arith), top-agree n (λ k l. a k (omega arith)))

  pub many-agree : (n : ℕ) → ((k : ℕ) → k < n → key k ≡ key' k) → many key v n ≡ many key' v n
  unfolding many
  many-agree zero a = refl
  many-agree (suc n) a = rw (a n (omega arith), many-agree n (λ k l. a k (omega arith)))

pub following-agree : (key key' : ℕ → ℕ) (k n : ℕ) → k < n → ((j : ℕ) → j < n → key j ≡ key' j) → following key k n ≡ following key' k n
unfolding following
following-agree key key' k n h a =
    rw (
      a k h,
      lowest-agree-from (λ j. eqb (key j) (key' k)) (λ j. eqb (key' j) (key' k)) (k + 1) n (λ j l u. ap (λ (w : ℕ). eqb w (key' k)) (a j u)),
      lowest-agree-from (λ j. eqb (key j) (key' k)) (λ j. eqb (key' j) (key' k)) 0 n (λ j l u. ap (λ (w : ℕ). eqb w (key' k)) (a j u)),
    )

-- ---- the next slot, and what it becomes when slot n joins

module _ (key : ℕ → ℕ) where
  -- a higher one
  pub following-higher : (k n j : ℕ) → seek key (key k) (k + 1) n ≡ Some j → following key k n ≡ j + 1
  unfolding following
  following-higher k n j e = rw e

  -- the highest goes round
  pub following-round : (k n : ℕ) → seek key (key k) (k + 1) n ≡ None → following key k n ≡ code (seek key (key k) 0 n)
  unfolding following
  following-round k n e = rw e

  -- there is one, since the slot itself is in
  pub following-some : (k n : ℕ) → k < n → 0 < following key k n
  following-some k n h = go (search_is (λ j. eqb (key j) (key k)) (k + 1) n (omega arith)) refl
    where
      lowest-some : {a : Option ℕ} → From (λ j. eqb (key j) (key k)) 0 n a → 0 < code a
      lowest-some (nowhere m) = clash (sym (eq-eqb (key k) (key k) refl) ∙ m k (omega arith) h)
      lowest-some (there j a b y m) = omega arith

      go : {a : Option ℕ} → From (λ j. eqb (key j) (key k)) (k + 1) n a → seek key (key k) (k + 1) n ≡ a → 0 < following key k n
      go (nowhere m) q = rw (following-round k n q) (lowest-some (search_is (λ j. eqb (key j) (key k)) 0 n (omega arith)))
      go (there j a b y m) q = rw (following-higher k n j q) (omega arith)

  -- a slot with another key stays
  pub stays-other : (k n : ℕ) → k < n → eqb (key n) (key k) ≡ false → following key k (suc n) ≡ following key k n
  unfolding following
  stays-other k n h e = rw (one_more (λ j. eqb (key j) (key k)) (k + 1) n (omega arith) e, one_more (λ j. eqb (key j) (key k)) 0 n (omega arith) e)

  -- so does one below the highest
  pub stays-lower : (k n t : ℕ) → k < t → t < n → key t ≡ key k → following key k (suc n) ≡ following key k n
  stays-lower k n t h l e = go (search_is (λ j. eqb (key j) (key k)) (k + 1) n (omega arith)) refl
    where
      go : {a : Option ℕ} → From (λ j. eqb (key j) (key k)) (k + 1) n a → seek key (key k) (k + 1) n ≡ a → following key k (suc n) ≡ following key k n
      go (nowhere m) q = clash (sym (eq-eqb (key t) (key k) e) ∙ m t (omega arith) l)
      go (there j a b y m) q =
          following-higher k (suc n) j (found-more (λ j. eqb (key j) (key k)) (k + 1) n j (omega arith) q) ∙ sym (following-higher k n j q)

  -- the highest gets slot n
  pub after-highest : (t n : ℕ) → t < n → ((j : ℕ) → suc t ≤ j → j < n → eqb (key j) (key t) ≡ false) → key n ≡ key t → following key t (suc n) ≡ n + 1
  after-highest t n h none e =
      following-higher t (suc n) n (found-last (λ j. eqb (key j) (key t)) (t + 1) n (omega arith) (λ j a b. none j (omega arith) b) (eq-eqb (key n) (key t) e))

  -- slot n gets the lowest, which the highest had
  pub after-new : (t n : ℕ) → t < n → ((j : ℕ) → suc t ≤ j → j < n → eqb (key j) (key t) ≡ false) → key n ≡ key t → following key n (suc n) ≡ following key t n
  after-new t n h none e =
      following-round n (suc n) (none_found (λ j. eqb (key j) (key n)) (n + 1) (suc n) (omega arith) (λ j a b. absurd (omega arith)))
      ∙ rw e (lowest-same (search_is (λ j. eqb (key j) (key t)) 0 n (omega arith)) refl)
      ∙ sym (following-round t n (none_found (λ j. eqb (key j) (key t)) (t + 1) n (omega arith) (λ j a b. none j (omega arith) b)))
    where
      lowest-same : {a : Option ℕ} → From (λ j. eqb (key j) (key t)) 0 n a → seek key (key t) 0 n ≡ a → code (seek key (key t) 0 (suc n)) ≡ code (seek key (key t) 0 n)
      lowest-same (nowhere m) q = clash (sym (eq-eqb (key t) (key t) refl) ∙ m t (omega arith) h)
      lowest-same (there j a b y m) q = ap code (found-more (λ j. eqb (key j) (key t)) 0 n j (omega arith) q ∙ sym q)

  -- alone, its next is itself
  pub after_none : (n : ℕ) → ((j : ℕ) → j < n → eqb (key j) (key n) ≡ false) → following key n (suc n) ≡ n + 1
  after_none n none =
      following-round n (suc n) (none_found (λ j. eqb (key j) (key n)) (n + 1) (suc n) (omega arith) (λ j a b. absurd (omega arith)))
      ∙ ap code (found-last (λ j. eqb (key j) (key n)) 0 n (omega arith) (λ j a b. none j b) (eq-eqb (key n) (key n) refl))
