-- Laws of the lists of slots: what stands in them at the start, what does not matter to them, and that they hold when a slot joins.
-- Assumes nothing.
use Rattle.std.specs.Prelude.{◌≡◌, refl, ◌≢◌, Bool, true, List, ltb, length, set, take}
use Rattle.std.proofs.Common.{sym, ap, ◌∙◌, length-set, get_or-set_same, get_or-set_other}
use Rattle.std.proofs.Math.Bool.{false}
use Prim.Native.Nat.{ℕ, zero, suc, ◌+◌, ◌-◌, ◌*◌, ◌≤◌, ◌<◌}
use native.Mathlib.Omega.{arith}
use Rattle.std.proofs.Math.Decide.{ℕ_discrete}
use borrow.Author.Tests.{eqb-true, eq-eqb, ne_eqb, ltb-true, ltb-false}
use Rattle.std.proofs.Math.Dec.{eqb}
use Rattle.std.proofs.Math.ListN.{get_or}
use Rattle.std.proofs.lemmas.List.{take-set-le}
use Rattle.lists.specs.Lists.{cases, suc_if}
use Rattle.lists.specs.ListsLaw.{clash}
use Rattle.neighbours.specs.Slots.{top, many, following, Listed, before, join_slot, not-turned, top-le, top_key, top_above, top-agree, many-agree, following-agree, following-some, stays-other, stays-lower, after-highest, after-new, after_none}

-- ---- what is read after four puts

-- w at a, then x at b, then y at c, then z at d
abbrev put_four : List ℕ → ℕ → ℕ → ℕ → ℕ → ℕ → ℕ → ℕ → ℕ → List ℕ
put_four s a b c d w x y z = set (set (set (set s a w) b x) c y) d z

module _ (s : List ℕ) (a b c d w x y z : ℕ) where
  four-length : length (put_four s a b c d w x y z) ≡ length s
  four-length = length-set (set (set (set s a w) b x) c y) d z ∙ length-set (set (set s a w) b x) c y ∙ length-set (set s a w) b x ∙ length-set s a w

  four-first : a < length s → a ≢ b → a ≢ c → a ≢ d → get_or (put_four s a b c d w x y z) a 0 ≡ w
  four-first h e f g =
      get_or-set_other (set (set (set s a w) b x) c y) d a z 0 g ∙ get_or-set_other (set (set s a w) b x) c a y 0 f
      ∙ get_or-set_other (set s a w) b a x 0 e ∙ get_or-set_same s a w 0 h

  four-second : b < length s → b ≢ c → b ≢ d → get_or (put_four s a b c d w x y z) b 0 ≡ x
  four-second h f g =
      get_or-set_other (set (set (set s a w) b x) c y) d b z 0 g ∙ get_or-set_other (set (set s a w) b x) c b y 0 f
      ∙ get_or-set_same (set s a w) b x 0 (rw (length-set s a w) h)

  four-third : c < length s → c ≢ d → get_or (put_four s a b c d w x y z) c 0 ≡ y
  four-third h g = get_or-set_other (set (set (set s a w) b x) c y) d c z 0 g ∙ get_or-set_same (set (set s a w) b x) c y 0 (rw (length-set (set s a w) b x, length-set s a w) h)

  four-fourth : d < length s → get_or (put_four s a b c d w x y z) d 0 ≡ z
  four-fourth h = get_or-set_same (set (set (set s a w) b x) c y) d z 0 (rw (length-set (set (set s a w) b x) c y, length-set (set s a w) b x, length-set s a w) h)

  four-other : (p : ℕ) → p ≢ a → p ≢ b → p ≢ c → p ≢ d → get_or (put_four s a b c d w x y z) p 0 ≡ get_or s p 0
  four-other p e f g h =
      get_or-set_other (set (set (set s a w) b x) c y) d p z 0 h ∙ get_or-set_other (set (set s a w) b x) c p y 0 g
      ∙ get_or-set_other (set s a w) b p x 0 f ∙ get_or-set_other s a p w 0 e

  four-take : (o : ℕ) → o ≤ a → o ≤ b → o ≤ c → o ≤ d → take o (put_four s a b c d w x y z) ≡ take o s
  four-take o e f g h =
      take-set-le o (set (set (set s a w) b x) c y) d z h ∙ take-set-le o (set (set s a w) b x) c y g
      ∙ take-set-le o (set s a w) b x f ∙ take-set-le o s a w e

module _ (keys o k v : ℕ) (s : List ℕ) where
  pub join-length : length (join_slot keys o k v s) ≡ length s
  unfolding join_slot
  join-length = four-length s _ _ _ _ _ _ _ _

  -- nothing below o changes
  pub join-take : take o (join_slot keys o k v s) ≡ take o s
  unfolding join_slot
  join-take = four-take s (o + 2 * keys + k) (o + 2 * keys + before (get_or s (o + v) 0) k) (o + v) (o + keys + v) _ _ _ _ o (omega arith) (omega arith) (omega arith) (omega arith)

-- ---- laws of the lists

module _ (key : ℕ → ℕ) (keys room o : ℕ) where
  pub listed_start : (s : List ℕ) → o + 2 * keys + room ≤ length s → ((k : ℕ) → o ≤ k → k < length s → get_or s k 0 ≡ 0) → Listed key keys room o 0 s
  unfolding top many
  listed_start s h z = record {
    tops = λ v l. z (o + v) (omega arith) (omega arith);
    counts = λ v l. z (o + keys + v) (omega arith) (omega arith);
    nexts = λ k l. absurd (omega arith);
    free = λ k a l. z (o + 2 * keys + k) (omega arith) (omega arith);
  }

  -- only what stands from o on matters
  pub listed_kept : (n : ℕ) (s s' : List ℕ) → ((k : ℕ) → o ≤ k → get_or s' k 0 ≡ get_or s k 0) → Listed key keys room o n s → Listed key keys room o n s'
  listed_kept n s s' a f = record {
    tops = λ v l. (a (o + v) (omega arith) ∙ f.tops v l);
    counts = λ v l. (a (o + keys + v) (omega arith) ∙ f.counts v l);
    nexts = λ k l. (a (o + 2 * keys + k) (omega arith) ∙ f.nexts k l);
    free = λ k b l. (a (o + 2 * keys + k) (omega arith) ∙ f.free k b l);
  }

  -- only the keys of slots that are in matter
  pub listed-agree : (key' : ℕ → ℕ) (n : ℕ) (s : List ℕ) → ((k : ℕ) → k < n → key k ≡ key' k) → Listed key keys room o n s → Listed key' keys room o n s
  listed-agree key' n s a f = record {
    tops = λ v l. (f.tops v l ∙ top-agree key key' v n a);
    counts = λ v l. (f.counts v l ∙ many-agree key key' v n a);
    nexts = λ k l. (f.nexts k l ∙ following-agree key key' k n l a);
    free = f.free;
  }

  -- a slot that has no next is not in
  pub listed_free : (n k : ℕ) (s : List ℕ) → Listed key keys room o n s → get_or s (o + 2 * keys + k) 0 ≡ 0 → n ≤ k
  listed_free n k s f e = go (ltb k n) refl
    where
      go : (c : Bool) → ltb k n ≡ c → n ≤ k
      go true q = let h = ltb-true k n q in let a = f.nexts k h in let b = following-some key k n h in absurd (omega arith)
      go false q = ltb-false k n q

  module _ (n : ℕ) (s : List ℕ) (u : key n < keys) (inside : n < room) (fits : o + 2 * keys + room ≤ length s) (f : Listed key keys room o n s) where
    -- slot n joined after slot a
    join_after : ℕ → List ℕ
    join_after a =
        put_four s (o + 2 * keys + n) (o + 2 * keys + a) (o + key n) (o + keys + key n) (get_or s (o + 2 * keys + a) 0) (n + 1) (n + 1) (get_or s (o + keys + key n) 0 + 1)

    module _ (a : ℕ) (l : a ≤ n) where
      at_after : get_or (join_after a) (o + 2 * keys + a) 0 ≡ n + 1
      unfolding join_after
      at_after = four-second s (o + 2 * keys + n) (o + 2 * keys + a) (o + key n) (o + keys + key n) _ _ _ _ (omega arith) (omega arith) (omega arith)

      at_new : a ≢ n → get_or (join_after a) (o + 2 * keys + n) 0 ≡ get_or s (o + 2 * keys + a) 0
      unfolding join_after
      at_new e = four-first s (o + 2 * keys + n) (o + 2 * keys + a) (o + key n) (o + keys + key n) _ _ _ _ (omega arith) (omega arith) (omega arith) (omega arith)

      at_top : get_or (join_after a) (o + key n) 0 ≡ n + 1
      unfolding join_after
      at_top = four-third s (o + 2 * keys + n) (o + 2 * keys + a) (o + key n) (o + keys + key n) _ _ _ _ (omega arith) (omega arith)

      at_count : get_or (join_after a) (o + keys + key n) 0 ≡ get_or s (o + keys + key n) 0 + 1
      unfolding join_after
      at_count = four-fourth s (o + 2 * keys + n) (o + 2 * keys + a) (o + key n) (o + keys + key n) _ _ _ _ (omega arith)

      elsewhere : (p : ℕ) → p ≢ o + 2 * keys + n → p ≢ o + 2 * keys + a → p ≢ o + key n → p ≢ o + keys + key n → get_or (join_after a) p 0 ≡ get_or s p 0
      unfolding join_after
      elsewhere = four-other s (o + 2 * keys + n) (o + 2 * keys + a) (o + key n) (o + keys + key n) _ _ _ _

      -- what is left to show is what comes next after each slot
      listed-after : ((k : ℕ) → k < suc n → get_or (join_after a) (o + 2 * keys + k) 0 ≡ following key k (suc n)) → Listed key keys room o (suc n) (join_after a)
      unfolding top many
      listed-after after = record {
        tops = λ v h. highest v h (ℕ_discrete (key n) v);
        counts = λ v h. count v h (ℕ_discrete (key n) v);
        nexts = after;
        free = λ k b h. (elsewhere (o + 2 * keys + k) (omega arith) (omega arith) (omega arith) (omega arith) ∙ f.free k (omega arith) h);
      }
        where
          highest : (v : ℕ) → v < keys → Dec (key n ≡ v) → get_or (join_after a) (o + v) 0 ≡ cases (eqb (key n) v) (suc n) (top key v n)
          highest v h (yes e) = rw (← e) (rw (eq-eqb (key n) (key n) refl) (at_top ∙ omega arith))
          highest v h (no e) = rw (ne_eqb (key n) v e) (elsewhere (o + v) (omega arith) (omega arith) (omega arith) (omega arith) ∙ f.tops v h)

          count : (v : ℕ) → v < keys → Dec (key n ≡ v) → get_or (join_after a) (o + keys + v) 0 ≡ suc_if (eqb (key n) v) (many key v n)
          count v h (yes e) = rw (← e) (rw (eq-eqb (key n) (key n) refl) (at_count ∙ ap (λ (m : ℕ). m + 1) (f.counts (key n) u) ∙ omega arith))
          count v h (no e) = rw (ne_eqb (key n) v e) (elsewhere (o + keys + v) (omega arith) (omega arith) (omega arith) (omega arith) ∙ f.counts v h)

    -- it is the first with its key
    join_first : top key (key n) n ≡ 0 → Listed key keys room o (suc n) (join_after n)
    join_first e = listed-after n (omega arith) (λ k h. next k h (ℕ_discrete k n))
      where
        next : (k : ℕ) → k < suc n → Dec (k ≡ n) → get_or (join_after n) (o + 2 * keys + k) 0 ≡ following key k (suc n)
        next k h (yes z) = rw z (at_after n (omega arith) ∙ sym (after_none key n (λ j b. top_above key (key n) n j (omega arith) b)))
        next k h (no z) =
            elsewhere n (omega arith) (o + 2 * keys + k) (omega arith) (omega arith) (omega arith) (omega arith)
            ∙ f.nexts k (omega arith) ∙ sym (stays-other key k n (omega arith) (not-turned (key k) (key n) (top_above key (key n) n k (omega arith) (omega arith))))

    -- slot t is the highest with its key
    join-behind : (t : ℕ) → top key (key n) n ≡ suc t → Listed key keys room o (suc n) (join_after t)
    join-behind t e = listed-after t (let a = top-le key (key n) n in omega arith) (λ k h. next k h (ℕ_discrete k n) (ℕ_discrete k t))
      where
        below : t < n
        below = let a = top-le key (key n) n in omega arith

        same : key t ≡ key n
        same = top_key key (key n) n t e

        none : (j : ℕ) → suc t ≤ j → j < n → eqb (key j) (key t) ≡ false
        none j a b = rw same (top_above key (key n) n j (omega arith) b)

        other : (k : ℕ) → k < n → k ≢ t → (c : Bool) → eqb (key n) (key k) ≡ c → following key k (suc n) ≡ following key k n
        other k h z true q = stays-lower key k n t (lower (ltb t k) refl) below (same ∙ eqb-true (key n) (key k) q)
          where
            lower : (d : Bool) → ltb t k ≡ d → k < t
            lower true w = clash (sym (eq-eqb (key k) (key t) (sym (same ∙ eqb-true (key n) (key k) q))) ∙ none k (ltb-true t k w) h)
            lower false w = let a = ltb-false t k w in omega arith
        other k h z false q = stays-other key k n h q

        next : (k : ℕ) → k < suc n → Dec (k ≡ n) → Dec (k ≡ t) → get_or (join_after t) (o + 2 * keys + k) 0 ≡ following key k (suc n)
        next k h (yes z) d =
            let b = below in
            rw z (at_new t (omega arith) (omega arith) ∙ f.nexts t below ∙ sym (after-new key t n below none (sym same)))
        next k h (no z) (yes w) = let b = below in rw w (at_after t (omega arith) ∙ sym (after-highest key t n below none (sym same)))
        next k h (no z) (no w) =
            let b = below in
            elsewhere t (omega arith) (o + 2 * keys + k) (omega arith) (omega arith) (omega arith) (omega arith)
            ∙ f.nexts k (omega arith) ∙ sym (other k (omega arith) w (eqb (key n) (key k)) refl)

    pub listed-join : Listed key keys room o (suc n) (join_slot keys o n (key n) s)
    unfolding join_slot join_after
    listed-join = rw (f.tops (key n) u) (go (top key (key n) n) refl)
      where
        go : (m : ℕ) → top key (key n) n ≡ m → Listed key keys room o (suc n) (join_after (before m n))
        go zero e = join_first e
        go (suc t) e =
            let z : eqb (suc t) 0 ≡ false = ne_eqb (suc t) 0 (λ q. absurd (omega arith)) in
            let w : suc t - 1 ≡ t = omega arith in
            rw (z, w) (join-behind t e)
