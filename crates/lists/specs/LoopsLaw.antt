-- Laws of `down`, `noted` and `remaining`: the turns of a loop in the form of its needs, and what can be read after. Assumes nothing.
use Rattle.std.specs.Prelude.{◌≡◌, Bool, true, false, List, [], ◌∷◌, ◌++◌, set, drop}
use Rattle.std.proofs.Math.Path.{refl}
use Rattle.std.proofs.Common.{◌∙◌, append_assoc, append-nil, add-one, get_or-set_same}
use Prim.Native.Nat.{ℕ, zero, suc, ◌+◌, ◌-◌, ◌≤◌, ◌<◌}
use native.Mathlib.Omega.{arith}
use Rattle.std.proofs.Math.Decide.{ℕ_discrete}
use Rattle.std.proofs.Math.ListN.{length, get_or, length-set}
use Rattle.std.proofs.Math.Seq.{get_or-set_other, drop-set-lt}
use Rattle.lists.specs.Lists.{cases}
use Rattle.lists.specs.Search.{items}
use Rattle.lists.specs.ItemsLaw.{items-none, items-snoc, items-agree}
use Rattle.lists.specs.Loops.{down, noted, remaining, remaining_from}

-- ---- down: w is what the whole loop gives, s the state now, s' after the turn

module _ {S : Type 0} (f : ℕ → S → S) (i : ℕ) (s w : S) (inv : down f i s ≡ w) where
  pub down_turn : (s' : S) → 0 < i → s' ≡ f (i - 1) s → down f (i - 1) s' ≡ w
  unfolding down
  down_turn s' h e =
      let n : i ≡ suc (i - 1) = omega arith in
      rw e (rw n at inv)

  pub down-end : i ≤ 0 → s ≡ w
  unfolding down
  down-end h =
      let n : i ≡ 0 = omega arith in
      rw n at inv

pub ruleset downward = (down_turn, down-end)

-- what each turn brings about, the loop does
pub down-makes : {S : Type 0} (f : ℕ → S → S) (P : ℕ → S → Type 0) (t : ℕ) (s : S) → ((i : ℕ) (r : S) → i < t → P (suc i) r → P i (f i r)) → P t s → P 0 (down f t s)
unfolding down
down-makes f P zero s h p = p
down-makes f P (suc i) s h p = down-makes f P i (f i s) (λ j r l q. h j r (omega arith) q) (h i s (omega arith) p)

-- ---- noted

module _ {A : Type 0} (o : ℕ) (g : ℕ → A) where
  pub noted-start : (s : List A) → s ≡ noted o g 0 s
  unfolding noted
  noted-start s = refl

  pub noted-turn : (n : ℕ) (s₀ s s' : List A) → s ≡ noted o g n s₀ → s' ≡ set s (o + n) (g n) → s' ≡ noted o g (n + 1) s₀
  unfolding noted
  noted-turn n s₀ s s' e f = f ∙ rw (e, add-one)

  pub noted-end : (n i : ℕ) (s₀ s : List A) → s ≡ noted o g i s₀ → i ≤ n → n ≤ i → s ≡ noted o g n s₀
  noted-end n i s₀ s e a b = let q : i ≡ n = omega arith in rw q at e

  pub noted-length : (n : ℕ) (s : List A) → length (noted o g n s) ≡ length s
  unfolding noted
  noted-length zero s = refl
  noted-length (suc n) s = length-set (noted o g n s) (o + n) (g n) ∙ noted-length n s

  pub noted-below : (n : ℕ) (s : List A) (x : ℕ) (d : A) → x < o → get_or (noted o g n s) x d ≡ get_or s x d
  unfolding noted
  noted-below zero s x d h = refl
  noted-below (suc n) s x d h = get_or-set_other (noted o g n s) (o + n) x (g n) d (omega arith) ∙ noted-below n s x d h

  pub noted-above : (n : ℕ) (s : List A) (x : ℕ) (d : A) → o + n ≤ x → get_or (noted o g n s) x d ≡ get_or s x d
  unfolding noted
  noted-above zero s x d h = refl
  noted-above (suc n) s x d h = get_or-set_other (noted o g n s) (o + n) x (g n) d (omega arith) ∙ noted-above n s x d (omega arith)

  pub noted-at : (n : ℕ) (s : List A) (j : ℕ) (d : A) → j < n → o + n ≤ length s → get_or (noted o g n s) (o + j) d ≡ g j
  unfolding noted
  noted-at zero s j d h l = absurd (omega arith)
  noted-at (suc n) s j d h l = go (ℕ_discrete j n) (noted-at n s j d)
    where
      go : Dec (j ≡ n) → (j < n → o + n ≤ length s → get_or (noted o g n s) (o + j) d ≡ g j) → get_or (set (noted o g n s) (o + n) (g n)) (o + j) d ≡ g j
      go (yes e) below = rw e (get_or-set_same (noted o g n s) (o + n) (g n) d (omega (arith, noted-length n s)))
      go (no e) below = get_or-set_other (noted o g n s) (o + n) (o + j) (g n) d (omega arith) ∙ below (omega arith) (omega arith)

  pub noted-drop : (n k : ℕ) (s : List A) → o + n ≤ k → drop k (noted o g n s) ≡ drop k s
  unfolding noted
  noted-drop zero k s h = refl
  noted-drop (suc n) k s h = drop-set-lt k (noted o g n s) (o + n) (g n) (omega arith) ∙ noted-drop n k s (omega arith)

pub ruleset noting = (noted-turn, noted-end)

-- ---- remaining: those below k are done, those from i on are to do, w is the whole. `a` and `a'` are the table before and after a turn

remaining-cons : {R : Type 0} (f : ℕ → Bool) (a : ℕ → R) (i t : ℕ) → i < t → remaining f a i t ≡ cases (f i) (remaining f a (i + 1) t) (a i ∷ remaining f a (i + 1) t)
unfolding remaining remaining_from
remaining-cons f a i t h = let e : t - i ≡ suc (t - (i + 1)) = omega arith in rw e

remaining-none : {R : Type 0} (f : ℕ → Bool) (a : ℕ → R) (i t : ℕ) → t ≤ i → remaining f a i t ≡ []
unfolding remaining remaining_from
remaining-none f a i t h = let e : t - i ≡ 0 = omega arith in rw e

-- `r` reads what is written, `b` is what is to be written for i
module _ {R : Type 0} (f : ℕ → Bool) (b : ℕ → R) (r : ℕ → R) (k i t : ℕ) (w : List R) (inv : items r 0 k ++ remaining f b i t ≡ w) where
  pub remaining-gone : i < t → f i ≡ true → items r 0 k ++ remaining f b (i + 1) t ≡ w
  remaining-gone h e = rw (remaining-cons f b i t h, e) at inv

  pub remaining-put : (r' : ℕ → R) → i < t → f i ≡ false → r' k ≡ b i → ((j : ℕ) → j < k → r' j ≡ r j) → items r' 0 (k + 1) ++ remaining f b (i + 1) t ≡ w
  remaining-put r' h e here else =
      let n : items r 0 k ++ (b i ∷ remaining f b (i + 1) t) ≡ w = rw (remaining-cons f b i t h, e) at inv in
      let z : 0 ≤ k = omega arith in
      rw (items-snoc r' 0 k z, items-agree r' r 0 k (λ j l u. else j u), here, append_assoc) n

  pub remaining-done : t ≤ i → items r 0 k ≡ w
  remaining-done h = rw (remaining-none f b i t h, append-nil) at inv

pub remaining-start : {R : Type 0} (f : ℕ → Bool) (b r : ℕ → R) (t : ℕ) → items r 0 0 ++ remaining f b 0 t ≡ remaining f b 0 t
remaining-start f b r t = let z : 0 ≤ 0 = omega arith in rw (items-none r 0 0 z)
