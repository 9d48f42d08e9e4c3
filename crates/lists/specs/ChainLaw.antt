-- Chains in a list of numbers: for each key a head, for each item the next with the same key; numbers are one too large, and 0 ends a
-- chain. Items are linked from the last to the first, so that a chain is in order. Assumes nothing.
use Rattle.std.specs.Prelude.{◌≡◌, refl, ◌≢◌, Bool, true, false, List, [], ◌∷◌, ℕ, zero, suc, ◌+◌, ◌-◌, ◌≤◌, ◌<◌, length, set, drop, Option, Some, None}
use Rattle.std.proofs.Common.{sym, ap₂, ◌∙◌, arith, eq-eqb, ne_eqb, length-set, get_or-set_same, get_or-set_other, drop-set-lt}
use Rattle.std.proofs.Math.Path.{ap}
use Rattle.std.proofs.Math.Decide.{ℕ_discrete}
use Rattle.std.proofs.Math.Dec.{eqb}
use Rattle.std.proofs.Math.ListN.{get_or}
use Rattle.lists.specs.Lists.{cases, only, cons_if}
use Rattle.lists.specs.ListsLaw.{clash}
use Rattle.lists.specs.PartsLaw.{not_so}
use Rattle.lists.specs.Search.{lowest, lowest_from, items}
use Rattle.lists.specs.SearchLaw.{lowest-here, lowest-on, lowest-none, lowest-agree-from, at_some}
use Rattle.lists.specs.ItemsLaw.{items-cons, items-none}
use Rattle.lists.specs.Loops.{code}

-- ---- searches from i on

pub from-yes : (f : ℕ → Bool) (i t : ℕ) → i < t → f i ≡ true → lowest f i t ≡ Some i
from-yes f i t h e = sym (lowest-here f i t (lowest f i t) true h (sym e) refl refl)

from-no : (f : ℕ → Bool) (i t : ℕ) → i < t → f i ≡ false → lowest f i t ≡ lowest f (i + 1) t
from-no f i t h e = sym (lowest-on f i t (lowest f i t) false h (sym e) refl refl)

none_from : (f : ℕ → Bool) (i t : ℕ) → t ≤ i → lowest f i t ≡ None
none_from f i t h = sym (lowest-none f i t (lowest f i t) h refl)

-- what a search from i on tells
pub data From (f : ℕ → Bool) (i t : ℕ) : Option ℕ → Type 0 where
  nowhere : ((j : ℕ) → i ≤ j → j < t → f j ≡ false) → From f i t None
  there : (j : ℕ) → i ≤ j → j < t → f j ≡ true → ((k : ℕ) → i ≤ k → k < j → f k ≡ false) → From f i t (Some j)

from_is : (f : ℕ → Bool) (i k t : ℕ) → t ≡ i + k → From f i t (lowest_from f i k)
unfolding lowest_from
from_is f i zero t e = nowhere (λ j a b. absurd (omega arith))
from_is f i (suc k) t e = step (f i) refl (from_is f (i + 1) k t (omega arith))
  where
    step : (b : Bool) → f i ≡ b → {r : Option ℕ} → From f (i + 1) t r → From f i t (cases b (Some i) r)
    step true q r = there i (omega arith) (omega arith) q (λ k a b. absurd (omega arith))
    step false q (nowhere n) = nowhere (λ j a b. here j a b (ℕ_discrete j i))
      where
        here : (j : ℕ) → i ≤ j → j < t → Dec (j ≡ i) → f j ≡ false
        here j a b (yes z) = rw z q
        here j a b (no z) = n j (omega arith) b
    step false q (there j a b y n) = there j (omega arith) b y (λ k c d. here k c d (ℕ_discrete k i))
      where
        here : (k : ℕ) → i ≤ k → k < j → Dec (k ≡ i) → f k ≡ false
        here k c d (yes z) = rw z q
        here k c d (no z) = n k (omega arith) d

pub search_is : (f : ℕ → Bool) (i t : ℕ) → i ≤ t → From f i t (lowest f i t)
unfolding lowest
search_is f i t h = from_is f i (t - i) t (omega arith)

-- from i on to a later start
from-later : (f : ℕ → Bool) (t i j : ℕ) → i ≤ j → j ≤ t → ((k : ℕ) → i ≤ k → k < j → f k ≡ false) → lowest f i t ≡ lowest f j t
from-later f t i j a b h = go (j - i) i a (omega arith) h
  where
    go : (d i : ℕ) → i ≤ j → d ≡ j - i → ((k : ℕ) → i ≤ k → k < j → f k ≡ false) → lowest f i t ≡ lowest f j t
    go zero i a e h = let q : i ≡ j = omega arith in rw q
    go (suc d) i a e h = from-no f i t (omega arith) (h i (omega arith) (omega arith)) ∙ go d (i + 1) (omega arith) (omega arith) (λ k l u. h k (omega arith) u)

-- ---- the members that pass, by number

module _ {A : Type 0} (f : A → Bool) (a : ℕ → A) where
  only-skip : (t i j : ℕ) → i ≤ j → j ≤ t → ((k : ℕ) → i ≤ k → k < j → f (a k) ≡ false) → only f (items a i t) ≡ only f (items a j t)
  only-skip t i j x y h = go (j - i) i x (omega arith) h
    where
      go : (d i : ℕ) → i ≤ j → d ≡ j - i → ((k : ℕ) → i ≤ k → k < j → f (a k) ≡ false) → only f (items a i t) ≡ only f (items a j t)
      go zero i x e h = let q : i ≡ j = omega arith in rw q
      go (suc d) i x e h =
          ap (only f) (items-cons a i t (omega arith))
          ∙ ap (λ b. cons_if b (a i) (only f (items a (i + 1) t))) (h i (omega arith) (omega arith))
          ∙ go d (i + 1) (omega arith) (omega arith) (λ k l u. h k (omega arith) u)

  pub only-there : (t i j : ℕ) → i ≤ t → lowest (λ k. f (a k)) i t ≡ Some j → only f (items a i t) ≡ a j ∷ only f (items a (j + 1) t)
  only-there t i j x e = go (search_is (λ k. f (a k)) i t x) e
    where
      go : {r : Option ℕ} → From (λ k. f (a k)) i t r → r ≡ Some j → only f (items a i t) ≡ a j ∷ only f (items a (j + 1) t)
      go (nowhere n) e = at_some j (sym e)
      go (there k l u y n) e =
          let q : k ≡ j = cc in
          rw (← q) (only-skip t i k l (omega arith) n ∙ ap (only f) (items-cons a k t u) ∙ ap (λ b. cons_if b (a k) (only f (items a (k + 1) t))) y)

  pub only-nowhere : (t i : ℕ) → i ≤ t → lowest (λ k. f (a k)) i t ≡ None → only f (items a i t) ≡ []
  only-nowhere t i x e = go (search_is (λ k. f (a k)) i t x) e
    where
      go : {r : Option ℕ} → From (λ k. f (a k)) i t r → r ≡ None → only f (items a i t) ≡ []
      go (nowhere n) e = only-skip t i t x (omega arith) n ∙ ap (only f) (items-none a t t (omega arith))
      go (there k l u y n) e = at_some k e

-- ---- chains

-- item j is linked under its key if this is below top; heads stand at h and on, next items at x and on; the items from i to t are linked
pub record Chain (key : ℕ → ℕ) (top h x t i : ℕ) (s : List ℕ) : Type 0 where
  pub heads : (k : ℕ) → k < top → get_or s (h + k) 0 ≡ code (lowest (λ j. eqb (key j) k) i t)
  pub nexts : (j : ℕ) → i ≤ j → j < t → key j < top → get_or s (x + j) 0 ≡ code (lowest (λ l. eqb (key l) (key j)) (j + 1) t)

-- item i is linked at the head g, its next noted at y
unfoldable pub linked : ℕ → ℕ → ℕ → List ℕ → List ℕ
linked g y i s = set (set s y (get_or s g 0)) g (i + 1)

pub linked-length : (g y i : ℕ) (s : List ℕ) → length (linked g y i s) ≡ length s
unfolding linked
linked-length g y i s = length-set (set s y (get_or s g 0)) g (i + 1) ∙ length-set s y (get_or s g 0)

-- what is read after
pub linked-other : (g y i : ℕ) (s : List ℕ) (p : ℕ) → p ≢ g → p ≢ y → get_or (linked g y i s) p 0 ≡ get_or s p 0
unfolding linked
linked-other g y i s p a b = get_or-set_other (set s y (get_or s g 0)) g p (i + 1) 0 a ∙ get_or-set_other s y p (get_or s g 0) 0 b

pub linked-drop : (g y i k : ℕ) (s : List ℕ) → g < k → y < k → drop k (linked g y i s) ≡ drop k s
unfolding linked
linked-drop g y i k s a b = drop-set-lt k (set s y (get_or s g 0)) g (i + 1) a ∙ drop-set-lt k s y (get_or s g 0) b

linked-head : (g y i : ℕ) (s : List ℕ) → g < length s → get_or (linked g y i s) g 0 ≡ i + 1
unfolding linked
linked-head g y i s l = get_or-set_same (set s y (get_or s g 0)) g (i + 1) 0 (rw (length-set s y (get_or s g 0)) l)

linked-next : (g y i : ℕ) (s : List ℕ) → y ≢ g → y < length s → get_or (linked g y i s) y 0 ≡ get_or s g 0
unfolding linked
linked-next g y i s a l = get_or-set_other (set s y (get_or s g 0)) g y (i + 1) 0 a ∙ get_or-set_same s y (get_or s g 0) 0 l

module _ (key : ℕ → ℕ) (top h x t : ℕ) where
  pub chain-start : (s : List ℕ) → ((k : ℕ) → k < top → get_or s (h + k) 0 ≡ 0) → Chain key top h x t t s
  chain-start s z = record {
    heads = λ k l. (rw (none_from (λ j. eqb (key j) k) t t (omega arith)) (z k l));
    nexts = λ j a b l. absurd (omega arith);
  }

  module _ (i : ℕ) (s : List ℕ) (l : i < t) (c : Chain key top h x t (suc i) s) where
    at_next : suc i ≡ i + 1
    at_next = omega arith

    -- no link: the key is out of range
    pub chain-skip : top ≤ key i → Chain key top h x t i s
    chain-skip u = record {
      heads = λ k b.
          (c.heads k b ∙ ap (λ (n : ℕ). code (lowest (λ j. eqb (key j) k) n t)) at_next
          ∙ ap code (sym (from-no (λ j. eqb (key j) k) i t l (ne_eqb (key i) k (omega arith)))));
      nexts = λ j a b d. c.nexts j (other j a d) b d;
    }
      where
        other : (j : ℕ) → i ≤ j → key j < top → suc i ≤ j
        other j a d = go (ℕ_discrete j i)
          where
            go : Dec (j ≡ i) → suc i ≤ j
            go (yes e) = let q = ap key e in absurd (omega arith)
            go (no e) = omega arith

    module _ (u : key i < top) (apart : (k j : ℕ) → k < top → j < t → h + k ≢ x + j) (head_in : h + key i < length s) (next-in : x + i < length s) where
      new : List ℕ
      new = linked (h + key i) (x + i) i s

      new-heads : (k : ℕ) → k < top → get_or new (h + k) 0 ≡ code (lowest (λ j. eqb (key j) k) i t)
      unfolding new
      new-heads k b = go (ℕ_discrete (key i) k)
        where
          go : Dec (key i ≡ k) → get_or (linked (h + key i) (x + i) i s) (h + k) 0 ≡ code (lowest (λ j. eqb (key j) k) i t)
          go (yes e) = rw (← e) (linked-head (h + key i) (x + i) i s head_in ∙ ap code (sym (from-yes (λ j. eqb (key j) (key i)) i t l (eq-eqb (key i) (key i) refl))))
          go (no e) =
              linked-other (h + key i) (x + i) i s (h + k) (omega arith) (apart k i b l)
              ∙ c.heads k b ∙ ap (λ (n : ℕ). code (lowest (λ j. eqb (key j) k) n t)) at_next
              ∙ ap code (sym (from-no (λ j. eqb (key j) k) i t l (ne_eqb (key i) k e)))

      new-nexts : (j : ℕ) → i ≤ j → j < t → key j < top → get_or new (x + j) 0 ≡ code (lowest (λ l. eqb (key l) (key j)) (j + 1) t)
      unfolding new
      new-nexts j a b d = go (ℕ_discrete j i)
        where
          ne : h + key i ≢ x + j
          ne = apart (key i) j u b

          own : h + key i ≢ x + i
          own = apart (key i) i u l

          go : Dec (j ≡ i) → get_or (linked (h + key i) (x + i) i s) (x + j) 0 ≡ code (lowest (λ l. eqb (key l) (key j)) (j + 1) t)
          go (yes e) =
              rw e (linked-next (h + key i) (x + i) i s (λ q. own (sym q)) next-in
              ∙ c.heads (key i) u ∙ ap (λ (n : ℕ). code (lowest (λ j. eqb (key j) (key i)) n t)) at_next)
          go (no e) =
              linked-other (h + key i) (x + i) i s (x + j) (λ q. ne (sym q)) (omega arith)
              ∙ c.nexts j (omega arith) b d

      pub chain_link : Chain key top h x t i (linked (h + key i) (x + i) i s)
      unfolding new
      chain_link = record { heads = new-heads; nexts = new-nexts }

-- the same chain, where the keys are the same and its notes read the same
module _ (key key' : ℕ → ℕ) (top h x t : ℕ) (s s' : List ℕ) (e : (j : ℕ) → j < t → key j ≡ key' j) where
  pub chain-kept : ((k : ℕ) → k < top → get_or s' (h + k) 0 ≡ get_or s (h + k) 0) → ((j : ℕ) → j < t → get_or s' (x + j) 0 ≡ get_or s (x + j) 0) →
      Chain key top h x t 0 s → Chain key' top h x t 0 s'
  chain-kept a b c = record {
    heads = λ k l. (a k l ∙ c.heads k l ∙ ap code (lowest-agree-from _ _ 0 t (λ i u v. ap (λ y. eqb y k) (e i v))));
    nexts = λ j l u d.
        (b j u ∙ c.nexts j l u (rw (e j u) d)
        ∙ ap code (lowest-agree-from _ _ (j + 1) t (λ i v w. ap₂ eqb (e i w) (e j u))));
  }

-- ---- a walk along a chain: f is looked for, and passes only where g does; k is the number of the item the walk stands at

pub data On (f g : ℕ → Bool) (t : ℕ) : ℕ → Type 0 where
  over : lowest f 0 t ≡ None → On f g t 0
  at : (j : ℕ) → j < t → g j ≡ true → lowest f 0 t ≡ lowest f j t → On f g t (j + 1)

module _ (f g : ℕ → Bool) (t : ℕ) (fg : (j : ℕ) → f j ≡ true → g j ≡ true) where
  no-f : (j : ℕ) → g j ≡ false → f j ≡ false
  no-f j e = not_so (f j) (λ q. clash (sym (fg j q) ∙ e))

  on-from : (i : ℕ) → i ≤ t → lowest f 0 t ≡ lowest f i t → On f g t (code (lowest g i t))
  on-from i h e = go (search_is g i t h)
    where
      go : {r : Option ℕ} → From g i t r → On f g t (code r)
      go (nowhere n) = over (e ∙ from-later f t i t h (omega arith) (λ k a b. no-f k (n k a b)) ∙ none_from f t t (omega arith))
      go (there j a b y n) = at j b y (e ∙ from-later f t i j a (omega arith) (λ k c d. no-f k (n k c d)))

  pub on-start : On f g t (code (lowest g 0 t))
  on-start = on-from 0 (omega arith) refl

  pub on-next : (j : ℕ) → j < t → lowest f 0 t ≡ lowest f j t → f j ≡ false → On f g t (code (lowest g (j + 1) t))
  on-next j h e n = on-from (j + 1) (omega arith) (e ∙ from-no f j t h n)

-- what is left of a walk
abbrev pub ahead : ℕ → ℕ → ℕ
ahead t zero = 0
ahead t (suc j) = t - j

pub ahead-less : (g : ℕ → Bool) (t j : ℕ) → j < t → ahead t (code (lowest g (j + 1) t)) < t - j
ahead-less g t j h = go (search_is g (j + 1) t (omega arith))
  where
    go : {r : Option ℕ} → From g (j + 1) t r → ahead t (code r) < t - j
    go (nowhere n) = omega arith
    go (there k a b y n) = let e : k + 1 ≡ suc k = omega arith in rw e (omega arith)
