-- Laws of single steps, which the check finds alone today. Assumes nothing.
use Rattle.std.specs.Prelude.{◌≡◌, Bool, true, false, not, ◌&&◌, List, Option, Some, None, ℕ, ◌+◌, ◌-◌, ◌/◌, ◌%◌, ◌≤◌, ◌<◌, eqb, leb, ltb, length, take, drop}
use Rattle.std.proofs.Common.{sym, ◌∙◌}
use borrow.Author.Tests.{ne_eqb, not-true, not-false}
use Rattle.lists.specs.Lists.{all}
use Rattle.lists.specs.ListsLaw.{and_left, and_right}
use Rattle.lists.specs.Search.{items}
use Rattle.lists.specs.AllLaw.{items-on, items-off, items-end}
use Rattle.text.specs.Digits.{is_digit, number, field, listed}
use Rattle.meaning.specs.declared.Manner.{Manner}
use Rattle.meaning.specs.declared.Manner.TheVariants.{Newest, AllThree}
use Rattle.meaning.specs.declared.Quarters.{Quarters}
use Rattle.meaning.specs.declared.Quarters.TheVariants.{Bisected, Red}
use Rattle.protocol.specs.declared.Session.{Session}
use Rattle.protocol.specs.Frames.{refines_in, is_refining, well_formed, all_below, lists_below, admits, takes}
use Rattle.admit.specs.AdmitLaw.{formed-two, rest-is}

-- ---- the kinds that refine

module _ (kind : ℕ) where
  pub refines-newest : kind ≡ 4 → Some (Newest, Bisected) ≡ refines_in kind
  unfolding refines_in
  refines-newest e = rw e

  pub refines-all-three : kind ≡ 9 → Some (AllThree, Bisected) ≡ refines_in kind
  unfolding refines_in
  refines-all-three e = rw e

  pub refines-red : kind ≡ 10 → Some (AllThree, Red) ≡ refines_in kind
  unfolding refines_in
  refines-red e = rw e

  pub refines-never : (kind ≡ 4 → ⊥) → (kind ≡ 9 → ⊥) → (kind ≡ 10 → ⊥) → None ≡ refines_in kind
  unfolding refines_in
  refines-never a b c = rw (ne_eqb kind 4 a, ne_eqb kind 9 b, ne_eqb kind 10 c)

  module _ (r : Option (Manner × Quarters)) (e : r ≡ refines_in kind) where
    pub refines-yes : (k : Manner) (q : Quarters) → r ≡ Some (k, q) → true ≡ is_refining kind
    refines-yes k q g = rw (← e, g)

    pub refines-no : r ≡ None → false ≡ is_refining kind
    refines-no g = rw (← e, g)

  -- what the code found
  pub refines-told : (b y : Bool) → b ≡ is_refining kind → b ≡ y → is_refining kind ≡ y
  refines-told b y e g = sym e ∙ g

-- ---- what is listed

pub below-tested : (f : List ℕ) (i end k : ℕ) → k ≡ field 4 f i → ltb k end ≡ ltb (field 4 f i) end
below-tested f i end k e = rw e

-- a loop over the numbers listed: b is what the test said of number i, w the whole answer
module _ (f : List ℕ) (end i : ℕ) (b w : Bool) where
  pub listed-on : i < length f / 4 → b ≡ ltb (field 4 f i) end → b ≡ true → all_below end (items (field 4 f) i (length f / 4)) ≡ w → all_below end (items (field 4 f) (i + 1) (length f / 4)) ≡ w
  listed-on h e t inv = items-on (λ k. ltb k end) (field 4 f) i (length f / 4) b w h e t inv

  pub listed-off : i < length f / 4 → b ≡ ltb (field 4 f i) end → b ≡ false → all_below end (items (field 4 f) i (length f / 4)) ≡ w → false ≡ w
  listed-off h e t inv = items-off (λ k. ltb k end) (field 4 f) i (length f / 4) b w h e t inv

pub listed-end : (f : List ℕ) (end i : ℕ) (w : Bool) → length f / 4 ≤ i → all_below end (items (field 4 f) i (length f / 4)) ≡ w → true ≡ w
listed-end f end i w h inv = items-end (λ k. ltb k end) (field 4 f) i (length f / 4) w h inv

pub lists-is : (f : List ℕ) (end : ℕ) (b : Bool) → b ≡ all_below end (listed f) → eqb (length f % 4) 0 && b ≡ lists_below end f
unfolding lists_below
lists-is f end b e = rw e

-- ---- a frame

module _ (s : Session) (kind : ℕ) (f : List ℕ) where
  pub admit-node : kind ≡ 1 → not s.accepted && eqb (length f) 24 && ltb s.n 512 ≡ admits s kind f
  unfolding admits
  admit-node e = rw e

  pub admit-row : kind ≡ 2 → not s.accepted && eqb (length f) 12 && ltb s.t 1024 ≡ admits s kind f
  unfolding admits
  admit-row e = rw e

  pub admit-check : kind ≡ 3 → not s.accepted && eqb (length f) 0 ≡ admits s kind f
  unfolding admits
  admit-check e = rw e

  pub admit-coarsen : (b : Bool) → kind ≡ 5 → b ≡ lists_below s.n f → s.accepted && b ≡ admits s kind f
  unfolding admits refines_in
  admit-coarsen b e q = rw (e, q)

  pub admit-restore : kind ≡ 6 → s.accepted && eqb (length f) 0 ≡ admits s kind f
  unfolding admits refines_in
  admit-restore e = rw e

  pub admit-set : kind ≡ 8 → s.accepted && eqb (length f) 12 ≡ admits s kind f
  unfolding admits refines_in
  admit-set e = rw e

  module _ (x : kind ≡ 1 → ⊥) (y : kind ≡ 2 → ⊥) (z : kind ≡ 3 → ⊥) where
    pub admit-refine : (b : Bool) → is_refining kind ≡ true → b ≡ lists_below s.t f → s.accepted && b ≡ admits s kind f
    unfolding admits
    admit-refine b e q = rw (ne_eqb kind 1 x, ne_eqb kind 2 y, ne_eqb kind 3 z, e, q)

    pub admit-show : is_refining kind ≡ false → (kind ≡ 5 → ⊥) → (kind ≡ 6 → ⊥) → (kind ≡ 8 → ⊥) → eqb kind 7 && eqb (length f) 0 ≡ admits s kind f
    unfolding admits
    admit-show e c d g = rw (ne_eqb kind 1 x, ne_eqb kind 2 y, ne_eqb kind 3 z, e, ne_eqb kind 5 c, ne_eqb kind 6 d, ne_eqb kind 8 g)

-- ---- a line

pub formed-made : (l : List ℕ) (b : Bool) → b ≡ all is_digit l → leb 2 (length l) && leb (length l) 254 && b ≡ well_formed l
unfolding well_formed
formed-made l b e = rw e

module _ (s : Session) (l : List ℕ) (w : Bool) (p : w ≡ well_formed l) where
  pub takes-not : not w ≡ true → false ≡ takes s l
  unfolding takes
  takes-not m = rw (← p, not-true w m)

  pub takes_two : not w ≡ false → 2 ≤ length l
  takes_two m = formed-two l (sym p ∙ not-false w m)

  pub takes-is : (kind : ℕ) (b : Bool) → not w ≡ false → kind ≡ number 2 l 0 → b ≡ admits s kind (take (length l - 2) (drop 2 l)) → b ≡ takes s l
  unfolding takes
  takes-is kind b m e q = rw (← p, not-false w m, ← e) (rw (rest-is l) at q)

-- what a line that is taken relies on, of any kind byte: b is what the code found
module _ (s : Session) (l : List ℕ) (b : Bool) (q : b ≡ takes s l) (n : not b ≡ false) where
  pub taken-two : 2 ≤ length l
  unfolding takes
  taken-two = formed-two l (and_left (well_formed l) (admits s (number 2 l 0) (drop 2 l)) (sym q ∙ not-false b n))

  pub taken-admits : (kind : ℕ) → kind ≡ number 2 l 0 → admits s kind (take (length l - 2) (drop 2 l)) ≡ true
  unfolding takes
  taken-admits kind e = rw (rest-is l, e) (and_right (well_formed l) (admits s (number 2 l 0) (drop 2 l)) (sym q ∙ not-false b n))
