-- Which lines are taken, in the form in which the code asks. Assumes nothing.
use Rattle.std.specs.Prelude.{◌≡◌, Bool, true, false, not, ◌&&◌, List, Option, None, ℕ, zero, suc, ◌+◌, ◌-◌, ◌/◌, ◌≤◌, ◌<◌, eqb, leb, ltb, length, take, drop}
use Rattle.std.specs.Bool.{then_some}
use Rattle.std.specs.List.{list_all, range_with_len}
use Rattle.std.proofs.Common.{refl, ap, sym, arith, length-drop, take_all}
use borrow.Author.Tests.{eqb-true, ltb-true, leb-true, ne_eqb}
use Rattle.lists.specs.Lists.{all}
use Rattle.lists.specs.ListsLaw.{and_left, and_right}
use Rattle.lists.specs.Search.{items, items_from}
use Rattle.text.specs.Digits.{is_digit, number, field, listed}
use Rattle.protocol.specs.declared.Kind.{Kind}
use Rattle.protocol.specs.declared.Kind.TheVariants.{Node, Row, Base, Refine, Coarsen, Restore, List as Show, Set, Quarter, Red}
use Rattle.protocol.specs.declared.Session.{Session}
use Rattle.protocol.specs.Kinds.{code}
use Rattle.admit.specs.Admitted.{Admitted}
use Rattle.protocol.specs.Frames.{refines_in, well_formed, all_below, admits, takes}

-- ---- what is listed

all-from : (f : List ℕ) (end a n : ℕ) → list_all (λ i. ltb (field 4 f i) end) (range_with_len a n) ≡ all_below end (items_from (field 4 f) a n)
unfolding items_from
all-from f end a zero = refl
all-from f end a (suc n) = ap (λ b. ltb (field 4 f a) end && b) (all-from f end (a + 1) n)

pub all-listed : (f : List ℕ) (end : ℕ) → list_all (λ i. ltb (field 4 f i) end) (range_with_len 0 (length f / 4)) ≡ all_below end (listed f)
unfolding listed items
all-listed f end = let e : length f / 4 - 0 ≡ length f / 4 = omega arith in rw e (all-from f end 0 (length f / 4))

-- ---- a frame

module _ (s : Session) (kind : ℕ) (f : List ℕ) where
  -- what an admitted 01, 02 or 08 relies on
  module _ (y : admits s kind f ≡ true) where
    fit : (k n most : ℕ) → not s.accepted && eqb (length f) k && ltb n most ≡ true → (length f ≡ k) × (n < most)
    fit k n most e = (
      eqb-true (length f) k (and_right (not s.accepted) (eqb (length f) k) (and_left (not s.accepted && eqb (length f) k) (ltb n most) e)),
      ltb-true n most (and_right (not s.accepted && eqb (length f) k) (ltb n most) e),
    )

    pub node-fields : kind ≡ 1 → length f ≡ 24
    unfolding admits
    node-fields e = (fit 24 s.n 512 (rw e at y)).0

    pub node-room : kind ≡ 1 → s.n < 512
    unfolding admits
    node-room e = (fit 24 s.n 512 (rw e at y)).1

    pub row-fields : kind ≡ 2 → length f ≡ 12
    unfolding admits
    row-fields e = (fit 12 s.t 1024 (rw e at y)).0

    pub row_room : kind ≡ 2 → s.t < 1024
    unfolding admits
    row_room e = (fit 12 s.t 1024 (rw e at y)).1

    pub setting-fields : kind ≡ 8 → length f ≡ 12
    unfolding admits refines_in
    setting-fields e = eqb-true (length f) 12 (and_right s.accepted (eqb (length f) 12) (rw e at y))

-- ---- a line

pub no-frame : (s : Session) (n : ℕ) (f : List ℕ) → ((kind : Kind) → code kind ≡ n → ⊥) → admits s n f ≡ false
unfolding admits refines_in
no-frame s n f none =
    let ne : (kind : Kind) → n ≡ code kind → ⊥ = λ kind e. none kind (sym e) in
    rw (ne_eqb n 1 (ne Node), ne_eqb n 2 (ne Row), ne_eqb n 3 (ne Base), ne_eqb n 4 (ne Refine), ne_eqb n 9 (ne Quarter), ne_eqb n 10 (ne Red), ne_eqb n 5 (ne Coarsen), ne_eqb n 6 (ne Restore), ne_eqb n 8 (ne Set), ne_eqb n 7 (ne Show))

pub formed-two : (l : List ℕ) → well_formed l ≡ true → 2 ≤ length l
unfolding well_formed
formed-two l e =
    leb-true 2 (length l)
    (and_left (leb 2 (length l)) (leb (length l) 254) (and_left (leb 2 (length l) && leb (length l) 254) (all is_digit l) e))

-- the rest of the line, as the code hands it on
pub rest-is : (l : List ℕ) → take (length l - 2) (drop 2 l) ≡ drop 2 l
rest-is l = take_all (length l - 2) (drop 2 l) (rw (length-drop 2 l) (omega arith))

module _ (s : Session) (l : List ℕ) where
  pub unformed : well_formed l ≡ false → Admitted s l None
  unfolding takes
  unformed e = rw e

  module _ (formed : well_formed l ≡ true) where
    pub uncoded : ((kind : Kind) → code kind ≡ number 2 l 0 → ⊥) → Admitted s l None
    unfolding takes
    uncoded none = rw formed (no-frame s (number 2 l 0) (drop 2 l) none)

    -- b is what the code says of the frame
    coded : (kind : Kind) (b : Bool) → code kind ≡ number 2 l 0 → b ≡ admits s (code kind) (drop 2 l) → Admitted s l (then_some b kind)
    unfolding takes
    coded kind true e q = (rw (formed, ← e) (sym q), e)
    coded kind false e q = rw (formed, ← e) (sym q)

    pub told : (kind : Kind) (b : Bool) (r : Option Kind) → code kind ≡ number 2 l 0 → b ≡ admits s (code kind) (take (length l - 2) (drop 2 l)) →
        r ≡ (then_some b kind) → Admitted s l r
    told kind b r e q g = rw g (coded kind b e (rw (rest-is l) at q))

  -- what a frame that is taken relies on
  module _ (y : takes s l ≡ true) where
    pub taken-two : 2 ≤ length l
    unfolding takes
    taken-two = formed-two l (and_left (well_formed l) (admits s (number 2 l 0) (drop 2 l)) y)

    pub taken-admits : (kind : Kind) → code kind ≡ number 2 l 0 → admits s (code kind) (take (length l - 2) (drop 2 l)) ≡ true
    unfolding takes
    taken-admits kind e = rw (rest-is l, e) (and_right (well_formed l) (admits s (number 2 l 0) (drop 2 l)) y)
