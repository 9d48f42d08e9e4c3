-- The nodes that stay when the nodes zs go, whichever these are and whatever a node carries: they are as they were, in their order, and close up.
-- Assumes nothing.
use Rattle.std.specs.Prelude.{Bool, true, false, not, List, [], ◌∷◌, ◌≡◌, refl, ℕ, zero, suc, ◌+◌, ◌≤◌, ◌<◌, eqb, ltb, length, get_or}
use Rattle.std.proofs.Common.{sym, ap, ◌∙◌, arith, eqb-true, eq-eqb, ne_eqb, ltb-true, ltb-false, lt-ltb}
use Rattle.lists.specs.Lists.{any, only, cons_if, suc_if, up_to, All, nil, cons}
use Rattle.lists.specs.ListsLaw.{All-imp, All-of}
use Rattle.lists.specs.MembersLaw.{up_to-below, up_to-in, up_to-once}
use Rattle.lists.specs.Tally.{bit, tally, tally-append, tally-eq, tally-swap, tally-length, tally-only, count-tally, bits_none, bits-any, pick-one}
use Rattle.meaning.specs.Coarsen.{stays, stayed, renumber, staying}

module _ (zs : List ℕ) where
  -- ---- their numbers

  -- a node that stays is counted below every later one
  stayed-lt : (i a b : ℕ) → a < b → stays zs (i + a) ≡ true → stayed zs i a < stayed zs i b
  stayed-lt i a zero h s = absurd (omega arith)
  stayed-lt i zero (suc b) h s = let e : i + 0 ≡ i = omega arith in rw (rw e at s) (omega arith)
  stayed-lt i (suc a) (suc b) h s =
      let e : i + suc a ≡ suc i + a = omega arith in
      go (stays zs i) (stayed-lt (suc i) a b (omega arith) (rw e at s))
    where
      go : (t : Bool) → stayed zs (suc i) a < stayed zs (suc i) b → suc_if t (stayed zs (suc i) a) < suc_if t (stayed zs (suc i) b)
      go true k = omega arith
      go false k = k

  pub stayed-mono : (i a b : ℕ) → a ≤ b → stayed zs i a ≤ stayed zs i b
  stayed-mono i zero b h = omega arith
  stayed-mono i (suc a) zero h = absurd (omega arith)
  stayed-mono i (suc a) (suc b) h = go (stays zs i) (stayed-mono (suc i) a b (omega arith))
    where
      go : (t : Bool) → stayed zs (suc i) a ≤ stayed zs (suc i) b → suc_if t (stayed zs (suc i) a) ≤ suc_if t (stayed zs (suc i) b)
      go true k = omega arith
      go false k = k

  -- one node more
  pub stayed-more : (i k : ℕ) → stayed zs i (suc k) ≡ stayed zs i k + bit (stays zs (i + k))
  stayed-more i zero = let e : i + 0 ≡ i = omega arith in rw e (go (stays zs i))
    where
      go : (t : Bool) → suc_if t 0 ≡ 0 + bit t
      go true = omega arith
      go false = omega arith
  stayed-more i (suc k) = let e : i + suc k ≡ suc i + k = omega arith in rw e (go (stays zs i) (stayed-more (suc i) k))
    where
      go : (t : Bool) → stayed zs (suc i) (suc k) ≡ stayed zs (suc i) k + bit (stays zs (suc i + k)) →
          suc_if t (stayed zs (suc i) (suc k)) ≡ suc_if t (stayed zs (suc i) k) + bit (stays zs (suc i + k))
      go true h = omega arith
      go false h = h

  -- where none goes below k, k keeps its number
  pub stayed-all : (i k : ℕ) → ((j : ℕ) → j < k → stays zs (i + j) ≡ true) → stayed zs i k ≡ k
  stayed-all i zero h = refl
  stayed-all i (suc k) h =
      let e : i + 0 ≡ i = omega arith in
      let s = rw e at (h 0 (omega arith)) in
      let r = stayed-all (suc i) k (λ j l. let w : i + suc j ≡ suc i + j = omega arith in rw w at (h (suc j) (omega arith))) in
      rw (s, r)

  from-0 : (k : ℕ) → stays zs k ≡ true → stays zs (0 + k) ≡ true
  from-0 k s = let w : 0 + k ≡ k = omega arith in rw w s

  pub renumber-lt : (a b : ℕ) → a < b → stays zs a ≡ true → renumber zs a < renumber zs b
  renumber-lt a b h s = stayed-lt 0 a b h (from-0 a s)

  -- so no two nodes that stay get one number
  pub renumber-one : (a b : ℕ) → stays zs a ≡ true → stays zs b ≡ true → renumber zs a ≡ renumber zs b → a ≡ b
  renumber-one a b s t e = go (ltb a b) refl (ltb b a) refl
    where
      go : (p : Bool) → ltb a b ≡ p → (q : Bool) → ltb b a ≡ q → a ≡ b
      go true x q y = let l = renumber-lt a b (ltb-true a b x) s in absurd (omega arith)
      go false x true y = let l = renumber-lt b a (ltb-true b a y) t in absurd (omega arith)
      go false x false y = let l = ltb-false a b x in let k = ltb-false b a y in omega arith

  -- ---- their places

  pub staying-length : {A : Type 0} (i : ℕ) (ns : List A) → length (staying zs i ns) ≡ stayed zs i (length ns)
  staying-length i [] = refl
  staying-length i (a ∷ ns) = go (stays zs i) (staying-length (suc i) ns)
    where
      go : (t : Bool) → length (staying zs (suc i) ns) ≡ stayed zs (suc i) (length ns) → length (cons_if t a (staying zs (suc i) ns)) ≡ suc_if t (stayed zs (suc i) (length ns))
      go true h = ap suc h
      go false h = h

  staying-from : {A : Type 0} (i : ℕ) (ns : List A) (d : A) (k : ℕ) → k < length ns → stays zs (i + k) ≡ true → get_or (staying zs i ns) (stayed zs i k) d ≡ get_or ns k d
  staying-from i [] d k h s = absurd (omega arith)
  staying-from i (a ∷ ns) d zero h s = let e : i + 0 ≡ i = omega arith in rw (rw e at s)
  staying-from i (a ∷ ns) d (suc k) h s =
      let e : i + suc k ≡ suc i + k = omega arith in
      go (stays zs i) (staying-from (suc i) ns d k (omega arith) (rw e at s))
    where
      go : (t : Bool) → get_or (staying zs (suc i) ns) (stayed zs (suc i) k) d ≡ get_or ns k d → get_or (cons_if t a (staying zs (suc i) ns)) (suc_if t (stayed zs (suc i) k)) d ≡ get_or ns k d
      go true h = h
      go false h = h

  -- a node that stays keeps its place
  pub staying-at : {A : Type 0} (ns : List A) (d : A) (k : ℕ) → k < length ns → stays zs k ≡ true → get_or (staying zs 0 ns) (renumber zs k) d ≡ get_or ns k d
  staying-at ns d k h s = staying-from 0 ns d k h (from-0 k s)

  onto-from : {A : Type 0} (i : ℕ) (ns : List A) (j : ℕ) → j < length (staying zs i ns) → (k : ℕ) × (k < length ns) × (stays zs (i + k) ≡ true) × (stayed zs i k ≡ j)
  onto-from i [] j h = absurd (omega arith)
  onto-from i (a ∷ ns) j h = go (stays zs i) refl j h (onto-from (suc i) ns)
    where
      up : (t : Bool) → stays zs i ≡ t → (k j : ℕ) → k < length ns → stays zs (suc i + k) ≡ true → stayed zs (suc i) k ≡ j →
          (k : ℕ) × (k < suc (length ns)) × (stays zs (i + k) ≡ true) × (stayed zs i k ≡ suc_if t j)
      up t e k j l s q = let w : suc i + k ≡ i + suc k = omega arith in (suc k, omega arith, rw w at s, rw (e, q))

      go : (t : Bool) → stays zs i ≡ t → (j : ℕ) → j < length (cons_if t a (staying zs (suc i) ns)) →
          ((j : ℕ) → j < length (staying zs (suc i) ns) → (k : ℕ) × (k < length ns) × (stays zs (suc i + k) ≡ true) × (stayed zs (suc i) k ≡ j)) →
          (k : ℕ) × (k < suc (length ns)) × (stays zs (i + k) ≡ true) × (stayed zs i k ≡ j)
      go true e zero h below = let w : i + 0 ≡ i = omega arith in (0, omega arith, rw w e, refl)
      go true e (suc j) h below = let r = below j (omega arith) in up true e r.0 j r.1 r.2 r.3
      go false e j h below = let r = below j h in up false e r.0 j r.1 r.2 r.3

  -- every node left is one that stayed
  pub staying-onto : {A : Type 0} (ns : List A) (j : ℕ) → j < length (staying zs 0 ns) → (k : ℕ) × (k < length ns) × (stays zs k ≡ true) × (renumber zs k ≡ j)
  staying-onto ns j h =
      let r = onto-from 0 ns j h in
      let w : 0 + r.0 ≡ r.0 = omega arith in
      (r.0, r.1, rw w at r.2, r.3)

  pub staying-all : {A : Type 0} {P : A → Type 0} (i : ℕ) {ns : List A} → All P ns → All P (staying zs i ns)
  staying-all i nil = nil
  staying-all {P} i (cons {x = a} {xs = ns} h hs) = go (stays zs i) (staying-all (suc i) hs)
    where
      go : (t : Bool) → All P (staying zs (suc i) ns) → All P (cons_if t a (staying zs (suc i) ns))
      go true r = cons h r
      go false r = r

  -- ---- how many go, where each is listed once

  module _ (once : (k : ℕ) → tally (λ z. bit (eqb k z)) zs ≤ 1) where
    -- those that stay and those that go
    stayed-or-gone : (k : ℕ) → stayed zs 0 k + tally (λ j. bit (any (eqb j) zs)) (up_to k) ≡ k
    stayed-or-gone zero = omega arith
    stayed-or-gone (suc n) =
        let a = stayed-more 0 n in
        let b = tally-append (λ k. bit (any (eqb k) zs)) (up_to n) (n ∷ []) in
        let e : 0 + n ≡ n = omega arith in
        let c : bit (stays zs (0 + n)) ≡ bit (stays zs n) = ap (λ k. bit (stays zs k)) e in
        let d = one (any (eqb n) zs) in
        let f = stayed-or-gone n in
        omega arith
      where
        one : (b : Bool) → bit (not b) + bit b ≡ 1
        one true = omega arith
        one false = omega arith

    gone-below : (k : ℕ) → tally (λ j. bit (any (eqb j) zs)) (up_to k) ≡ tally (λ z. bit (ltb z k)) zs
    gone-below k =
        tally-eq (λ j. bit (any (eqb j) zs)) (λ j. tally (λ z. bit (eqb j z)) zs) (All-of (up_to k) (λ j i. sym (bits-any (eqb j) zs (once j)))) ∙
        tally-swap (λ j z. bit (eqb j z)) (up_to k) zs ∙
        tally-eq (λ z. tally (λ j. bit (eqb j z)) (up_to k)) (λ z. bit (ltb z k)) (All-of zs (λ z i. one z (ltb z k) refl))
      where
        one : (z : ℕ) (b : Bool) → ltb z k ≡ b → tally (λ j. bit (eqb j z)) (up_to k) ≡ bit b
        one z true e =
            let a = up_to-once (λ j. eqb j z) z (λ j w. eqb-true j z w) k in
            let b = count-tally (λ j. eqb j z) (up_to k) in
            pick-one (λ j. eqb j z) (λ j. 1) (up_to-in k (ltb-true z k e)) (eq-eqb z z refl) (omega arith)
        one z false e =
            let g = ltb-false z k e in
            bits_none (λ j. eqb j z) (λ j. 1) (All-imp (λ j l. ne_eqb j z (λ w. omega arith)) (up_to-below k))

    -- a node's number falls by as many as go below it
    pub renumber-falls : (k : ℕ) → renumber zs k + length (only (λ z. ltb z k) zs) ≡ k
    renumber-falls k =
        let a = stayed-or-gone k in
        let b = gone-below k in
        let c = tally-only (λ z. 1) (λ z. ltb z k) zs in
        let d = tally-length (only (λ z. ltb z k) zs) in
        omega arith

    -- as many nodes go as are listed
    pub staying-rest : {A : Type 0} (ns : List A) → All (λ z. z < length ns) zs → length (staying zs 0 ns) + length zs ≡ length ns
    staying-rest ns h =
        let a = stayed-or-gone (length ns) in
        let b = gone-below (length ns) in
        let c = tally-eq (λ z. bit (ltb z (length ns))) (λ z. 1) (All-imp (λ z l. ap bit (lt-ltb z (length ns) l)) h) in
        let d = tally-length zs in
        let e = staying-length 0 ns in
        omega arith
