-- The notes say what coarsening does: which nodes go, what becomes of each row, the new numbers. Assumes nothing.
use Rattle.std.specs.Prelude.{◌≡◌, refl, ◌≢◌, Bool, not, ◌&&◌, ℕ, zero, suc, ◌+◌, ◌-◌, ◌*◌, ◌/◌, ◌%◌, ◌≤◌, ◌<◌, min, max, length, get_or}
use Rattle.std.proofs.Math.Path.{sym}
use Rattle.std.proofs.Common.{ap, ◌∙◌}
use Rattle.std.proofs.Math.Bool.{true, false}
use mathlib.Core.List.{List, [], ◌∷◌, Memᴰ}
use native.Mathlib.Omega.{arith}
use Rattle.std.proofs.Math.Decide.{ℕ_discrete}
use borrow.Author.Tests.{eqb-true, eq-eqb, ne_eqb, le-ltb}
use Rattle.std.proofs.Math.Dec.{eqb, ltb}
use Rattle.lists.specs.Lists.{cases, any}
use Rattle.lists.specs.ListsLaw.{clash, and_both, and_left, and_right, All-at, any_at, any-row}
use Rattle.lists.specs.PartsLaw.{not_so}
use Rattle.lists.specs.Tally.{bit}
use Rattle.meaning.specs.declared.Tri.{Tri}
use Rattle.meaning.specs.Mesh.{Mesh, tri, edge}
use Rattle.meaning.specs.Lawful.{Lawful, Named}
use Rattle.meaning.specs.Good.{Brothers, father, span, good}
use Rattle.meaning.specs.Coarsen.{marked, taken, fate, stays, renumber}
use Rattle.laws.specs.Edges.{same_tri-eq}
use Rattle.laws.specs.Star.{Pair, father-named, good-added, good-meets}
use Rattle.laws.specs.Stay.{stayed-more}
use Rattle.laws.specs.CoarsenRows.{Takeable, Fate, to-father, to_none, to-self, brood, broods, fate-is, touched-is}
use Rattle.laws.specs.Coarsen.{taken_is, takeable}
use Rattle.good.specs.Sign.{pair_no, sign_from}
use Rattle.good.specs.SignLaw.{pair-some}
use Rattle.good.specs.RivalLaw.{meets-sign}
use Rattle.good.specs.Rival.{judged}
use Rattle.gather.specs.Goes.{take_at, fate_no, next_number, number_below, father_by}
use Rattle.gather.specs.Needs.{fate-none}

-- ---- a node's note

-- 0 where it stays, else the number of its pair
unfoldable pub take_no : ℕ → Mesh → List ℕ → ℕ → ℕ
take_no n0 m marks z = cases (marked marks z && good n0 m z) (sign_from n0 m z) 0

odd : (b : Bool) (k : ℕ) → eqb ((2 * k + bit b) % 2) 1 ≡ b
odd true k = eq-eqb ((2 * k + 1) % 2) 1 (omega arith)
odd false k = ne_eqb ((2 * k + 0) % 2) 1 (omega arith)

half : (b : Bool) (k : ℕ) → (2 * k + bit b) / 2 ≡ k
half true k = omega arith
half false k = omega arith

pub take-is : (n0 : ℕ) (m : Mesh) (marks s : List ℕ) (nc z : ℕ) → get_or s (nc + z) 0 ≡ judged n0 m z → take_at marks s nc z ≡ take_no n0 m marks z
unfolding take_at take_no
take-is n0 m marks s nc z e = rw (e, odd (good n0 m z) (sign_from n0 m z), half (good n0 m z) (sign_from n0 m z))

module _ (n0 : ℕ) (m : Mesh) (marks : List ℕ) (z : ℕ) (l : z < length m.nodes) where
  -- among those that go
  gone-is : any (eqb z) (taken n0 m marks) ≡ marked marks z && good n0 m z
  gone-is = go (marked marks z && good n0 m z) refl
    where
      go : (b : Bool) → marked marks z && good n0 m z ≡ b → any (eqb z) (taken n0 m marks) ≡ b
      go true e =
          any_at (eqb z) (eq-eqb z z refl)
          ((taken_is n0 m marks z).1 (l, and_left (marked marks z) (good n0 m z) e, and_right (marked marks z) (good n0 m z) e))
      go false e = not_so (any (eqb z) (taken n0 m marks)) never
        where
          never : any (eqb z) (taken n0 m marks) ≡ true → ⊥
          never y =
              let r = any-row (eqb z) (taken n0 m marks) y in
              let q = eqb-true z r.0 r.2 in
              let h = (taken_is n0 m marks r.0).0 r.1 in
              let h' : marked marks z && good n0 m z ≡ true = rw q (and_both h.1 h.2) in
              clash (sym h' ∙ e)

  -- a node that goes is noted with its pair
  take-pair : any (eqb z) (taken n0 m marks) ≡ true → take_no n0 m marks z ≡ pair_no (span m z)
  unfolding take_no
  take-pair e =
      let h : marked marks z && good n0 m z ≡ true = sym gone-is ∙ e in
      let g = and_right (marked marks z) (good n0 m z) h in
      rw h (meets-sign n0 m z (good-added n0 m z g) (good-meets n0 m z g))

  take_none : any (eqb z) (taken n0 m marks) ≡ false → take_no n0 m marks z ≡ 0
  unfolding take_no
  take_none e = rw (sym gone-is ∙ e)

  -- a note above 0: it goes
  pub stays-is : not (eqb (take_no n0 m marks z) 0) ≡ any (eqb z) (taken n0 m marks)
  stays-is = go (any (eqb z) (taken n0 m marks)) refl
    where
      go : (b : Bool) → any (eqb z) (taken n0 m marks) ≡ b → not (eqb (take_no n0 m marks z) 0) ≡ b
      go true e = ap not (ne_eqb (take_no n0 m marks z) 0 (let a = take-pair e in let b = pair-some (span m z) in omega arith))
      go false e = ap not (eq-eqb (take_no n0 m marks z) 0 (take_none e))

-- ---- new numbers

pub number-renumber : (zs : List ℕ) (gone : ℕ → Bool) (n : ℕ) → ((z : ℕ) → z < n → gone z ≡ any (eqb z) zs) → (k : ℕ) → k ≤ n → number_below gone k ≡ renumber zs k
unfolding number_below
number-renumber zs gone n h zero l = refl
number-renumber zs gone n h (suc k) l =
    let e : 0 + k ≡ k = omega arith in
    let a : renumber zs (suc k) ≡ renumber zs k + bit (stays zs k) = rw e at (stayed-more zs 0 k) in
    step (gone k) (any (eqb k) zs) (h k (omega arith)) (number-renumber zs gone n h k (omega arith)) a
  where
    step : (x y : Bool) → x ≡ y → number_below gone k ≡ renumber zs k → renumber zs (suc k) ≡ renumber zs k + bit (not y) →
        next_number x (number_below gone k) ≡ renumber zs (suc k)
    step true true e ih a = omega arith
    step true false e ih a = clash e
    step false true e ih a = clash (sym e)
    step false false e ih a = omega arith

-- ---- a row's note

-- the number of a pair, taken apart
split : (p q k : ℕ) → q < 32_768 → k ≡ p * 32_768 + q + 1 → ((k - 1) / 32_768 ≡ p) × ((k - 1) % 32_768 ≡ q) × (k ≢ 0)
split p q k h f =
    let g : k - 1 ≡ p * 32_768 + q = omega arith in
    (rw g (omega arith), rw g (omega arith), omega arith)

below : (x y n : ℕ) → x < n → y < n → max x y < n
below x y n a b = omega arith

parts : (x y k : ℕ) → x < 32_768 → y < 32_768 → k ≡ pair_no (edge x y) → ((k - 1) / 32_768 ≡ min x y) × ((k - 1) % 32_768 ≡ max x y) × (k ≢ 0)
unfolding pair_no
parts x y k a b f = split (min x y) (max x y) k (below x y 32_768 a b) f

-- the other end of a pair, and 2
fate-pair : (x y k : ℕ) (w : Tri) → x < 32_768 → y < 32_768 → w.r ≡ x → k ≡ pair_no (edge x y) → fate_no k w ≡ y + 2
unfolding fate_no
fate-pair x y k w a b e f = go (ℕ_discrete w.r ((k - 1) / 32_768)) (parts x y k a b f)
  where
    go : Dec (w.r ≡ (k - 1) / 32_768) → ((k - 1) / 32_768 ≡ min x y) × ((k - 1) % 32_768 ≡ max x y) × (k ≢ 0) →
        cases (eqb k 0) 0 (cases (eqb w.r ((k - 1) / 32_768)) ((k - 1) % 32_768 + 2) (cases (eqb w.r ((k - 1) % 32_768)) ((k - 1) / 32_768 + 2) 1)) ≡ y + 2
    go (yes d) p = rw (ne_eqb k 0 p.2, eq-eqb w.r ((k - 1) / 32_768) d, p.1) (low x y w.r e (d ∙ p.0))
      where
        low : (x y r : ℕ) → r ≡ x → r ≡ min x y → max x y + 2 ≡ y + 2
        low x y r e f = omega arith
    go (no d) p =
        rw (ne_eqb k 0 p.2, ne_eqb w.r ((k - 1) / 32_768) d, eq-eqb w.r ((k - 1) % 32_768) (high x y w.r e (λ q. d (q ∙ sym p.0)) ∙ sym p.1), p.0)
        (other x y w.r e (λ q. d (q ∙ sym p.0)))
      where
        high : (x y r : ℕ) → r ≡ x → r ≢ min x y → r ≡ max x y
        high x y r e f = omega arith

        other : (x y r : ℕ) → r ≡ x → r ≢ min x y → min x y + 2 ≡ y + 2
        other x y r e f = omega arith

-- neither end
fate-brother : (x y k : ℕ) (w : Tri) → x < 32_768 → y < 32_768 → w.r ≢ x → w.r ≢ y → k ≡ pair_no (edge x y) → fate_no k w ≡ 1
unfolding fate_no
fate-brother x y k w a b e g f = go (parts x y k a b f)
  where
    go : ((k - 1) / 32_768 ≡ min x y) × ((k - 1) % 32_768 ≡ max x y) × (k ≢ 0) →
        cases (eqb k 0) 0 (cases (eqb w.r ((k - 1) / 32_768)) ((k - 1) % 32_768 + 2) (cases (eqb w.r ((k - 1) % 32_768)) ((k - 1) / 32_768 + 2) 1)) ≡ 1
    go p =
        rw (ne_eqb k 0 p.2, p.0, ne_eqb w.r (min x y) (low x y w.r e g), p.1, ne_eqb w.r (max x y) (high x y w.r e g))
      where
        low : (x y r : ℕ) → r ≢ x → r ≢ y → r ≢ min x y
        low x y r e f = omega arith

        high : (x y r : ℕ) → r ≢ x → r ≢ y → r ≢ max x y
        high x y r e f = omega arith

-- ---- what becomes of a row, whole

module _ (n0 : ℕ) (m : Mesh) (marks : List ℕ) (law : Lawful m) (few : length m.nodes ≤ 32_768) where
  ok : Takeable m (taken n0 m marks)
  ok = takeable n0 m marks law

  -- what the note f makes of row w
  record Made (w : Tri) (f : ℕ) (us : List Tri) : Type 0 where
    rows_are : us ≡ cases (eqb f 1) [] (father_by w f ∷ [])
    named : eqb f 1 ≡ false → Named (length m.nodes) (father_by w f)

  made-self : (w : Tri) (f : ℕ) → f ≡ 0 → Named (length m.nodes) w → Made w f (w ∷ [])
  unfolding father_by
  made-self w f e h = record { rows_are = rw e; named = λ q. rw e h }

  made_none : (w : Tri) (f : ℕ) → f ≡ 1 → Made w f []
  made_none w f e = record { rows_are = rw e; named = λ q. clash (sym (eq-eqb f 1 e) ∙ q) }

  made-father : (w : Tri) (f y : ℕ) → f ≡ y + 2 → Named (length m.nodes) (tri w.q w.r y) → Made w f (tri w.q w.r y ∷ [])
  unfolding father_by
  made-father w f y e h =
      let a : eqb f 1 ≡ false = ne_eqb f 1 (omega arith) in
      let b : ltb f 2 ≡ false = le-ltb f 2 (omega arith) in
      let c : f - 2 ≡ y = omega arith in
      record { rows_are = rw (a, b, c); named = λ q. rw (b, c) h }

  module _ (w : Tri) (j : Memᴰ w m.tris) where
    nm : Named (length m.nodes) w
    nm = All-at law.named j

    -- the pair of its newest vertex, where this goes
    its-pair : {b : Brothers} (z : ℕ) → Memᴰ z (taken n0 m marks) → Pair m z b → w.p ≡ z → take_no n0 m marks w.p ≡ pair_no (edge b.left.r b.right.q)
    its-pair {b} z i p e =
        let g : any (eqb w.p) (taken n0 m marks) ≡ true = any_at (eqb w.p) (eq-eqb w.p z e) i in
        take-pair n0 m marks w.p nm.p-below g ∙ ap (λ (x : ℕ). pair_no (span m x)) e ∙ ap pair_no (sym p.ends)

    few-p : (x : ℕ) → x < length m.nodes → x < 32_768
    few-p x h = omega arith

    made : {us : List Tri} → Fate (brood m (taken n0 m marks)) (taken n0 m marks) w us → Made w (fate_no (take_no n0 m marks w.p) w) us
    made (to-father {b = b} i e) =
        let h = All-at (broods m (taken n0 m marks) law ok) i in
        let p = h.2 in
        let q : b.left ≡ w = same_tri-eq b.left w e in
        let l = All-at law.named p.left-row in
        let r = All-at law.named p.right-row in
        let k = its-pair h.0 h.1 p (ap (λ (u : Tri). u.p) (sym q) ∙ p.left-p) in
        let f = fate-pair b.left.r b.right.q (take_no n0 m marks w.p) w (few-p b.left.r l.r-below) (few-p b.right.q r.q-below) (ap (λ (u : Tri). u.r) (sym q)) k in
        let d : father b ≡ tri w.q w.r b.right.q = ap (λ (u : Tri). tri u.q u.r b.right.q) q in
        rw d (made-father w (fate_no (take_no n0 m marks w.p) w) b.right.q f (rw (← d) (father-named m h.0 p law)))
    made (to_none {b = b} i e n y) =
        let h = All-at (broods m (taken n0 m marks) law ok) i in
        let p = h.2 in
        let q : b.right ≡ w = same_tri-eq b.right w e in
        let l = All-at law.named p.left-row in
        let r = All-at law.named p.right-row in
        let k = its-pair h.0 h.1 p (ap (λ (u : Tri). u.p) (sym q) ∙ p.right-p) in
        let wr : w.r ≡ b.right.r = ap (λ (u : Tri). u.r) (sym q) in
        made_none w (fate_no (take_no n0 m marks w.p) w)
        (fate-brother b.left.r b.right.q (take_no n0 m marks w.p) w (few-p b.left.r l.r-below) (few-p b.right.q r.q-below)
        (λ x. l.q≢r (sym p.joint ∙ sym wr ∙ x)) (λ x. r.q≢r (sym x ∙ wr)) k)
    made (to-self n y) =
        let g : any (eqb w.p) (taken n0 m marks) ≡ false = sym (touched-is m (taken n0 m marks) law ok j) ∙ y in
        made-self w (fate_no (take_no n0 m marks w.p) w) (zero-fate (take_no n0 m marks w.p) (take_none n0 m marks w.p nm.p-below g)) nm
      where
        zero-fate : (k : ℕ) → k ≡ 0 → fate_no k w ≡ 0
        zero-fate k e = sym (fate-none k w e)

    pub fate-note : fate (brood m (taken n0 m marks)) w ≡
        cases (eqb (fate_no (take_no n0 m marks w.p) w) 1) [] (father_by w (fate_no (take_no n0 m marks w.p) w) ∷ [])
    fate-note = (made (fate-is m (taken n0 m marks) law ok j)).rows_are

    pub father-in : eqb (fate_no (take_no n0 m marks w.p) w) 1 ≡ false → Named (length m.nodes) (father_by w (fate_no (take_no n0 m marks w.p) w))
    father-in = (made (fate-is m (taken n0 m marks) law ok j)).named
