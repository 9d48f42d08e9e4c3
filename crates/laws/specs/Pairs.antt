-- G2's pairs: the rows round a node, paired off from the lowest on. A pairing that leaves none over is the one G2 reads off, and its
-- pairs are these rows, each once. Assumes nothing.
use Rattle.std.specs.Prelude.{Bool, true, false, not, ◌||◌, ◌≢◌, ◌≡◌, refl, ℕ, zero, suc, ◌+◌, ◌*◌, ◌≤◌, ◌<◌, length, get_or, Option}
use mathlib.Core.List.{List, [], ◌∷◌, Memᴰ}
use Rattle.std.proofs.Common.{sym, subst, ap, ◌∙◌, arith, eq-eqb}
use Rattle.std.proofs.Math.Decide.{dec_lt}
use Rattle.lists.specs.Lists.{only, All, nil, cons}
use Rattle.lists.specs.ListsLaw.{clash, and_both, or_left, or_right, All-at, All-of, FirstIs, no_row, row, first-is}
use Rattle.lists.specs.MembersLaw.{at_mem, only-in, only_keeps}
use Rattle.lists.specs.Search.{items}
use Rattle.lists.specs.IterLaw.{length-items, get_or-items}
use Rattle.lists.specs.Tally.{bit, tally, tally-at, tally-le, tally-length, tally-only, tally-parts, only-le, bits-some, pick-one}
use Rattle.meaning.specs.declared.Tri.{Tri}
use Rattle.meaning.specs.Mesh.{Mesh, Arrow, tri, arrow, same_arrow, same_tri, holds_arrow}
use Rattle.meaning.specs.Lawful.{Named, Lawful, row_of}
use Rattle.meaning.specs.Good.{Brothers, brothers, add_pair, pair_off}
use Rattle.laws.specs.Edges.{same_tri-eq, same_tri-refl, arrow-eq, hits, hit-self, count-arrows, held-hit}
use Rattle.laws.specs.Faults.{holds-own}

-- no row stands twice, no arrow occurs twice
abbrev pub RowsOnce : List Tri → Type 0
RowsOnce ts = (u : Tri) → tally (λ v. bit (same_tri u v)) ts ≤ 1

abbrev pub ArrowsOnce : List Tri → Type 0
ArrowsOnce ts = (e : Arrow) → tally (hits e) ts ≤ 1

pub arrows-once : (m : Mesh) → Lawful m → ArrowsOnce m.tris
arrows-once m law e = let a = count-arrows e m.tris in let b = law.no_twice e in omega arith

-- a row that stood twice would have its first arrow twice
pub row-once : (m : Mesh) → Lawful m → RowsOnce m.tris
row-once m law u =
    let a = tally-le (λ v. bit (same_tri u v)) (hits (arrow u.p u.q)) (All-of m.tris (λ v i. one v (same_tri u v) refl)) in
    let b = arrows-once m law (arrow u.p u.q) in
    omega arith
  where
    one : (v : Tri) (b : Bool) → same_tri u v ≡ b → bit b ≤ hits (arrow u.p u.q) v
    one v true e = subst (λ w. 1 ≤ hits (arrow u.p u.q) w) (same_tri-eq u v e) (let h = hit-self u.p u.q in omega arith)
    one v false e = omega arith

pub only-rows : (f : Tri → Bool) (ts : List Tri) → RowsOnce ts → RowsOnce (only f ts)
only-rows f ts o u = let a = only-le (λ v. bit (same_tri u v)) f ts in let b = o u in omega arith

only-arrows : (f : Tri → Bool) (ts : List Tri) → ArrowsOnce ts → ArrowsOnce (only f ts)
only-arrows f ts o e = let a = only-le (hits e) f ts in let b = o e in omega arith

-- a row that stands first stands nowhere else
pub not-again : (t : Tri) {v : Tri} {ts : List Tri} → RowsOnce (t ∷ ts) → Memᴰ v ts → same_tri t v ≡ false
not-again t {v} {ts} o i = go (same_tri t v) refl
  where
    go : (b : Bool) → same_tri t v ≡ b → b ≡ false
    go true e =
        let a = bits-some (same_tri t) i e in
        let b = o t in
        let c = ap bit (same_tri-refl t) in
        absurd (omega arith)
    go false e = refl

-- the rows but one
abbrev pub but : Tri → List Tri → List Tri
but u ts = only (λ v. not (same_tri u v)) ts

pub but_in : {u v : Tri} {ts : List Tri} → Memᴰ v ts → v ≢ u → Memᴰ v (but u ts)
but_in {u} {v} i n = only-in (λ w. not (same_tri u w)) i (go (same_tri u v) refl)
  where
    go : (b : Bool) → same_tri u v ≡ b → not b ≡ true
    go true e = absurd (n (sym (same_tri-eq u v e)))
    go false e = refl

but-one : (f : Tri → ℕ) {u : Tri} {ts : List Tri} → Memᴰ u ts → RowsOnce ts → tally f ts ≡ f u + tally f (but u ts)
but-one f {u} {ts} i h =
    let a = tally-parts f (same_tri u) ts in
    let b = pick-one (same_tri u) f i (same_tri-refl u) (h u) in
    let c = tally-only f (λ v. not (same_tri u v)) ts in
    omega arith

pub but-length : {u : Tri} {ts : List Tri} → Memᴰ u ts → RowsOnce ts → length ts ≡ suc (length (but u ts))
but-length {u} {ts} i h =
    let a = but-one (λ v. 1) i h in
    let b = tally-length ts in
    let c = tally-length (but u ts) in
    omega arith

-- two members of a sum
pub two-places : {A : Type 0} (f : A → ℕ) (l : List A) (d : A) (j k : ℕ) → j < k → k < length l → f (get_or l j d) + f (get_or l k d) ≤ tally f l
two-places f [] d j k h l = absurd (omega arith)
two-places f (x ∷ xs) d j zero h l = absurd (omega arith)
two-places f (x ∷ xs) d zero (suc k) h l = omega (arith, tally-at f (at_mem xs k d (omega arith)))
two-places f (x ∷ xs) d (suc j) (suc k) h l = omega (arith, two-places f xs d j k (omega arith) (omega arith))

-- ---- the row that holds a→z

-- there is one at most
pub holder-one : (e : Arrow) {x u : Tri} {ts : List Tri} → ArrowsOnce ts → Memᴰ x ts → holds_arrow e x ≡ true → Memᴰ u ts → holds_arrow e u ≡ true → x ≡ u
holder-one e {x} {u} {ts} o i y j w =
    let a = tally-le (λ v. bit (holds_arrow e v)) (hits e) (All-of ts (λ v i. held v (holds_arrow e v) refl)) in
    let b = o e in
    let c = pick-one (holds_arrow e) (λ v. bit (same_tri x v)) i y (omega arith) in
    let d = pick-one (holds_arrow e) (λ v. bit (same_tri x v)) j w (omega arith) in
    let f = ap bit (same_tri-refl x) in
    go (same_tri x u) refl (omega arith)
  where
    held : (v : Tri) (b : Bool) → holds_arrow e v ≡ b → bit b ≤ hits e v
    held v true w = held-hit e v w
    held v false w = omega arith

    go : (b : Bool) → same_tri x u ≡ b → bit b ≡ 1 → x ≡ u
    go true w k = same_tri-eq x u w
    go false w k = absurd (omega arith)

-- by number: no arrow is in two rows
pub holder-place : (e : Arrow) (ts : List Tri) → ArrowsOnce ts → (i j : ℕ) → i < length ts → j < length ts →
    holds_arrow e (row_of ts i) ≡ true → holds_arrow e (row_of ts j) ≡ true → i ≡ j
holder-place e ts o i j h k p q = go (dec_lt i j) (dec_lt j i)
  where
    twice : (a b : ℕ) → a < b → b < length ts → holds_arrow e (row_of ts a) ≡ true → holds_arrow e (row_of ts b) ≡ true → ⊥
    twice a b l u x y = omega (arith, two-places (hits e) ts (tri 0 0 0) a b l u, o e, held-hit e (row_of ts a) x, held-hit e (row_of ts b) y)

    go : Dec (i < j) → Dec (j < i) → i ≡ j
    go (yes l) b = absurd (twice i j l k p q)
    go (no a) (yes l) = absurd (twice j i l h q p)
    go (no a) (no b) = omega arith

-- no row stands twice
pub same_row : (m : Mesh) → Lawful m → (i j : ℕ) → i < length m.tris → j < length m.tris → row_of m.tris i ≡ row_of m.tris j → i ≡ j
same_row m law i j h k e =
    let d = arrow (row_of m.tris i).p (row_of m.tris i).q in
    let own = holds-own d (Memᴰ.head refl) in
    holder-place d m.tris (arrows-once m law) i j h k own (subst (λ t. holds_arrow d t ≡ true) e own)

pub holder-item : (e : Arrow) (row_by : ℕ → Tri) (t : ℕ) → ArrowsOnce (items row_by 0 t) → (i j : ℕ) → i < t → j < t →
    holds_arrow e (row_by i) ≡ true → holds_arrow e (row_by j) ≡ true → i ≡ j
holder-item e row_by t o i j h k p q =
    let l : length (items row_by 0 t) ≡ t = length-items row_by t in
    holder-place e (items row_by 0 t) o i j (omega arith) (omega arith) (rw (get_or-items row_by t i (tri 0 0 0) h) p) (rw (get_or-items row_by t j (tri 0 0 0) k) q)

-- where z is its newest vertex, it is (z, c, a)
pub third-holds : (u : Tri) (a z : ℕ) → u.r ≡ a → u.p ≡ z → holds_arrow (arrow a z) u ≡ true
third-holds u a z e f =
    or_right (same_arrow (arrow a z) (arrow u.p u.q)) (or_right (same_arrow (arrow a z) (arrow u.q u.r))
    (or_left false (and_both (eq-eqb a u.r (sym e)) (eq-eqb z u.p (sym f)))))

third-is : (a z n : ℕ) (u : Tri) → Named n u → u.p ≡ z → a ≢ z → holds_arrow (arrow a z) u ≡ true → u.r ≡ a
third-is a z n u h e ne t = go (same_arrow (arrow a z) (arrow u.p u.q)) refl (same_arrow (arrow a z) (arrow u.q u.r)) refl (same_arrow (arrow a z) (arrow u.r u.p)) refl t
  where
    go : (b : Bool) → same_arrow (arrow a z) (arrow u.p u.q) ≡ b → (c : Bool) → same_arrow (arrow a z) (arrow u.q u.r) ≡ c →
        (d : Bool) → same_arrow (arrow a z) (arrow u.r u.p) ≡ d → b || (c || (d || false)) ≡ true → u.r ≡ a
    go true x c y d w t = absurd (ne ((arrow-eq (arrow a z) u.p u.q x).0 ∙ e))
    go false x true y d w t = absurd (h.r≢p (sym (arrow-eq (arrow a z) u.q u.r y).1 ∙ sym e))
    go false x false y true w t = sym (arrow-eq (arrow a z) u.r u.p w).0
    go false x false y false w t = clash (sym t)

-- ---- pairing off

-- rows in the order in which G2 pairs them off: the first, (z, a, b), with a later one, (z, c, a); then again, and none is left over
pub data Matched : List Tri → List Brothers → Type 0 where
  none_left : Matched [] []
  pair-first : {t u : Tri} {ts : List Tri} {bs : List Brothers} → Memᴰ u ts → u.r ≡ t.q → Matched (but u ts) bs → Matched (t ∷ ts) (brothers t u ∷ bs)

-- the pairs are the rows, each once
pub matched-rows : {ts : List Tri} {bs : List Brothers} → RowsOnce ts → Matched ts bs → (f : Tri → ℕ) → tally (λ b. f b.left + f b.right) bs ≡ tally f ts
matched-rows o none_left f = refl
matched-rows o (pair-first {t = t} {u = u} {ts = ts} i j r) f =
    let o' : RowsOnce ts = λ w. (let g = o w in omega arith) in
    let a = but-one f i o' in
    let b = matched-rows (only-rows (λ v. not (same_tri u v)) ts o') r f in
    omega arith

pub matched-all : {P : Tri → Type 0} {ts : List Tri} {bs : List Brothers} → All P ts → Matched ts bs → All (λ b. P b.left × P b.right × (b.right.r ≡ b.left.q)) bs
matched-all h none_left = nil
matched-all (cons h hs) (pair-first {u = u} i j r) = cons (h, All-at hs i, j) (matched-all (only_keeps (λ v. not (same_tri u v)) hs) r)

-- G2 reads off such pairs, if it may make as many
pub matched-off : (z k : ℕ) {ts : List Tri} {bs : List Brothers} → All (λ t. t.p ≡ z) ts → ArrowsOnce ts → Matched ts bs → length bs ≤ k → pair_off k z ts ≡ bs
matched-off z zero n o none_left l = refl
matched-off z (suc k) n o none_left l = refl
matched-off z zero n o (pair-first i j r) l = absurd (omega arith)
matched-off z (suc k) (cons n ns) o (pair-first {t = t} {u = u} {ts = ts} {bs = bs} i j r) l =
    go (first-is (holds_arrow (arrow t.q z)) ts)
    (matched-off z k (only_keeps (λ v. not (same_tri u v)) ns) (only-arrows (λ v. not (same_tri u v)) ts o') r (omega arith))
  where
    o' : ArrowsOnce ts
    o' e = let a = o e in omega arith

    here : holds_arrow (arrow t.q z) u ≡ true
    here = third-holds u t.q z j (All-at ns i)

    go : {x : Option Tri} → FirstIs (holds_arrow (arrow t.q z)) ts x → pair_off k z (but u ts) ≡ bs →
        add_pair t x (λ u. pair_off k z (but u ts)) ≡ brothers t u ∷ bs
    go (no_row w) below = clash (sym here ∙ All-at w i)
    go (row {x = x} w y) below =
        let q : x ≡ u = holder-one (arrow t.q z) o' w y i here in
        ap (λ v. brothers t v ∷ pair_off k z (but v ts)) q ∙ ap (λ bs. brothers t u ∷ bs) below

-- what G2 reads off takes two rows a pair
pub off-half : (z k : ℕ) (ts : List Tri) → RowsOnce ts → 2 * length (pair_off k z ts) ≤ length ts
off-half z zero ts o = omega arith
off-half z (suc k) [] o = omega arith
off-half z (suc k) (t ∷ ts) o = go (first-is (holds_arrow (arrow t.q z)) ts) (off-half z k)
  where
    o' : RowsOnce ts
    o' u = let a = o u in omega arith

    go : {x : Option Tri} → FirstIs (holds_arrow (arrow t.q z)) ts x → ((us : List Tri) → RowsOnce us → 2 * length (pair_off k z us) ≤ length us) →
        2 * length (add_pair t x (λ u. pair_off k z (but u ts))) ≤ suc (length ts)
    go (no_row n) below = omega arith
    go (row {x = u} i y) below =
        let a = below (but u ts) (only-rows (λ v. not (same_tri u v)) ts o') in
        let b = but-length i o' in
        omega arith

pub off-length : (z k : ℕ) (ts : List Tri) → length (pair_off k z ts) ≤ k
off-length z zero ts = omega arith
off-length z (suc k) [] = omega arith
off-length z (suc k) (t ∷ ts) = go (first-is (holds_arrow (arrow t.q z)) ts) (off-length z k)
  where
    go : {x : Option Tri} → FirstIs (holds_arrow (arrow t.q z)) ts x → ((us : List Tri) → length (pair_off k z us) ≤ k) → length (add_pair t x (λ u. pair_off k z (but u ts))) ≤ suc k
    go (no_row n) below = omega arith
    go (row {x = u} i y) below = let h = below (but u ts) in omega arith

-- and if it takes all, these are such pairs
pub off-matched : (z n k : ℕ) {ts : List Tri} → All (λ t. (t.p ≡ z) × Named n t) ts → RowsOnce ts → 2 * length (pair_off k z ts) ≡ length ts → Matched ts (pair_off k z ts)
off-matched z n zero nil o e = none_left
off-matched z n zero (cons h hs) o e = absurd (omega arith)
off-matched z n (suc k) nil o e = none_left
off-matched z n (suc k) (cons {x = t} {xs = ts} h hs) o e = go (first-is (holds_arrow (arrow t.q z)) ts) e (λ us. off-matched z n k {ts = us})
  where
    o' : RowsOnce ts
    o' u = let a = o u in omega arith

    go : {x : Option Tri} → FirstIs (holds_arrow (arrow t.q z)) ts x → 2 * length (add_pair t x (λ u. pair_off k z (but u ts))) ≡ suc (length ts) →
        ((us : List Tri) → All (λ t. (t.p ≡ z) × Named n t) us → RowsOnce us → 2 * length (pair_off k z us) ≡ length us → Matched us (pair_off k z us)) →
        Matched (t ∷ ts) (add_pair t x (λ u. pair_off k z (but u ts)))
    go (no_row w) e below = absurd (omega arith)
    go (row {x = u} i y) e below =
        let b = but-length i o' in
        let g = All-at hs i in
        pair-first i (third-is t.q z n u g.1 g.0 (λ w. h.1.p≢q (h.0 ∙ sym w)) y)
        (below (but u ts) (only_keeps (λ v. not (same_tri u v)) hs) (only-rows (λ v. not (same_tri u v)) ts o') (omega arith))
