-- Each test of a node or a row is tied to its fact, and each search to the lowest node or row at fault: it is below the end, at fault, and all
-- below it are sound; where nothing is found, all are sound. Assumes nothing.
use Rattle.std.specs.Prelude.{Bool, true, false, not, ◌||◌, ◌↔◌, ◌≡◌, refl, ℕ, zero, suc, ◌+◌, ◌≤◌, ◌<◌, eqb, leb, ℤ, pos, negsuc, nat_abs, ◌<ℤ◌, ◌≤ℤ◌, length, get_or, take, Some, None}
use mathlib.Core.List.{List, [], ◌∷◌, Memᴰ}
use Rattle.std.proofs.Common.{sym, subst, ap, ◌∙◌, arith, get_or-take, length-take-le, eqb-true, ne_eqb, leb-true, leb-false, le-leb}
use Rattle.std.specs.Int.Signed.{lt_z}
use Rattle.std.proofs.lemmas.Bool.{eqb-false, lt-leb, not-false}
use Rattle.whole.specs.Tests.{lt_z-true, lt_z-false, lt-lt_z, le-lt_z}
use Rattle.lists.specs.Lists.{any, count, suc_if, joined, where_first, All, nil, cons}
use Rattle.lists.specs.ListsLaw.{clash, or_no, All-imp, All-at, All-of, any_at, any-row, any_none, where-none}
use Rattle.lists.specs.MembersLaw.{mem-at, at_mem, any-count, count-some}
use Rattle.lists.specs.Tally.{tally, tally-zero, tally-at}
use Rattle.lists.specs.Search.{lowest}
use Rattle.lists.specs.SearchLaw.{lowest-below, lowest-true, lowest-lower, lowest-nothing}
use Rattle.lists.specs.ByNumberLaw.{where-lowest}
use Rattle.meaning.specs.declared.Place.{Place}
use Rattle.meaning.specs.declared.Correction.{Correction}
use Rattle.meaning.specs.declared.Node.{Node}
use Rattle.meaning.specs.declared.Tri.{Tri}
use Rattle.meaning.specs.Mesh.{Mesh, Arrow, tri, arrow, arrows, origin, node_of, same_arrow, holds_node, holds_arrow, twice_area}
use Rattle.meaning.specs.Lawful.{InRange, InBounds, NodeInRange, Named, First, Repeats, far, outside, too_long, beyond, node_outside, misnamed, row_of, repeats, flat, unused, first_outside, first_misnamed, first_repeat, first_flat, first_unused}
use Rattle.laws.specs.Edges.{same_arrow-eq, hit, hits, count-arrows, hit-no, eq-arrow, not-held, held-hit}

-- ---- 3

near : (z : ℤ) → far z ≡ false → nat_abs z ≤ 1_048_576
near z e = leb-true (nat_abs z) 1_048_576 (not-false (leb (nat_abs z) 1_048_576) e)

pub in-range : (a : Place) → outside a ≡ false → InRange a
in-range a e = let h = or_no (far a.x) (far a.y) e in record { x-near = near a.x h.0; y-near = near a.y h.1 }

range-exact : (a : Place) → (outside a ≡ false) ↔ InRange a
range-exact a = (in-range a, λ h. rw (le-leb _ _ h.x-near, le-leb _ _ h.y-near))

long-exact : (z : ℤ) → (too_long z ≡ false) ↔ ((negsuc 32_767 ≤ℤ z) × (z ≤ℤ pos 32_767))
long-exact z = (
  λ e. (let h = or_no (lt_z z (negsuc 32_767)) (lt_z (pos 32_767) z) e in (lt_z-false z (negsuc 32_767) h.0, lt_z-false (pos 32_767) z h.1)),
  λ h. rw (le-lt_z z (negsuc 32_767) h.0, le-lt_z (pos 32_767) z h.1),
)

pub bounds-exact : (c : Correction) → (beyond c ≡ false) ↔ InBounds c
bounds-exact c = (
  λ e.
      (let h = or_no (too_long c.dx) (too_long c.dy) e in
      let x = (long-exact c.dx).0 h.0 in
      let y = (long-exact c.dy).0 h.1 in
      record { dx-from = x.0; dx-to = x.1; dy-from = y.0; dy-to = y.1 }),
  λ b. rw ((long-exact c.dx).1 (b.dx-from, b.dx-to), (long-exact c.dy).1 (b.dy-from, b.dy-to)),
)

pub node-exact : (a : Node) → (node_outside a ≡ false) ↔ NodeInRange a
node-exact a = (
  λ e.
      (let h = or_no (outside a.place) (beyond a.correction) e in
      record { place_in = (range-exact a.place).0 h.0; correction-in = (bounds-exact a.correction).0 h.1 }),
  λ r. rw ((range-exact a.place).1 r.place_in, (bounds-exact a.correction).1 r.correction-in),
)

-- ---- 4

pub named-yes : (n : ℕ) (t : Tri) → misnamed n t ≡ false → Named n t
named-yes n t e =
    let a = or_no (leb n t.p || leb n t.q || leb n t.r || eqb t.p t.q || eqb t.q t.r) (eqb t.r t.p) e in
    let b = or_no (leb n t.p || leb n t.q || leb n t.r || eqb t.p t.q) (eqb t.q t.r) a.0 in
    let c = or_no (leb n t.p || leb n t.q || leb n t.r) (eqb t.p t.q) b.0 in
    let d = or_no (leb n t.p || leb n t.q) (leb n t.r) c.0 in
    let f = or_no (leb n t.p) (leb n t.q) d.0 in
    record {
      p-below = leb-false n t.p f.0;
      q-below = leb-false n t.q f.1;
      r-below = leb-false n t.r d.1;
      p≢q = eqb-false t.p t.q c.1;
      q≢r = eqb-false t.q t.r b.1;
      r≢p = eqb-false t.r t.p a.1;
    }

named-exact : (n : ℕ) (t : Tri) → (misnamed n t ≡ false) ↔ Named n t
named-exact n t =
    (named-yes n t, λ h. simp (lt-leb _ _ h.p-below, lt-leb _ _ h.q-below, lt-leb _ _ h.r-below, ne_eqb _ _ h.p≢q, ne_eqb _ _ h.q≢r, ne_eqb _ _ h.r≢p))

-- ---- 5

-- the three arrows of a row that names three nodes differ
hit-most : (e : Arrow) (a b : ℕ) → hit e a b ≤ 1
unfolding hit
hit-most e a b = go (same_arrow e (arrow a b))
  where
    go : (b : Bool) → suc_if b 0 ≤ 1
    go true = omega arith
    go false = omega arith

hit-once : (n : ℕ) (e : Arrow) (t : Tri) → Named n t → hits e t ≤ 1
hit-once n e t h = go (eqb e.from t.p) refl (eqb e.from t.q) refl
  where
    go : (a : Bool) → eqb e.from t.p ≡ a → (b : Bool) → eqb e.from t.q ≡ b → hits e t ≤ 1
    go true p b q =
        let k = eqb-true e.from t.p p in
        let x = hit-no e t.q t.r (λ w z. h.p≢q (sym k ∙ w)) in
        let y = hit-no e t.r t.p (λ w z. h.r≢p (sym w ∙ k)) in
        omega (arith, hit-most e t.p t.q)
    go false p true q =
        let k = eqb-true e.from t.q q in
        let x = hit-no e t.p t.q (λ w z. eqb-false e.from t.p p w) in
        let y = hit-no e t.r t.p (λ w z. h.q≢r (sym k ∙ w)) in
        omega (arith, hit-most e t.q t.r)
    go false p false q =
        let x = hit-no e t.p t.q (λ w z. eqb-false e.from t.p p w) in
        let y = hit-no e t.q t.r (λ w z. eqb-false e.from t.q q w) in
        omega (arith, hit-most e t.r t.p)

-- no row has an arrow that a lower row has
NoRepeat : List Tri → Type 0
NoRepeat ts = (i : ℕ) → i < length ts → repeats ts i ≡ false

-- an arrow of the first row is in no later row
later-free : (t : Tri) (ts : List Tri) → NoRepeat (t ∷ ts) → (e : Arrow) → holds_arrow e t ≡ true → All (λ u. holds_arrow e u ≡ false) ts
unfolding NoRepeat
later-free t ts h e k = All-of ts λ u j.
    let r = mem-at (tri 0 0 0) j in
    let free = any_none (λ d. any (holds_arrow d) (take (suc r.0) (t ∷ ts))) (arrows (row_of ts r.0)) (h (suc r.0) (omega (arith, r.1))) in
    subst (λ v. holds_arrow e v ≡ false) r.2 (go (take r.0 ts) (row_of ts r.0) free (holds_arrow e (row_of ts r.0)) refl)
  where
    go : (us : List Tri) (v : Tri) → All (λ d. any (holds_arrow d) (t ∷ us) ≡ false) (arrows v) → (b : Bool) → holds_arrow e v ≡ b → b ≡ false
    go us v free true q =
        let s = any-row (same_arrow e) (arrows v) q in
        let z = (or_no (holds_arrow s.0 t) (any (holds_arrow s.0) us) (All-at free s.1)).0 in
        clash (sym k ∙ ap (λ d. holds_arrow d t) (same_arrow-eq e s.0 s.2) ∙ z)
    go us v free false q = refl

rest-free : (t : Tri) (ts : List Tri) → NoRepeat (t ∷ ts) → NoRepeat ts
unfolding NoRepeat
rest-free t ts h i l =
    any-all-false (arrows (row_of ts i)) (any_none (λ d. any (holds_arrow d) (take (suc i) (t ∷ ts))) (arrows (row_of ts i)) (h (suc i) (omega arith)))
  where
    any-all-false : (es : List Arrow) → All (λ d. holds_arrow d t || any (holds_arrow d) (take i ts) ≡ false) es → any (λ d. any (holds_arrow d) (take i ts)) es ≡ false
    any-all-false [] nil = refl
    any-all-false (d ∷ es) (cons p ps) = rw ((or_no (holds_arrow d t) (any (holds_arrow d) (take i ts)) p).1, any-all-false es ps)

once-hit : (n : ℕ) (ts : List Tri) → All (Named n) ts → NoRepeat ts → (e : Arrow) → tally (hits e) ts ≤ 1
once-hit n [] named h e = omega arith
once-hit n (t ∷ ts) (cons p ps) h e = go (holds_arrow e t) refl (once-hit n ts ps (rest-free t ts h) e)
  where
    go : (b : Bool) → holds_arrow e t ≡ b → tally (hits e) ts ≤ 1 → hits e t + tally (hits e) ts ≤ 1
    go true q below =
        let z = tally-zero (hits e) (All-imp (λ u f. not-held e u f) (later-free t ts h e q)) in
        omega (arith, hit-once n e t p)
    go false q below = omega (arith, not-held e t q)

-- a row has each of its own arrows
pub holds-own : (e : Arrow) {t : Tri} → Memᴰ e (arrows t) → holds_arrow e t ≡ true
holds-own e i = any_at (same_arrow e) (eq-arrow e e.from e.to refl refl) i

-- a row with an arrow of a lower row: that arrow occurs twice
take-tally : (f : Tri → ℕ) (ts : List Tri) (i : ℕ) → i < length ts → tally f (take i ts) + f (row_of ts i) ≤ tally f ts
take-tally f [] i h = absurd (omega arith)
take-tally f (t ∷ ts) zero h = omega arith
take-tally f (t ∷ ts) (suc i) h = omega (arith, take-tally f ts i (omega arith))

-- the first i rows are the lower ones
pub lower-row : (ts : List Tri) (i j : ℕ) → j < i → i ≤ length ts → Memᴰ (row_of ts j) (take i ts)
lower-row ts i j h l =
    subst (λ t. Memᴰ t (take i ts)) (get_or-take i ts j (tri 0 0 0) h) (at_mem (take i ts) j (tri 0 0 0) (omega (arith, length-take-le i ts l)))

pub row-lower : (ts : List Tri) (i : ℕ) {t : Tri} → Memᴰ t (take i ts) → i ≤ length ts → (j : ℕ) × (j < i) × (row_of ts j ≡ t)
row-lower ts i among l =
    let (j, below, is) = mem-at (tri 0 0 0) among in
    let b : j < i = omega (arith, length-take-le i ts l) in
    (j, b, sym (get_or-take i ts j (tri 0 0 0) b) ∙ is)

pub repeat-twice : (ts : List Tri) (i : ℕ) → i < length ts → (r : Repeats ts i) → 2 ≤ count (same_arrow r.edge) (joined arrows ts)
repeat-twice ts i h r =
    let e = r.edge in
    let a = tally-at (hits e) (lower-row ts i r.other r.other-lower (omega arith)) in
    let b = held-hit e (row_of ts r.other) (holds-own e r.there) in
    let c = held-hit e (row_of ts i) (holds-own e r.here) in
    let d = take-tally (hits e) ts i h in
    let f = count-arrows e ts in
    omega arith

-- the test says yes exactly of a row with an arrow of a lower row
pub repeats-exact : (ts : List Tri) (i : ℕ) → i < length ts → (repeats ts i ≡ true) ↔ Repeats ts i
repeats-exact ts i h = (
  there,
  λ r. any_at (λ d. any (holds_arrow d) (take i ts)) (any_at (holds_arrow r.edge) (holds-own r.edge r.there) (lower-row ts i r.other r.other-lower (omega arith))) r.here,
)
  where
    there : repeats ts i ≡ true → Repeats ts i
    there t =
        let (e, here, lower) = any-row (λ d. any (holds_arrow d) (take i ts)) (arrows (row_of ts i)) t in
        let (u, among, held) = any-row (holds_arrow e) (take i ts) lower in
        let (j, below, is) = row-lower ts i among (omega arith) in
        let (d, own, same) = any-row (same_arrow e) (arrows u) held in
        record {
          edge = e;
          other = j;
          other-lower = below;
          here = here;
          there = subst (λ v. Memᴰ e (arrows v)) (sym is) (subst (λ x. Memᴰ x (arrows u)) (sym (same_arrow-eq e d same)) own);
        }

-- ---- 6

flat-exact : (m : Mesh) (t : Tri) → (flat m t ≡ false) ↔ (pos 0 <ℤ twice_area m t)
flat-exact m t = (λ e. lt_z-true (pos 0) (twice_area m t) (not-false _ e), λ h. ap not (lt-lt_z (pos 0) (twice_area m t) h))

-- ---- 7

used-some : (ts : List Tri) (z : ℕ) → unused ts z ≡ false → 1 ≤ count (holds_node z) ts
used-some ts z e = any-count (holds_node z) ts (not-false (any (holds_node z) ts) e)

some-used : (ts : List Tri) (z : ℕ) → 1 ≤ count (holds_node z) ts → unused ts z ≡ false
some-used ts z h = let r = count-some (holds_node z) ts h in ap not (any_at (holds_node z) r.2 r.1)

used-none : (ts : List Tri) (z : ℕ) → unused ts z ≡ true → count (holds_node z) ts ≡ 0
used-none ts z e = go (count (holds_node z) ts) refl
  where
    go : (k : ℕ) → count (holds_node z) ts ≡ k → k ≡ 0
    go zero q = refl
    go (suc k) q = clash (sym e ∙ some-used ts z (omega arith))

-- ---- each search finds the lowest at fault, or all are sound

pub first-at : {Faulty Sound : ℕ → Type 0} (f : ℕ → Bool) (end : ℕ) → ((j : ℕ) → j < end → f j ≡ true → Faulty j) → ((j : ℕ) → j < end → f j ≡ false → Sound j) →
    (i : ℕ) → lowest f 0 end ≡ Some i → First end Faulty Sound i
first-at f end faulty sound i e =
    let b = lowest-below f end i e in
    record { below = b; at-fault = faulty i b (lowest-true f end i e); sound-below = λ j h. sound j (omega arith) (lowest-lower f end i j e h) }

-- of a list whose members are sound exactly if a test says no
module _ {A : Type 0} {Sound : A → Type 0} (f : A → Bool) (exact : (x : A) → (f x ≡ false) ↔ Sound x) (l : List A) where
  first-unsound : (d : A) (i : ℕ) → where_first f l ≡ Some i → First (length l) (λ j. ¬ Sound (get_or l j d)) (λ j. Sound (get_or l j d)) i
  first-unsound d i e =
      first-at (λ j. f (get_or l j d)) (length l) (λ j h t s. clash (sym t ∙ (exact (get_or l j d)).1 s)) (λ j h. (exact (get_or l j d)).0) i (sym (where-lowest f l d) ∙ e)

  all_sound : where_first f l ≡ None → All Sound l
  all_sound e = All-imp (λ x. (exact x).0) (where-none f l e)

module _ (m : Mesh) where
  pub first-3 : (i : ℕ) → first_outside m ≡ Some i → First (length m.nodes) (λ j. ¬ NodeInRange (node_of m j)) (λ j. NodeInRange (node_of m j)) i
  unfolding first_outside
  first-3 = first-unsound node_outside node-exact m.nodes origin

  pub none-3 : first_outside m ≡ None → All NodeInRange m.nodes
  unfolding first_outside
  none-3 = all_sound node_outside node-exact m.nodes

  pub first-4 : (i : ℕ) → first_misnamed m ≡ Some i → First (length m.tris) (λ j. ¬ Named (length m.nodes) (row_of m.tris j)) (λ j. Named (length m.nodes) (row_of m.tris j)) i
  unfolding first_misnamed
  first-4 = first-unsound (misnamed (length m.nodes)) (named-exact (length m.nodes)) m.tris (tri 0 0 0)

  pub none-4 : first_misnamed m ≡ None → All (Named (length m.nodes)) m.tris
  unfolding first_misnamed
  none-4 = all_sound (misnamed (length m.nodes)) (named-exact (length m.nodes)) m.tris

  pub first-5 : (i : ℕ) → first_repeat m ≡ Some i → First (length m.tris) (Repeats m.tris) (λ j. ¬ Repeats m.tris j) i
  unfolding first_repeat
  first-5 = first-at (repeats m.tris) (length m.tris) (λ j h. (repeats-exact m.tris j h).0) (λ j h f r. clash (sym ((repeats-exact m.tris j h).1 r) ∙ f))

  pub none-5 : All (Named (length m.nodes)) m.tris → first_repeat m ≡ None → (e : Arrow) → count (same_arrow e) (joined arrows m.tris) ≤ 1
  unfolding first_repeat NoRepeat
  none-5 named f e =
      let h = once-hit (length m.nodes) m.tris named (λ i l. lowest-nothing (repeats m.tris) (length m.tris) i f l) e in
      omega (arith, count-arrows e m.tris)

  pub first-6 : (i : ℕ) → first_flat m ≡ Some i → First (length m.tris) (λ j. ¬ (pos 0 <ℤ twice_area m (row_of m.tris j))) (λ j. pos 0 <ℤ twice_area m (row_of m.tris j)) i
  unfolding first_flat
  first-6 = first-unsound (flat m) (flat-exact m) m.tris (tri 0 0 0)

  pub none-6 : first_flat m ≡ None → All (λ t. pos 0 <ℤ twice_area m t) m.tris
  unfolding first_flat
  none-6 = all_sound (flat m) (flat-exact m) m.tris

  pub first-7 : (i : ℕ) → first_unused m ≡ Some i → First (length m.nodes) (λ j. count (holds_node j) m.tris ≡ 0) (λ j. 1 ≤ count (holds_node j) m.tris) i
  unfolding first_unused
  first-7 = first-at (unused m.tris) (length m.nodes) (λ j h. used-none m.tris j) (λ j h. used-some m.tris j)

  pub none-7 : first_unused m ≡ None → (z : ℕ) → z < length m.nodes → 1 ≤ count (holds_node z) m.tris
  unfolding first_unused
  none-7 e z l = used-some m.tris z (lowest-nothing (unused m.tris) (length m.nodes) z e l)
