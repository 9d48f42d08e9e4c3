-- Good nodes: in a lawful mesh the tests of G1 to G5 say yes exactly where 01's lines hold. Assumes nothing.
--
-- The lines name the rows round z one after the other; the tests pair them off. Both are the same pairing of all rows round z (`Matched`):
-- no directed edge occurs twice, so the row that holds a→z is the one that pairing off finds, and no row is met twice.
use Rattle.std.specs.Prelude.{true, false, not, ◌&&◌, ◌↔◌, ◌≢◌, ◌≡◌, refl, ℕ, suc, ◌*◌, ◌≤◌, ◌<◌, eqb, length, Option, Some}
use mathlib.Core.List.{List, [], ◌∷◌, Memᴰ}
use Rattle.std.proofs.Common.{sym, ap, ap₂, ◌∙◌, arith, eqb-true, eq-eqb}
use Rattle.std.proofs.Math.Path.{subst, subst⁻¹}
use Rattle.lists.specs.Lists.{first, first_or, All, nil, cons}
use Rattle.lists.specs.ListsLaw.{clash, and_left, and_right, or_left, All-at, All-of, FirstIs, no_row, row, first-is}
use Rattle.lists.specs.MembersLaw.{in_tail, only-in, only_out, head_of, first_head, first_cong, head-is, first_found}
use Rattle.meaning.specs.declared.Tri.{Tri}
use Rattle.meaning.specs.Mesh.{Mesh, Arrow, tri, edge, arrow, same_tri, holds_node, holds_arrow, holds_edge, at}
use Rattle.meaning.specs.Lawful.{Lawful}
use Rattle.meaning.specs.Good.{Middle, Brothers, brothers, rows_of, lowest_left, Paired, two, four, Meets, Good, pairs, span_of, span, closes, G1-4, good}
use Rattle.laws.specs.Area.{middle-either, middle-edge}
use Rattle.laws.specs.Edges.{edge-comm, same_tri-refl}
use Rattle.laws.specs.Pairs.{RowsOnce, ArrowsOnce, arrows-once, not-again, but, but_in, but-length, only-rows, holder-one, third-holds, Matched, none_left, pair-first, off-length}
use Rattle.laws.specs.Star.{Star, round-once, span-is, star-from, star-is, test-closes, test-newest, test-count, test-matched, test-middle, test-free, G5-alone, alone-G5, good-added, good-meets, good-alone, good-yes}

-- ---- rows

-- a row with newest vertex z, by its other two corners
tri-is : (t : Tri) (z a b : ℕ) → t.p ≡ z → t.q ≡ a → t.r ≡ b → t ≡ tri z a b
tri-is t z a b e f g = λ i. record { p = e i; q = f i; r = g i }

empty : (ts : List Tri) → length ts ≡ 0 → ts ≡ []
empty [] e = refl
empty (t ∷ ts) e = absurd (omega arith)

-- the row that holds an arrow is the first that does
first-holder : (e : Arrow) {u : Tri} {ts : List Tri} → ArrowsOnce ts → Memᴰ u ts → holds_arrow e u ≡ true → first (holds_arrow e) ts ≡ Some u
first-holder e {u} {ts} o i y = go (first-is (holds_arrow e) ts)
  where
    go : {x : Option Tri} → FirstIs (holds_arrow e) ts x → x ≡ Some u
    go (no_row n) = clash (sym y ∙ All-at n i)
    go (row j w) = ap Some (holder-one e o j w i y)

-- the lowest row that is neither the first nor u
left_over : (t u : Tri) (ts : List Tri) → RowsOnce (t ∷ ts) → first (λ v. not (same_tri t v) && not (same_tri u v)) (t ∷ ts) ≡ head_of (but u ts)
left_over t u ts o =
    ap (λ b. first_or (not b && not (same_tri u t)) t (first (λ v. not (same_tri t v) && not (same_tri u v)) ts)) (same_tri-refl t) ∙
    (first_cong (λ v. not (same_tri t v) && not (same_tri u v)) (λ v. not (same_tri u v)) (All-of ts (λ v i. rw (not-again t o i))) ∙ first_head (λ v. not (same_tri u v)) ts)

-- a pairing of some rows begins with the first
record Begins (ts : List Tri) (x : Brothers) (bs : List Brothers) : Type 0 where
  more : List Tri
  rows_are : ts ≡ x.left ∷ more
  joint : x.right.r ≡ x.left.q
  rest : Matched (but x.right more) bs
  left_in : Memᴰ x.left ts
  right-in : Memᴰ x.right ts
  rest_in : (v : Tri) → Memᴰ v (but x.right more) → Memᴰ v ts

begins : {ts : List Tri} {x : Brothers} {bs : List Brothers} → Matched ts (x ∷ bs) → Begins ts x bs
begins (pair-first {u = u} {ts = ts} i j r) = record {
  more = ts;
  rows_are = refl;
  joint = j;
  rest = r;
  left_in = mathlib.Core.List.Memᴰ.head refl;
  right-in = mathlib.Core.List.Memᴰ.tail i;
  rest_in = λ v k. mathlib.Core.List.Memᴰ.tail (only_out (λ w. not (same_tri u w)) ts k);
}

-- ---- from the pairing to the lines

module _ (m : Mesh) (z : ℕ) (law : Lawful m) where
  -- what the lines say of a pair of brothers: left is (z, a, b), and the row that holds a→z is right
  holder-is : (x : Brothers) (a c : ℕ) → Memᴰ x.right m.tris → x.right.p ≡ z → x.right.r ≡ x.left.q → x.left.q ≡ a → x.right.q ≡ c →
      first (holds_arrow (arrow a z)) m.tris ≡ Some (tri z c a)
  holder-is x a c i e j f g =
      first-holder (arrow a z) (arrows-once m law) i (third-holds x.right a z (j ∙ f) e) ∙ ap Some (tri-is x.right z c a e g (j ∙ f))

  module _ (newest : All (λ t. t.p ≡ z) (rows_of m z)) where
    in_rows : {t : Tri} → Memᴰ t (rows_of m z) → Memᴰ t m.tris × (t.p ≡ z)
    in_rows i = (only_out (holds_node z) m.tris i, All-at newest i)

    lines : (bs : List Brothers) → Matched (rows_of m z) bs → closes (eqb (length (rows_of m z)) 4) bs ≡ true → 2 * length bs ≡ length (rows_of m z) → length bs ≤ 2 →
        (b c : ℕ) × Paired m z b c × (span_of bs ≡ edge b c)
    lines [] r t e l = clash (sym t)
    lines (x ∷ []) r t e l =
        let B = begins r in
        let L = in_rows B.left_in in
        let R = in_rows B.right-in in (
          x.left.r,
          x.right.q,
          two x.left.q (omega arith)
              (first_head (holds_node z) m.tris ∙ ap head_of B.rows_are ∙ ap Some (tri-is x.left z x.left.q x.left.r L.1 refl refl))
              (holder-is x x.left.q x.right.q R.0 R.1 B.joint refl refl),
          refl,
        )
    lines (x ∷ y ∷ []) r t e l =
        let t' = rw (eq-eqb (length (rows_of m z)) 4 (omega arith)) at t in
        let c-is = eqb-true y.left.r x.right.q (and_left (eqb y.left.r x.right.q) (eqb y.right.q x.left.r) t') in
        let b-is = eqb-true y.right.q x.left.r (and_right (eqb y.left.r x.right.q) (eqb y.right.q x.left.r) t') in
        let B = begins r in
        let C = begins B.rest in
        let L = in_rows B.left_in in
        let R = in_rows B.right-in in
        let L' = in_rows (B.rest_in y.left C.left_in) in
        let R' = in_rows (B.rest_in y.right C.right-in) in
        let l-is = tri-is x.left z x.left.q x.left.r L.1 refl refl in
        let r-is = tri-is x.right z x.right.q x.left.q R.1 refl B.joint in (
          x.left.r,
          x.right.q,
          four x.left.q y.left.q (omega arith)
              (first_head (holds_node z) m.tris ∙ ap head_of B.rows_are ∙ ap Some l-is)
              (holder-is x x.left.q x.right.q R.0 R.1 B.joint refl refl)
              (sym (ap₂ (lowest_left m z) l-is r-is) ∙
              ap (first (λ v. not (same_tri x.left v) && not (same_tri x.right v))) B.rows_are ∙
              left_over x.left x.right B.more (subst RowsOnce B.rows_are (round-once m z law)) ∙
              ap head_of C.rows_are ∙
              ap Some (tri-is y.left z y.left.q x.right.q L'.1 refl c-is))
              (holder-is y y.left.q x.left.r R'.0 R'.1 C.joint refl b-is),
          refl,
        )
    lines (x ∷ y ∷ w ∷ ws) r t e l = absurd (omega arith)

    -- ---- from the lines to the pairing

    -- a row with newest vertex z is one of the rows round z
    round-z : {t : Tri} → Memᴰ t m.tris → t.p ≡ z → Memᴰ t (rows_of m z)
    round-z {t} i e = only-in (holds_node z) i (or_left (eqb t.r z) (or_left (eqb t.q z) (eq-eqb t.p z e)))

    -- the first two rows that the lines name: (z, a, b) is the first, and (z, c, a) is a later one
    record Named-two (a b c : ℕ) : Type 0 where
      more : List Tri
      rows_are : rows_of m z ≡ tri z a b ∷ more
      later : Memᴰ (tri z c a) more
      apart : a ≢ b

    named-two : (a b c : ℕ) → first (holds_node z) m.tris ≡ Some (tri z a b) → first (holds_arrow (arrow a z)) m.tris ≡ Some (tri z c a) → Named-two a b c
    named-two a b c f g =
        let h = head-is (rows_of m z) (sym (first_head (holds_node z) m.tris) ∙ f) in
        let apart = (All-at law.named (first_found (holds_node z) m.tris f).0).q≢r in
        let i = round-z (first_found (holds_arrow (arrow a z)) m.tris g).0 refl in
        record {
          more = h.0;
          rows_are = h.1;
          later = in_tail (subst (λ us. Memᴰ (tri z c a) us) h.1 i) (λ e. apart (ap (λ t. t.r) e));
          apart = apart;
        }

    -- the pairs that the lines name, of all rows round z
    record Told (b c : ℕ) : Type 0 where
      told : List Brothers
      matched : Matched (rows_of m z) told
      some_pair : 1 ≤ length told
      ends : All (λ x. edge x.left.r x.right.q ≡ edge b c) told

    tells : {b c : ℕ} → Paired m z b c → Told b c
    tells {b} {c} (two a n f g) =
        let H = named-two a b c f g in
        let o : RowsOnce H.more = λ w. (let d = subst RowsOnce H.rows_are (round-once m z law) w in omega arith) in
        let k = but-length H.later o in
        let l : length (rows_of m z) ≡ suc (length H.more) = ap length H.rows_are in
        let None-more = empty (but (tri z c a) H.more) (omega arith) in
        record {
          told = brothers (tri z a b) (tri z c a) ∷ [];
          matched = subst⁻¹ (λ us. Matched us (brothers (tri z a b) (tri z c a) ∷ [])) H.rows_are (pair-first H.later refl (subst⁻¹ (λ us. Matched us []) None-more none_left));
          some_pair = omega arith;
          ends = cons refl nil;
        }
    tells {b} {c} (four a d n f g h j) =
        let H = named-two a b c f g in
        let L = tri z a b in
        let R = tri z c a in
        let L' = tri z d c in
        let R' = tri z b d in
        let o = subst RowsOnce H.rows_are (round-once m z law) in
        let o₁ : RowsOnce H.more = λ w. (let v = o w in omega arith) in
        let rest = but R H.more in
        let k = head-is rest (sym (left_over L R H.more o) ∙ sym (ap (first (λ v. not (same_tri L v) && not (same_tri R v))) H.rows_are) ∙ h) in
        let o₂ : RowsOnce k.0 = λ w. (let v = subst RowsOnce k.1 (only-rows (λ v. not (same_tri R v)) H.more o₁) w in omega arith) in
        -- (z, d, c) is a row after (z, a, b)
        let L'-later : Memᴰ L' H.more = only_out (λ v. not (same_tri R v)) H.more (subst⁻¹ (λ us. Memᴰ L' us) k.1 (mathlib.Core.List.Memᴰ.head refl)) in
        let L'-row : Memᴰ L' m.tris = only_out (holds_node z) m.tris (subst⁻¹ (λ us. Memᴰ L' us) H.rows_are (mathlib.Core.List.Memᴰ.tail L'-later)) in
        -- (z, b, d) is none of the three
        let R'-row = round-z (first_found (holds_arrow (arrow d z)) m.tris j).0 refl in
        let not-L : R' ≢ L = λ e. H.apart (sym (ap (λ t. t.q) e)) in
        let same_left : R' ≡ R → L' ≡ L = λ e. ap₂ (λ x y. tri z x y) (ap (λ t. t.r) e) (sym (ap (λ t. t.q) e)) in
        let not-R : R' ≢ R = λ e. clash (sym (same_tri-refl L) ∙ subst (λ v. same_tri L v ≡ false) (same_left e) (not-again L o L'-later)) in
        let not-L' : R' ≢ L' = λ e. (All-at law.named L'-row).q≢r (ap (λ t. t.r) e) in
        let R'-in = in_tail (subst (λ us. Memᴰ R' us) k.1 (but_in (in_tail (subst (λ us. Memᴰ R' us) H.rows_are R'-row) not-L) not-R)) not-L' in
        let k₀ : length (rows_of m z) ≡ suc (length H.more) = ap length H.rows_are in
        let k₁ = but-length H.later o₁ in
        let k₂ : length rest ≡ suc (length k.0) = ap length k.1 in
        let k₃ = but-length R'-in o₂ in
        let None-more = empty (but R' k.0) (omega arith) in
        record {
          told = brothers L R ∷ brothers L' R' ∷ [];
          matched = subst⁻¹ (λ us. Matched us (brothers L R ∷ brothers L' R' ∷ [])) H.rows_are
              (pair-first H.later refl (subst⁻¹ (λ us. Matched us (brothers L' R' ∷ [])) k.1 (pair-first R'-in refl (subst⁻¹ (λ us. Matched us []) None-more none_left))));
          some_pair = omega arith;
          ends = cons refl (cons (edge-comm c b) nil);
        }

-- ---- G1 to G4

module _ (m : Mesh) (z : ℕ) (law : Lawful m) where
  meets-star : {b c : ℕ} → Meets m z b c → Star m z × (span m z ≡ edge b c)
  meets-star {b} {c} M =
      let T = tells m z law M.newest M.paired in (
        star-from m z law M.newest T.matched T.some_pair (edge b c) T.ends (middle-edge m (at m z) b c M.middle) M.free,
        span-is m z law M.newest T.matched T.some_pair (edge b c) T.ends,
      )

  test-meets : G1-4 m z ≡ true → (b c : ℕ) × Meets m z b c × (span m z ≡ edge b c)
  unfolding pairs span
  test-meets t =
      let r = lines m z law (test-newest m z law t) (pairs m z) (test-matched m z law t) (test-closes m z law t) (test-count m z law t) (off-length z 2 (rows_of m z)) in
      let b = r.0 in
      let c = r.1 in
      let e : span m z ≡ edge b c = r.3 in (
        b,
        c,
        record {
          newest = test-newest m z law t;
          paired = r.2;
          middle = middle-either m (at m z) b c (subst (λ d. Middle (at m z) (at m d.lo) (at m d.hi)) e (test-middle m z law t));
          free = subst (λ d. All (λ t. holds_edge d t ≡ false) m.tris) e (test-free m z law t);
        },
        e,
      )

-- ---- good

module _ (n0 : ℕ) (m : Mesh) (z : ℕ) (law : Lawful m) where
  good-facts : good n0 m z ≡ true → Good n0 m z
  good-facts e =
      let r = test-meets m z law (good-meets n0 m z e) in
      record {
        added = good-added n0 m z e;
        b = r.0;
        c = r.1;
        meets = r.2;
        alone = λ y b c a l M d.
            (let s = meets-star m y law M in
            G5-alone n0 m z (good-alone n0 m z e) y a l ((star-is m y law l).1 s.0) (r.3 ∙ d ∙ sym s.1));
      }

  facts-good : z < length m.nodes → Good n0 m z → good n0 m z ≡ true
  facts-good below h =
      let s = meets-star m z law h.meets in
      good-yes n0 m z h.added ((star-is m z law below).1 s.0)
      (alone-G5 n0 m z
      (λ y a l g d. (let r = test-meets m y law g in h.alone y r.0 r.1 a l r.2 (sym s.1 ∙ d ∙ r.3))))

  -- A NODE OF A LAWFUL MESH IS GOOD EXACTLY IF G1 TO G5 HOLD
  pub good-is : z < length m.nodes → (good n0 m z ≡ true) ↔ Good n0 m z
  good-is below = (good-facts, facts-good below)
