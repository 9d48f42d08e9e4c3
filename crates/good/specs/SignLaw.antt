-- A node's number, test by test, in the form of needs. Assumes nothing.
use Rattle.std.specs.Prelude.{◌≡◌, Bool, true, false, not, ◌&&◌, ◌||◌, List, [], ◌∷◌, ℕ, ◌+◌, ◌*◌, ◌≤◌, ◌<◌, min, max, ℤ, set, Option, is_some}
use Rattle.std.proofs.Math.Path.{refl, sym}
use Rattle.std.proofs.Common.{ap, ◌∙◌, arith}
use borrow.Author.Tests.{lt-leb, le-leb}
use Rattle.lists.specs.Lists.{any}
use Rattle.lists.specs.Search.{lowest, items}
use Rattle.lists.specs.SearchLaw.{lowest-any}
use Rattle.lists.specs.Loops.{noted}
use Rattle.lists.specs.LoopsLaw.{noted-turn}
use Rattle.meaning.specs.declared.Place.{Place}
use Rattle.meaning.specs.Mesh.{Mesh, Edge, edge, arrow, holds_arrow, holds_edge}
use Rattle.meaning.specs.Good.{Brothers, is_middle, pairs, span_of, span, G1, G2, G3, G4, G1-4}
use Rattle.meaning.specs.Tables.{place_at, row_at}
use Rattle.laws.specs.EdgeArrow.{edge-arrows}
use Rattle.tables.specs.Arrow.{arrow_at}
use Rattle.round.specs.declared.Ends.{Ends}
use Rattle.laws.specs.Meshes.{mesh_at, rows_alone, place_is}
use Rattle.round.specs.Pair.{edge_of}
use Rattle.good.specs.Sign.{pair_no, sign_on, sign_of, sign_from, fresh}

-- ---- G1, G2 and the pair ask for no place

module _ (nodes : List ℤ) (rows : List ℕ) (n t z : ℕ) where
  first-same : G1 (mesh_at nodes rows n t) z ≡ G1 (rows_alone rows t) z
  unfolding mesh_at
  first-same = refl

  second-same : G2 (mesh_at nodes rows n t) z ≡ G2 (rows_alone rows t) z
  unfolding mesh_at pairs
  second-same = refl

  span_same : span (mesh_at nodes rows n t) z ≡ span (rows_alone rows t) z
  unfolding mesh_at pairs span
  span_same = refl

  fourth-same : G4 (mesh_at nodes rows n t) z ≡ G4 (rows_alone rows t) z
  unfolding mesh_at
  fourth-same = rw span_same

-- ---- G4

any-split : {A : Type 0} (f g h : A → Bool) → ((x : A) → f x ≡ g x || h x) → (l : List A) → any f l ≡ any g l || any h l
any-split f g h e [] = refl
any-split f g h e (x ∷ l) = rw (e x, any-split f g h e l) (shuffle (g x) (h x) (any g l) (any h l))
  where
    shuffle : (a b c d : Bool) → (a || b) || (c || d) ≡ (a || c) || (b || d)
    shuffle true b c d = refl
    shuffle false true true d = refl
    shuffle false true false d = refl
    shuffle false false c d = refl

span-order : (m : Mesh) (z : ℕ) → (span m z).lo ≤ (span m z).hi
unfolding span
span-order m z = go (pairs m z)
  where
    go : (bs : List Brothers) → (span_of bs).lo ≤ (span_of bs).hi
    go [] = omega arith
    go (x ∷ xs) = omega arith

pub held-either : (l : List ℕ) (t z : ℕ) (e : Ends) (f g : Option ℕ) (a b : Bool) → edge_of e ≡ span (rows_alone l t) z → f ≡ lowest (arrow_at l e.lo e.hi) 0 t → a ≡ is_some f →
    g ≡ lowest (arrow_at l e.hi e.lo) 0 t → b ≡ is_some g → not (a || b) ≡ G4 (rows_alone l t) z
unfolding arrow_at
held-either l t z e f g a b k p q r u =
    let x = e.lo in
    let y = e.hi in
    let h : x ≤ y = rw (← k) at (span-order (rows_alone l t) z) in
    let n : edge x y ≡ edge_of e = (let p : min x y ≡ x = omega arith in let q : max x y ≡ y = omega arith in λ i. record { lo = p i; hi = q i }) in
    let v : a || b ≡ any (holds_edge (edge x y)) (items (row_at l) 0 t) =
    rw (
      q,
      p,
      u,
      r,
      lowest-any (holds_arrow (arrow x y)) (row_at l) (arrow_at l x y) t (λ j k. refl),
      lowest-any (holds_arrow (arrow y x)) (row_at l) (arrow_at l y x) t (λ j k. refl),
    )
    (sym (any-split (holds_edge (edge x y)) (holds_arrow (arrow x y)) (holds_arrow (arrow y x)) (edge-arrows x y) (items (row_at l) 0 t))) in
    ap not (v ∙ ap (λ (d : Edge). any (holds_edge d) (items (row_at l) 0 t)) (n ∙ k))

-- a, b: that no row has the edge one way, or the other
module _ (l : List ℕ) (t z : ℕ) (e : Ends) (k : edge_of e ≡ span (rows_alone l t) z) (f : Option ℕ) (a : Bool) (p : f ≡ lowest (arrow_at l e.lo e.hi) 0 t) (q : is_some f ≡ not a) where
  held-neither : (g : Option ℕ) (b : Bool) → g ≡ lowest (arrow_at l e.hi e.lo) 0 t → is_some g ≡ not b → a && b ≡ G4 (rows_alone l t) z
  held-neither g b r u = nor a b ∙ held-either l t z e f g (not a) (not b) k p (sym q) r (sym u)
    where
      nor : (a b : Bool) → a && b ≡ not (not a || not b)
      nor true true = refl
      nor true false = refl
      nor false b = refl

  pub other-way : (g : Option ℕ) (b : Bool) → a ≡ true → g ≡ lowest (arrow_at l e.hi e.lo) 0 t → is_some g ≡ not b → b ≡ G4 (rows_alone l t) z
  other-way g b h r u = rw h at (held-neither g b r u)

  pub one-way : a ≡ false → a ≡ G4 (rows_alone l t) z
  one-way h = h ∙ rw h at (held-neither (lowest (arrow_at l e.hi e.lo) 0 t) (not (is_some (lowest (arrow_at l e.hi e.lo) 0 t))) refl (twice (is_some (lowest (arrow_at l e.hi e.lo) 0 t))))
    where
      twice : (b : Bool) → b ≡ not (not b)
      twice true = refl
      twice false = refl

-- ---- G3

pub G3-is : (nodes : List ℤ) (rows : List ℕ) (n t z : ℕ) (e : Ends) (a b c : Place) (r : Bool) → edge_of e ≡ span (rows_alone rows t) z → z < n → e.lo < n → e.hi < n →
    a ≡ place_at nodes z → b ≡ place_at nodes e.lo → c ≡ place_at nodes e.hi → r ≡ is_middle a b c → r ≡ G3 (mesh_at nodes rows n t) z
G3-is nodes rows n t z e a b c r k zn ln hn p q u v =
    let s : span (mesh_at nodes rows n t) z ≡ edge_of e = span_same nodes rows n t z ∙ sym k in
    v ∙ rw (p, q, u) (sym (rw (s, place_is nodes rows n t z zn, place_is nodes rows n t e.lo ln, place_is nodes rows n t e.hi hn)))

-- ---- all

module _ (nodes : List ℤ) (rows : List ℕ) (n t z : ℕ) where
  four : (a b c d : Bool) → a ≡ false → a && b && c && d ≡ false
  four a b c d e = rw e

  four2 : (a b c d : Bool) → b ≡ false → a && b && c && d ≡ false
  four2 true b c d e = rw e
  four2 false b c d e = refl

  pub sign-not-1 : (b : Bool) → b ≡ G1 (rows_alone rows t) z → b ≡ false → 0 ≡ sign_of (mesh_at nodes rows n t) z
  unfolding sign_of G1-4
  sign-not-1 b e h =
      rw (four (G1 (mesh_at nodes rows n t) z) (G2 (mesh_at nodes rows n t) z) (G3 (mesh_at nodes rows n t) z) (G4 (mesh_at nodes rows n t) z) (first-same nodes rows n t z ∙ sym e ∙ h))

  pub sign-not-2 : (b : Bool) → b ≡ G2 (rows_alone rows t) z → b ≡ false → 0 ≡ sign_of (mesh_at nodes rows n t) z
  unfolding sign_of G1-4
  sign-not-2 b e h =
      rw (four2 (G1 (mesh_at nodes rows n t) z) (G2 (mesh_at nodes rows n t) z) (G3 (mesh_at nodes rows n t) z) (G4 (mesh_at nodes rows n t) z) (second-same nodes rows n t z ∙ sym e ∙ h))

  pub sign-all : (a b : Bool) → a ≡ G1 (rows_alone rows t) z → a ≡ true → b ≡ G2 (rows_alone rows t) z → b ≡ true →
      (r : ℕ) → r ≡ sign_on (mesh_at nodes rows n t) z → r ≡ sign_of (mesh_at nodes rows n t) z
  unfolding sign_on sign_of G1-4
  sign-all a b ga ha gb hb r g =
      let x : G1 (rows_alone rows t) z ≡ true = sym ga ∙ ha in
      let y : G2 (rows_alone rows t) z ≡ true = sym gb ∙ hb in
      g ∙ rw (first-same nodes rows n t z, x, second-same nodes rows n t z, y)

  pub sign-not-3 : (c : Bool) → c ≡ G3 (mesh_at nodes rows n t) z → c ≡ false → 0 ≡ sign_on (mesh_at nodes rows n t) z
  unfolding sign_on
  sign-not-3 c e h = rw (← e, h)

  module _ (c d : Bool) (gc : c ≡ G3 (mesh_at nodes rows n t) z) (gd : d ≡ G4 (rows_alone rows t) z) (hc : c ≡ true) where
    both-same : G3 (mesh_at nodes rows n t) z && G4 (mesh_at nodes rows n t) z ≡ d
    both-same = rw (← gc, fourth-same nodes rows n t z, ← gd, hc)

    pub sign-yes : (e : Ends) → edge_of e ≡ span (rows_alone rows t) z → (r : ℕ) → d ≡ true → r ≡ pair_no (edge_of e) → r ≡ sign_on (mesh_at nodes rows n t) z
    unfolding sign_on
    sign-yes e ge r h g = g ∙ rw (both-same, h, span_same nodes rows n t z, ← ge)

    pub sign-not-4 : d ≡ false → 0 ≡ sign_on (mesh_at nodes rows n t) z
    unfolding sign_on
    sign-not-4 h = rw (both-same, h)

pub sign-base : (n0 z : ℕ) (m : Mesh) → z < n0 → 0 ≡ sign_from n0 m z
unfolding sign_from
sign-base n0 z m h = rw (lt-leb n0 z h)

pub sign-added : (n0 z r : ℕ) (m : Mesh) → n0 ≤ z → r ≡ sign_of m z → r ≡ sign_from n0 m z
unfolding sign_from
sign-added n0 z r m h e = rw (le-leb n0 z h) e

-- ---- the number of a pair says the pair

pub pair-some : (e : Edge) → 0 < pair_no e
unfolding pair_no
pair-some e = omega arith

pub pair-le : (e : Edge) → e.lo < 32_768 → e.hi < 32_768 → pair_no e ≤ 1_073_741_824
unfolding pair_no
pair-le e h k = omega arith

pub pair_one : (d e : Edge) → d.hi < 32_768 → e.hi < 32_768 → pair_no d ≡ pair_no e → d ≡ e
unfolding pair_no
pair_one d e h k q =
    let a : d.lo ≡ e.lo = omega arith in
    let b : d.hi ≡ e.hi = omega arith in
    λ i. record { lo = a i; hi = b i }

-- ---- noted

pub sign-put : (n0 v o z : ℕ) (m : Mesh) (s₀ s s' : List ℕ) → s ≡ noted o (fresh n0 m) z s₀ → v ≡ sign_from n0 m z → s' ≡ set s (o + z) (2 * v) → s' ≡ noted o (fresh n0 m) (z + 1) s₀
sign-put n0 v o z m s₀ s s' e f g = noted-turn o (fresh n0 m) z s₀ s s' e (g ∙ ap (λ (x : ℕ). set s (o + z) (2 * x)) f)
