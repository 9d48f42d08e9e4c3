-- Splitting keeps a lawful mesh proper, from any starting edges, by any cut whose children are parts of the father, where every split edge
-- has an exact midpoint. A point of two children is a point of their fathers, so one sum of the fathers' corners. If the father is one,
-- the father's weights tell the child's; if there are two, the point lies on an edge of each, and that is one edge or a node. Assumes nothing.
use Rattle.std.specs.Prelude.{Bool, true, false, ◌≢◌, ◌≡◌, refl, ℕ, zero, suc, ◌*◌, ◌<◌, ℤ, ◌+ℤ◌, ◌*ℤ◌, Option, None, Some}
use mathlib.Core.List.{List, Memᴰ}
use Rattle.std.proofs.Math.Path.{sym, subst⁻¹}
use Rattle.std.proofs.Common.{ap, ◌∙◌, arith}
use Rattle.std.proofs.Math.IntN.{pos}
use Rattle.std.proofs.Math.ListN.{length}
use Rattle.lists.specs.Lists.{all, All, nil, cons}
use Rattle.lists.specs.ListsLaw.{clash, All-at, All-of, all_yes}
use Rattle.whole.specs.Ring.{K, ◌:+◌, ring3}
use Rattle.meaning.specs.declared.Place.{Place}
use Rattle.meaning.specs.declared.Tri.{Tri}
use Rattle.meaning.specs.Mesh.{Mesh, Edge, edge, same_tri, at}
use Rattle.meaning.specs.Lawful.{Named, Lawful}
use Rattle.meaning.specs.Split.{Cutting, number_of, halves, split_edges, cut_of, split_at, split}
use Rattle.meaning.specs.Proper.{Proper}
use Rattle.laws.specs.Cut.{CutLaws, MidOf, parts, there}
use Rattle.laws.specs.Edges.{edge-comm, same_tri-eq, same_tri-refl}
use Rattle.laws.specs.Midpoints.{at_old, centred}
use Rattle.laws.specs.SplitLaw.{all-cuts, split-with-base, split-lawful}
use Rattle.proper.specs.Sums.{Sum, Mix, mix, level, SamePoint, SameSum, Meant, point-from, Faithful}
use Rattle.proper.specs.ProperFaithful.{proper-faithful}
use Rattle.proper.specs.Corners.{same-weight, weight-p, weight-q, weight-r, full-row}
use Rattle.proper.specs.FaithfulProper.{faithful-proper}
use Rattle.proper.specs.Fine.{onto, coarse, Mean, coarse-level}
use Rattle.proper.specs.FineEdges.{Lacks, no-p, no-q, no-r, some-edge, same_edges}
use Rattle.proper.specs.Dissects.{if_split, Piece, Dissects}

-- ---- two rows that are not one: a sum of both lacks a corner

lacks : (m : Mesh) → Lawful m → (s u : Mix) → Memᴰ s.row m.tris → Memᴰ u.row m.tris → s.row ≢ u.row → SameSum (level s) (level u) → Lacks s
lacks m law s u i j n e = go s.a refl s.b refl s.c refl
  where
    go : (a : ℕ) → s.a ≡ a → (b : ℕ) → s.b ≡ b → (c : ℕ) → s.c ≡ c → Lacks s
    go zero f b g c h = no-p f
    go (suc a) f zero g c h = no-q g
    go (suc a) f (suc b) g zero h = no-r h
    go (suc a) f (suc b) g (suc c) h = absurd (n (full-row m law s u i j e (omega arith) (omega arith) (omega arith)))

-- ---- means

mean-of : (f : Place → ℤ) → Meant f → (M : Mesh) (x y : ℕ) (o : Option ℕ) → MidOf M x y o → Mean (λ k. f (at M k)) x y o
mean-of f h M x y None g = tt
mean-of f h M x y (Some k) g = h (at M k) (at M x) (at M y) g

-- ---- the pieces of any row, whether or not it is cut

module _ {c : Cutting} (laws : CutLaws c) (D : Dissects c) where
  -- a row that is not cut
  uncut : (t : Tri) (a b c : ℕ) → Piece D.back t None None None (level (mix t a b c))
  uncut t a b c = record {
    fine = record {
      at_p = a;
      at-q = b;
      at-r = c;
      on-qr = 0;
      on-pq = 0;
      on-rp = 0;
      qr-absent = refl;
      pq-absent = refl;
      rp-absent = refl;
      qr-parted = tt;
      pq-parted = tt;
      rp-parted = tt;
      sum = λ φ. ring3 (λ x y z. (x :+ y :+ z, x :+ y :+ z :+ (K (pos 0) :+ K (pos 0) :+ K (pos 0)))) (pos a *ℤ φ t.p) (pos b *ℤ φ t.q) (pos c *ℤ φ t.r) tt;
    };
    qr-is = refl;
    pq-is = refl;
    rp-is = refl;
  }

  piece_of : (t : Tri) (o u v : Option ℕ) → (there o ≡ 0 → (there u ≡ 0) × (there v ≡ 0)) → All (λ k. (a b c : ℕ) → Piece D.back t o u v (level (mix k a b c))) (parts (c t o u v))
  piece_of t None None None h = rw (laws.whole t None None) (cons (uncut t) nil)
  piece_of t None (Some k) v h = absurd (let e = h refl in omega arith)
  piece_of t None None (Some k) h = absurd (let e = h refl in omega arith)
  piece_of t (Some m) u v h = D.pieces t m u v

  -- of one row: the weights in the row tell the sum
  same-father : {n : ℕ} (t : Tri) → Named n t → (o u v : Option ℕ) {F G : Sum} (P : Piece D.back t o u v F) (Q : Piece D.back t o u v G) →
      SameSum (level (coarse P.fine)) (level (coarse Q.fine)) → SameSum F G
  same-father t N o u v P Q e φ =
      let f = P.fine in
      let g = Q.fine in
      let s = coarse f in
      let r = coarse g in
      let a : s.a ≡ r.a = sym (weight-p t N s.a s.b s.c) ∙ same-weight s r e t.p ∙ weight-p t N r.a r.b r.c in
      let b : s.b ≡ r.b = sym (weight-q t N s.a s.b s.c) ∙ same-weight s r e t.q ∙ weight-q t N r.a r.b r.c in
      let c : s.c ≡ r.c = sym (weight-r t N s.a s.b s.c) ∙ same-weight s r e t.r ∙ weight-r t N r.a r.b r.c in
      let qr : 4 * f.on-qr ≡ 4 * g.on-qr = P.qr-is ∙ (λ i. if_split o (D.back.qr u v (a i) (b i) (c i))) ∙ sym Q.qr-is in
      let pq : 4 * f.on-pq ≡ 4 * g.on-pq = P.pq-is ∙ (λ i. if_split o (D.back.pq u v (a i) (b i) (c i))) ∙ sym Q.pq-is in
      let rp : 4 * f.on-rp ≡ 4 * g.on-rp = P.rp-is ∙ (λ i. if_split o (D.back.rp u v (a i) (b i) (c i))) ∙ sym Q.rp-is in
      let p₁ : f.at_p ≡ g.at_p = omega arith in
      let q₁ : f.at-q ≡ g.at-q = omega arith in
      let r₁ : f.at-r ≡ g.at-r = omega arith in
      let m₁ : f.on-qr ≡ g.on-qr = omega arith in
      let u₁ : f.on-pq ≡ g.on-pq = omega arith in
      let v₁ : f.on-rp ≡ g.on-rp = omega arith in
      f.sum φ
      ∙ (λ i. pos (p₁ i) *ℤ φ t.p +ℤ pos (q₁ i) *ℤ φ t.q +ℤ pos (r₁ i) *ℤ φ t.r +ℤ (onto o (m₁ i) φ +ℤ onto u (u₁ i) φ +ℤ onto v (v₁ i) φ))
      ∙ sym (g.sum φ)

  -- ---- the mesh

  module _ (m : Mesh) (start : List Edge) (law : Lawful m) (even : all (halves m) (split_edges m start) ≡ true) where
    S : List Edge
    S = split_edges m start

    abbrev num : ℕ → ℕ → Option ℕ
    num x y = number_of (length m.nodes) S (edge x y)

    after : Mesh
    after = split_at c m S

    -- F is a sum of a piece of row t
    abbrev PieceIn : Tri → Sum → Type 0
    PieceIn t F = Piece D.back t (num t.q t.r) (num t.p t.q) (num t.r t.p) F

    -- a new row is of the cut of an old one
    sources : All (λ k. (t : Tri) × Memᴰ t m.tris × Memᴰ k (parts (cut_of c (length m.nodes) S t))) after.tris
    unfolding after split_at
    sources = all-cuts (λ k. (t : Tri) × Memᴰ t m.tris × Memᴰ k (parts (cut_of c (length m.nodes) S t))) (cut_of c (length m.nodes) S)
        (All-of m.tris (λ t i. All-of (parts (cut_of c (length m.nodes) S t)) (λ k j. (t, i, j))))

    piece-here : {t k : Tri} → Memᴰ t m.tris → Memᴰ k (parts (cut_of c (length m.nodes) S t)) → (a b c : ℕ) → PieceIn t (level (mix k a b c))
    unfolding S
    piece-here {t} i j = All-at (piece_of t (num t.q t.r) (num t.p t.q) (num t.r t.p) (split-with-base m start i)) j

    -- four times the sum, in the new mesh, is the row's sum in the old
    father-level : (f : Place → ℤ) → Meant f → {t : Tri} {F : Sum} → Memᴰ t m.tris → (P : PieceIn t F) → level (coarse P.fine) (λ k. f (at m k)) ≡ pos 4 *ℤ F (λ k. f (at after k))
    unfolding after S
    father-level f h {t} i P =
        let N = All-at law.named i in
        let s = coarse P.fine in
        let M = split_at c m (split_edges m start) in
        let C = centred c m (split_edges m start) (all_yes (halves m) (split_edges m start) even) t N in
        let qr = mean-of f h M t.q t.r (num t.q t.r) C.on-qr in
        let pq = mean-of f h M t.p t.q (num t.p t.q) C.on-pq in
        let rp = mean-of f h M t.r t.p (num t.r t.p) C.on-rp in
        (λ d. pos s.a *ℤ f (old t.p N.p-below d) +ℤ pos s.b *ℤ f (old t.q N.q-below d) +ℤ pos s.c *ℤ f (old t.r N.r-below d))
        ∙ sym (coarse-level P.fine (λ k. f (at M k)) qr pq rp)
      where
        old : (k : ℕ) → k < length m.nodes → at m k ≡ at (split_at c m (split_edges m start)) k
        old k h = sym (at_old c m (split_edges m start) k h)

    father-point : {t u : Tri} {F G : Sum} → Memᴰ t m.tris → Memᴰ u m.tris → (P : PieceIn t F) (Q : PieceIn u G) → SamePoint after F G →
        SamePoint m (level (coarse P.fine)) (level (coarse Q.fine))
    father-point {F = F} {G = G} i j P Q = point-from m after (level (coarse P.fine)) (level (coarse Q.fine)) F G
        (λ f h e. father-level f h i P ∙ ap (λ z. pos 4 *ℤ z) e ∙ sym (father-level f h j Q))

    either : (x y : ℕ) → num x y ≡ num y x
    either x y = ap (number_of (length m.nodes) S) (edge-comm x y)

    module _ (faithful : Faithful m) where
      one-sum : {t u : Tri} {F G : Sum} → Memᴰ t m.tris → Memᴰ u m.tris → PieceIn t F → PieceIn u G → SamePoint after F G → SameSum F G
      one-sum {t} {u} {F} {G} i j P Q same = go (same_tri t u) refl
        where
          fathers : {v : Tri} → Memᴰ v m.tris → (R : PieceIn v G) → SameSum (level (coarse P.fine)) (level (coarse R.fine))
          fathers k R = faithful.one-sum (coarse P.fine) (coarse R.fine) i k (father-point i k P R same)

          go : (b : Bool) → same_tri t u ≡ b → SameSum F G
          go true e φ =
              let R = subst⁻¹ (λ v. PieceIn v G) (same_tri-eq t u e) Q in
              same-father t (All-at law.named i) (num t.q t.r) (num t.p t.q) (num t.r t.p) P R (fathers i R) φ
          go false e φ =
              let n : t ≢ u = λ w. clash (sym (same_tri-refl t) ∙ ap (same_tri t) w ∙ e) in
              let both = fathers j Q in
              same_edges num either both
              (some-edge num either (All-at law.named i) P.fine (lacks m law (coarse P.fine) (coarse Q.fine) i j n both))
              (some-edge num either (All-at law.named j) Q.fine (lacks m law (coarse Q.fine) (coarse P.fine) j i (λ w. n (sym w)) (λ ψ. sym (both ψ)))) φ

      after-faithful : Faithful after
      after-faithful = record {
        one-sum = λ s u i j same.
            (let a = All-at sources i in
            let b = All-at sources j in
            one-sum a.1 b.1 (piece-here a.1 a.2 s.a s.b s.c) (piece-here b.1 b.2 u.a u.b u.c) same);
      }

    split-faithful : Faithful m → Faithful (split c m start)
    unfolding split after S
    split-faithful F = after-faithful F

    -- SPLITTING KEEPS A LAWFUL MESH PROPER
    pub split-proper : Proper m → Proper (split c m start)
    split-proper P = faithful-proper (split c m start) (split-lawful laws m start law even) (split-faithful (proper-faithful m law P))
