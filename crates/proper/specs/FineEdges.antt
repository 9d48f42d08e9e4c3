-- A sum of the corners of a child, where a corner of the father has no weight in the father's sum: it is one of an edge alone, and of an
-- edge, split or not, it is told by what it is in the father. Assumes nothing.
use Rattle.std.specs.Prelude.{◌⊎◌, ◌≢◌, ◌≡◌, refl, ℕ, zero, suc, ◌+◌, ◌*◌, ◌<◌, ℤ, pos, ◌+ℤ◌, ◌*ℤ◌, Option, None, Some}
use Rattle.std.proofs.Common.{inl, inr, sym, ap, subst, subst₂, ◌∙◌, arith}
use Rattle.std.proofs.Math.Decide.{ℕ_discrete}
use Rattle.whole.specs.Diff.{onℤ}
use Rattle.whole.specs.Ring.{K, ◌:+◌, ◌:*◌, ring2, ring4}
use Rattle.whole.specs.Order.{times-cancel}
use Rattle.meaning.specs.declared.Tri.{Tri}
use Rattle.meaning.specs.Lawful.{Named}
use Rattle.laws.specs.Edges.{here, here_self, here-no}
use Rattle.proper.specs.Sums.{Sum, Mix, level, two, SameSum, without-third}
use Rattle.proper.specs.EdgesMeet.{two-comm}
use Rattle.proper.specs.Corners.{peak}
use Rattle.proper.specs.Fine.{onto, Absent, Parted, Fine, coarse, turned-fine, turned-coarse}

-- F is a sum of x, y and the midpoint o of x–y; G is the same in the row, times four
pub record OnEdge (o : Option ℕ) (x y : ℕ) (F G : Sum) : Type 0 where
  pub at_x : ℕ
  pub at_y : ℕ
  pub mid : ℕ
  pub absent : Absent o mid
  pub parted : Parted o at_x at_y
  pub fine : SameSum F (λ φ. two x y at_x at_y φ +ℤ onto o mid φ)
  pub is-coarse : SameSum G (two x y (4 * at_x + 2 * mid) (4 * at_y + 2 * mid))

onto-zero : (o : Option ℕ) (w : ℕ) (φ : ℕ → ℤ) → w ≡ 0 → onto o w φ ≡ pos 0
onto-zero None w φ e = refl
onto-zero (Some k) w φ e = rw e (ring2 (λ u v. (K (pos 0) :* u, K (pos 0))) (φ k) (φ k) tt)

-- no weight at r
edge-pq : {t : Tri} {o u v : Option ℕ} {F : Sum} (f : Fine t o u v F) → (coarse f).c ≡ 0 → OnEdge u t.p t.q F (level (coarse f))
edge-pq {t} {o} {u} {v} f e =
    let r0 : f.at-r ≡ 0 = omega arith in
    let m0 : f.on-qr ≡ 0 = omega arith in
    let v0 : f.on-rp ≡ 0 = omega arith in
    record {
      at_x = f.at_p;
      at_y = f.at-q;
      mid = f.on-pq;
      absent = f.pq-absent;
      parted = f.pq-parted;
      fine = λ φ. f.sum φ
          ∙ (λ i. pos f.at_p *ℤ φ t.p +ℤ pos f.at-q *ℤ φ t.q +ℤ pos (r0 i) *ℤ φ t.r +ℤ (onto-zero o f.on-qr φ m0 i +ℤ onto u f.on-pq φ +ℤ onto-zero v f.on-rp φ v0 i))
          ∙ ring4 (λ a b c d. (a :+ b :+ K (pos 0) :* c :+ (K (pos 0) :+ d :+ K (pos 0)), a :+ b :+ d)) (pos f.at_p *ℤ φ t.p) (pos f.at-q *ℤ φ t.q) (φ t.r) (onto u f.on-pq φ) tt;
      is-coarse = λ φ. without-third t (coarse f).a (coarse f).b (coarse f).c e φ
          ∙ (let a : (coarse f).a ≡ 4 * f.at_p + 2 * f.on-pq = omega arith in let b : (coarse f).b ≡ 4 * f.at-q + 2 * f.on-pq = omega arith in λ i. two t.p t.q (a i) (b i) φ);
    }

recast : {o : Option ℕ} {x y : ℕ} {F G G' : Sum} → SameSum G G' → OnEdge o x y F G' → OnEdge o x y F G
recast e E = record { at_x = E.at_x; at_y = E.at_y; mid = E.mid; absent = E.absent; parted = E.parted; fine = E.fine; is-coarse = λ φ. e φ ∙ E.is-coarse φ }

-- a corner without weight
pub data Lacks (s : Mix) : Type 0 where
  no-p : s.a ≡ 0 → Lacks s
  no-q : s.b ≡ 0 → Lacks s
  no-r : s.c ≡ 0 → Lacks s

parted-swap : (o : Option ℕ) (a b : ℕ) → Parted o a b → Parted o b a
parted-swap None a b h = tt
parted-swap (Some k) a b (inl e) = inr e
parted-swap (Some k) a b (inr e) = inl e

-- the weights of two nodes in their sum
weights : (x y : ℕ) → x ≢ y → (a b a' b' : ℕ) → SameSum (two x y a b) (two x y a' b') → (a ≡ a') × (b ≡ b')
weights x y n a b a' b' e =
    let f : pos (a * here x x + b * here x y) ≡ pos (a' * here x x + b' * here x y) = e (peak x) in
    let g : pos (a * here y x + b * here y y) ≡ pos (a' * here y x + b' * here y y) = e (peak y) in
    let f' = rw (here_self x, here-no x y (λ q. n (sym q))) at f in
    let g' = rw (here_self y, here-no y x n) at g in
    (omega (arith, onℤ, f'), omega (arith, onℤ, g'))

sum-above : (a b u v : ℕ) → 0 < a → 0 < b → 0 < u + v → 0 < a * u + b * v
sum-above zero b u v h i l = absurd (omega arith)
sum-above (suc a) zero u v h i l = absurd (omega arith)
sum-above (suc a) (suc b) zero zero h i l = absurd (omega arith)
sum-above (suc a) (suc b) zero (suc v) h i l = omega arith
sum-above (suc a) (suc b) (suc u) v h i l = omega arith

-- a node with weight in a sum of two is one of them
ends : (x y k a b : ℕ) → 0 < a * here k x + b * here k y → (k ≡ x) ⊎ (k ≡ y)
ends x y k a b h = go (ℕ_discrete x k) (ℕ_discrete y k)
  where
    None : (u v : ℕ) → 0 < a * u + b * v → u ≡ 0 → v ≡ 0 → ⊥
    None u v h e f = let n : a * u + b * v ≡ a * 0 + b * 0 = rw (e, f) in omega arith

    go : Dec (x ≡ k) → Dec (y ≡ k) → (k ≡ x) ⊎ (k ≡ y)
    go (yes e) d = inl (sym e)
    go (no e) (yes f) = inr (sym f)
    go (no e) (no f) = absurd (None (here k x) (here k y) h (here-no k x e) (here-no k y f))

-- what is split comes back from the row: the smaller of two weights is the midpoint's
recover : (o : Option ℕ) (a b c a' b' c' : ℕ) → Absent o c → Absent o c' → Parted o a b → Parted o a' b' → 4 * a + 2 * c ≡ 4 * a' + 2 * c' → 4 * b + 2 * c ≡ 4 * b' + 2 * c'
    → (a ≡ a') × (b ≡ b') × (c ≡ c')
recover None a b c a' b' c' z z' p p' e f = (omega arith, omega arith, omega arith)
recover (Some k) a b c a' b' c' z z' (inl p) (inl p') e f = (omega arith, omega arith, omega arith)
recover (Some k) a b c a' b' c' z z' (inl p) (inr p') e f = (omega arith, omega arith, omega arith)
recover (Some k) a b c a' b' c' z z' (inr p) (inl p') e f = (omega arith, omega arith, omega arith)
recover (Some k) a b c a' b' c' z z' (inr p) (inr p') e f = (omega arith, omega arith, omega arith)

-- without weight at a midpoint the row has four times the sum
quarter : {o : Option ℕ} {x y : ℕ} {F G : Sum} (E : OnEdge o x y F G) → E.mid ≡ 0 → (φ : ℕ → ℤ) → pos 4 *ℤ F φ ≡ G φ
quarter {o} {x} {y} E z φ =
    ap (λ w. pos 4 *ℤ w) (E.fine φ ∙ ap (λ w. two x y E.at_x E.at_y φ +ℤ w) (onto-zero o E.mid φ z))
    ∙ ring4 (λ a b u v. (K (pos 4) :* (a :* u :+ b :* v :+ K (pos 0)), K (pos 4) :* a :* u :+ K (pos 4) :* b :* v)) (pos E.at_x) (pos E.at_y) (φ x) (φ y) tt
    ∙ (let a : 4 * E.at_x ≡ 4 * E.at_x + 2 * E.mid = omega arith in let b : 4 * E.at_y ≡ 4 * E.at_y + 2 * E.mid = omega arith in λ i. two x y (a i) (b i) φ)
    ∙ sym (E.is-coarse φ)

-- num x y is the midpoint of x–y, if this edge is split
module _ (num : ℕ → ℕ → Option ℕ) (either : (x y : ℕ) → num x y ≡ num y x) where
  pub record SomeEdge (F G : Sum) : Type 0 where
    pub x : ℕ
    pub y : ℕ
    pub apart : x ≢ y
    pub on_edge : OnEdge (num x y) x y F G

  abbrev pub FineIn : Tri → Sum → Type 0
  FineIn t F = Fine t (num t.q t.r) (num t.p t.q) (num t.r t.p) F

  -- a corner has no weight in the row
  pub some-edge : {n : ℕ} {t : Tri} {F : Sum} → Named n t → (f : FineIn t F) → Lacks (coarse f) → SomeEdge F (level (coarse f))
  some-edge {t = t} N f (no-p e) = record { x = t.q; y = t.r; apart = N.q≢r; on_edge = recast (turned-coarse f) (edge-pq (turned-fine f) (omega arith)) }
  some-edge {t = t} N f (no-q e) = record {
    x = t.r;
    y = t.p;
    apart = N.r≢p;
    on_edge = recast (λ φ. turned-coarse f φ ∙ turned-coarse (turned-fine f) φ) (edge-pq (turned-fine (turned-fine f)) (omega arith));
  }
  some-edge {t = t} N f (no-r e) = record { x = t.p; y = t.q; apart = N.p≢q; on_edge = edge-pq f e }

  -- ---- sums of edges that are the same in the rows are the same

  edge-swap : {x y : ℕ} {F G : Sum} → OnEdge (num x y) x y F G → OnEdge (num y x) y x F G
  edge-swap {x} {y} {F} {G} E = subst (λ o. OnEdge o y x F G) (either x y) (record {
    at_x = E.at_y;
    at_y = E.at_x;
    mid = E.mid;
    absent = E.absent;
    parted = parted-swap (num x y) E.at_x E.at_y E.parted;
    fine = λ φ. E.fine φ ∙ ap (λ z. z +ℤ onto (num x y) E.mid φ) (two-comm x y E.at_x E.at_y φ);
    is-coarse = λ φ. E.is-coarse φ ∙ two-comm x y (4 * E.at_x + 2 * E.mid) (4 * E.at_y + 2 * E.mid) φ;
  })

  module _ {F G F' G' : Sum} (same : SameSum G G') where
    -- one edge
    aligned : {x y : ℕ} → x ≢ y → OnEdge (num x y) x y F G → OnEdge (num x y) x y F' G' → SameSum F F'
    aligned {x} {y} n E E' = go (num x y) E E'
      where
        go : (o : Option ℕ) → OnEdge o x y F G → OnEdge o x y F' G' → SameSum F F'
        go o E E' φ =
            let w = weights x y n _ _ _ _ (λ ψ. sym (E.is-coarse ψ) ∙ same ψ ∙ E'.is-coarse ψ) in
            let r = recover o E.at_x E.at_y E.mid E'.at_x E'.at_y E'.mid E.absent E'.absent E.parted E'.parted w.0 w.1 in
            E.fine φ ∙ (λ i. two x y (r.0 i) (r.1 i) φ +ℤ onto o (r.2 i) φ) ∙ sym (E'.fine φ)

    -- neither midpoint has weight
    unsplit : {x y x' y' : ℕ} (E : OnEdge (num x y) x y F G) (E' : OnEdge (num x' y') x' y' F' G') → E.mid ≡ 0 → E'.mid ≡ 0 → SameSum F F'
    unsplit E E' z z' φ = times-cancel (pos 4) (F φ) (F' φ) (omega (arith, onℤ)) (quarter E z φ ∙ same φ ∙ sym (quarter E' z' φ))

    -- a midpoint with weight tells the edge
    split : {x y x' y' : ℕ} → x ≢ y → (E : OnEdge (num x y) x y F G) → OnEdge (num x' y') x' y' F' G' → 0 < E.mid → SameSum F F'
    split {x} {y} {x'} {y'} n E E' h =
        go (ends x' y' x _ _ (above x (omega (arith, here_self x)))) (ends x' y' y _ _ (above y (omega (arith, here_self y))))
      where
        above : (k : ℕ) → 0 < here k x + here k y → 0 < (4 * E'.at_x + 2 * E'.mid) * here k x' + (4 * E'.at_y + 2 * E'.mid) * here k y'
        above k l =
            let e : pos ((4 * E.at_x + 2 * E.mid) * here k x + (4 * E.at_y + 2 * E.mid) * here k y) ≡ pos ((4 * E'.at_x + 2 * E'.mid) * here k x' + (4 * E'.at_y + 2 * E'.mid) * here k y')
            = sym (E.is-coarse (peak k)) ∙ same (peak k) ∙ E'.is-coarse (peak k) in
            let g = sum-above (4 * E.at_x + 2 * E.mid) (4 * E.at_y + 2 * E.mid) (here k x) (here k y) (omega arith) (omega arith) l in
            omega (arith, onℤ)

        go : (x ≡ x') ⊎ (x ≡ y') → (y ≡ x') ⊎ (y ≡ y') → SameSum F F'
        go (inl e) (inl f) = absurd (n (e ∙ sym f))
        go (inr e) (inr f) = absurd (n (e ∙ sym f))
        go (inl e) (inr f) = aligned n E (subst₂ (λ a b. OnEdge (num a b) a b F' G') (sym e) (sym f) E')
        go (inr e) (inl f) = aligned n E (subst₂ (λ a b. OnEdge (num a b) a b F' G') (sym e) (sym f) (edge-swap E'))

  pub same_edges : {F G F' G' : Sum} → SameSum G G' → SomeEdge F G → SomeEdge F' G' → SameSum F F'
  same_edges {F} {G} {F'} {G'} same A B = go A.on_edge.mid refl B.on_edge.mid refl
    where
      go : (a : ℕ) → A.on_edge.mid ≡ a → (b : ℕ) → B.on_edge.mid ≡ b → SameSum F F'
      go zero e zero f φ = unsplit same A.on_edge B.on_edge e f φ
      go (suc a) e b f φ = split same A.apart A.on_edge B.on_edge (omega arith) φ
      go zero e (suc b) f φ = sym (split (λ ψ. sym (same ψ)) B.apart B.on_edge A.on_edge (omega arith) φ)
