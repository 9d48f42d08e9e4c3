-- A sum of the corners of a child of a row (p, q, r): weights at p, q, r and at the midpoints of q–r, p–q, r–p, where these edges are
-- split. Four times the sum is a sum of the row's own corners: half of a midpoint goes to each end. Assumes nothing.
use Rattle.std.specs.Prelude.{[], ◌∷◌, ◌⊎◌, ◌≡◌, ℕ, ◌+◌, ◌*◌, ℤ, pos, ◌+ℤ◌, ◌*ℤ◌, Option, None, Some}
use Rattle.std.proofs.Common.{ap, ◌∙◌}
use Rattle.whole.specs.Ring.{Expr, X, K, ◌:+◌, ◌:*◌, solve, ring2}
use Rattle.meaning.specs.declared.Tri.{Tri}
use Rattle.laws.specs.Weights.{turned}
use Rattle.proper.specs.Sums.{Sum, Mix, mix, level, SameSum}

-- a midpoint that may be absent
abbrev pub onto : Option ℕ → ℕ → Sum
onto None w φ = pos 0
onto (Some k) w φ = pos w *ℤ φ k

-- an absent one has no weight
abbrev pub Absent : Option ℕ → ℕ → Type 0
Absent None w = w ≡ 0
Absent (Some k) w = Unit {0}

-- no child holds both ends of a split edge
abbrev pub Parted : Option ℕ → ℕ → ℕ → Type 0
Parted None a b = Unit {0}
Parted (Some k) a b = (a ≡ 0) ⊎ (b ≡ 0)

-- F by weights at the corners of t and at the midpoints o of q–r, u of p–q, v of r–p
pub record Fine (t : Tri) (o u v : Option ℕ) (F : Sum) : Type 0 where
  pub at_p : ℕ
  pub at-q : ℕ
  pub at-r : ℕ
  pub on-qr : ℕ
  pub on-pq : ℕ
  pub on-rp : ℕ
  pub qr-absent : Absent o on-qr
  pub pq-absent : Absent u on-pq
  pub rp-absent : Absent v on-rp
  pub qr-parted : Parted o at-q at-r
  pub pq-parted : Parted u at_p at-q
  pub rp-parted : Parted v at-r at_p
  pub sum : SameSum F (λ φ. pos at_p *ℤ φ t.p +ℤ pos at-q *ℤ φ t.q +ℤ pos at-r *ℤ φ t.r +ℤ (onto o on-qr φ +ℤ onto u on-pq φ +ℤ onto v on-rp φ))

-- the weights at the corners of t, times four, with the midpoints' halves
abbrev pub coarse : {t : Tri} {o u v : Option ℕ} {F : Sum} → Fine t o u v F → Mix
coarse {t} f = mix t (4 * f.at_p + 2 * f.on-pq + 2 * f.on-rp) (4 * f.at-q + 2 * f.on-qr + 2 * f.on-pq) (4 * f.at-r + 2 * f.on-qr + 2 * f.on-rp)

-- ---- four times the sum, of numbers that are means at midpoints

abbrev pub Mean : (ℕ → ℤ) → ℕ → ℕ → Option ℕ → Type 0
Mean φ x y None = Unit {0}
Mean φ x y (Some k) = φ k +ℤ φ k ≡ φ x +ℤ φ y

halves : (φ : ℕ → ℤ) (x y : ℕ) (o : Option ℕ) (w : ℕ) → Absent o w → Mean φ x y o → pos 4 *ℤ onto o w φ ≡ pos (2 * w) *ℤ (φ x +ℤ φ y)
halves φ x y None w a h = rw a (ring2 (λ u v. (K (pos 0), K (pos 0) :* (u :+ v))) (φ x) (φ y) tt)
halves φ x y (Some k) w a h = ring2 (λ w z. (K (pos 4) :* (w :* z), K (pos 2) :* w :* (z :+ z))) (pos w) (φ k) tt ∙ ap (λ z. pos (2 * w) *ℤ z) h

-- four times a corner and two midpoints' halves
abbrev four_expr : ℕ → ℕ → ℕ → Expr
four_expr i j k = K (pos 4) :* X i :+ K (pos 2) :* X j :+ K (pos 2) :* X k

module _ {t : Tri} {o u v : Option ℕ} {F : Sum} (f : Fine t o u v F) where
  pub coarse-level : (φ : ℕ → ℤ) → Mean φ t.q t.r o → Mean φ t.p t.q u → Mean φ t.r t.p v → pos 4 *ℤ F φ ≡ level (coarse f) φ
  coarse-level φ hm hu hv =
      let on-qr = halves φ t.q t.r o f.on-qr f.qr-absent hm in
      let on-pq = halves φ t.p t.q u f.on-pq f.pq-absent hu in
      let on-rp = halves φ t.r t.p v f.on-rp f.rp-absent hv in
      ap (λ z. pos 4 *ℤ z) (f.sum φ)
      ∙ solve (a ∷ b ∷ c ∷ x ∷ y ∷ z ∷ onto o f.on-qr φ ∷ onto u f.on-pq φ ∷ onto v f.on-rp φ ∷ [])
      (K (pos 4) :* (X 0 :* X 3 :+ X 1 :* X 4 :+ X 2 :* X 5 :+ (X 6 :+ X 7 :+ X 8)))
      (K (pos 4) :* (X 0 :* X 3 :+ X 1 :* X 4 :+ X 2 :* X 5) :+ (K (pos 4) :* X 6 :+ K (pos 4) :* X 7 :+ K (pos 4) :* X 8)) tt
      ∙ (λ i. pos 4 *ℤ (a *ℤ x +ℤ b *ℤ y +ℤ c *ℤ z) +ℤ (on-qr i +ℤ on-pq i +ℤ on-rp i))
      ∙ solve (a ∷ b ∷ c ∷ x ∷ y ∷ z ∷ pos f.on-qr ∷ pos f.on-pq ∷ pos f.on-rp ∷ [])
      (K (pos 4) :* (X 0 :* X 3 :+ X 1 :* X 4 :+ X 2 :* X 5) :+ (K (pos 2) :* X 6 :* (X 4 :+ X 5) :+ K (pos 2) :* X 7 :* (X 3 :+ X 4) :+ K (pos 2) :* X 8 :* (X 5 :+ X 3)))
      (four_expr 0 7 8 :* X 3 :+ four_expr 1 6 7 :* X 4 :+ four_expr 2 6 8 :* X 5) tt
    where
      a : ℤ
      a = pos f.at_p

      b : ℤ
      b = pos f.at-q

      c : ℤ
      c = pos f.at-r

      x : ℤ
      x = φ t.p

      y : ℤ
      y = φ t.q

      z : ℤ
      z = φ t.r

  -- the corners taken from the next on
  abbrev pub turned-fine : Fine (turned t) v o u F
  turned-fine = record {
    at_p = f.at-q;
    at-q = f.at-r;
    at-r = f.at_p;
    on-qr = f.on-rp;
    on-pq = f.on-qr;
    on-rp = f.on-pq;
    qr-absent = f.rp-absent;
    pq-absent = f.qr-absent;
    rp-absent = f.pq-absent;
    qr-parted = f.rp-parted;
    pq-parted = f.qr-parted;
    rp-parted = f.pq-parted;
    sum = λ φ. f.sum φ
        ∙ solve ((pos f.at_p *ℤ φ t.p) ∷ (pos f.at-q *ℤ φ t.q) ∷ (pos f.at-r *ℤ φ t.r) ∷ onto o f.on-qr φ ∷ onto u f.on-pq φ ∷ onto v f.on-rp φ ∷ [])
        (X 0 :+ X 1 :+ X 2 :+ (X 3 :+ X 4 :+ X 5)) (X 1 :+ X 2 :+ X 0 :+ (X 5 :+ X 3 :+ X 4)) tt;
  }

  pub turned-coarse : SameSum (level (coarse f)) (level (coarse turned-fine))
  turned-coarse φ =
      solve (pos f.at_p ∷ pos f.at-q ∷ pos f.at-r ∷ pos f.on-qr ∷ pos f.on-pq ∷ pos f.on-rp ∷ φ t.p ∷ φ t.q ∷ φ t.r ∷ [])
      (four_expr 0 4 5 :* X 6 :+ four_expr 1 3 4 :* X 7 :+ four_expr 2 3 5 :* X 8) (four_expr 1 3 4 :* X 7 :+ four_expr 2 5 3 :* X 8 :+ four_expr 0 5 4 :* X 6) tt
