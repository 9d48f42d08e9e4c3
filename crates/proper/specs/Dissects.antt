-- What the cut of one triangle must promise besides the laws of a cut, so that splitting keeps a mesh proper: the children are parts of
-- the father, no child has both ends of a split edge, and a point's weights in the father tell its weights in whatever child it is in, so
-- no two children overlap. Bisection has this. Assumes nothing.
use Rattle.std.specs.Prelude.{List, [], ◌∷◌, ◌⊎◌, ◌≡◌, refl, ℕ, ◌+◌, ◌*◌, ◌-◌, min, ℤ, pos, ◌+ℤ◌, ◌*ℤ◌, Option, None, Some}
use Rattle.std.proofs.Common.{inl, inr, arith}
use Rattle.lists.specs.Lists.{All, nil, cons}
use Rattle.whole.specs.Ring.{Expr, X, K, ◌:+◌, ◌:*◌, Holds, Checks, ring9}
use Rattle.meaning.specs.declared.Tri.{Tri}
use Rattle.meaning.specs.Split.{Cutting, bisected}
use Rattle.laws.specs.Cut.{parts}
use Rattle.proper.specs.Sums.{Sum, mix, level, SameSum}
use Rattle.proper.specs.Fine.{onto, Absent, Parted, Fine, coarse}

-- four times the weights of the midpoints of q–r, p–q and r–p, from the father's weights at p, q, r; of a row with q–r split
pub record Back : Type 0 where
  pub qr : Option ℕ → Option ℕ → ℕ → ℕ → ℕ → ℕ
  pub pq : Option ℕ → Option ℕ → ℕ → ℕ → ℕ → ℕ
  pub rp : Option ℕ → Option ℕ → ℕ → ℕ → ℕ → ℕ

-- where q–r is not split, no midpoint has weight
abbrev pub if_split : Option ℕ → ℕ → ℕ
if_split None w = 0
if_split (Some m) w = w

-- a sum of the corners of a child, by weights at the father's corners and midpoints; the midpoints' come back from the father's weights
pub record Piece (B : Back) (t : Tri) (o u v : Option ℕ) (F : Sum) : Type 0 where
  pub fine : Fine t o u v F
  pub qr-is : 4 * fine.on-qr ≡ if_split o (B.qr u v (coarse fine).a (coarse fine).b (coarse fine).c)
  pub pq-is : 4 * fine.on-pq ≡ if_split o (B.pq u v (coarse fine).a (coarse fine).b (coarse fine).c)
  pub rp-is : 4 * fine.on-rp ≡ if_split o (B.rp u v (coarse fine).a (coarse fine).b (coarse fine).c)

pub record Dissects (c : Cutting) : Type 0 where
  pub back : Back
  pub pieces : (t : Tri) (m : ℕ) (u v : Option ℕ) → All (λ k. (a b c : ℕ) → Piece back t (Some m) u v (level (mix k a b c))) (parts (c t (Some m) u v))

-- ---- how a piece is given: its weights at p, q, r and at m, u, v

pub piece : (B : Back) (t : Tri) (m : ℕ) (u v : Option ℕ) {F : Sum} (p q r m' u' v' : ℕ) → Absent u u' → Absent v v' → (q ≡ 0) ⊎ (r ≡ 0) → Parted u p q → Parted v r p
    → SameSum F (λ φ. pos p *ℤ φ t.p +ℤ pos q *ℤ φ t.q +ℤ pos r *ℤ φ t.r +ℤ (pos m' *ℤ φ m +ℤ onto u u' φ +ℤ onto v v' φ))
    → 4 * m' ≡ B.qr u v (4 * p + 2 * u' + 2 * v') (4 * q + 2 * m' + 2 * u') (4 * r + 2 * m' + 2 * v')
    → 4 * u' ≡ B.pq u v (4 * p + 2 * u' + 2 * v') (4 * q + 2 * m' + 2 * u') (4 * r + 2 * m' + 2 * v')
    → 4 * v' ≡ B.rp u v (4 * p + 2 * u' + 2 * v') (4 * q + 2 * m' + 2 * u') (4 * r + 2 * m' + 2 * v') → Piece B t (Some m) u v F
piece B t m u v p q r m' u' v' no-u no-v on-qr on-pq on-rp sum e f g = record {
  fine = record {
    at_p = p;
    at-q = q;
    at-r = r;
    on-qr = m';
    on-pq = u';
    on-rp = v';
    qr-absent = tt;
    pq-absent = no-u;
    rp-absent = no-v;
    qr-parted = on-qr;
    pq-parted = on-pq;
    rp-parted = on-rp;
    sum = sum;
  };
  qr-is = e;
  pq-is = f;
  rp-is = g;
}

-- an identity of three weights and a number of each corner and midpoint
abbrev Nine : Type 0
Nine = Expr → Expr → Expr → Expr → Expr → Expr → Expr → Expr → Expr → Expr × Expr

abbrev at-nine : Nine → Expr × Expr
at-nine q = q (X 0) (X 1) (X 2) (X 3) (X 4) (X 5) (X 6) (X 7) (X 8)

abbrev numbers : Tri → ℕ → ℕ → ℕ → ℕ → ℕ → ℕ → (ℕ → ℤ) → List ℤ
numbers t m u v a b c φ = pos a ∷ pos b ∷ pos c ∷ φ t.p ∷ φ t.q ∷ φ t.r ∷ φ m ∷ φ u ∷ φ v ∷ []

pub nine : (t : Tri) (m u v a b c : ℕ) (φ : ℕ → ℤ) (q : Nine) → Checks (numbers t m u v a b c φ) (at-nine q) → Holds (numbers t m u v a b c φ) (at-nine q)
nine t m u v a b c φ q h = ring9 q (pos a) (pos b) (pos c) (φ t.p) (φ t.q) (φ t.r) (φ m) (φ u) (φ v) h

abbrev O : Expr
O = K (pos 0)

-- ---- bisection: of q and r the lesser goes to m; of what is left of q, and p, the lesser to u; of what is left of r, and p, to v

abbrev bisected-u : Option ℕ → ℕ → ℕ → ℕ → ℕ
bisected-u None A B C = 0
bisected-u (Some u) A B C = 2 * min A (B - min B C)

abbrev pub bisected-back : Back
bisected-back = record { qr = λ u v A B C. 2 * min B C; pq = λ u v A B C. bisected-u u A B C; rp = λ u v A B C. bisected-u v A C B }

pub bisected-pieces : (t : Tri) (m : ℕ) (u v : Option ℕ) → All (λ k. (a b c : ℕ) → Piece bisected-back t (Some m) u v (level (mix k a b c))) (parts (bisected t (Some m) u v))
bisected-pieces t m None None =
    cons (λ a b c. piece bisected-back t m None None b c 0 a 0 0 refl refl (inr refl) tt tt
    (λ φ. nine t m m m a b c φ (λ a b c p q r m u v. (a :* m :+ b :* p :+ c :* q, b :* p :+ c :* q :+ O :* r :+ (a :* m :+ O :+ O))) tt) (omega arith) (omega arith) (omega arith))
    (cons (λ a b c. piece bisected-back t m None None c 0 b a 0 0 refl refl (inl refl) tt tt
    (λ φ. nine t m m m a b c φ (λ a b c p q r m u v. (a :* m :+ b :* r :+ c :* p, c :* p :+ O :* q :+ b :* r :+ (a :* m :+ O :+ O))) tt) (omega arith) (omega arith) (omega arith)) nil)
bisected-pieces t m (Some u) None =
    cons (λ a b c. piece bisected-back t m (Some u) None c 0 0 b a 0 tt refl (inl refl) (inr refl) tt
    (λ φ. nine t m u m a b c φ (λ a b c p q r m u v. (a :* u :+ b :* m :+ c :* p, c :* p :+ O :* q :+ O :* r :+ (b :* m :+ a :* u :+ O))) tt) (omega arith) (omega arith) (omega arith))
    (cons (λ a b c. piece bisected-back t m (Some u) None c 0 b a 0 0 tt refl (inl refl) (inr refl) tt
    (λ φ. nine t m u m a b c φ (λ a b c p q r m u v. (a :* m :+ b :* r :+ c :* p, c :* p :+ O :* q :+ b :* r :+ (a :* m :+ O :* u :+ O))) tt) (omega arith) (omega arith) (omega arith))
    (cons (λ a b c. piece bisected-back t m (Some u) None 0 b 0 c a 0 tt refl (inr refl) (inl refl) tt
    (λ φ. nine t m u m a b c φ (λ a b c p q r m u v. (a :* u :+ b :* q :+ c :* m, O :* p :+ b :* q :+ O :* r :+ (c :* m :+ a :* u :+ O))) tt) (omega arith) (omega arith) (omega arith)) nil))
bisected-pieces t m None (Some v) =
    cons (λ a b c. piece bisected-back t m None (Some v) b c 0 a 0 0 refl tt (inr refl) tt (inl refl)
    (λ φ. nine t m m v a b c φ (λ a b c p q r m u v. (a :* m :+ b :* p :+ c :* q, b :* p :+ c :* q :+ O :* r :+ (a :* m :+ O :+ O :* v))) tt) (omega arith) (omega arith) (omega arith))
    (cons (λ a b c. piece bisected-back t m None (Some v) 0 0 c b 0 a refl tt (inl refl) tt (inr refl)
    (λ φ. nine t m m v a b c φ (λ a b c p q r m u v. (a :* v :+ b :* m :+ c :* r, O :* p :+ O :* q :+ c :* r :+ (b :* m :+ O :+ a :* v))) tt) (omega arith) (omega arith) (omega arith))
    (cons (λ a b c. piece bisected-back t m None (Some v) b 0 0 c 0 a refl tt (inl refl) tt (inl refl)
    (λ φ. nine t m m v a b c φ (λ a b c p q r m u v. (a :* v :+ b :* p :+ c :* m, b :* p :+ O :* q :+ O :* r :+ (c :* m :+ O :+ a :* v))) tt) (omega arith) (omega arith) (omega arith)) nil))
bisected-pieces t m (Some u) (Some v) =
    cons (λ a b c. piece bisected-back t m (Some u) (Some v) c 0 0 b a 0 tt tt (inl refl) (inr refl) (inl refl)
    (λ φ. nine t m u v a b c φ (λ a b c p q r m u v. (a :* u :+ b :* m :+ c :* p, c :* p :+ O :* q :+ O :* r :+ (b :* m :+ a :* u :+ O :* v))) tt) (omega arith) (omega arith) (omega arith))
    (cons (λ a b c. piece bisected-back t m (Some u) (Some v) 0 0 c b 0 a tt tt (inl refl) (inl refl) (inr refl)
    (λ φ. nine t m u v a b c φ (λ a b c p q r m u v. (a :* v :+ b :* m :+ c :* r, O :* p :+ O :* q :+ c :* r :+ (b :* m :+ O :* u :+ a :* v))) tt) (omega arith) (omega arith) (omega arith))
    (cons (λ a b c. piece bisected-back t m (Some u) (Some v) 0 b 0 c a 0 tt tt (inr refl) (inl refl) (inl refl)
    (λ φ. nine t m u v a b c φ (λ a b c p q r m u v. (a :* u :+ b :* q :+ c :* m, O :* p :+ b :* q :+ O :* r :+ (c :* m :+ a :* u :+ O :* v))) tt) (omega arith) (omega arith) (omega arith))
    (cons (λ a b c. piece bisected-back t m (Some u) (Some v) b 0 0 c 0 a tt tt (inl refl) (inr refl) (inl refl)
    (λ φ. nine t m u v a b c φ (λ a b c p q r m u v. (a :* v :+ b :* p :+ c :* m, b :* p :+ O :* q :+ O :* r :+ (c :* m :+ O :* u :+ a :* v))) tt) (omega arith) (omega arith) (omega arith)) nil)))
