-- Points near a point, in a direction along no side of a row: near enough, signs stay, and the point is off every line and every key. Assumes nothing.
use Rattle.std.specs.Prelude.{List, ◌≢◌, ◌≡◌, refl, ℕ, zero, suc, ◌*◌, max, ◌≤◌, ℤ, pos, negsuc, neg_ℤ, nat_abs, ◌+ℤ◌, ◌-ℤ◌, ◌*ℤ◌, ◌≤ℤ◌, ◌<ℤ◌}
use Rattle.std.proofs.Common.{sym, subst, ◌∙◌, arith}
use Rattle.whole.specs.Diff.{onℤ, sumℤ}
use Rattle.whole.specs.Ring.{K, ◌:+◌, ◌:-◌, ◌:*◌, neg, ring2, ring3, ring4, ring10}
use Rattle.lists.specs.Lists.{All, nil, cons}
use Rattle.lists.specs.ListsLaw.{All-imp}
use Rattle.meaning.specs.declared.Place.{Place}
use Rattle.meaning.specs.Mesh.{Mesh, at, turn}
use Rattle.meaning.specs.Proper.{Point, Shape, area, shape, left}
use Rattle.laws.specs.Area.{turn-cycle}
use Rattle.border.specs.Places.{place-eq, apart-of-turn}
use Rattle.border.specs.Signs.{zero-of-minus, zero-of-equal, below-not, above-not, below-of-minus, equal-of-zero}
use Rattle.border.specs.Under.{Form, Off, key, key_at, ahead, left_expr}
use Rattle.border.specs.Count.{OffRows}
use Rattle.border.specs.Segment.{ahead_expr}

-- ---- from some number on

pub record Eventually (P : ℕ → Type 0) : Type 0 where
  pub start : ℕ
  pub holds : (n : ℕ) → start ≤ n → P n

from-now : {P : ℕ → Type 0} → ((n : ℕ) → P n) → Eventually P
from-now h = record { start = 0; holds = λ n _. h n }

pub both-from : {P Q : ℕ → Type 0} → Eventually P → Eventually Q → Eventually (λ n. P n × Q n)
both-from p q = record { start = max p.start q.start; holds = λ n h. (p.holds n (omega arith), q.holds n (omega arith)) }

pub imply-from : {P Q : ℕ → Type 0} → ((n : ℕ) → P n → Q n) → Eventually P → Eventually Q
imply-from f p = record { start = p.start; holds = λ n h. f n (p.holds n h) }

pub all_from : {A : Type 0} {P : A → ℕ → Type 0} {xs : List A} → All (λ x. Eventually (P x)) xs → Eventually (λ n. All (λ x. P x n) xs)
all_from nil = from-now (λ n. nil)
all_from (cons h hs) = imply-from (λ n (p, ps). cons p ps) (both-from h (all_from hs))

-- n c + d: from some n on it has the sign of c
abbrev pub line : ℤ → ℤ → ℕ → ℤ
line c d n = pos n *ℤ c +ℤ d

pub line-above : (c d : ℤ) → pos 0 <ℤ c → Eventually (λ n. pos 0 <ℤ line c d n)
line-above c d h = record { start = suc (nat_abs d); holds = λ n l. go c d h n l }
  where
    go : (c d : ℤ) → pos 0 <ℤ c → (n : ℕ) → suc (nat_abs d) ≤ n → pos 0 <ℤ line c d n
    go (pos zero) d h n l = absurd (omega (arith, onℤ))
    go (pos (suc c)) (pos d) h n l =
        let g : n ≤ n * suc c = omega arith in
        omega (arith, onℤ, sumℤ (pos n *ℤ pos (suc c)) (pos d))
    go (pos (suc c)) (negsuc d) h n l =
        let g : n ≤ n * suc c = omega arith in
        omega (arith, onℤ, sumℤ (pos n *ℤ pos (suc c)) (negsuc d))
    go (negsuc c) d h n l = absurd (omega (arith, onℤ))

pub line-minus : (n : ℕ) (c d : ℤ) → line (neg_ℤ c) (neg_ℤ d) n ≡ neg_ℤ (line c d n)
line-minus n c d = ring3 (λ n c d. (n :* neg c :+ neg d, neg (n :* c :+ d))) (pos n) c d tt

pub line-not : (c d : ℤ) → (c ≡ pos 0 → d ≢ pos 0) → Eventually (λ n. line c d n ≢ pos 0)
line-not c d h = go c h
  where
    go : (c : ℤ) → (c ≡ pos 0 → d ≢ pos 0) → Eventually (λ n. line c d n ≢ pos 0)
    go (pos zero) h = from-now (λ n e. h refl (sym (ring2 (λ n d. (n :* K (pos 0) :+ d, d)) (pos n) d tt) ∙ e))
    go (pos (suc c)) h = imply-from (λ n g. above-not g) (line-above (pos (suc c)) d (omega (arith, onℤ)))
    go (negsuc c) h =
        imply-from (λ n g. below-not (below-of-minus (line (negsuc c) d n) (subst (λ k. pos 0 <ℤ k) (line-minus n (negsuc c) d) g))) (line-above (neg_ℤ (negsuc c)) (neg_ℤ d) (omega (arith, onℤ)))

-- ---- near a point, in the direction (u, v)

abbrev pub near : Point → ℤ → ℤ → ℕ → Point
near s u v n = record { X = line s.X u n; Y = line s.Y v n; W = line s.W (pos 0) n }

-- by how much the direction turns left of A→B
abbrev pub tilt : Place → Place → ℤ → ℤ → ℤ
tilt A B u v = (B.x -ℤ A.x) *ℤ v -ℤ u *ℤ (B.y -ℤ A.y)

-- by how much the key grows in the direction
abbrev pub growth : Form → ℤ → ℤ → ℤ
growth f u v = f.along *ℤ u +ℤ f.across *ℤ v

pub left_near : (A B : Place) (s : Point) (u v : ℤ) (n : ℕ) → left A B (near s u v n) ≡ line (left A B s) (tilt A B u v) n
left_near A B s u v n =
    ring10 (λ ax ay bx by x y w u v n. (left_expr ax ay bx by (n :* x :+ u) (n :* y :+ v) (n :* w :+ K (pos 0)), n :* left_expr ax ay bx by x y w :+ ((bx :- ax) :* v :- u :* (by :- ay))))
    A.x A.y B.x B.y s.X s.Y s.W u v (pos n) tt

pub ahead-near : (f : Form) (A : Place) (s : Point) (u v : ℤ) (n : ℕ) → ahead f A (near s u v n) ≡ line (ahead f A s) (growth f u v) n
ahead-near f A s u v n =
    ring10 (λ f g ax ay x y w u v n. (ahead_expr f g ax ay (n :* x :+ u) (n :* y :+ v) (n :* w :+ K (pos 0)), n :* ahead_expr f g ax ay x y w :+ (f :* u :+ g :* v)))
    f.along f.across A.x A.y s.X s.Y s.W u v (pos n) tt

-- near enough, the signs that a point has stay
module _ (s : Point) (u v : ℤ) where
  pub left-stays : (A B : Place) → pos 0 <ℤ left A B s → Eventually (λ n. pos 0 <ℤ left A B (near s u v n))
  left-stays A B i = imply-from (λ n l. subst (λ z. pos 0 <ℤ z) (sym (left_near A B s u v n)) l) (line-above (left A B s) (tilt A B u v) i)

  -- a point of a line goes to the side to which the direction turns
  pub left-turns : (A B : Place) → pos 0 ≤ℤ left A B s → pos 0 <ℤ tilt A B u v → Eventually (λ n. pos 0 <ℤ left A B (near s u v n))
  left-turns A B i h =
      from-now (λ n. subst (λ z. pos 0 <ℤ z) (sym (left_near A B s u v n)) (sum n (left A B s) (tilt A B u v) i h))
    where
      sum : (n : ℕ) (c d : ℤ) → pos 0 ≤ℤ c → pos 0 <ℤ d → pos 0 <ℤ line c d n
      sum n (pos c) d h i = omega (arith, onℤ, sumℤ (pos n *ℤ pos c) d)
      sum n (negsuc c) d h i = absurd (omega (arith, onℤ))

  left-off : (A B : Place) → tilt A B u v ≢ pos 0 → Eventually (λ n. left A B (near s u v n) ≢ pos 0)
  left-off A B i = imply-from (λ n l e. l (sym (left_near A B s u v n) ∙ e)) (line-not (left A B s) (tilt A B u v) (λ _. i))

  ahead-off : (f : Form) (A : Place) → growth f u v ≢ pos 0 → Eventually (λ n. ahead f A (near s u v n) ≢ pos 0)
  ahead-off f A g = imply-from (λ n l e. l (sym (ahead-near f A s u v n) ∙ e)) (line-not (ahead f A s) (growth f u v) (λ _. g))

  pub weight-stays : pos 0 <ℤ s.W → Eventually (λ n. pos 0 <ℤ (near s u v n).W)
  weight-stays w = line-above s.W (pos 0) w

-- ---- directions

-- the direction is along no side of the triangle
pub record Tilted (t : Shape) (u v : ℤ) : Type 0 where
  pub tilt-pq : tilt t.p t.q u v ≢ pos 0
  pub tilt-qr : tilt t.q t.r u v ≢ pos 0
  pub tilt-rp : tilt t.r t.p u v ≢ pos 0

tilt-line : (A B : Place) (k : ℕ) → tilt A B (pos 1) (pos k) ≡ line (B.x -ℤ A.x) (neg_ℤ (B.y -ℤ A.y)) k
tilt-line A B k = ring3 (λ x y k. (x :* k :- K (pos 1) :* y, k :* x :+ neg y)) (B.x -ℤ A.x) (B.y -ℤ A.y) (pos k) tt

side-tilted : (P Q R : Place) → pos 0 <ℤ turn P Q R → Eventually (λ k. tilt P Q (pos 1) (pos k) ≢ pos 0)
side-tilted P Q R h =
    imply-from (λ k n e. n (sym (tilt-line P Q k) ∙ e)) (line-not (Q.x -ℤ P.x) (neg_ℤ (Q.y -ℤ P.y)) (λ e g. apart-of-turn P Q R h
    (place-eq (sym (equal-of-zero Q.x P.x e)) (sym (equal-of-zero Q.y P.y (zero-of-minus (Q.y -ℤ P.y) g))))))

tilted-from : (t : Shape) → pos 0 <ℤ area t → Eventually (λ k. Tilted t (pos 1) (pos k))
tilted-from t h =
    imply-from (λ k (a, (b, c)). record { tilt-pq = a; tilt-qr = b; tilt-rp = c })
    (both-from (side-tilted t.p t.q t.r h) (both-from (side-tilted t.q t.r t.p (subst (λ k. pos 0 <ℤ k) (turn-cycle t.p t.q t.r) h))
    (side-tilted t.r t.p t.q (subst (λ k. pos 0 <ℤ k) (turn-cycle t.p t.q t.r ∙ turn-cycle t.q t.r t.p) h))))

-- the direction is along no side of a row, and the key grows or falls in it
pub record Direction (f : Form) (m : Mesh) (u v : ℤ) : Type 0 where
  pub tilted : All (λ t. Tilted (shape m t) u v) m.tris
  pub grows : growth f u v ≢ pos 0

-- there is one
pub directions : (f : Form) → f.across ≢ pos 0 → (m : Mesh) → All (λ t. pos 0 <ℤ area (shape m t)) m.tris → Eventually (λ k. Direction f m (pos 1) (pos k))
directions f across m h =
    imply-from (λ k (a, b). record { tilted = a; grows = λ e. b (sym (ring3 (λ a b k. (a :* K (pos 1) :+ b :* k, k :* b :+ a)) f.along f.across (pos k) tt) ∙ e) })
    (both-from (all_from (All-imp (λ t g. tilted-from (shape m t) g) h)) (line-not f.across f.along (λ e. absurd (across e))))

pub tilt-back : (A B : Place) (u v : ℤ) → tilt A B (neg_ℤ u) (neg_ℤ v) ≡ neg_ℤ (tilt A B u v)
tilt-back A B u v = ring4 (λ x y u v. (x :* neg v :- neg u :* y, neg (x :* v :- u :* y))) (B.x -ℤ A.x) (B.y -ℤ A.y) u v tt

-- and the other way round
pub direction-back : (f : Form) (m : Mesh) (u v : ℤ) → Direction f m u v → Direction f m (neg_ℤ u) (neg_ℤ v)
direction-back f m u v d = record {
  tilted = All-imp (λ t h. record { tilt-pq = turned t.p t.q h.tilt-pq; tilt-qr = turned t.q t.r h.tilt-qr; tilt-rp = turned t.r t.p h.tilt-rp }) d.tilted;
  grows = λ e. d.grows (zero-of-minus (growth f u v) (sym (ring4 (λ a b u v. (a :* neg u :+ b :* neg v, neg (a :* u :+ b :* v))) f.along f.across u v tt) ∙ e));
}
  where
    turned : (a b : ℕ) → tilt (at m a) (at m b) u v ≢ pos 0 → tilt (at m a) (at m b) (neg_ℤ u) (neg_ℤ v) ≢ pos 0
    turned a b n e = n (zero-of-minus (tilt (at m a) (at m b) u v) (sym (tilt-back (at m a) (at m b) u v) ∙ e))

-- ---- off the rows

-- near enough, the point is off the triangle's lines and keys
off-near : (f : Form) (t : Shape) (s : Point) (u v : ℤ) → pos 0 <ℤ s.W → Tilted t u v → growth f u v ≢ pos 0 → Eventually (λ n. Off f t (near s u v n))
off-near f t s u v w h g =
    imply-from (λ n (a, (b, (c, (d, (p, (q, r)))))). record { weight = a; off-pq = b; off-qr = c; off-rp = d; key-p = keyed n t.p p; key-q = keyed n t.q q; key-r = keyed n t.r r })
    (both-from (weight-stays s u v w)
    (both-from (left-off s u v t.p t.q h.tilt-pq) (both-from (left-off s u v t.q t.r h.tilt-qr) (both-from (left-off s u v t.r t.p h.tilt-rp)
    (both-from (ahead-off s u v f t.p g) (both-from (ahead-off s u v f t.q g) (ahead-off s u v f t.r g)))))))
  where
    keyed : (n : ℕ) (A : Place) → ahead f A (near s u v n) ≢ pos 0 → key f A *ℤ (near s u v n).W ≢ key_at f (near s u v n)
    keyed n A l e = l (zero-of-equal (key_at f (near s u v n)) (key f A *ℤ (near s u v n).W) (sym e))

off-rows-near : (f : Form) (m : Mesh) (s : Point) (u v : ℤ) → pos 0 <ℤ s.W → Direction f m u v → Eventually (λ n. OffRows f m (near s u v n))
off-rows-near f m s u v w d = all_from (All-imp (λ t g. off-near f (shape m t) s u v w g d.grows) d.tilted)

-- in a direction there is a point of which all holds that holds near enough
pub point-near : (f : Form) (m : Mesh) (s : Point) (u v : ℤ) → pos 0 <ℤ s.W → Direction f m u v → (Q : Point → Type 0) → Eventually (λ n. Q (near s u v n)) →
    (p : Point) × (pos 0 <ℤ p.W) × OffRows f m p × Q p
point-near f m s u v w d Q q =
    let distances = both-from (weight-stays s u v w) (both-from (off-rows-near f m s u v w d) q) in
    let n = distances.start in
    let (weight, (off, holds)) = distances.holds n (omega arith) in
    (near s u v n, weight, off, holds)
