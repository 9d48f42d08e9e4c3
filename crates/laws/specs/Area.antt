-- Laws of the twice-area and of midpoints. Assumes nothing.
use Rattle.std.specs.Prelude.{Bool, true, false, ◌≡◌, refl, ℕ, min, max, ◌+◌, ◌≤◌, leb, ℤ, pos, negsuc, neg_ℤ, nat_abs, ◌+ℤ◌, ◌-ℤ◌, ◌<ℤ◌}
use Rattle.std.proofs.Common.{sym, ap, ◌∙◌, arith, leb-true, leb-false}
use Rattle.std.proofs.Math.IntN.{+ℤ_comm}
use Rattle.whole.specs.Diff.{onℤ, sumℤ}
use Rattle.whole.specs.Bound.{abs-add}
use Rattle.whole.specs.Ring.{Expr, K, ◌:+◌, ◌:-◌, ◌:*◌, neg, ring4, ring6, ring8, combine₂}
use Rattle.meaning.specs.declared.Place.{Place}
use Rattle.meaning.specs.Mesh.{Mesh, at, turn}
use Rattle.meaning.specs.Good.{Middle}

-- turn, as an expression of the solver
abbrev pub turn_expr : Expr → Expr → Expr → Expr → Expr → Expr → Expr
turn_expr px py qx qy rx ry = (qx :- px) :* (ry :- py) :- (rx :- px) :* (qy :- py)

pub turn-cycle : (P Q R : Place) → turn P Q R ≡ turn Q R P
turn-cycle P Q R = ring6 (λ a b c d e f. (turn_expr a b c d e f, turn_expr c d e f a b)) P.x P.y Q.x Q.y R.x R.y tt

pub turn-mirror : (P Q R : Place) → turn P R Q ≡ neg_ℤ (turn P Q R)
turn-mirror P Q R = ring6 (λ a b c d e f. (turn_expr a b e f c d, neg (turn_expr a b c d e f))) P.x P.y Q.x Q.y R.x R.y tt

-- a place makes no area with a side that it ends
pub turn-from : (A B : Place) → turn A B A ≡ pos 0
turn-from A B = ring4 (λ a b c d. (turn_expr a b c d a b, K (pos 0))) A.x A.y B.x B.y tt

pub turn-to : (A B : Place) → turn A B B ≡ pos 0
turn-to A B = ring4 (λ a b c d. (turn_expr a b c d c d, K (pos 0))) A.x A.y B.x B.y tt

-- on the line of A and B, and on that of B and A
pub turn-back : (A B P : Place) → turn A B P ≡ pos 0 → turn B A P ≡ pos 0
turn-back A B P e = turn-cycle B A P ∙ turn-mirror A B P ∙ ap neg_ℤ e

-- each child of (P, Q, R), bisected at M, has half the father's
pub left-half : (P Q R M : Place) → Middle M Q R → turn M P Q +ℤ turn M P Q ≡ turn P Q R
left-half P Q R M h =
    combine₂ (P.y -ℤ Q.y) (Q.x -ℤ P.x) h.x-middle h.y-middle
    (ring8 (λ a b c d e f g i. ((turn_expr a b c d e f :+ turn_expr a b c d e f) :- turn_expr c d e f g i, (d :- f) :* ((a :+ a) :- (e :+ g)) :+ (e :- c) :* ((b :+ b) :- (f :+ i))))
    M.x M.y P.x P.y Q.x Q.y R.x R.y tt)

pub right-half : (P Q R M : Place) → Middle M Q R → turn M R P +ℤ turn M R P ≡ turn P Q R
right-half P Q R M h =
    combine₂ (R.y -ℤ P.y) (P.x -ℤ R.x) h.x-middle h.y-middle
    (ring8 (λ a b c d e f g i. ((turn_expr a b g i c d :+ turn_expr a b g i c d) :- turn_expr c d e f g i, (i :- d) :* ((a :+ a) :- (e :+ g)) :+ (c :- g) :* ((b :+ b) :- (f :+ i))))
    M.x M.y P.x P.y Q.x Q.y R.x R.y tt)

sum-of-halves : (a b t : ℤ) → a +ℤ a ≡ t → b +ℤ b ≡ t → a +ℤ b ≡ t
sum-of-halves a b t p q = omega (arith, onℤ, sumℤ a a, sumℤ b b, sumℤ a b)

-- together they have the father's
pub bisect-area : (P Q R M : Place) → Middle M Q R → turn M P Q +ℤ turn M R P ≡ turn P Q R
bisect-area P Q R M h = sum-of-halves (turn M P Q) (turn M R P) (turn P Q R) (left-half P Q R M h) (right-half P Q R M h)

-- half of what is above 0 is above 0
pub half-positive : (a t : ℤ) → a +ℤ a ≡ t → pos 0 <ℤ t → pos 0 <ℤ a
half-positive a t p h = omega (arith, onℤ, sumℤ a a)

abs-double : (m : ℤ) → nat_abs (m +ℤ m) ≡ nat_abs m + nat_abs m
abs-double (pos n) = refl
abs-double (negsuc n) = omega arith

-- a mean of two numbers is no farther out than both
pub middle-near : (m a b : ℤ) (k : ℕ) → m +ℤ m ≡ a +ℤ b → nat_abs a ≤ k → nat_abs b ≤ k → nat_abs m ≤ k
middle-near m a b k e p q = let s : nat_abs (m +ℤ m) ≤ k + k = rw e (abs-add a b p q) in omega (arith, abs-double m)

pub middle-swap : {M A B : Place} → Middle M A B → Middle M B A
middle-swap {M} {A} {B} h = record { x-middle = h.x-middle ∙ +ℤ_comm A.x B.x; y-middle = h.y-middle ∙ +ℤ_comm A.y B.y }

-- an edge's lower and higher node, or the two as they were given: the sum of a number of each
pub ends-sum : (f : ℕ → ℤ) (a b : ℕ) → f (min a b) +ℤ f (max a b) ≡ f a +ℤ f b
ends-sum f a b = go (leb a b) refl
  where
    go : (t : Bool) → leb a b ≡ t → f (min a b) +ℤ f (max a b) ≡ f a +ℤ f b
    go true e =
        let l = leb-true a b e in
        let p : min a b ≡ a = omega arith in
        let q : max a b ≡ b = omega arith in
        λ i. f (p i) +ℤ f (q i)
    go false e =
        let l = leb-false a b e in
        let p : min a b ≡ b = omega arith in
        let q : max a b ≡ a = omega arith in
        (λ i. f (p i) +ℤ f (q i)) ∙ +ℤ_comm (f b) (f a)

module _ (m : Mesh) (M : Place) (a b : ℕ) where
  pub middle-either : Middle M (at m (min a b)) (at m (max a b)) → Middle M (at m a) (at m b)
  middle-either h = record { x-middle = h.x-middle ∙ ends-sum (λ k. (at m k).x) a b; y-middle = h.y-middle ∙ ends-sum (λ k. (at m k).y) a b }

  pub middle-edge : Middle M (at m a) (at m b) → Middle M (at m (min a b)) (at m (max a b))
  middle-edge h = record { x-middle = h.x-middle ∙ sym (ends-sum (λ k. (at m k).x) a b); y-middle = h.y-middle ∙ sym (ends-sum (λ k. (at m k).y) a b) }
