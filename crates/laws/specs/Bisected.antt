-- Bisection has the laws of a cut. Each is a look at four patterns: m only; m, u; m, v; all. Assumes nothing.
use Rattle.std.specs.Prelude.{◌≢◌, ◌≡◌, refl, ℕ, suc, ◌+◌, ◌≤◌, ◌<◌, ℤ, pos, ◌+ℤ◌, ◌<ℤ◌, length, Option, None, Some}
use Rattle.std.proofs.Common.{sym, ap, ap₂, ◌∙◌, arith}
use Rattle.lists.specs.Lists.{All, nil, cons}
use Rattle.lists.specs.Tally.{tally}
use Rattle.whole.specs.Ring.{K, ◌:+◌, ring2, ring3, ring4}
use Rattle.meaning.specs.declared.Place.{Place}
use Rattle.meaning.specs.declared.Tri.{Tri}
use Rattle.meaning.specs.Mesh.{Mesh, Arrow, tri, at, turn, twice_area, sum}
use Rattle.meaning.specs.Lawful.{Named}
use Rattle.meaning.specs.Good.{Middle}
use Rattle.meaning.specs.Split.{bisected}
use Rattle.laws.specs.Area.{left-half, right-half, bisect-area, half-positive}
use Rattle.laws.specs.Edges.{hits, here, names}
use Rattle.laws.specs.Cut.{CutLaws, Centred, Fresh, NewNode, Differ, MidOf, parts, there, allowed, here_if}

-- ---- area: each bisection halves, so its two rows have the area of the one

sum2 : (a b t : ℤ) → a +ℤ b ≡ t → a +ℤ (b +ℤ pos 0) ≡ t
sum2 a b t e = ring2 (λ a b. (a :+ (b :+ K (pos 0)), a :+ b)) a b tt ∙ e

-- the first and third are one, and so are the second and fourth
sum4 : (a b c d l r t : ℤ) → a +ℤ c ≡ l → b +ℤ d ≡ r → l +ℤ r ≡ t → a +ℤ (b +ℤ (c +ℤ (d +ℤ pos 0))) ≡ t
sum4 a b c d l r t e f g = ring4 (λ a b c d. (a :+ (b :+ (c :+ (d :+ K (pos 0)))), (a :+ c) :+ (b :+ d))) a b c d tt ∙ ap₂ ◌+ℤ◌ e f ∙ g

sum3-left : (a r c l t : ℤ) → a +ℤ c ≡ l → l +ℤ r ≡ t → a +ℤ (r +ℤ (c +ℤ pos 0)) ≡ t
sum3-left a r c l t e g = ring3 (λ a r c. (a :+ (r :+ (c :+ K (pos 0))), (a :+ c) :+ r)) a r c tt ∙ ap (λ z. z +ℤ r) e ∙ g

sum3-right : (l b d r t : ℤ) → b +ℤ d ≡ r → l +ℤ r ≡ t → l +ℤ (b +ℤ (d +ℤ pos 0)) ≡ t
sum3-right l b d r t f g = ring3 (λ l b d. (l :+ (b :+ (d :+ K (pos 0))), l :+ (b :+ d))) l b d tt ∙ ap (λ z. l +ℤ z) f ∙ g

bisected-area : (M : Mesh) (t : Tri) (m : ℕ) (u v : Option ℕ) → Centred M t (Some m) u v →
    sum (twice_area M) (parts (bisected t (Some m) u v)) ≡ twice_area M t
unfolding twice_area
bisected-area M t m u v h = go u v h.on-pq h.on-rp
  where
    P : Place
    P = at M t.p

    Q : Place
    Q = at M t.q

    R : Place
    R = at M t.r

    left : ℤ
    left = turn (at M m) P Q

    right : ℤ
    right = turn (at M m) R P

    father : left +ℤ right ≡ turn P Q R
    father = bisect-area P Q R (at M m) h.on-qr

    go : (u v : Option ℕ) → MidOf M t.p t.q u → MidOf M t.r t.p v → sum (twice_area M) (parts (bisected t (Some m) u v)) ≡ twice_area M t
    go None None g k = sum2 left right (turn P Q R) father
    go (Some u) None g k = sum3-left (turn (at M u) (at M m) P) right (turn (at M u) Q (at M m)) left (turn P Q R) (bisect-area (at M m) P Q (at M u) g) father
    go None (Some v) g k = sum3-right left (turn (at M v) (at M m) R) (turn (at M v) P (at M m)) right (turn P Q R) (bisect-area (at M m) R P (at M v) k) father
    go (Some u) (Some v) g k =
        sum4 (turn (at M u) (at M m) P) (turn (at M v) (at M m) R) (turn (at M u) Q (at M m)) (turn (at M v) P (at M m)) left right (turn P Q R)
        (bisect-area (at M m) P Q (at M u) g) (bisect-area (at M m) R P (at M v) k) father

-- ---- above 0: half of what is above 0

left-above : (P Q R M : Place) → Middle M Q R → pos 0 <ℤ turn P Q R → pos 0 <ℤ turn M P Q
left-above P Q R M h g = half-positive (turn M P Q) (turn P Q R) (left-half P Q R M h) g

right-above : (P Q R M : Place) → Middle M Q R → pos 0 <ℤ turn P Q R → pos 0 <ℤ turn M R P
right-above P Q R M h g = half-positive (turn M R P) (turn P Q R) (right-half P Q R M h) g

bisected-above : (M : Mesh) (t : Tri) (m : ℕ) (u v : Option ℕ) → Centred M t (Some m) u v → pos 0 <ℤ twice_area M t →
    All (λ k. pos 0 <ℤ twice_area M k) (parts (bisected t (Some m) u v))
unfolding twice_area
bisected-above M t m u v h a = go u v h.on-pq h.on-rp
  where
    P : Place
    P = at M t.p

    Q : Place
    Q = at M t.q

    R : Place
    R = at M t.r

    left : pos 0 <ℤ turn (at M m) P Q
    left = left-above P Q R (at M m) h.on-qr a

    right : pos 0 <ℤ turn (at M m) R P
    right = right-above P Q R (at M m) h.on-qr a

    go : (u v : Option ℕ) → MidOf M t.p t.q u → MidOf M t.r t.p v → All (λ k. pos 0 <ℤ twice_area M k) (parts (bisected t (Some m) u v))
    go None None g k = cons left (cons right nil)
    go (Some u) None g k = cons (left-above (at M m) P Q (at M u) g left) (cons right (cons (right-above (at M m) P Q (at M u) g left) nil))
    go None (Some v) g k = cons left (cons (left-above (at M m) R P (at M v) k right) (cons (right-above (at M m) R P (at M v) k right) nil))
    go (Some u) (Some v) g k =
        cons (left-above (at M m) P Q (at M u) g left) (cons (left-above (at M m) R P (at M v) k right)
        (cons (right-above (at M m) P Q (at M u) g left) (cons (right-above (at M m) R P (at M v) k right) nil)))

-- ---- names: a row has one midpoint and two corners, or two midpoints and a corner

one-new : (n n' k a b : ℕ) → (n ≤ k) × (k < n') → a < n → b < n → a ≢ b → Named n' (tri k a b)
one-new n n' k a b nk an bn ab = omega arith

two-new : (n n' k l a : ℕ) → (n ≤ k) × (k < n') → (n ≤ l) × (l < n') → a < n → k ≢ l → Named n' (tri k l a)
two-new n n' k l a nk nl an kl = omega arith

new-old-new : (n n' k a l : ℕ) → (n ≤ k) × (k < n') → (n ≤ l) × (l < n') → a < n → k ≢ l → Named n' (tri k a l)
new-old-new n n' k a l nk nl an kl = omega arith

bisected-named : (n n' : ℕ) (t : Tri) (m : ℕ) (u v : Option ℕ) → Named n t → Fresh n n' (Some m) u v → All (Named n') (parts (bisected t (Some m) u v))
bisected-named n n' t m u v a f = go u v f.u-new f.v-new f.m-u f.m-v
  where
    left : Named n' (tri m t.p t.q)
    left = one-new n n' m t.p t.q f.m-new a.p-below a.q-below a.p≢q

    right : Named n' (tri m t.r t.p)
    right = one-new n n' m t.r t.p f.m-new a.r-below a.p-below a.r≢p

    go : (u v : Option ℕ) → NewNode n n' u → NewNode n n' v → Differ (Some m) u → Differ (Some m) v → All (Named n') (parts (bisected t (Some m) u v))
    go None None g h mu mv = cons left (cons right nil)
    go (Some u) None g h mu mv =
        cons (two-new n n' u m t.p g f.m-new a.p-below (λ w. mu (sym w)))
        (cons right (cons (new-old-new n n' u t.q m g f.m-new a.q-below (λ w. mu (sym w))) nil))
    go None (Some v) g h mu mv =
        cons left
        (cons (two-new n n' v m t.r h f.m-new a.r-below (λ w. mv (sym w))) (cons (new-old-new n n' v t.p m h f.m-new a.p-below (λ w. mv (sym w))) nil))
    go (Some u) (Some v) g h mu mv =
        cons (two-new n n' u m t.p g f.m-new a.p-below (λ w. mu (sym w)))
        (cons (two-new n n' v m t.r h f.m-new a.r-below (λ w. mv (sym w)))
        (cons (new-old-new n n' u t.q m g f.m-new a.q-below (λ w. mu (sym w)))
        (cons (new-old-new n n' v t.p m h f.m-new a.p-below (λ w. mv (sym w))) nil)))

-- ---- arrows, corners, rows: counted

bisected-arrows : (e : Arrow) (t : Tri) (m : ℕ) (u v : Option ℕ) → tally (hits e) (parts (bisected t (Some m) u v)) ≤ allowed e t (Some m) u v
bisected-arrows e t m None None = omega arith
bisected-arrows e t m (Some u) None = omega arith
bisected-arrows e t m None (Some v) = omega arith
bisected-arrows e t m (Some u) (Some v) = omega arith

bisected-corners : (z : ℕ) (t : Tri) (m : ℕ) (u v : Option ℕ) → names z t ≤ tally (names z) (parts (bisected t (Some m) u v))
bisected-corners z t m None None = omega arith
bisected-corners z t m (Some u) None = omega arith
bisected-corners z t m None (Some v) = omega arith
bisected-corners z t m (Some u) (Some v) = omega arith

bisected-middles : (z : ℕ) (t : Tri) (m : ℕ) (u v : Option ℕ) → here z m + here_if z u + here_if z v ≤ tally (names z) (parts (bisected t (Some m) u v))
bisected-middles z t m None None = omega arith
bisected-middles z t m (Some u) None = omega arith
bisected-middles z t m None (Some v) = omega arith
bisected-middles z t m (Some u) (Some v) = omega arith

bisected-rows : (t : Tri) (m : ℕ) (u v : Option ℕ) → length (bisected t (Some m) u v).added ≡ suc (there u + there v)
bisected-rows t m None None = refl
bisected-rows t m (Some u) None = refl
bisected-rows t m None (Some v) = refl
bisected-rows t m (Some u) (Some v) = refl

pub bisected-laws : CutLaws bisected
bisected-laws = record {
  whole = λ t u v. refl;
  rows = bisected-rows;
  area = bisected-area;
  above = bisected-above;
  named = bisected-named;
  arrows = bisected-arrows;
  corners = bisected-corners;
  middles = bisected-middles;
}
