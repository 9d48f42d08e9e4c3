-- W8's cut has the laws of a cut: with all three edges split each child has a quarter of the father's twice-area; with one or two it is
-- bisection. Assumes nothing.
use Rattle.std.specs.Prelude.{◌≢◌, ◌≡◌, refl, ℕ, suc, ◌+◌, ◌≤◌, ◌<◌, ℤ, pos, ◌+ℤ◌, ◌-ℤ◌, ◌*ℤ◌, length, ◌<ℤ◌, Option, None, Some}
use Rattle.std.proofs.Common.{sym, ◌∙◌, arith}
use Rattle.lists.specs.Lists.{All, nil, cons}
use Rattle.lists.specs.Tally.{tally}
use Rattle.whole.specs.Diff.{onℤ, sumℤ, mulℤ}
use Rattle.whole.specs.Ring.{Expr, K, ◌:+◌, ◌:-◌, ◌:*◌, ring6}
use Rattle.meaning.specs.declared.Place.{Place}
use Rattle.meaning.specs.declared.Tri.{Tri}
use Rattle.meaning.specs.Mesh.{Mesh, Arrow, tri, at, turn, twice_area, sum}
use Rattle.meaning.specs.Lawful.{Named}
use Rattle.meaning.specs.Good.{Middle}
use Rattle.meaning.specs.declared.Quarters.{Quarters}
use Rattle.meaning.specs.declared.Quarters.TheVariants.{Bisected, Red}
use Rattle.meaning.specs.Split.{red, cutting_of}
use Rattle.laws.specs.Edges.{hits, here, names}
use Rattle.laws.specs.Cut.{CutLaws, Centred, Fresh, parts, there, allowed, here_if}
use Rattle.laws.specs.Bisected.{bisected-laws}

-- ---- area: a quarter each

abbrev turn_expr : Expr → Expr → Expr → Expr → Expr → Expr → Expr
turn_expr ax ay bx by cx cy = (bx :- ax) :* (cy :- ay) :- (cx :- ax) :* (by :- ay)

-- the doubles of three places
four-times : (A B C : Place) (ax ay bx by cx cy : ℤ) → A.x +ℤ A.x ≡ ax → A.y +ℤ A.y ≡ ay → B.x +ℤ B.x ≡ bx → B.y +ℤ B.y ≡ by → C.x +ℤ C.x ≡ cx → C.y +ℤ C.y ≡ cy
    → pos 4 *ℤ turn A B C ≡ (bx -ℤ ax) *ℤ (cy -ℤ ay) -ℤ (cx -ℤ ax) *ℤ (by -ℤ ay)
four-times A B C ax ay bx by cx cy e₁ e₂ e₃ e₄ e₅ e₆ =
    ring6 (λ a b c d e f. (K (pos 4) :* turn_expr a b c d e f, turn_expr (a :+ a) (b :+ b) (c :+ c) (d :+ d) (e :+ e) (f :+ f))) A.x A.y B.x B.y C.x C.y tt
    ∙ (λ i. (e₃ i -ℤ e₁ i) *ℤ (e₆ i -ℤ e₂ i) -ℤ (e₅ i -ℤ e₁ i) *ℤ (e₄ i -ℤ e₂ i))

four_quarters : (a b c d t : ℤ) → pos 4 *ℤ a ≡ t → pos 4 *ℤ b ≡ t → pos 4 *ℤ c ≡ t → pos 4 *ℤ d ≡ t → a +ℤ (b +ℤ (c +ℤ (d +ℤ pos 0))) ≡ t
four_quarters a b c d t e f g h =
    omega (arith, onℤ, mulℤ (pos 4) a, mulℤ (pos 4) b, mulℤ (pos 4) c, mulℤ (pos 4) d, sumℤ d (pos 0), sumℤ c (d +ℤ pos 0), sumℤ b (c +ℤ (d +ℤ pos 0)), sumℤ a (b +ℤ (c +ℤ (d +ℤ pos 0))))

quarter-above : (a t : ℤ) → pos 4 *ℤ a ≡ t → pos 0 <ℤ t → pos 0 <ℤ a
quarter-above a t e h = omega (arith, onℤ, mulℤ (pos 4) a)

module _ (P Q R M U W : Place) (m : Middle M Q R) (u : Middle U P Q) (v : Middle W R P) where
  quarter-p : pos 4 *ℤ turn P U W ≡ turn P Q R
  quarter-p = four-times P U W _ _ _ _ _ _ refl refl u.x-middle u.y-middle v.x-middle v.y-middle
      ∙ ring6 (λ a b c d e f. (turn_expr (a :+ a) (b :+ b) (a :+ c) (b :+ d) (e :+ a) (f :+ b), turn_expr a b c d e f)) P.x P.y Q.x Q.y R.x R.y tt

  quarter-q : pos 4 *ℤ turn U Q M ≡ turn P Q R
  quarter-q = four-times U Q M _ _ _ _ _ _ u.x-middle u.y-middle refl refl m.x-middle m.y-middle
      ∙ ring6 (λ a b c d e f. (turn_expr (a :+ c) (b :+ d) (c :+ c) (d :+ d) (c :+ e) (d :+ f), turn_expr a b c d e f)) P.x P.y Q.x Q.y R.x R.y tt

  quarter-r : pos 4 *ℤ turn W M R ≡ turn P Q R
  quarter-r = four-times W M R _ _ _ _ _ _ v.x-middle v.y-middle m.x-middle m.y-middle refl refl
      ∙ ring6 (λ a b c d e f. (turn_expr (e :+ a) (f :+ b) (c :+ e) (d :+ f) (e :+ e) (f :+ f), turn_expr a b c d e f)) P.x P.y Q.x Q.y R.x R.y tt

  quarter-inner : pos 4 *ℤ turn M W U ≡ turn P Q R
  quarter-inner = four-times M W U _ _ _ _ _ _ m.x-middle m.y-middle v.x-middle v.y-middle u.x-middle u.y-middle
      ∙ ring6 (λ a b c d e f. (turn_expr (c :+ e) (d :+ f) (e :+ a) (f :+ b) (a :+ c) (b :+ d), turn_expr a b c d e f)) P.x P.y Q.x Q.y R.x R.y tt

  together : turn P U W +ℤ (turn U Q M +ℤ (turn W M R +ℤ (turn M W U +ℤ pos 0))) ≡ turn P Q R
  together = four_quarters (turn P U W) (turn U Q M) (turn W M R) (turn M W U) (turn P Q R) quarter-p quarter-q quarter-r quarter-inner

red-area : (M : Mesh) (t : Tri) (m : ℕ) (u v : Option ℕ) → Centred M t (Some m) u v → sum (twice_area M) (parts (red t (Some m) u v)) ≡ twice_area M t
unfolding twice_area
red-area M t m None v h = bisected-laws.area M t m None v h
red-area M t m (Some u) None h = bisected-laws.area M t m (Some u) None h
red-area M t m (Some u) (Some v) h = together (at M t.p) (at M t.q) (at M t.r) (at M m) (at M u) (at M v) h.on-qr h.on-pq h.on-rp

red-above : (M : Mesh) (t : Tri) (m : ℕ) (u v : Option ℕ) → Centred M t (Some m) u v → pos 0 <ℤ twice_area M t → All (λ k. pos 0 <ℤ twice_area M k) (parts (red t (Some m) u v))
unfolding twice_area
red-above M t m None v h a = bisected-laws.above M t m None v h a
red-above M t m (Some u) None h a = bisected-laws.above M t m (Some u) None h a
red-above M t m (Some u) (Some v) h a =
    let P = at M t.p in
    let Q = at M t.q in
    let R = at M t.r in
    cons (quarter-above _ _ (quarter-p P Q R (at M m) (at M u) (at M v) h.on-qr h.on-pq h.on-rp) a)
    (cons (quarter-above _ _ (quarter-q P Q R (at M m) (at M u) (at M v) h.on-qr h.on-pq h.on-rp) a)
    (cons (quarter-above _ _ (quarter-r P Q R (at M m) (at M u) (at M v) h.on-qr h.on-pq h.on-rp) a)
    (cons (quarter-above _ _ (quarter-inner P Q R (at M m) (at M u) (at M v) h.on-qr h.on-pq h.on-rp) a) nil)))

-- ---- names

three-nodes : (n' a b c : ℕ) → a < n' → b < n' → c < n' → a ≢ b → b ≢ c → c ≢ a → Named n' (tri a b c)
three-nodes n' a b c ha hb hc ab bc ca = record { p-below = ha; q-below = hb; r-below = hc; p≢q = ab; q≢r = bc; r≢p = ca }

old-new : {n k a : ℕ} → a < n → n ≤ k → a ≢ k
old-new h l e = omega arith

red-named : (n n' : ℕ) (t : Tri) (m : ℕ) (u v : Option ℕ) → Named n t → Fresh n n' (Some m) u v → All (Named n') (parts (red t (Some m) u v))
red-named n n' t m None v a f = bisected-laws.named n n' t m None v a f
red-named n n' t m (Some u) None a f = bisected-laws.named n n' t m (Some u) None a f
red-named n n' t m (Some u) (Some v) a f =
    let um : u ≢ m = λ e. f.m-u (sym e) in
    let vm : v ≢ m = λ e. f.m-v (sym e) in
    let vu : v ≢ u = λ e. f.u-v (sym e) in
    cons (three-nodes n' t.p u v (omega (arith, a.p-below, f.u-new)) f.u-new.1 f.v-new.1 (old-new a.p-below f.u-new.0) f.u-v (λ e. old-new a.p-below f.v-new.0 (sym e)))
    (cons (three-nodes n' u t.q m f.u-new.1 (omega (arith, a.q-below, f.u-new)) f.m-new.1 (λ e. old-new a.q-below f.u-new.0 (sym e)) (old-new a.q-below f.m-new.0) f.m-u)
    (cons (three-nodes n' v m t.r f.v-new.1 f.m-new.1 (omega (arith, a.r-below, f.m-new)) vm (λ e. old-new a.r-below f.m-new.0 (sym e)) (old-new a.r-below f.v-new.0))
    (cons (three-nodes n' m v u f.m-new.1 f.v-new.1 f.u-new.1 f.m-v vu um) nil)))

-- ---- arrows, corners, rows: counted

red-arrows : (e : Arrow) (t : Tri) (m : ℕ) (u v : Option ℕ) → tally (hits e) (parts (red t (Some m) u v)) ≤ allowed e t (Some m) u v
red-arrows e t m None v = bisected-laws.arrows e t m None v
red-arrows e t m (Some u) None = bisected-laws.arrows e t m (Some u) None
red-arrows e t m (Some u) (Some v) = omega arith

red-corners : (z : ℕ) (t : Tri) (m : ℕ) (u v : Option ℕ) → names z t ≤ tally (names z) (parts (red t (Some m) u v))
red-corners z t m None v = bisected-laws.corners z t m None v
red-corners z t m (Some u) None = bisected-laws.corners z t m (Some u) None
red-corners z t m (Some u) (Some v) = omega arith

red-middles : (z : ℕ) (t : Tri) (m : ℕ) (u v : Option ℕ) → here z m + here_if z u + here_if z v ≤ tally (names z) (parts (red t (Some m) u v))
red-middles z t m None v = bisected-laws.middles z t m None v
red-middles z t m (Some u) None = bisected-laws.middles z t m (Some u) None
red-middles z t m (Some u) (Some v) = omega arith

red-rows : (t : Tri) (m : ℕ) (u v : Option ℕ) → length (red t (Some m) u v).added ≡ suc (there u + there v)
red-rows t m None v = bisected-laws.rows t m None v
red-rows t m (Some u) None = bisected-laws.rows t m (Some u) None
red-rows t m (Some u) (Some v) = refl

pub red-laws : CutLaws red
red-laws = record {
  whole = λ t u v. refl;
  rows = red-rows;
  area = red-area;
  above = red-above;
  named = red-named;
  arrows = red-arrows;
  corners = red-corners;
  middles = red-middles;
}

-- HOWEVER A TRIANGLE IS QUARTERED, the cut has the laws of a cut: all that is said of splitting is said of both
pub quarters-laws : (q : Quarters) → CutLaws (cutting_of q)
quarters-laws Bisected = bisected-laws
quarters-laws Red = red-laws
