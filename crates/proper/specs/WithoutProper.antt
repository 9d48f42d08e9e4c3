-- Taking nodes that meet G1 to G4, with a pair each of its own, out of a lawful mesh keeps it proper. A point of a father is a point of one
-- of the brothers: half the weight of the node that goes goes to each of b and c. So two sums of the rows after are two of the rows
-- before, and a node that goes with weight tells its pair. Assumes nothing.
use Rattle.std.specs.Prelude.{true, false, ◌≡◌, ℕ, zero, suc, ◌+◌, ◌*◌, ◌-◌, ◌≤◌, ◌<◌, ℤ, pos, ◌+ℤ◌, ◌*ℤ◌}
use mathlib.Core.List.{List, [], ◌∷◌, Memᴰ}
use Rattle.std.proofs.Math.Path.{refl}
use Rattle.std.proofs.Common.{sym, ap, subst, ◌∙◌, arith}
use Rattle.std.proofs.Math.Decide.{dec_le}
use Rattle.lists.specs.Lists.{joined, All}
use Rattle.lists.specs.ListsLaw.{clash, All-imp, All-both, All-at, All-map, any_at}
use Rattle.whole.specs.Diff.{onℤ, sumℤ}
use Rattle.whole.specs.Ring.{X, K, ◌:+◌, ◌:*◌, solve, ring2}
use Rattle.meaning.specs.declared.Place.{Place}
use Rattle.meaning.specs.declared.Tri.{Tri}
use Rattle.meaning.specs.Mesh.{Mesh, edge, holds_node, at}
use Rattle.meaning.specs.Lawful.{Lawful}
use Rattle.meaning.specs.Good.{Middle, Brothers, father, span}
use Rattle.meaning.specs.Coarsen.{fate, renumber, renamed, taken, without, coarsened}
use Rattle.meaning.specs.Proper.{Proper}
use Rattle.laws.specs.Area.{ends-sum}
use Rattle.laws.specs.Edges.{holds-p, holds-q, holds-r}
use Rattle.laws.specs.Star.{Pair}
use Rattle.laws.specs.CoarsenRows.{Takeable, touched, brood, newest-of, broods, after-all}
use Rattle.laws.specs.Without.{Sound, rows-sound, without_at, without-lawful}
use Rattle.laws.specs.Coarsen.{takeable}
use Rattle.laws.specs.RowMean.{CornerOf, is-p, is-q, is-r}
use Rattle.proper.specs.Sums.{Sum, Mix, mix, level, SamePoint, SameSum, Meant, point-from, Faithful}
use Rattle.proper.specs.ProperFaithful.{proper-faithful}
use Rattle.proper.specs.Corners.{weight_of, same-weight, corner-of-weight, weight-p}
use Rattle.proper.specs.FaithfulProper.{faithful-proper}

-- the two ends of an edge, in either order
edge-sum : (φ : ℕ → ℤ) (a b c d : ℕ) → edge a b ≡ edge c d → φ a +ℤ φ b ≡ φ c +ℤ φ d
edge-sum φ a b c d e = sym (ends-sum φ a b) ∙ ap (λ x. φ x.lo +ℤ φ x.hi) e ∙ ends-sum φ c d

holds-corner : {k : ℕ} (t : Tri) → CornerOf t k → holds_node k t ≡ true
holds-corner t is-p = holds-p t
holds-corner t is-q = holds-q t
holds-corner t is-r = holds-r t

-- ---- two sides with a term each, by a weight n

no-half : (n : ℕ) (f g u v : ℤ) → n ≡ 0 → f +ℤ pos (2 * n) *ℤ u ≡ g +ℤ pos n *ℤ v → f ≡ g
no-half n f g u v e s =
    ring2 (λ f u. (f, f :+ K (pos 0) :* u)) f u tt ∙ subst (λ k. f +ℤ pos (2 * k) *ℤ u ≡ g +ℤ pos k *ℤ v) e s ∙ ring2 (λ g v. (g :+ K (pos 0) :* v, g)) g v tt

cancel : (u v w : ℤ) → u +ℤ w ≡ v +ℤ w → u ≡ v
cancel u v w e = omega (arith, onℤ, sumℤ u w, sumℤ v w)

even-halves : (n : ℕ) (f g z v : ℤ) → z +ℤ z ≡ v → f +ℤ pos (2 * n) *ℤ z ≡ g +ℤ pos n *ℤ v → f ≡ g
even-halves n f g z v e s = cancel f g (pos (2 * n) *ℤ z) (s ∙ ap (λ w. g +ℤ w) (ap (λ w. pos n *ℤ w) (sym e) ∙ ring2 (λ n z. (n :* (z :+ z), K (pos 2) :* n :* z)) (pos n) z tt))

module _ (m : Mesh) (zs : List ℕ) (law : Lawful m) (ok : Takeable m zs) where
  -- F is, in the rows before, the sum of a child; half the weight of z has gone to each of b and c
  record Down (F : Sum) : Type 0 where
    child : Mix
    is_row : Memᴰ child.row m.tris
    half : ℕ
    z : ℕ
    b : ℕ
    c : ℕ
    middle : 0 < half → Middle (at m z) (at m b) (at m c)
    goes : 0 < half → Memᴰ z zs × (edge b c ≡ span m z) × (weight_of child z ≡ 2 * half)
    met : (y : ℕ) → Memᴰ y zs → CornerOf child.row y → (y ≡ z) × (edge b c ≡ span m z) × (weight_of child z ≡ 2 * half)
    sum : (φ : ℕ → ℤ) → F φ +ℤ pos (2 * half) *ℤ φ z ≡ level child φ +ℤ pos half *ℤ (φ b +ℤ φ c)

  -- each sum of the corners of row t
  abbrev Downs : Tri → Type 0
  Downs t = (α β γ : ℕ) → Down (level (mix t α β γ))

  newest : {t : Tri} → Memᴰ t m.tris → (y : ℕ) → Memᴰ y zs → CornerOf t y → t.p ≡ y
  newest {t} i y j h = newest-of m zs law ok y t j i (holds-corner t h)

  -- ---- a row that stays

  kept : (t : Tri) → Memᴰ t m.tris → touched zs t ≡ false → Downs t
  kept t i n α β γ = record {
    child = mix t α β γ;
    is_row = i;
    half = 0;
    z = 0;
    b = 0;
    c = 0;
    middle = λ h. absurd (omega arith);
    goes = λ h. absurd (omega arith);
    met = λ y j h. absurd (none y j h);
    sum = λ φ. ring2 (λ f z. (f :+ K (pos 0) :* z, f :+ K (pos 0) :* (z :+ z))) (level (mix t α β γ) φ) (φ 0) tt;
  }
    where
      none : (y : ℕ) → Memᴰ y zs → CornerOf t y → ⊥
      none y j h = clash (sym (any_at (λ z. holds_node z t) (holds-corner t h) j) ∙ n)

  -- ---- a father

  module _ {br : Brothers} (z : ℕ) (j : Memᴰ z zs) (pair : Pair m z br) where
    -- by a child u that has z first
    by-child : {F : Sum} (u : Tri) → Memᴰ u m.tris → u.p ≡ z → (half α β : ℕ) →
        ((φ : ℕ → ℤ) → F φ +ℤ pos (2 * half) *ℤ φ z ≡ level (mix u (2 * half) α β) φ +ℤ pos half *ℤ (φ br.left.r +ℤ φ br.right.q)) → Down F
    by-child u i e half α β sum = record {
      child = mix u (2 * half) α β;
      is_row = i;
      half = half;
      z = z;
      b = br.left.r;
      c = br.right.q;
      middle = λ h. pair.middle;
      goes = λ h. (j, pair.ends, z-weight);
      met = λ y k h. (sym (newest i y k h) ∙ e, pair.ends, z-weight);
      sum = sum;
    }
      where
        z-weight : weight_of (mix u (2 * half) α β) z ≡ 2 * half
        z-weight = subst (λ k. weight_of (mix u (2 * half) α β) k ≡ 2 * half) e (weight-p u (All-at law.named i) (2 * half) α β)

    left_down : (α β γ : ℕ) → γ ≤ β → Down (level (mix (father br) α β γ))
    left_down α β γ le = by-child br.left pair.left-row pair.left-p γ α (β - γ)
        (λ φ.
        (let e : β ≡ (β - γ) + γ = omega arith in
        (λ i. pos α *ℤ φ br.left.q +ℤ pos (e i) *ℤ φ br.left.r +ℤ pos γ *ℤ φ br.right.q +ℤ pos (2 * γ) *ℤ φ (sym pair.left-p i))
        ∙ solve (pos α ∷ pos (β - γ) ∷ pos γ ∷ φ br.left.p ∷ φ br.left.q ∷ φ br.left.r ∷ φ br.right.q ∷ [])
        (X 0 :* X 4 :+ (X 1 :+ X 2) :* X 5 :+ X 2 :* X 6 :+ K (pos 2) :* X 2 :* X 3) (K (pos 2) :* X 2 :* X 3 :+ X 0 :* X 4 :+ X 1 :* X 5 :+ X 2 :* (X 5 :+ X 6)) tt))

    right-down : (α β γ : ℕ) → β ≤ γ → Down (level (mix (father br) α β γ))
    right-down α β γ le = by-child br.right pair.right-row pair.right-p β (γ - β) α
        (λ φ.
        (let e : γ ≡ (γ - β) + β = omega arith in
        (λ i. pos α *ℤ φ (sym pair.joint i) +ℤ pos β *ℤ φ br.left.r +ℤ pos (e i) *ℤ φ br.right.q +ℤ pos (2 * β) *ℤ φ (sym pair.right-p i))
        ∙ solve (pos α ∷ pos (γ - β) ∷ pos β ∷ φ br.right.p ∷ φ br.right.q ∷ φ br.right.r ∷ φ br.left.r ∷ [])
        (X 0 :* X 5 :+ X 2 :* X 6 :+ (X 1 :+ X 2) :* X 4 :+ K (pos 2) :* X 2 :* X 3) (K (pos 2) :* X 2 :* X 3 :+ X 1 :* X 4 :+ X 0 :* X 5 :+ X 2 :* (X 6 :+ X 4)) tt))

    father-down : Downs (father br)
    father-down α β γ = go (dec_le γ β)
      where
        go : Dec (γ ≤ β) → Down (level (mix (father br) α β γ))
        go (yes h) = left_down α β γ h
        go (no h) = right-down α β γ (omega arith)

  -- the rows after, by their old numbers
  rows-down : All Downs (joined (fate (brood m zs)) m.tris)
  rows-down = after-all m zs law ok (All-imp (λ b h. father-down h.0 h.1 h.2) (broods m zs law ok)) kept

  -- ---- sums of rows after

  -- no weight has gone
  child-only : {F : Sum} (D : Down F) → D.half ≡ 0 → SameSum F (level D.child)
  child-only D e φ = no-half D.half _ _ (φ D.z) (φ D.b +ℤ φ D.c) e (D.sum φ)

  -- at a point the sum is the child's
  same-as-child : {F : Sum} (D : Down F) (f : Place → ℤ) → Meant f → F (λ k. f (at m k)) ≡ level D.child (λ k. f (at m k))
  same-as-child {F} D f h = go D.half refl
    where
      go : (n : ℕ) → D.half ≡ n → F (λ k. f (at m k)) ≡ level D.child (λ k. f (at m k))
      go zero e = child-only D e (λ k. f (at m k))
      go (suc n) e =
          even-halves D.half _ _ (f (at m D.z)) (f (at m D.b) +ℤ f (at m D.c))
          (h (at m D.z) (at m D.b) (at m D.c) (D.middle (omega arith))) (D.sum (λ k. f (at m k)))

  -- a node that goes with weight tells its pair, and the weight
  same-gone : {F G : Sum} (D : Down F) (E : Down G) → SameSum (level D.child) (level E.child) → 0 < D.half → SameSum F G
  same-gone {F} {G} D E e h φ =
      let g = D.goes h in
      let w = same-weight D.child E.child e D.z in
      let o = E.met D.z g.0 (corner-of-weight E.child D.z (omega (arith, g.2, w))) in
      let w' : weight_of E.child D.z ≡ weight_of E.child E.z = ap (weight_of E.child) o.0 in
      let n : D.half ≡ E.half = omega (arith, g.2, o.2, w, w') in
      let pair = edge-sum φ D.b D.c E.b E.c (g.1 ∙ ap (span m) o.0 ∙ sym o.1) in
      cancel (F φ) (G φ) (pos (2 * D.half) *ℤ φ D.z)
      (D.sum φ ∙ (λ i. e φ i +ℤ pos (n i) *ℤ pair i) ∙ sym (E.sum φ) ∙ (λ i. G φ +ℤ pos (2 * sym n i) *ℤ φ (sym o.0 i)))

  same_sum : {F G : Sum} (D : Down F) (E : Down G) → SameSum (level D.child) (level E.child) → SameSum F G
  same_sum {F} {G} D E e = go D.half refl E.half refl
    where
      go : (a : ℕ) → D.half ≡ a → (b : ℕ) → E.half ≡ b → SameSum F G
      go zero p zero q φ = child-only D p φ ∙ e φ ∙ sym (child-only E q φ)
      go (suc a) p b q φ = same-gone D E e (omega arith) φ
      go zero p (suc b) q φ = sym (same-gone E D (λ ψ. sym (e ψ)) (omega arith) φ)

  -- ---- the mesh

  -- a row after is an old one, or a father, with new numbers
  rows-after : All (λ k. (t : Tri) × (k ≡ renamed zs t) × Sound m zs t × Downs t) (without m zs).tris
  unfolding without
  rows-after = All-map (renamed zs) (All-imp (λ t r. (t, refl, r.0, r.1)) (All-both (rows-sound m zs law ok) rows-down))

  -- a node that stays keeps its place
  places-kept : (f : Place → ℤ) {t : Tri} → Sound m zs t → (α β γ : ℕ) → level (mix t α β γ) (λ k. f (at m k)) ≡ level (mix (renamed zs t) α β γ) (λ k. f (at (without m zs) k))
  places-kept f {t} r α β γ =
      let N = r.named in
      let p = sym (without_at m zs t.p N.p-below r.p-stays) in
      let q = sym (without_at m zs t.q N.q-below r.q-stays) in
      let o = sym (without_at m zs t.r N.r-below r.r-stays) in
      λ i. pos α *ℤ f (p i) +ℤ pos β *ℤ f (q i) +ℤ pos γ *ℤ f (o i)

  module _ (faithful : Faithful m) where
    renamed-sum : {t u : Tri} → Sound m zs t → Sound m zs u → (α β γ α' β' γ' : ℕ) → Down (level (mix t α β γ)) → Down (level (mix u α' β' γ'))
        → SamePoint (without m zs) (level (mix (renamed zs t) α β γ)) (level (mix (renamed zs u) α' β' γ'))
        → SameSum (level (mix (renamed zs t) α β γ)) (level (mix (renamed zs u) α' β' γ'))
    renamed-sum {t} {u} r s α β γ α' β' γ' D E same φ = same_sum D E (faithful.one-sum D.child E.child D.is_row E.is_row below) (λ k. φ (renumber zs k))
      where
        below : SamePoint m (level D.child) (level E.child)
        below = point-from m (without m zs) (level D.child) (level E.child) (level (mix (renamed zs t) α β γ)) (level (mix (renamed zs u) α' β' γ'))
            (λ f h e. sym (same-as-child D f h) ∙ places-kept f r α β γ ∙ e ∙ sym (places-kept f s α' β' γ') ∙ same-as-child E f h) same

    without-faithful : Faithful (without m zs)
    without-faithful = record {
      one-sum = λ s u i j same φ.
          (let a = All-at rows-after i in
          let b = All-at rows-after j in
          let is-s : (ψ : ℕ → ℤ) → level s ψ ≡ level (mix (renamed zs a.0) s.a s.b s.c) ψ = λ ψ. ap (λ t. level (mix t s.a s.b s.c) ψ) a.1 in
          let is-u : (ψ : ℕ → ℤ) → level u ψ ≡ level (mix (renamed zs b.0) u.a u.b u.c) ψ = λ ψ. ap (λ t. level (mix t u.a u.b u.c) ψ) b.1 in
          is-s φ ∙ renamed-sum a.2 b.2 s.a s.b s.c u.a u.b u.c (a.3 s.a s.b s.c) (b.3 u.a u.b u.c) (λ ψ k. sym (is-s ψ) ∙ same ψ k ∙ is-u ψ) φ ∙ sym (is-u φ));
    }

  -- TAKING SUCH NODES KEEPS A LAWFUL MESH PROPER
  pub without-proper : Proper m → Proper (without m zs)
  without-proper P = faithful-proper (without m zs) (without-lawful m zs law ok) (without-faithful (proper-faithful m law P))

-- COARSENING KEEPS A LAWFUL MESH PROPER
pub coarsened-proper : (n0 : ℕ) (m : Mesh) (marks : List ℕ) → Lawful m → Proper m → Proper (coarsened n0 m marks)
unfolding coarsened
coarsened-proper n0 m marks law P = without-proper m (taken n0 m marks) law (takeable n0 m marks law) P
