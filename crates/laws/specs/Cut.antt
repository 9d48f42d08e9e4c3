-- What the cut of one triangle must promise, so that splitting a mesh with it is lawful: a record of laws about one row (p, q, r)
-- and the midpoints m of q–r, u of p–q, v of r–p, where these edges are split. Of a mesh M only the places are looked at. Bisection has
-- the laws (see Bisected); another cut that has them refines as lawfully, for nothing above asks more. Assumes nothing.
use Rattle.std.specs.Prelude.{List, [], ◌∷◌, ◌≢◌, ◌≡◌, refl, ℕ, suc, ◌+◌, ◌≤◌, ◌<◌, pos, ◌<ℤ◌, length, Option, None, Some}
use Rattle.std.proofs.Common.{arith}
use Rattle.std.proofs.Math.IntN.{+ℤ_idr}
use Rattle.lists.specs.Lists.{All, nil, cons}
use Rattle.lists.specs.Tally.{tally}
use Rattle.meaning.specs.declared.Tri.{Tri}
use Rattle.meaning.specs.Mesh.{Mesh, Arrow, at, twice_area, sum}
use Rattle.meaning.specs.Lawful.{Named}
use Rattle.meaning.specs.Good.{Middle}
use Rattle.meaning.specs.Split.{Cut, cut, Cutting}
use Rattle.laws.specs.Edges.{hit, hits, here, names}

-- the rows of a cut, the one that keeps the father's place first
abbrev pub parts : Cut → List Tri
parts c = c.kept ∷ c.added

-- ---- midpoints, which may be absent

-- 1 if it is there
abbrev pub there : Option ℕ → ℕ
there None = 0
there (Some k) = 1

-- it stands at the midpoint of a and b
abbrev pub MidOf : Mesh → ℕ → ℕ → Option ℕ → Type 0
MidOf M a b None = Unit {0}
MidOf M a b (Some k) = Middle (at M k) (at M a) (at M b)

pub record Centred (M : Mesh) (t : Tri) (o u v : Option ℕ) : Type 0 where
  pub on-qr : MidOf M t.q t.r o
  pub on-pq : MidOf M t.p t.q u
  pub on-rp : MidOf M t.r t.p v

-- its number is n or above, and below n'
abbrev pub NewNode : ℕ → ℕ → Option ℕ → Type 0
NewNode n n' None = Unit {0}
NewNode n n' (Some k) = (n ≤ k) × (k < n')

-- no two of them are one node
abbrev pub Differ : Option ℕ → Option ℕ → Type 0
Differ None l = Unit {0}
Differ (Some k) None = Unit {0}
Differ (Some k) (Some l) = k ≢ l

pub record Fresh (n n' : ℕ) (o u v : Option ℕ) : Type 0 where
  pub m-new : NewNode n n' o
  pub u-new : NewNode n n' u
  pub v-new : NewNode n n' v
  pub m-u : Differ o u
  pub m-v : Differ o v
  pub u-v : Differ u v

-- ---- the edge table of a cut

-- an arrow a→b of the father: whole, or its two halves
abbrev pub outer : Arrow → ℕ → ℕ → Option ℕ → ℕ
outer e a b None = hit e a b
outer e a b (Some k) = hit e a k + hit e k b

-- an inner arrow k→l; none if an end is absent
abbrev pub way : Arrow → Option ℕ → Option ℕ → ℕ
way e None l = 0
way e (Some k) None = 0
way e (Some k) (Some l) = hit e k l

-- an inner edge, both ways round
abbrev pub seam : Arrow → Option ℕ → Option ℕ → ℕ
seam e k l = way e k l + way e l k

-- the father's three arrows; and the inner edges p–m, m–u, m–v, u–v, if its refinement edge is split
abbrev pub allowed : Arrow → Tri → Option ℕ → Option ℕ → Option ℕ → ℕ
allowed e t None u v = hits e t
allowed e t (Some m) u v =
    outer e t.q t.r (Some m) + outer e t.p t.q u + outer e t.r t.p v +
    seam e (Some t.p) (Some m) + seam e (Some m) u + seam e (Some m) v + seam e u v

-- 1 if it is z
abbrev pub here_if : ℕ → Option ℕ → ℕ
here_if z None = 0
here_if z (Some k) = here z k

-- ---- the laws

pub record CutLaws (c : Cutting) : Type 0 where
  -- a triangle whose refinement edge is not split stays
  pub whole : (t : Tri) (u v : Option ℕ) → c t None u v ≡ cut t []
  -- as many rows are added as edges are split
  pub rows : (t : Tri) (m : ℕ) (u v : Option ℕ) → length (c t (Some m) u v).added ≡ suc (there u + there v)
  -- the rows have the triangle's twice-area between them
  pub area : (M : Mesh) (t : Tri) (m : ℕ) (u v : Option ℕ) → Centred M t (Some m) u v →
      sum (twice_area M) (parts (c t (Some m) u v)) ≡ twice_area M t
  -- each above 0, if the triangle's is
  pub above : (M : Mesh) (t : Tri) (m : ℕ) (u v : Option ℕ) → Centred M t (Some m) u v → pos 0 <ℤ twice_area M t →
      All (λ k. pos 0 <ℤ twice_area M k) (parts (c t (Some m) u v))
  -- each names three nodes
  pub named : (n n' : ℕ) (t : Tri) (m : ℕ) (u v : Option ℕ) → Named n t → Fresh n n' (Some m) u v →
      All (Named n') (parts (c t (Some m) u v))
  -- no directed edge but those of the table, and none more often
  pub arrows : (e : Arrow) (t : Tri) (m : ℕ) (u v : Option ℕ) → tally (hits e) (parts (c t (Some m) u v)) ≤ allowed e t (Some m) u v
  -- no corner of the triangle is left out, and no midpoint
  pub corners : (z : ℕ) (t : Tri) (m : ℕ) (u v : Option ℕ) → names z t ≤ tally (names z) (parts (c t (Some m) u v))
  pub middles : (z : ℕ) (t : Tri) (m : ℕ) (u v : Option ℕ) → here z m + here_if z u + here_if z v ≤ tally (names z) (parts (c t (Some m) u v))

-- ---- the same, whatever is split

module _ {c : Cutting} (laws : CutLaws c) where
  pub cut-area : (M : Mesh) {t : Tri} {o u v : Option ℕ} → Centred M t o u v → sum (twice_area M) (parts (c t o u v)) ≡ twice_area M t
  cut-area M {t} {o = None} {u} {v} h = rw (laws.whole t u v) (+ℤ_idr (twice_area M t))
  cut-area M {t} {o = Some m} {u} {v} h = laws.area M t m u v h

  pub cut-above : (M : Mesh) {t : Tri} {o u v : Option ℕ} → Centred M t o u v → pos 0 <ℤ twice_area M t → All (λ k. pos 0 <ℤ twice_area M k) (parts (c t o u v))
  cut-above M {t} {o = None} {u} {v} h a = rw (laws.whole t u v) (cons a nil)
  cut-above M {t} {o = Some m} {u} {v} h a = laws.above M t m u v h a

  pub cut-named : (n n' : ℕ) → n ≤ n' → {t : Tri} {o u v : Option ℕ} → Named n t → Fresh n n' o u v → All (Named n') (parts (c t o u v))
  cut-named n n' le {t} {o = None} {u} {v} a f = let g : Named n' t = omega arith in rw (laws.whole t u v) (cons g nil)
  cut-named n n' le {t} {o = Some m} {u} {v} a f = laws.named n n' t m u v a f

  pub cut-arrows : (e : Arrow) (t : Tri) (o u v : Option ℕ) → tally (hits e) (parts (c t o u v)) ≤ allowed e t o u v
  cut-arrows e t None u v = rw (laws.whole t u v) (omega arith)
  cut-arrows e t (Some m) u v = laws.arrows e t m u v

  pub cut-corners : (z : ℕ) (t : Tri) (o u v : Option ℕ) → names z t ≤ tally (names z) (parts (c t o u v))
  cut-corners z t None u v = rw (laws.whole t u v) (omega arith)
  cut-corners z t (Some m) u v = laws.corners z t m u v

  -- where no other edge is split without the refinement edge
  pub cut-rows : (t : Tri) (o u v : Option ℕ) → (there o ≡ 0 → (there u ≡ 0) × (there v ≡ 0)) → length (c t o u v).added ≡ there o + there u + there v
  cut-rows t None u v h = rw (laws.whole t u v) (let g = h refl in omega arith)
  cut-rows t (Some m) u v h = let g = laws.rows t m u v in omega arith
