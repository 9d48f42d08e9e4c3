-- The rows of a mesh by number, as corners; what tests say of them; the rows of a lawful, compatibly labelled base. Assumes nothing.
use Rattle.std.specs.Prelude.{Bool, true, false, ◌||◌, ◌≢◌, ◌≡◌, refl, ℕ, min, max, ◌≤◌, ◌<◌, eqb, length}
use mathlib.Core.List.{List, map, Memᴰ}
use Rattle.std.proofs.Common.{sym, subst, ap, ap₂, ◌∙◌, arith, eqb-true, eq-eqb}
use Rattle.std.proofs.Math.Decide.{dec_lt}
use Rattle.std.proofs.lemmas.List.{length-map}
use Rattle.std.proofs.Math.ListN.{get_or-map}
use Rattle.std.proofs.lemmas.Bool.{eqb-false}
use Rattle.lists.specs.ListsLaw.{clash, or_left, or_right, All-at, All-get_or, any_at, any-row}
use Rattle.lists.specs.MembersLaw.{mem-at, at_mem, count-some}
use Rattle.meaning.specs.declared.Tri.{Tri}
use Rattle.meaning.specs.Mesh.{Mesh, tri, arrow, edge, edges, same_edge, holds_node, holds_edge}
use Rattle.meaning.specs.Lawful.{Lawful, Named, row_of}
use Rattle.meaning.specs.Lawful as Meaning
use Rattle.laws.specs.Edges.{edge-comm, same_edge-eq, same_edge-refl, hits, hit-self, count-arrows}
use Rattle.laws.specs.Pairs.{two-places}
use Rattle.growth.specs.Labels.Names.{Same, straight, crossed}
use Rattle.growth.specs.Labels.Corners.{Corners, row, Holds, is-p, is-q, is-r, Edge, edge-qr, edge-pq, edge-rp, Arrow, arrow-qr, arrow-pq, arrow-rp, Distinct}
use Rattle.growth.specs.Labels.Levels.{Compatible}
use Rattle.growth.specs.Labels.Named.{RowsOnce}

abbrev pub three : Tri → Corners ℕ
three t = record { p = t.p; q = t.q; r = t.r }

-- Row j of a mesh, and all of them.
abbrev pub rows : Mesh → ℕ → Corners ℕ
rows m j = three (row_of m.tris j)

abbrev pub all-rows : Mesh → List (Corners ℕ)
all-rows m = map three m.tris

pub row-is-three : (m : Mesh) (j : ℕ) → row (all-rows m) j ≡ rows m j
row-is-three m j = get_or-map three m.tris j (tri 0 0 0)

pub rows-length : (m : Mesh) → length (all-rows m) ≡ length m.tris
rows-length m = length-map m.tris three

-- ---- corners

pub node-holds : (z : ℕ) (t : Tri) → holds_node z t ≡ true → Holds z (three t)
node-holds z t h = go (eqb t.p z) refl (eqb t.q z) refl (eqb t.r z) refl h
  where
    go : (a : Bool) → eqb t.p z ≡ a → (b : Bool) → eqb t.q z ≡ b → (c : Bool) → eqb t.r z ≡ c → a || b || c ≡ true → Holds z (three t)
    go true e b f c g h = is-p (sym (eqb-true _ _ e))
    go false e true f c g h = is-q (sym (eqb-true _ _ f))
    go false e false f true g h = is-r (sym (eqb-true _ _ g))
    go false e false f false g h = clash (sym h)

pub holds-node : (z : ℕ) (t : Tri) → Holds z (three t) → holds_node z t ≡ true
holds-node z t (is-p e) = or_left (eqb t.r z) (or_left (eqb t.q z) (eq-eqb _ _ (sym e)))
holds-node z t (is-q e) = or_left (eqb t.r z) (or_right (eqb t.p z) (eq-eqb _ _ (sym e)))
holds-node z t (is-r e) = or_right (eqb t.p z || eqb t.q z) (eq-eqb _ _ (sym e))

-- ---- edges

pub same-of-edge : (a b c d : ℕ) → edge a b ≡ edge c d → Same a b c d
same-of-edge a b c d e =
    let l : min a b ≡ min c d = ap (λ x. x.lo) e in
    let h : max a b ≡ max c d = ap (λ x. x.hi) e in
    go l h (eqb a c) refl
  where
    go : min a b ≡ min c d → max a b ≡ max c d → (t : Bool) → eqb a c ≡ t → Same a b c d
    go l h true w = let w' = eqb-true a c w in straight w' (omega arith)
    go l h false w = let w' : a ≢ c = eqb-false a c w in crossed (omega arith) (omega arith)

pub same-edge : {a b c d : ℕ} → Same a b c d → edge a b ≡ edge c d
same-edge (straight e f) = ap₂ edge e f
same-edge {a} {b} (crossed e f) = edge-comm a b ∙ ap₂ edge f e

pub edge-mem : (t : Tri) (a b : ℕ) → Edge (three t) a b → Memᴰ (edge a b) (edges t)
edge-mem t a b (edge-qr s) = Memᴰ.head (same-edge s)
edge-mem t a b (edge-pq s) = Memᴰ.tail (Memᴰ.head (same-edge s))
edge-mem t a b (edge-rp s) = Memᴰ.tail (Memᴰ.tail (Memᴰ.head (same-edge s)))

pub mem-edge : (t : Tri) (a b : ℕ) → Memᴰ (edge a b) (edges t) → Edge (three t) a b
mem-edge t a b (Memᴰ.head e) = edge-qr (same-of-edge a b _ _ e)
mem-edge t a b (Memᴰ.tail (Memᴰ.head e)) = edge-pq (same-of-edge a b _ _ e)
mem-edge t a b (Memᴰ.tail (Memᴰ.tail (Memᴰ.tail i))) = elim i [ ]
mem-edge t a b (Memᴰ.tail (Memᴰ.tail (Memᴰ.head e))) = edge-rp (same-of-edge a b _ _ e)

pub edge-held : (t : Tri) (a b : ℕ) → holds_edge (edge a b) t ≡ true → Edge (three t) a b
edge-held t a b h =
    let r = any-row (same_edge (edge a b)) (edges t) h in
    mem-edge t a b (subst (λ e. Memᴰ e (edges t)) (sym (same_edge-eq (edge a b) r.0 r.2)) r.1)

held-edge : (t : Tri) (a b : ℕ) → Edge (three t) a b → holds_edge (edge a b) t ≡ true
held-edge t a b h = any_at (same_edge (edge a b)) (same_edge-refl (edge a b)) (edge-mem t a b h)

-- ---- arrows

arrow-hits : (t : Tri) (a b : ℕ) → Arrow (three t) a b → 1 ≤ hits (arrow a b) t
arrow-hits t a b (arrow-pq e f) = rw (e, f) (omega (arith, hit-self t.p t.q))
arrow-hits t a b (arrow-qr e f) = rw (e, f) (omega (arith, hit-self t.q t.r))
arrow-hits t a b (arrow-rp e f) = rw (e, f) (omega (arith, hit-self t.r t.p))

module _ (m : Mesh) (law : Lawful m) where
  -- No directed edge is in two rows.
  pub arrow-in-one-row : RowsOnce (length m.tris) (rows m)
  arrow-in-one-row j k lj lk a b u v = go (dec_lt j k) (dec_lt k j)
    where
      twice : (i l : ℕ) → i < l → l < length m.tris → Arrow (rows m i) a b → Arrow (rows m l) a b → ⊥
      twice i l h ll x y =
          omega (
            arith,
            two-places (hits (arrow a b)) m.tris (tri 0 0 0) i l h ll,
            count-arrows (arrow a b) m.tris,
            law.no_twice (arrow a b),
            arrow-hits (row_of m.tris i) a b x,
            arrow-hits (row_of m.tris l) a b y,
          )

      go : Dec (j < k) → Dec (k < j) → j ≡ k
      go (yes h) _ = absurd (twice j k h lk u v)
      go (no _) (yes h) = absurd (twice k j h lj v u)
      go (no h) (no g) = omega arith

  pub corners-named : (j : ℕ) → j < length m.tris → Named (length m.nodes) (row_of m.tris j)
  corners-named j l = All-get_or law.named j (tri 0 0 0) l

  nodes-below : (j : ℕ) → j < length m.tris → (x : ℕ) → Holds x (rows m j) → x < length m.nodes
  nodes-below j l x (is-p e) = rw e (corners-named j l).p-below
  nodes-below j l x (is-q e) = rw e (corners-named j l).q-below
  nodes-below j l x (is-r e) = rw e (corners-named j l).r-below

  node-used : (z : ℕ) → z < length m.nodes → (j : ℕ) × (j < length m.tris) × Holds z (rows m j)
  node-used z l =
      let (t, i, e) = count-some (holds_node z) m.tris (law.used z l) in
      let (j, lj, f) = mem-at (tri 0 0 0) i in
      (j, lj, subst (λ (u : Tri). Holds z (three u)) (sym f) (node-holds z t e))

  -- ---- as the rows of a base

  pub base-below : (j : ℕ) → j < length (all-rows m) → (x : ℕ) → Holds x (row (all-rows m) j) → x < length m.nodes
  base-below j l x h = nodes-below j (omega (arith, rows-length m)) x (subst (Holds x) (row-is-three m j) h)

  pub base-used : (k : ℕ) → k < length m.nodes → (j : ℕ) × (j < length (all-rows m)) × Holds k (row (all-rows m) j)
  base-used k l = let (j, lj, h) = node-used k l in (j, omega (arith, rows-length m), subst (Holds k) (sym (row-is-three m j)) h)

  pub base-compatible : Meaning.Compatible m → Compatible (all-rows m)
  base-compatible c = record { distinct = distinct; agrees = agrees }
    where
      distinct : (i : ℕ) → i < length (all-rows m) → Distinct (row (all-rows m) i)
      distinct i l = let h = corners-named i (omega (arith, rows-length m)) in rw (row-is-three m i) (record { p≢q = h.p≢q; q≢r = h.q≢r; r≢p = h.r≢p })

      two : (t u : Tri) → Memᴰ t m.tris → Memᴰ u m.tris → Edge (three u) t.q t.r → Same t.q t.r u.q u.r
      two t u i j e = same-of-edge _ _ _ _ (All-at (All-at c i) j (held-edge u t.q t.r e))

      agrees : (i j : ℕ) → i < length (all-rows m) → j < length (all-rows m) → Edge (row (all-rows m) i) (row (all-rows m) j).q (row (all-rows m) j).r
          → Same (row (all-rows m) j).q (row (all-rows m) j).r (row (all-rows m) i).q (row (all-rows m) i).r
      agrees i j li lj e =
          rw (row-is-three m i, row-is-three m j)
          (two (row_of m.tris j) (row_of m.tris i) (at_mem m.tris j (tri 0 0 0) (omega (arith, rows-length m))) (at_mem m.tris i (tri 0 0 0) (omega (arith, rows-length m)))
          (rw (row-is-three m i, row-is-three m j) at e))
