-- Refining keeps a mesh grown from a base: bisection along the closure of any starting edges. Assumes nothing.
use Rattle.std.specs.Prelude.{Bool, true, false, ◌≡◌, refl, ℕ, min, max, ◌+◌, ◌-◌, ◌≤◌, ◌<◌, length, Option, Some, None}
use mathlib.Core.List.{List, ◌++◌, map, Memᴰ}
use Rattle.std.proofs.Common.{sym, subst, subst₂, ◌∙◌, arith}
use Rattle.std.proofs.Math.Path.{ap}
use Rattle.std.proofs.Math.ListN.{get_or, get_or-map}
use Rattle.std.proofs.lemmas.List.{length-map}
use Rattle.lists.specs.Lists.{all, where_first}
use Rattle.lists.specs.ListsLaw.{clash, All-at, All-get_or, all_yes, any_at, any-row, WhereIs, nowhere, place_of, where-is}
use Rattle.lists.specs.MembersLaw.{mem-at, at_mem}
use Rattle.meaning.specs.declared.Tri.{Tri}
use Rattle.meaning.specs.Mesh.{Mesh, Edge, tri, edge, edges, same_edge, at}
use Rattle.meaning.specs.Lawful.{row_of}
use Rattle.meaning.specs.Good.{Middle}
use Rattle.meaning.specs.Split.{Way, bisected, mem_edge, plus, number_of, halves, midpoint, split_edges, split_at, split, started, refined}
use Rattle.meaning.specs.Tables.{Room}
use Rattle.meaning.specs.Calls.{refine_no}
use Rattle.laws.specs.Area.{middle-either}
use Rattle.laws.specs.Refine.{refine-halves}
use Rattle.laws.specs.Edges.{edge-comm, same_edge-eq, mem_edge-in}
use Rattle.laws.specs.Closure.{split_edges-within, split_edges-apart, split_edges-pull}
use Rattle.laws.specs.Bisected.{bisected-laws}
use Rattle.laws.specs.Midpoints.{midpoint-middle, split_at-nodes, node-old, at_old, at_new}
use Rattle.laws.specs.SplitLaw.{split-lawful}
use Rattle.growth.specs.Labels.Corners.{Corners}
use Rattle.growth.specs.Labels.Corners as Corners
use Rattle.growth.specs.Labels.Groups.{total, total-same}
use Rattle.growth.specs.Labels.Pieces.{ask}
use Rattle.growth.specs.Labels.RowCuts.{first-row, more_rows, ClosedRows}
use Rattle.growth.specs.Labels.GrownRefined.{Halving, stays, appends, get_d_default, grown-refined}
use Rattle.growth.specs.Rows.{three, rows, same-of-edge, same-edge, edge-mem, mem-edge}
use Rattle.growth.specs.GrownFrom.{GrownFrom}
use Rattle.growth.specs.SplitRows.{cut_at, rows-ahead, split-count, row-of-kept, row-of-added}

-- ---- one triangle

abbrev number : Option ℕ → ℕ
number None = 0
number (Some k) = k

-- An edge with the number k, if it is split.
data Agrees (k : ℕ) : Bool → Option ℕ → Type 0 where
  is-split : Agrees k true (Some k)
  is_whole : Agrees k false None

module _ (num : ℕ → ℕ → ℕ) (t : Tri) where
  kept-is : {o u v : Option ℕ} {x y z : Bool} → Agrees (num t.q t.r) x o → Agrees (num t.p t.q) y u → Agrees (num t.r t.p) z v
      → three (bisected t o u v).kept ≡ first-row num x y (three t)
  kept-is is_whole u v = refl
  kept-is is-split is_whole is_whole = refl
  kept-is is-split is-split is_whole = refl
  kept-is is-split is_whole is-split = refl
  kept-is is-split is-split is-split = refl

  cut-adds : {o u v : Option ℕ} {x y z : Bool} → Agrees (num t.q t.r) x o → Agrees (num t.p t.q) y u → Agrees (num t.r t.p) z v
      → map three (bisected t o u v).added ≡ more_rows num x y z (three t)
  cut-adds is_whole u v = refl
  cut-adds is-split is_whole is_whole = refl
  cut-adds is-split is-split is_whole = refl
  cut-adds is-split is_whole is-split = refl
  cut-adds is-split is-split is-split = refl

-- An edge of a triangle has its lower end first.
edge-norm : (t : Tri) (e : Edge) → Memᴰ e (edges t) → edge e.lo e.hi ≡ e
edge-norm t e i = go i
  where
    norm : (a b : ℕ) → e ≡ edge a b → edge e.lo e.hi ≡ e
    norm a b f =
        let l : min (min a b) (max a b) ≡ min a b = omega arith in
        let h : max (min a b) (max a b) ≡ max a b = omega arith in
        ap (λ (d : Edge). edge d.lo d.hi) f ∙ (λ k. record { lo = l k; hi = h k }) ∙ sym f

    go : Memᴰ e (edges t) → edge e.lo e.hi ≡ e
    go (Memᴰ.head f) = norm _ _ f
    go (Memᴰ.tail (Memᴰ.head f)) = norm _ _ f
    go (Memᴰ.tail (Memᴰ.tail (Memᴰ.tail i))) = elim i [ ]
    go (Memᴰ.tail (Memᴰ.tail (Memᴰ.head f))) = norm _ _ f

-- ---- the mesh split along the edges s

module _ (m : Mesh) (s : List Edge) where
  -- Where an edge of s stands.
  record Spot (e : Edge) : Type 0 where
    index : ℕ
    below : index < length s
    is : get_or s index (edge 0 0) ≡ e
    found : where_first (same_edge e) s ≡ Some index

  spot : (e : Edge) → mem_edge e s ≡ true → Spot e
  spot e h = go (where_first (same_edge e) s) refl (where-is (same_edge e) s (edge 0 0))
    where
      go : (o : Option ℕ) → where_first (same_edge e) s ≡ o → WhereIs (same_edge e) s (edge 0 0) o → Spot e
      go o f (nowhere n) = let r = any-row (same_edge e) s h in clash (sym r.2 ∙ All-at n r.1)
      go o f (place_of i l t) = record { index = i; below = l; is = sym (same_edge-eq e (get_or s i (edge 0 0)) t); found = f }

  -- An edge that is split, and its number.
  abbrev Split : ℕ → ℕ → Type 0
  Split a b = mem_edge (edge a b) s ≡ true

  split? : (a b : ℕ) → Dec (Split a b)
  split? a b = go (mem_edge (edge a b) s) refl
    where
      go : (x : Bool) → mem_edge (edge a b) s ≡ x → Dec (mem_edge (edge a b) s ≡ true)
      go true e = yes e
      go false e = no (λ h. clash (sym h ∙ e))

  abbrev num : ℕ → ℕ → ℕ
  num a b = number (number_of (length m.nodes) s (edge a b))

  num-at : (a b : ℕ) (S : Spot (edge a b)) → num a b ≡ length m.nodes + S.index
  num-at a b S = ap (λ (o : Option ℕ). number (plus (length m.nodes) o)) S.found

  agrees : (a b : ℕ) (d : Dec (Split a b)) → Agrees (num a b) (ask d) (number_of (length m.nodes) s (edge a b))
  agrees a b (yes h) =
      let S = spot (edge a b) h in
      subst (λ (o : Option ℕ). Agrees (num a b) true o) (sym (ap (plus (length m.nodes)) S.found ∙ ap Some (sym (num-at a b S)))) is-split
  agrees a b (no n) = go (where_first (same_edge (edge a b)) s) refl (where-is (same_edge (edge a b)) s (edge 0 0))
    where
      go : (o : Option ℕ) → where_first (same_edge (edge a b)) s ≡ o → WhereIs (same_edge (edge a b)) s (edge 0 0) o → Agrees (num a b) false (plus (length m.nodes) (where_first (same_edge (edge a b)) s))
      go o f (nowhere _) = rw f is_whole
      go o f (place_of i l t) = absurd (n (any_at (same_edge (edge a b)) t (at_mem s i (edge 0 0) l)))

  abbrev after : Mesh
  after = split_at bisected m s

  -- ---- the rows of one triangle

  cut-kept : (t : Tri) → three (cut_at bisected m s t).kept ≡ stays split? num (three t)
  cut-kept t = kept-is num t (agrees t.q t.r (split? t.q t.r)) (agrees t.p t.q (split? t.p t.q)) (agrees t.r t.p (split? t.r t.p))

  cut-added : (t : Tri) → map three (cut_at bisected m s t).added ≡ appends split? num (three t)
  cut-added t = cut-adds num t (agrees t.q t.r (split? t.q t.r)) (agrees t.p t.q (split? t.p t.q)) (agrees t.r t.p (split? t.r t.p))

  added-size : (j : ℕ) → length (cut_at bisected m s (row_of m.tris j)).added ≡ length (appends split? num (rows m j))
  added-size j = sym (length-map (cut_at bisected m s (row_of m.tris j)).added three) ∙ ap length (cut-added (row_of m.tris j))

  -- ---- all rows

  -- How many rows are appended for the rows below k.
  abbrev past : ℕ → ℕ
  past k = total (λ j. length (appends split? num (rows m j))) k

  sizes-are : (k : ℕ) → rows-ahead bisected m s k ≡ past k
  sizes-are k = total-same _ _ k (λ j l. added-size j)

  rows-refined : length after.tris ≡ length m.tris + past (length m.tris)
  rows-refined = split-count bisected m s ∙ ap (length m.tris +◌) (sizes-are (length m.tris))

  stay-is : (k : ℕ) → k < length m.tris → rows after k ≡ stays split? num (rows m k)
  stay-is k l = ap three (row-of-kept bisected m s k l) ∙ cut-kept (row_of m.tris k)

  append-is : (j i : ℕ) → j < length m.tris → i < length (appends split? num (rows m j))
      → rows after (length m.tris + (past j + i)) ≡ get_or (appends split? num (rows m j)) i (rows m j)
  append-is j i lj li =
      ap (λ (x : ℕ). rows after (length m.tris + (x + i))) (sym (sizes-are j))
      ∙ ap three (row-of-added bisected m s j i lj (rw (added-size j) li))
      ∙ sym (get_or-map three (cut_at bisected m s (row_of m.tris j)).added i (tri 0 0 0))
      ∙ ap (λ (rs : List (Corners ℕ)). get_or rs i (three (tri 0 0 0))) (cut-added (row_of m.tris j))
      ∙ get_d_default (appends split? num (rows m j)) i (three (tri 0 0 0)) (rows m j) li

module _ (base m : Mesh) (G : GrownFrom base m) (start : List Edge) (even : all (halves m) (split_edges m start) ≡ true) where
  abbrev s : List Edge
  s = split_edges m start

  abbrev n : ℕ
  n = length m.nodes

  -- A split edge is an edge of a row.
  of_row : (i : ℕ) → i < length s → (t : Tri) × Memᴰ t m.tris × Memᴰ (get_or (split_edges m start) i (edge 0 0)) (edges t)
  of_row i l = (All-get_or (split_edges-within m start) i (edge 0 0) l).0

  -- The split edges are closed.
  unfoldable closed : ClosedRows (length m.tris) (rows m) (Split m (split_edges m start))
  closed = record {
    decided = split? m s;
    either_way = λ a b h. subst (λ (e : Edge). mem_edge e s ≡ true) (edge-comm a b) h;
    of-rows = of;
    closed = λ j l a b e h. All-at (All-at (split_edges-pull m start) (at_mem m.tris j (tri 0 0 0) l)) (edge-mem (row_of m.tris j) a b e) h;
  }
    where
      of : (a b : ℕ) → Split m s a b → (j : ℕ) × (j < length m.tris) × Corners.Edge (rows m j) a b
      of a b h =
          let S = spot m s (edge a b) h in
          let (t, it, je) = of_row S.index S.below in
          let (j, lj, f) = mem-at (tri 0 0 0) it in
          (j, lj, mem-edge (row_of m.tris j) a b (subst₂ (λ (e : Edge) (u : Tri). Memᴰ e (edges u)) S.is (sym f) je))

  abbrev split-mesh : Mesh
  split-mesh = split_at bisected m s

  -- The edge with the number k.
  abbrev edge_of : ℕ → Edge
  edge_of k = get_or s (k - n) (edge 0 0)

  ends-are : (k : ℕ) → n ≤ k → k < length split-mesh.nodes → Split m s (edge_of k).lo (edge_of k).hi × (num m s (edge_of k).lo (edge_of k).hi ≡ k)
  ends-are k h l =
      let li : k - n < length s = omega (arith, split_at-nodes bisected m s) in
      let (t, _, je) = of_row (k - n) li in
      let norm = edge-norm t (edge_of k) je in (
        subst (λ (e : Edge). mem_edge e s ≡ true) (sym norm) (mem_edge-in (at_mem s (k - n) (edge 0 0) li)),
        ap (λ (e : Edge). number (number_of n s e)) norm ∙ ap (λ (o : Option ℕ). number (plus n o)) (split_edges-apart m start (k - n) (edge 0 0) li) ∙ omega arith,
      )

  -- THE REFINED ROWS are those of the table.
  halving : Halving n closed (num m s) (length split-mesh.nodes) (length split-mesh.tris) (rows split-mesh)
  unfolding closed
  halving = record {
    grows = omega (arith, split_at-nodes bisected m s);
    num-new = λ a b h. omega (arith, num-at m s a b (spot m s (edge a b) h));
    num-below = λ a b h. let S = spot m s (edge a b) h in omega (arith, num-at m s a b S, S.below, split_at-nodes bisected m s);
    num-same = λ a b c d h k e. ap (λ (x : Edge). number (number_of n s x)) (same-edge e);
    num-injective = λ a b c d h k e.
        let S = spot m s (edge a b) h in
        let T = spot m s (edge c d) k in
        let i : S.index ≡ T.index = omega (arith, num-at m s a b S, num-at m s c d T) in
        same-of-edge a b c d (sym S.is ∙ ap (λ (x : ℕ). get_or s x (edge 0 0)) i ∙ T.is);
    one_end = λ k. (edge_of k).lo;
    other-end = λ k. (edge_of k).hi;
    ends = ends-are;
    count = rows-refined m s;
    stay = stay-is m s;
    append = append-is m s;
  }

  -- A new node stands at the midpoint.
  put : (a b : ℕ) → Split m s a b → Middle (at split-mesh (num m s a b)) (at m a) (at m b)
  put a b h =
      let S = spot m s (edge a b) h in
      let e : at split-mesh (num m s a b) ≡ midpoint m (edge a b) =
      ap (at split-mesh) (num-at m s a b S) ∙ at_new bisected m s S.index (edge 0 0) S.below ∙ ap (midpoint m) S.is in
      let x = subst (λ (d : Edge). halves m d ≡ true) S.is (All-get_or (all_yes (halves m) s even) S.index (edge 0 0) S.below) in
      rw e (middle-either m (midpoint m (edge a b)) a b (midpoint-middle m (edge a b) x))

  -- BISECTION KEEPS THE INVARIANT, from any starting edges.
  grown-by-split : GrownFrom base (split bisected m start)
  unfolding split
  grown-by-split = record {
    lawful = split-lawful bisected-laws m start G.lawful even;
    grown = grown-refined G.grown closed halving (at_old bisected m s) put;
    base-node = λ k l. node-old bisected m s k (omega (arith, G.grown.enough)) ∙ G.base-node k l;
  }

-- REFINING KEEPS THE INVARIANT, for any way that cuts by bisection.
from-refined : (base m : Mesh) → GrownFrom base m → (w : Way) → w.cutting ≡ bisected → (marks : List ℕ)
    → all (halves m) (split_edges m (started w.starts marks m.tris)) ≡ true → GrownFrom base (refined w m marks)
unfolding refined
from-refined base m G w cuts marks even =
    subst (λ c. GrownFrom base (split c m (started w.starts marks m.tris))) (sym cuts) (grown-by-split base m G (started w.starts marks m.tris) even)

-- So an accepted refine does.
pub from-refine : (base m : Mesh) → GrownFrom base m → (w : Way) → w.cutting ≡ bisected → (room : Room) (marks : List ℕ) → refine_no w room m marks ≡ 0 → GrownFrom base (refined w m marks)
from-refine base m G w cuts room marks e = from-refined base m G w cuts marks (refine-halves w room m marks e)
