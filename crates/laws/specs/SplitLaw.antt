-- Splitting a lawful mesh, from any starting edges and by any cut that has the laws of a cut, gives a lawful mesh of the same total, if
-- every split edge has an exact midpoint. What holds of one row's cut is summed over the rows. Assumes nothing.
use Rattle.std.specs.Prelude.{Bool, true, false, ◌≡◌, refl, ℕ, min, max, ◌+◌, ◌-◌, ◌≤◌, ◌<◌, ltb, ℤ, ◌+ℤ◌, ◌<ℤ◌, Option, None, Some}
use mathlib.Core.List.{List, [], ◌∷◌, ◌++◌, map, Memᴰ}
use Rattle.std.proofs.Common.{sym, subst, ap₂, ◌∙◌, ltb-true, ltb-false}
use Rattle.std.proofs.Math.Path.{subst⁻¹, ap}
use native.Mathlib.Omega.{arith}
use Rattle.std.proofs.Math.IntN.{pos, +ℤ_assoc, +ℤ_idl}
use Rattle.std.proofs.Math.ListN.{length, get_or}
use Rattle.whole.specs.Ring.{◌:+◌, ring4}
use Rattle.lists.specs.Lists.{all, any, count, joined, All, nil, cons}
use Rattle.lists.specs.ListsLaw.{clash, All-head, All-tail, All-imp, All-both, All-append, All-at, All-of, All-map, All-joined, All-get_or, all_yes, any_at, any-row, WhereIs, nowhere, place_of, where-is}
use Rattle.lists.specs.MembersLaw.{at_mem}
use Rattle.lists.specs.Tally.{bit, tally, tally-append, tally-add, tally-le, tally-eq, tally-at, tally-length, tally-map, tally-joined, count-tally}
use Rattle.meaning.specs.declared.Tri.{Tri}
use Rattle.meaning.specs.Mesh.{Mesh, Edge, Arrow, edge, edges, base, same_edge, same_arrow, arrows, holds_node, node_of, at, origin, twice_area, sum, total}
use Rattle.meaning.specs.Lawful.{Lawful, InRange, NodeInRange, Named}
use Rattle.meaning.specs.Split.{Cut, Cutting, plus, number_of, mem_edge, halves, midpoint, new_node, cut_of, closure, split_edges, split_at, split}
use Rattle.laws.specs.Area.{middle-near}
use Rattle.laws.specs.Mean.{mean-bounds}
use Rattle.laws.specs.Edges.{mem_edge-in, hits, count-arrows, here_self, names, count-names, names-count}
use Rattle.laws.specs.Closure.{EdgeOf, split_edges-within, split_edges-apart, split_edges-pull}
use Rattle.laws.specs.Cut.{parts, there, here_if, CutLaws, cut-area, cut-above, cut-named, cut-arrows, cut-corners, cut-rows}
use Rattle.laws.specs.Midpoints.{edge_at, numbered, fresh, midpoint-middle, split_at-nodes, node-old, at_old, node-new, centred}
use Rattle.laws.specs.Source.{source, allowed-source}

-- ---- the rows of all cuts: those that keep their fathers' places, then those that are appended

abbrev pub cut_rows : (Tri → Cut) → List Tri → List Tri
cut_rows k ts = map (λ t. (k t).kept) ts ++ joined (λ t. (k t).added) ts

pub all-cuts : (P : Tri → Type 0) (k : Tri → Cut) {ts : List Tri} → All (λ t. All P (parts (k t))) ts → All P (cut_rows k ts)
all-cuts P k h = All-append (All-map (λ t. (k t).kept) (All-imp (λ t g. All-head g) h)) (All-joined (λ t. (k t).added) (All-imp (λ t g. All-tail g) h))

tally-cuts : (f : Tri → ℕ) (k : Tri → Cut) (ts : List Tri) → tally f (cut_rows k ts) ≡ tally (λ t. tally f (parts (k t))) ts
tally-cuts f k ts =
    let a = tally-append f (map (λ t. (k t).kept) ts) (joined (λ t. (k t).added) ts) in
    let b = tally-map f (λ t. (k t).kept) ts in
    let c = tally-joined f (λ t. (k t).added) ts in
    let d = tally-add (λ t. f (k t).kept) (λ t. tally f (k t).added) ts in
    omega arith

sum-append : (f : Tri → ℤ) (xs ys : List Tri) → sum f (xs ++ ys) ≡ sum f xs +ℤ sum f ys
sum-append f [] ys = sym (+ℤ_idl (sum f ys))
sum-append f (x ∷ xs) ys = ap (λ z. f x +ℤ z) (sum-append f xs ys) ∙ sym (+ℤ_assoc (f x) (sum f xs) (sum f ys))

sum-cuts : (f g : Tri → ℤ) (k : Tri → Cut) {ts : List Tri} → All (λ t. sum f (parts (k t)) ≡ g t) ts → sum f (cut_rows k ts) ≡ sum g ts
sum-cuts f g k {ts} h = sum-append f (map (λ t. (k t).kept) ts) (joined (λ t. (k t).added) ts) ∙ go h
  where
    go : {us : List Tri} → All (λ t. sum f (parts (k t)) ≡ g t) us → sum f (map (λ t. (k t).kept) us) +ℤ sum f (joined (λ t. (k t).added) us) ≡ sum g us
    go nil = refl
    go (cons {x = t} {xs = us} e hs) =
        ap (λ z. (f (k t).kept +ℤ sum f (map (λ t. (k t).kept) us)) +ℤ z) (sum-append f (k t).added (joined (λ t. (k t).added) us)) ∙
        ring4 (λ a b c d. ((a :+ b) :+ (c :+ d), (a :+ c) :+ (b :+ d)))
        (f (k t).kept) (sum f (map (λ t. (k t).kept) us)) (sum f (k t).added) (sum f (joined (λ t. (k t).added) us)) tt ∙
        ap₂ ◌+ℤ◌ e (go hs)

-- ---- edges of a row, and whether they have a number

one_of_three : {e a b c : Edge} {P : Type 0} → Memᴰ e (a ∷ b ∷ c ∷ []) → (e ≡ a → P) → (e ≡ b → P) → (e ≡ c → P) → P
one_of_three (Memᴰ.head p) f g h = f p
one_of_three (Memᴰ.tail (Memᴰ.head p)) f g h = g p
one_of_three {e = e} {a = a} {b = b} {c = c} {P = P} (Memᴰ.tail (Memᴰ.tail (Memᴰ.tail i))) f g h = elim i [ ]
one_of_three (Memᴰ.tail (Memᴰ.tail (Memᴰ.head p))) f g h = h p

-- the ends of an edge of a row are nodes
pub old-ends : {n : ℕ} {ts : List Tri} → All (Named n) ts → (e : Edge) → EdgeOf ts e → (e.lo < n) × (e.hi < n)
old-ends {n} named e r =
    let t = r.0 in
    let a = All-at named r.1 in
    one_of_three r.2 (ends t.q t.r a.q-below a.r-below) (ends t.p t.q a.p-below a.q-below) (ends t.r t.p a.r-below a.p-below)
  where
    both : (a b : ℕ) → a < n → b < n → (min a b < n) × (max a b < n)
    both a b g h = omega arith

    ends : (a b : ℕ) → a < n → b < n → e ≡ edge a b → (e.lo < n) × (e.hi < n)
    ends a b g h w = subst⁻¹ (λ d. (d.lo < n) × (d.hi < n)) w (both a b g h)

-- an edge has a number exactly if it is split
pub number-there : (n : ℕ) (s : List Edge) (e : Edge) → there (number_of n s e) ≡ bit (mem_edge e s)
number-there n s e = go (where-is (same_edge e) s e) (any (same_edge e) s) refl
  where
    go : {o : Option ℕ} → WhereIs (same_edge e) s e o → (b : Bool) → any (same_edge e) s ≡ b → there (plus n o) ≡ bit b
    go (nowhere w) true q = let r = any-row (same_edge e) s q in clash (sym r.2 ∙ All-at w r.1)
    go (nowhere w) false q = refl
    go (place_of i l t) true q = refl
    go (place_of i l t) false q = clash (sym (any_at (same_edge e) t (at_mem s i e l)) ∙ q)

pub number-some : (n : ℕ) (s : List Edge) (e : Edge) → mem_edge e s ≡ true → (k : ℕ) × (number_of n s e ≡ Some k)
number-some n s e h = go (number_of n s e) (number-there n s e ∙ ap bit h)
  where
    go : (o : Option ℕ) → there o ≡ 1 → (k : ℕ) × (o ≡ Some k)
    go None w = absurd (omega arith)
    go (Some k) w = (k, refl)

-- an edge of a row is split only with the row's refinement edge
pub split-with-base : (m : Mesh) (start : List Edge) {t : Tri} → Memᴰ t m.tris → there (number_of (length m.nodes) (split_edges m start) (edge t.q t.r)) ≡ 0 →
    (there (number_of (length m.nodes) (split_edges m start) (edge t.p t.q)) ≡ 0) × (there (number_of (length m.nodes) (split_edges m start) (edge t.r t.p)) ≡ 0)
split-with-base m start {t} i z =
    let pull = All-at (split_edges-pull m start) i in
    (unsplit (edge t.p t.q) (All-head (All-tail pull)), unsplit (edge t.r t.p) (All-head (All-tail (All-tail pull))))
  where
    no-bit : (x y : Bool) → (x ≡ true → y ≡ true) → bit y ≡ 0 → bit x ≡ 0
    no-bit true y f z = absurd (let w = ap bit (f refl) in omega arith)
    no-bit false y f z = refl

    unsplit : (e : Edge) → (mem_edge e (split_edges m start) ≡ true → mem_edge (base t) (split_edges m start) ≡ true) → there (number_of (length m.nodes) (split_edges m start) e) ≡ 0
    unsplit e f =
        let n = length m.nodes in
        number-there n (split_edges m start) e ∙ no-bit (mem_edge e (split_edges m start)) (mem_edge (base t) (split_edges m start)) f (sym (number-there n (split_edges m start) (base t)) ∙ z)

-- ---- any edges s, whether or not they are closed

module _ {c : Cutting} (laws : CutLaws c) (m : Mesh) (s : List Edge) (law : Lawful m) where
  -- 4
  split_at-named : All (Named (length (split_at c m s).nodes)) (split_at c m s).tris
  unfolding split_at
  split_at-named = subst⁻¹ (λ k. All (Named k) (split_at c m s).tris) (split_at-nodes c m s)
      (all-cuts (Named (length m.nodes + length s)) (cut_of c (length m.nodes) s)
      (All-imp (λ t a. cut-named laws (length m.nodes) (length m.nodes + length s) (omega arith) a (fresh a (numbered (length m.nodes) s t))) law.named))

  -- 5: each row has an arrow at most as often as the old row had its source
  split_at-no_twice : (e : Arrow) → count (same_arrow e) (joined arrows (split_at c m s).tris) ≤ 1
  unfolding split_at twice_area
  split_at-no_twice e =
      let n = length m.nodes in
      let d = source (at m) (edge_at n s) n (n + length s) e in
      let c1 = count-arrows e (split_at c m s).tris in
      let c2 = tally-cuts (hits e) (cut_of c n s) m.tris in
      let c3 = tally-le (λ t. tally (hits e) (parts (cut_of c n s t))) (hits d) (All-imp one (All-both law.named law.positive)) in
      let c4 = count-arrows d m.tris in
      let c5 = law.no_twice d in
      omega arith
    where
      one : (t : Tri) → Named (length m.nodes) t × (pos 0 <ℤ twice_area m t) →
          tally (hits e) (parts (cut_of c (length m.nodes) s t)) ≤ hits (source (at m) (edge_at (length m.nodes) s) (length m.nodes) (length m.nodes + length s) e) t
      one t h =
          let n = length m.nodes in
          let a = cut-arrows laws e t (number_of n s (edge t.q t.r)) (number_of n s (edge t.p t.q)) (number_of n s (edge t.r t.p)) in
          let b = allowed-source (at m) (edge_at n s) n (n + length s) e h.0 h.1 (numbered n s t) in
          omega arith

  module _ (exact : All (λ e. halves m e ≡ true) s) where
    same_area : (t : Tri) → Named (length m.nodes) t → twice_area (split_at c m s) t ≡ twice_area m t
    unfolding twice_area
    same_area t a = rw (at_old c m s t.p a.p-below, at_old c m s t.q a.q-below, at_old c m s t.r a.r-below)

    -- 6
    split_at-positive : All (λ t. pos 0 <ℤ twice_area (split_at c m s) t) (split_at c m s).tris
    unfolding split_at
    split_at-positive = all-cuts (λ t. pos 0 <ℤ twice_area (split_at c m s) t) (cut_of c (length m.nodes) s)
        (All-imp (λ t h. cut-above laws (split_at c m s) (centred c m s exact t h.0) (subst⁻¹ (λ z. pos 0 <ℤ z) (same_area t h.0) h.1)) (All-both law.named law.positive))

    split_at-total : total (split_at c m s) ≡ total m
    unfolding split_at total
    split_at-total = sum-cuts (twice_area (split_at c m s)) (twice_area m) (cut_of c (length m.nodes) s)
        (All-imp (λ t a. cut-area laws (split_at c m s) (centred c m s exact t a) ∙ same_area t a) law.named)

-- ---- the split edges of any start

-- no law of the cut is needed: the old nodes keep number and place, and each split edge has its new node
module _ (c : Cutting) (m : Mesh) (start : List Edge) where
  pub split-nodes : length (split c m start).nodes ≡ length m.nodes + length (split_edges m start)
  unfolding split
  split-nodes = split_at-nodes c m (split_edges m start)

  pub split-old : (k : ℕ) → k < length m.nodes → node_of (split c m start) k ≡ node_of m k
  unfolding split
  split-old k h = node-old c m (split_edges m start) k h

  pub split-new : (i : ℕ) (d : Edge) → i < length (split_edges m start) → node_of (split c m start) (length m.nodes + i) ≡ new_node m (get_or (split_edges m start) i d)
  unfolding split
  split-new i d h = node-new c m (split_edges m start) i d h

module _ {c : Cutting} (laws : CutLaws c) (m : Mesh) (start : List Edge) where
  S : List Edge
  S = split_edges m start

  -- how many edges of the row are split
  abbrev pub splits : Tri → ℕ
  splits t = count (λ e. mem_edge e (split_edges m start)) (edges t)

  -- a row gives one row more for each of its edges that is split
  row_gives : (t : Tri) → Memᴰ t m.tris → tally (λ k. 1) (parts (cut_of c (length m.nodes) S t)) ≡ 1 + splits t
  unfolding S
  row_gives t i =
      let n = length m.nodes in
      let o = number_of n S (edge t.q t.r) in
      let u = number_of n S (edge t.p t.q) in
      let v = number_of n S (edge t.r t.p) in
      let a = number-there n S (edge t.q t.r) in
      let b = number-there n S (edge t.p t.q) in
      let d = number-there n S (edge t.r t.p) in
      let g = cut-rows laws t o u v (split-with-base m start i) in
      let h = tally-length (cut_of c n S t).added in
      let k = count-tally (λ e. mem_edge e S) (edges t) in
      omega arith

  pub split_rows : length (split c m start).tris ≡ length m.tris + tally splits m.tris
  unfolding S split split_at
  split_rows =
      let k = cut_of c (length m.nodes) S in
      let a = tally-length (cut_rows k m.tris) in
      let b = tally-cuts (λ t. 1) k m.tris in
      let d = tally-eq (λ t. tally (λ t. 1) (parts (k t))) (λ t. 1 + splits t) (All-of m.tris row_gives) in
      let e = tally-add (λ t. 1) splits m.tris in
      let f = tally-length m.tris in
      omega arith

  module _ (law : Lawful m) where
    -- 7
    new-names : (z : ℕ) → tally (names z) (split_at c m S).tris ≡ tally (λ t. tally (names z) (parts (cut_of c (length m.nodes) S t))) m.tris
    unfolding split_at
    new-names z = tally-cuts (names z) (cut_of c (length m.nodes) S) m.tris

    used-old : (z : ℕ) → z < length m.nodes → 1 ≤ count (holds_node z) (split_at c m S).tris
    used-old z h =
        let n = length m.nodes in
        let a = law.used z h in
        let b = count-names z m.tris in
        let d = tally-le (names z) (λ t. tally (names z) (parts (cut_of c n S t)))
        (All-of m.tris (λ t i. cut-corners laws z t (number_of n S (edge t.q t.r)) (number_of n S (edge t.p t.q)) (number_of n S (edge t.r t.p)))) in
        let e = new-names z in
        let f = names-count z (split_at c m S).tris in
        omega arith

    -- the i-th split edge is an edge of a row whose refinement edge is split, and that row's cut has the new node
    used-new : (i : ℕ) → i < length S → 1 ≤ count (holds_node (length m.nodes + i)) (split_at c m S).tris
    unfolding S
    used-new i h =
        let r = All-get_or (split_edges-within m start) i (edge 0 0) h in
        let a = tally-at (λ t. tally (names (length m.nodes + i)) (parts (cut_of c (length m.nodes) S t))) r.0.1 in
        let b = one r.0.0 r.0.2 (All-at (All-at (split_edges-pull m start) r.0.1) r.0.2 (mem_edge-in (at_mem S i (edge 0 0) h))) in
        let d = new-names (length m.nodes + i) in
        let e = names-count (length m.nodes + i) (split_at c m S).tris in
        omega arith
      where
        is-z : {e : Edge} → get_or S i (edge 0 0) ≡ e → here_if (length m.nodes + i) (number_of (length m.nodes) S e) ≡ 1
        is-z w =
            ap (λ d. here_if (length m.nodes + i) (number_of (length m.nodes) S d)) (sym w) ∙
            ap (λ o. here_if (length m.nodes + i) (plus (length m.nodes) o)) (split_edges-apart m start i (edge 0 0) h) ∙
            here_self (length m.nodes + i)

        one : (t : Tri) → Memᴰ (get_or S i (edge 0 0)) (edges t) → mem_edge (base t) S ≡ true → 1 ≤ tally (names (length m.nodes + i)) (parts (cut_of c (length m.nodes) S t))
        one t j k =
            let n = length m.nodes in
            let u = number_of n S (edge t.p t.q) in
            let v = number_of n S (edge t.r t.p) in
            let b = number-some n S (base t) k in
            let d = subst⁻¹ (λ o. here_if (n + i) o + here_if (n + i) u + here_if (n + i) v ≤ tally (names (n + i)) (parts (c t o u v))) b.1 (laws.middles (n + i) t b.0 u v) in
            one_of_three j (λ w. (let q = is-z w in omega arith)) (λ w. (let q = is-z w in omega arith)) (λ w. (let q = is-z w in omega arith))

    split-used : (z : ℕ) → z < length (split_at c m S).nodes → 1 ≤ count (holds_node z) (split_at c m S).tris
    split-used z h = go (ltb z (length m.nodes)) refl
      where
        go : (b : Bool) → ltb z (length m.nodes) ≡ b → 1 ≤ count (holds_node z) (split_at c m S).tris
        go true q = used-old z (ltb-true z (length m.nodes) q)
        go false q =
            let g = ltb-false z (length m.nodes) q in
            let l = split_at-nodes c m S in
            let k : length m.nodes + (z - length m.nodes) ≡ z = omega arith in
            subst (λ y. 1 ≤ count (holds_node y) (split_at c m S).tris) k (used-new (z - length m.nodes) (omega arith))

    module _ (even : all (halves m) (split_edges m start) ≡ true) where
      exact : All (λ e. halves m e ≡ true) S
      unfolding S
      exact = all_yes (halves m) (split_edges m start) even

      -- 3: a mean of two numbers of the range is in it
      midpoint-range : (e : Edge) → halves m e ≡ true → InRange (at m e.lo) → InRange (at m e.hi) → InRange (midpoint m e)
      midpoint-range e h a b =
          let k = midpoint-middle m e h in
          record {
            x-near = middle-near (midpoint m e).x (at m e.lo).x (at m e.hi).x 1_048_576 k.x-middle a.x-near b.x-near;
            y-near = middle-near (midpoint m e).y (at m e.lo).y (at m e.hi).y 1_048_576 k.y-middle a.y-near b.y-near;
          }

      split-range : All NodeInRange (split_at c m S).nodes
      unfolding split_at S
      split-range = All-append law.range (All-map (new_node m) (All-imp one (All-both (split_edges-within m start) exact)))
        where
          one : (e : Edge) → (EdgeOf m.tris e × (mem_edge e (closure m.tris start) ≡ true)) × (halves m e ≡ true) → NodeInRange (new_node m e)
          one e h =
              let ends = old-ends law.named e h.0.0 in
              let a = All-get_or law.range e.lo origin ends.0 in
              let b = All-get_or law.range e.hi origin ends.1 in
              record {
                place_in = midpoint-range e h.1 a.place_in b.place_in;
                correction-in = mean-bounds (node_of m e.lo).correction (node_of m e.hi).correction a.correction-in b.correction-in;
              }

      pub split-lawful : Lawful (split c m start)
      unfolding split S
      split-lawful = record {
        range = split-range;
        named = split_at-named laws m S law;
        no_twice = split_at-no_twice laws m S law;
        positive = split_at-positive laws m S law exact;
        used = split-used;
      }

      pub split-total : total (split c m start) ≡ total m
      unfolding split S
      split-total = split_at-total laws m S law exact
