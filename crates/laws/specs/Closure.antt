-- The split edges. The closure of any starting edges is closed and lies in every closed set: it is the least one. The split edges of
-- a mesh are the edges of its rows that lie in the closure, each once, and with an edge of a row they hold its refinement edge.
-- Assumes nothing.
use Rattle.std.specs.Prelude.{Bool, true, false, not, ◌&&◌, ◌||◌, ◌↔◌, ◌≡◌, refl, ℕ, zero, suc, ◌≤◌, ◌<◌, eqb, length, get_or, Some, Option, None}
use mathlib.Core.List.Memᴰ
use mathlib.Core.List.{List, [], ◌∷◌, Memᴰ}
use Rattle.std.proofs.Common.{sym, ap, ◌∙◌, arith, eqb-true}
use Rattle.lists.specs.Lists.{any, only, once, cons_if, count, first, where_first, joined, All, nil, cons}
use Rattle.lists.specs.ListsLaw.{clash, and_left, and_right, or_left, or_right, All-imp, All-both, All-append, All-at, All-of, All-joined, All-get_or, any-row, any_none, FirstIs, no_row, row, first-is, count-lt, count_none, count-le-length}
use Rattle.lists.specs.MembersLaw.{at_mem, only-in, only-passes, only_keeps, once-keeps, joined_in}
use Rattle.meaning.specs.declared.Tri.{Tri}
use Rattle.meaning.specs.Mesh.{Mesh, Edge, tri, edges, base, same_edge}
use Rattle.meaning.specs.Lawful.{row_of}
use Rattle.meaning.specs.Split.{Closed, mem_edge, pulls, add_base, grow, closure, split_edges, if_marked, started}
use Rattle.laws.specs.Edges.{same_edge-eq, same_edge-refl, mem_edge-in, mem_edge-at}

-- ---- least: whatever a row brings in, a closed set holds

module _ {S : Edge → Type 0} {ts : List Tri} {start : List Edge} (c : Closed ts start S) where
  brought : {t : Tri} (s : List Edge) → All S s → Memᴰ t ts → pulls s t ≡ true → S (base t)
  brought {t} s h i p =
      let r = any-row (λ e. mem_edge e s) (edges t) (and_left (any (λ e. mem_edge e s) (edges t)) (not (mem_edge (base t) s)) p) in
      All-at (All-at c.pull i) r.1 (mem_edge-at r.0 h r.2)

  grow-least : (k : ℕ) (s : List Edge) → All S s → All S (grow k ts s)
  grow-least zero s h = h
  grow-least (suc k) s h = step (first-is (pulls s) ts) (grow-least k)
    where
      step : {o : Option Tri} → FirstIs (pulls s) ts o → ((s' : List Edge) → All S s' → All S (grow k ts s')) → All S (add_base o s (grow k ts))
      step (no_row n) below = h
      step (row {x = t} i p) below = below (base t ∷ s) (cons (brought s h i p) h)

  pub closure-least : All S (closure ts start)
  unfolding closure
  closure-least = grow-least (length ts) start c.holds

-- ---- closed: each step makes one row fewer miss its refinement edge, so as many steps as rows are enough

Pulled : List Tri → List Edge → Type 0
Pulled ts s = All (λ t. All (λ e. mem_edge e s ≡ true → mem_edge (base t) s ≡ true) (edges t)) ts

missing : List Edge → Tri → Bool
missing s t = not (mem_edge (base t) s)

-- a row that does not pull has its refinement edge in the set, or no edge at all
content : (s : List Edge) (t : Tri) → pulls s t ≡ false → All (λ e. mem_edge e s ≡ true → mem_edge (base t) s ≡ true) (edges t)
content s t p = go (mem_edge (base t) s) (any (λ e. mem_edge e s) (edges t)) refl p
  where
    go : (b a : Bool) → any (λ e. mem_edge e s) (edges t) ≡ a → a && not b ≡ false → All (λ e. mem_edge e s ≡ true → b ≡ true) (edges t)
    go true a q p = All-of (edges t) (λ e i m. refl)
    go false true q p = clash p
    go false false q p = All-imp (λ e n m. clash (sym m ∙ n)) (any_none (λ e. mem_edge e s) (edges t) q)

grow-keeps : (k : ℕ) (ts : List Tri) (s : List Edge) (e : Edge) → mem_edge e s ≡ true → mem_edge e (grow k ts s) ≡ true
grow-keeps zero ts s e m = m
grow-keeps (suc k) ts s e m = step (first (pulls s) ts) (grow-keeps k ts)
  where
    step : (o : Option Tri) → ((s' : List Edge) (e : Edge) → mem_edge e s' ≡ true → mem_edge e (grow k ts s') ≡ true) → mem_edge e (add_base o s (grow k ts)) ≡ true
    step None below = m
    step (Some t) below = below (base t ∷ s) e (or_right (same_edge e (base t)) m)

not-missing : (b : Bool) → not b ≡ false → b ≡ true
not-missing true e = refl
not-missing false e = clash e

fewer : (s : List Edge) (ts : List Tri) {t : Tri} → Memᴰ t ts → pulls s t ≡ true → count (missing (base t ∷ s)) ts < count (missing s) ts
unfolding missing
fewer s ts {t} i p =
    count-lt (missing (base t ∷ s)) (missing s) less i (ap not (or_left (mem_edge (base t) s) (same_edge-refl (base t))))
    (and_right (any (λ e. mem_edge e s) (edges t)) (not (mem_edge (base t) s)) p)
  where
    less : (u : Tri) → missing (base t ∷ s) u ≡ true → missing s u ≡ true
    less u m = go (same_edge (base u) (base t)) (mem_edge (base u) s) m
      where
        go : (a b : Bool) → not (a || b) ≡ true → not b ≡ true
        go true b e = clash (sym e)
        go false b e = e

grow-closed : (k : ℕ) (ts : List Tri) (s : List Edge) → count (missing s) ts ≤ k → Pulled ts (grow k ts s)
unfolding Pulled missing
grow-closed zero ts s h =
    let e : count (missing s) ts ≡ 0 = omega arith in
    All-imp (λ t n. All-of (edges t) (λ e i m. not-missing (mem_edge (base t) s) n)) (count_none (missing s) e)
grow-closed (suc k) ts s h = step (first-is (pulls s) ts) (grow-closed k ts)
  where
    step : {o : Option Tri} → FirstIs (pulls s) ts o → ((s' : List Edge) → count (missing s') ts ≤ k → Pulled ts (grow k ts s')) → Pulled ts (add_base o s (grow k ts))
    step (no_row n) below = All-imp (λ t p. content s t p) n
    step (row {x = t} i p) below = below (base t ∷ s) (let f = fewer s ts i p in omega arith)

pub closure-closed : (ts : List Tri) (start : List Edge) → Closed ts start (λ e. mem_edge e (closure ts start) ≡ true)
unfolding closure Pulled
closure-closed ts start = record {
  holds = All-of start (λ e i. grow-keeps (length ts) ts start e (mem_edge-in i));
  pull = grow-closed (length ts) ts start (count-le-length (missing start) ts);
}

-- ---- each edge once

-- no edge stands twice: the i-th is first met at i
abbrev pub Apart : List Edge → Type 0
Apart s = (i : ℕ) (d : Edge) → i < length s → where_first (same_edge (get_or s i d)) s ≡ Some i

data Once : List Edge → Type 0 where
  once-nil : Once []
  once-cons : {x : Edge} {xs : List Edge} → All (λ y. same_edge x y ≡ false) xs → Once xs → Once (x ∷ xs)

not_same : (b : Bool) → not b ≡ true → b ≡ false
not_same true e = sym e
not_same false e = refl

other_way : (x y : Edge) → same_edge x y ≡ false → same_edge y x ≡ false
other_way x y e = go (same_edge y x) refl
  where
    go : (b : Bool) → same_edge y x ≡ b → b ≡ false
    go true q = sym (same_edge-refl x) ∙ ap (λ z. same_edge x z) (sym (same_edge-eq y x q)) ∙ e
    go false q = refl

only-once : (f : Edge → Bool) {l : List Edge} → Once l → Once (only f l)
only-once f once-nil = once-nil
only-once f (once-cons {x = x} {xs = xs} h o) = go (f x) (only-once f o)
  where
    go : (b : Bool) → Once (only f xs) → Once (cons_if b x (only f xs))
    go true r = once-cons (only_keeps f h) r
    go false r = r

once-once : (l : List Edge) → Once (once same_edge l)
once-once [] = once-nil
once-once (x ∷ xs) =
    once-cons (All-imp (λ y n. not_same (same_edge x y) n) (only-passes (λ y. not (same_edge x y)) (once same_edge xs))) (only-once (λ y. not (same_edge x y)) (once-once xs))

once-apart : {s : List Edge} → Once s → Apart s
once-apart once-nil i d h = absurd (omega arith)
once-apart (once-cons {x = x} {xs = xs} a o) zero d h = rw (same_edge-refl x)
once-apart (once-cons {x = x} {xs = xs} a o) (suc i) d h =
    let k : i < length xs = omega arith in
    rw (other_way x (get_or xs i d) (All-get_or a i d k), once-apart o i d k)

once-in : {x : Edge} {l : List Edge} → Memᴰ x l → Memᴰ x (once same_edge l)
once-in (Memᴰ.head e) = Memᴰ.head e
once-in {x} (Memᴰ.tail {x = y} {xs = ys} i) = go (same_edge y x) refl (once-in i)
  where
    go : (b : Bool) → same_edge y x ≡ b → Memᴰ x (once same_edge ys) → Memᴰ x (y ∷ only (λ z. not (same_edge y z)) (once same_edge ys))
    go true e j = Memᴰ.head (sym (same_edge-eq y x e))
    go false e j = Memᴰ.tail (only-in (λ z. not (same_edge y z)) j (ap not e))

-- ---- the split edges of a mesh, from any starting edges

-- e is an edge of a row
abbrev pub EdgeOf : List Tri → Edge → Type 0
EdgeOf ts e = (t : Tri) × Memᴰ t ts × Memᴰ e (edges t)

all_edges : (ts : List Tri) → All (EdgeOf ts) (joined edges ts)
all_edges ts = All-joined edges (All-of ts (λ t i. All-of (edges t) (λ e j. (t, i, j))))

module _ (m : Mesh) (start : List Edge) where
  -- edges of rows, in the closure
  pub split_edges-within : All (λ e. EdgeOf m.tris e × (mem_edge e (closure m.tris start) ≡ true)) (split_edges m start)
  unfolding split_edges
  split_edges-within =
      once-keeps same_edge
      (All-both (only_keeps (λ e. mem_edge e (closure m.tris start)) (all_edges m.tris)) (only-passes (λ e. mem_edge e (closure m.tris start)) (joined edges m.tris)))

  -- and every one of them
  pub split_edges-all : (e : Edge) → EdgeOf m.tris e → mem_edge e (closure m.tris start) ≡ true → mem_edge e (split_edges m start) ≡ true
  unfolding split_edges
  split_edges-all e r h = mem_edge-in (once-in (only-in (λ d. mem_edge d (closure m.tris start)) (joined_in edges r.1 r.2) h))

  pub split_edges-exactly : (e : Edge) → (mem_edge e (split_edges m start) ≡ true) ↔ (EdgeOf m.tris e × (mem_edge e (closure m.tris start) ≡ true))
  split_edges-exactly e = (mem_edge-at e split_edges-within, λ r. split_edges-all e r.0 r.1)

  pub split_edges-apart : Apart (split_edges m start)
  unfolding split_edges
  split_edges-apart = once-apart (once-once (only (λ e. mem_edge e (closure m.tris start)) (joined edges m.tris)))

  -- with an edge of a row its refinement edge
  pub split_edges-pull : All (λ t. All (λ e. mem_edge e (split_edges m start) ≡ true → mem_edge (base t) (split_edges m start) ≡ true) (edges t)) m.tris
  split_edges-pull = All-of m.tris (λ t i. All-of (edges t) (λ e j h.
      split_edges-all (base t) (t, i, Memᴰ.head refl)
      (All-at (All-at (closure-closed m.tris start).pull i) j ((split_edges-exactly e).0 h).1)))

  -- where the starting edges are edges of rows, the split edges are a closed set
  pub split_edges-closed : All (EdgeOf m.tris) start → Closed m.tris start (λ e. mem_edge e (split_edges m start) ≡ true)
  split_edges-closed h = record {
    holds = All-imp (λ e r. split_edges-all e r.0 r.1) (All-both h (closure-closed m.tris start).holds);
    pull = split_edges-pull;
  }

  -- and they lie in every closed set
  pub split_edges-least : {S : Edge → Type 0} → Closed m.tris start S → All S (split_edges m start)
  split_edges-least c = All-imp (λ e r. mem_edge-at e (closure-least c) r.1) split_edges-within

-- ---- the starting edges of marked rows

-- the starting edges of every marked row are there, and no other edge
pub started-marked : (f : Tri → List Edge) (marks : List ℕ) (ts : List Tri) (i : ℕ) → i < length ts → get_or marks i 0 ≡ 1 → All (λ e. Memᴰ e (started f marks ts)) (f (row_of ts i))
started-marked f [] ts i h one = absurd (omega arith)
started-marked f (k ∷ ks) [] i h one = absurd (omega arith)
started-marked f (k ∷ ks) (t ∷ ts) zero h one = rw one (All-of (f t) (λ e j. Memᴰ.append_left (started f ks ts) j))
started-marked f (k ∷ ks) (t ∷ ts) (suc i) h one = All-imp (λ e j. go (eqb k 1) j) (started-marked f ks ts i (omega arith) one)
  where
    go : {e : Edge} (b : Bool) → Memᴰ e (started f ks ts) → Memᴰ e (if_marked b (f t) (started f ks ts))
    go true j = Memᴰ.append_right (f t) j
    go false j = j

pub started-only : (f : Tri → List Edge) (marks : List ℕ) (ts : List Tri) → All (λ e. (i : ℕ) × (i < length ts) × (get_or marks i 0 ≡ 1) × Memᴰ e (f (row_of ts i))) (started f marks ts)
started-only f [] ts = nil
started-only f (k ∷ ks) [] = nil
started-only f (k ∷ ks) (t ∷ ts) = go (eqb k 1) refl (All-imp (λ e r. (suc r.0, omega (arith, r.1), r.2, r.3)) (started-only f ks ts))
  where
    Of : Edge → Type 0
    Of e = (i : ℕ) × (i < suc (length ts)) × (get_or (k ∷ ks) i 0 ≡ 1) × Memᴰ e (f (row_of (t ∷ ts) i))

    go : (b : Bool) → eqb k 1 ≡ b → All Of (started f ks ts) → All Of (if_marked b (f t) (started f ks ts))
    go true q below = All-append (All-of (f t) (λ e j. (0, omega arith, eqb-true k 1 q, j))) below
    go false q below = below

-- a way that starts with edges of the marked rows: the split edges are the least closed set
pub started-edges : (f : Tri → List Edge) → ((t : Tri) → All (λ e. Memᴰ e (edges t)) (f t)) → (marks : List ℕ) (ts : List Tri) → All (EdgeOf ts) (started f marks ts)
started-edges f own marks ts =
    All-imp (λ e r. (row_of ts r.0, at_mem ts r.0 (tri 0 0 0) r.1, All-at (own (row_of ts r.0)) r.3)) (started-only f marks ts)
