-- The refine call, for any way whose cut has the laws of a cut. What it says: each number exactly when document 01's table says so.
-- When it says 0: the split edges are the least closed set, and the mesh it leaves is lawful, of the same total, and what splitting
-- makes of it. Assumes nothing.
use Rattle.std.specs.Prelude.{Bool, ◌&&◌, ◌↔◌, ◌≢◌, ◌⊎◌, ◌≡◌, ℕ, zero, suc, ◌+◌, ◌%◌, ◌≤◌, ◌<◌, eqb, leb, nat_abs, ◌+ℤ◌, length, get_or}
use Rattle.std.proofs.Math.Bool.{true, false}
use mathlib.Core.List.Memᴰ
use mathlib.Core.List.{List, [], ◌∷◌, ◌++◌, map, Memᴰ}
use Rattle.std.proofs.Common.{inl, inr, subst, arith, eqb-true, leb-true, leb-false, le-leb}
use Rattle.std.proofs.Math.Path.{refl, subst⁻¹}
use Rattle.std.proofs.lemmas.Bool.{eqb-false}
use Rattle.lists.specs.Lists.{all, count, joined, All, nil, cons}
use Rattle.lists.specs.ListsLaw.{clash, and_both, and_left, and_right, All-imp, All-at, All-of, All-get_or, all_yes, yes-all}
use Rattle.lists.specs.Tally.{tally}
use Rattle.meaning.specs.declared.Manner.{Manner}
use Rattle.meaning.specs.declared.Manner.TheVariants.{Newest, AllThree}
use Rattle.meaning.specs.declared.Quarters.{Quarters}
use Rattle.meaning.specs.declared.Tri.{Tri}
use Rattle.meaning.specs.Mesh.{Mesh, Edge, edges, base, node_of, at, total}
use Rattle.meaning.specs.Lawful.{Lawful, Applies, out_of_range, misnames, occurs-twice, not-above, in-none, Lowest, refusal, row_of}
use Rattle.meaning.specs.Good.{Middle}
use Rattle.meaning.specs.Split.{Closed, mem_edge, Way, starts_of, way_of, even, halves, new_node, cut_of, split_edges, split_at, started, split, refined}
use Rattle.meaning.specs.Tables.{Room}
use Rattle.meaning.specs.Calls.{unless, or_else, marks_fit, fits, refine_no}
use Rattle.laws.specs.Exact.{refuted, or_else-first}
use Rattle.laws.specs.Lawful.{refusal-lawful, lawful-refusal, refusal-exact, lowest-one}
use Rattle.laws.specs.Marks.{WellMarked, marks-exact, marks-unfit}
use Rattle.laws.specs.Closure.{Apart, split_edges-closed, split_edges-least, split_edges-apart, started-marked, started-only, started-edges}
use Rattle.laws.specs.Cut.{CutLaws}
use Rattle.laws.specs.Red.{quarters-laws}
use Rattle.laws.specs.Mean.{MeanDown, mean-down}
use Rattle.laws.specs.Midpoints.{midpoint-middle}
use Rattle.laws.specs.SplitLaw.{split-nodes, split_rows, split-old, split-new, split-lawful, split-total}

-- ---- the edges to be split

abbrev pub to_split : Way → Mesh → List ℕ → List Edge
to_split w m marks = split_edges m (started w.starts marks m.tris)

-- s is the least set of edges that holds the starting edges and, for each triangle with an edge in it, its refinement edge; each once
pub record Least (ts : List Tri) (start s : List Edge) : Type 1 where
  pub closed : Closed ts start (λ e. mem_edge e s ≡ true)
  pub least : (S : Edge → Type 0) → Closed ts start S → All S s
  pub apart : Apart s

-- for a way that starts with edges of the marked triangles
pub refine-splits : (w : Way) → ((t : Tri) → All (λ e. Memᴰ e (edges t)) (w.starts t)) → (m : Mesh) (marks : List ℕ) →
    Least m.tris (started w.starts marks m.tris) (to_split w m marks)
refine-splits w own m marks = record {
  closed = split_edges-closed m (started w.starts marks m.tris) (started-edges w.starts own marks m.tris);
  least = λ S c. split_edges-least m (started w.starts marks m.tris) c;
  apart = split_edges-apart m (started w.starts marks m.tris);
}

-- in each manner these are edges of the marked triangle, its refinement edge among them
pub starts-own : (k : Manner) (t : Tri) → All (λ e. Memᴰ e (edges t)) (starts_of k t)
starts-own Newest t = cons (Memᴰ.head refl) nil
starts-own AllThree t = All-of (edges t) (λ e i. i)

pub starts-base : (k : Manner) (t : Tri) → Memᴰ (base t) (starts_of k t)
starts-base Newest t = Memᴰ.head refl
starts-base AllThree t = Memᴰ.head refl

pub manner-splits : (k : Manner) (q : Quarters) (m : Mesh) (marks : List ℕ) → Least m.tris (started (starts_of k) marks m.tris) (to_split (way_of k q) m marks)
manner-splits k q = refine-splits (way_of k q) (starts-own k)

-- THE START SET: the starting edges of every marked row, and no other edge
pub started-exactly : (f : Tri → List Edge) (marks : List ℕ) (ts : List Tri) (e : Edge) →
    Memᴰ e (started f marks ts) ↔ ((i : ℕ) × (i < length ts) × (get_or marks i 0 ≡ 1) × Memᴰ e (f (row_of ts i)))
started-exactly f marks ts e = (λ j. All-at (started-only f marks ts) j, λ r. All-at (started-marked f marks ts r.0 r.1 r.2) r.3)

-- "the refinement edge of every marked triangle"
pub newest-started : (marks : List ℕ) (ts : List Tri) (e : Edge) →
    Memᴰ e (started (starts_of Newest) marks ts) ↔ ((i : ℕ) × (i < length ts) × (get_or marks i 0 ≡ 1) × (e ≡ base (row_of ts i)))
newest-started marks ts e = (
  λ j. (let r = (started-exactly (starts_of Newest) marks ts e).0 j in (r.0, r.1, r.2, Memᴰ.eq_of_singleton r.3)),
  λ r. (started-exactly (starts_of Newest) marks ts e).1 (r.0, r.1, r.2, Memᴰ.head r.3),
)

-- W1: "all three edges of a marked triangle"
pub all-three-started : (marks : List ℕ) (ts : List Tri) (e : Edge) →
    Memᴰ e (started (starts_of AllThree) marks ts) ↔ ((i : ℕ) × (i < length ts) × (get_or marks i 0 ≡ 1) × Memᴰ e (edges (row_of ts i)))
all-three-started = started-exactly (starts_of AllThree)

-- ---- 8: "an edge to be split has an odd sum of x or of y"

pub data OddSum (m : Mesh) (e : Edge) : Type 0 where
  odd-x : nat_abs ((at m e.lo).x +ℤ (at m e.hi).x) % 2 ≡ 1 → OddSum m e
  odd-y : nat_abs ((at m e.lo).y +ℤ (at m e.hi).y) % 2 ≡ 1 → OddSum m e

odd-halves : (m : Mesh) (e : Edge) → OddSum m e → halves m e ≡ true → ⊥
odd-halves m e (odd-x o) h = let z = eqb-true (nat_abs ((at m e.lo).x +ℤ (at m e.hi).x) % 2) 0 (and_left (even ((at m e.lo).x +ℤ (at m e.hi).x)) (even ((at m e.lo).y +ℤ (at m e.hi).y)) h) in omega arith
odd-halves m e (odd-y o) h = let z = eqb-true (nat_abs ((at m e.lo).y +ℤ (at m e.hi).y) % 2) 0 (and_right (even ((at m e.lo).x +ℤ (at m e.hi).x)) (even ((at m e.lo).y +ℤ (at m e.hi).y)) h) in omega arith

halves-odd : (m : Mesh) (e : Edge) → halves m e ≡ false → OddSum m e
halves-odd m e h = go (even ((at m e.lo).x +ℤ (at m e.hi).x)) refl (even ((at m e.lo).y +ℤ (at m e.hi).y)) refl h
  where
    odd : (k : ℕ) → eqb (k % 2) 0 ≡ false → k % 2 ≡ 1
    odd k q = let ne = eqb-false (k % 2) 0 q in omega arith

    go : (a : Bool) → even ((at m e.lo).x +ℤ (at m e.hi).x) ≡ a → (b : Bool) → even ((at m e.lo).y +ℤ (at m e.hi).y) ≡ b → a && b ≡ false → OddSum m e
    go false p b q h = odd-x (odd (nat_abs ((at m e.lo).x +ℤ (at m e.hi).x)) p)
    go true p false q h = odd-y (odd (nat_abs ((at m e.lo).y +ℤ (at m e.hi).y)) q)
    go true p true q h = clash h

all-no : (f : Edge → Bool) (l : List Edge) → all f l ≡ false → (e : Edge) × Memᴰ e l × (f e ≡ false)
all-no f [] h = clash h
all-no f (x ∷ xs) h = go (f x) refl h (all-no f xs)
  where
    go : (b : Bool) → f x ≡ b → b && all f xs ≡ false → (all f xs ≡ false → (e : Edge) × Memᴰ e xs × (f e ≡ false)) → (e : Edge) × Memᴰ e (x ∷ xs) × (f e ≡ false)
    go true q h below = let r = below h in (r.0, Memᴰ.tail r.1, r.2)
    go false q h below = (x, Memᴰ.head refl, q)

-- ---- 9: "new counts above NC or TC"

pub record Fits (room : Room) (m : Mesh) : Type 0 where
  pub nodes-fit : length m.nodes ≤ room.nodes
  pub rows_fit : length m.tris ≤ room.rows

pub data TooMany (room : Room) (m : Mesh) : Type 0 where
  too-many-nodes : room.nodes < length m.nodes → TooMany room m
  too_many_rows : room.rows < length m.tris → TooMany room m

fits-yes : (room : Room) (m : Mesh) → fits room m ≡ true → Fits room m
fits-yes room m e = record {
  nodes-fit = leb-true (length m.nodes) room.nodes (and_left (leb (length m.nodes) room.nodes) (leb (length m.tris) room.rows) e);
  rows_fit = leb-true (length m.tris) room.rows (and_right (leb (length m.nodes) room.nodes) (leb (length m.tris) room.rows) e);
}

yes-fits : (room : Room) (m : Mesh) → Fits room m → fits room m ≡ true
yes-fits room m h = and_both (le-leb (length m.nodes) room.nodes h.nodes-fit) (le-leb (length m.tris) room.rows h.rows_fit)

too_many : {room : Room} {m : Mesh} → TooMany room m → Fits room m → ⊥
too_many (too-many-nodes h) f = omega (arith, f.nodes-fit)
too_many (too_many_rows h) f = omega (arith, f.rows_fit)

fits-no : (room : Room) (m : Mesh) → fits room m ≡ false → TooMany room m
fits-no room m e = go (leb (length m.nodes) room.nodes) refl (leb (length m.tris) room.rows) refl e
  where
    go : (a : Bool) → leb (length m.nodes) room.nodes ≡ a → (b : Bool) → leb (length m.tris) room.rows ≡ b → a && b ≡ false → TooMany room m
    go false p b q h = too-many-nodes (leb-false (length m.nodes) room.nodes p)
    go true p false q h = too_many_rows (leb-false (length m.tris) room.rows q)
    go true p true q h = clash h

-- ---- what the call says

module _ (w : Way) (room : Room) (m : Mesh) (marks : List ℕ) where
  -- when each number is given, line by line
  pub data RefineSays : ℕ → Type 0 where
    -- 2 "mark table of another length, or a byte above 1"
    ill-marked : ¬ WellMarked (length m.tris) marks → RefineSays 2
    -- 3 to 7
    unlawful : (k : ℕ) → WellMarked (length m.tris) marks → 0 < k → Lowest m k → RefineSays k
    -- 8 "an edge to be split has an odd sum of x or of y"
    odd-sum : WellMarked (length m.tris) marks → Lawful m → (e : Edge) → Memᴰ e (to_split w m marks) → OddSum m e → RefineSays 8
    -- 9 "new counts above NC or TC"
    no_room : WellMarked (length m.tris) marks → Lawful m → All (λ e. ¬ OddSum m e) (to_split w m marks) → TooMany room (refined w m marks) → RefineSays 9
    -- 0 "done"
    no-fault : WellMarked (length m.tris) marks → Lawful m → All (λ e. ¬ OddSum m e) (to_split w m marks) → Fits room (refined w m marks) → RefineSays 0

  none-odd : all (halves m) (to_split w m marks) ≡ true → All (λ e. ¬ OddSum m e) (to_split w m marks)
  none-odd h = All-imp (λ e t o. odd-halves m e o t) (all_yes (halves m) (to_split w m marks) h)

  pub all-halves : All (λ e. ¬ OddSum m e) (to_split w m marks) → all (halves m) (to_split w m marks) ≡ true
  all-halves h = yes-all (All-imp (λ e f. go e (halves m e) refl f) h)
    where
      go : (e : Edge) (b : Bool) → halves m e ≡ b → ¬ OddSum m e → b ≡ true
      go e true q f = refl
      go e false q f = absurd (f (halves-odd m e q))

  refine-says : RefineSays (refine_no w room m marks)
  unfolding refine_no
  refine-says = marked (marks_fit (length m.tris) marks) refl
    where
      roomy : WellMarked (length m.tris) marks → Lawful m → All (λ e. ¬ OddSum m e) (to_split w m marks) → (b : Bool) → fits room (refined w m marks) ≡ b → RefineSays (unless b 9 0)
      roomy g l h true q = no-fault g l h (fits-yes room (refined w m marks) q)
      roomy g l h false q = no_room g l h (fits-no room (refined w m marks) q)

      exact : WellMarked (length m.tris) marks → Lawful m → (b : Bool) → all (halves m) (to_split w m marks) ≡ b → RefineSays (unless b 8 (unless (fits room (refined w m marks)) 9 0))
      exact g l true q = roomy g l (none-odd q) (fits room (refined w m marks)) refl
      exact g l false q = let r = all-no (halves m) (to_split w m marks) q in odd-sum g l r.0 r.1 (halves-odd m r.0 r.2)

      lawful : WellMarked (length m.tris) marks → (k : ℕ) → refusal m ≡ k →
          RefineSays (or_else k (unless (all (halves m) (to_split w m marks)) 8 (unless (fits room (refined w m marks)) 9 0)))
      lawful g zero q = exact g (refusal-lawful m q) (all (halves m) (to_split w m marks)) refl
      lawful g (suc k) q = unlawful (suc k) g (omega arith) ((refusal-exact m (suc k)).0 q)

      marked : (b : Bool) → marks_fit (length m.tris) marks ≡ b →
          RefineSays (unless b 2 (or_else (refusal m) (unless (all (halves m) (to_split w m marks)) 8 (unless (fits room (refined w m marks)) 9 0))))
      marked true q = lawful ((marks-exact (length m.tris) marks).0 q) (refusal m) refl
      marked false q = ill-marked ((marks-unfit (length m.tris) marks).0 q)

  says-refine : {k : ℕ} → RefineSays k → refine_no w room m marks ≡ k
  unfolding refine_no
  says-refine (ill-marked f) = rw ((marks-unfit (length m.tris) marks).1 f)
  says-refine (unlawful k g above l) =
      rw ((marks-exact (length m.tris) marks).1 g, (refusal-exact m k).1 l)
      (or_else-first k (unless (all (halves m) (to_split w m marks)) 8 (unless (fits room (refined w m marks)) 9 0)) above)
  says-refine (odd-sum g l e i o) =
      rw ((marks-exact (length m.tris) marks).1 g, lawful-refusal m l, refuted (all (halves m) (to_split w m marks)) (λ h. odd-halves m e o (All-at (all_yes (halves m) (to_split w m marks) h) i)))
  says-refine (no_room g l h t) =
      rw ((marks-exact (length m.tris) marks).1 g, lawful-refusal m l, all-halves h, refuted (fits room (refined w m marks)) (λ f. too_many t (fits-yes room (refined w m marks) f)))
  says-refine (no-fault g l h f) = rw ((marks-exact (length m.tris) marks).1 g, lawful-refusal m l, all-halves h, yes-fits room (refined w m marks) f)

  -- EACH NUMBER IS GIVEN EXACTLY WHEN ITS LINE SAYS, AND NO OTHER IS.
  pub refine-exact : (k : ℕ) → (refine_no w room m marks ≡ k) ↔ RefineSays k
  refine-exact k = (λ e. subst RefineSays e refine-says, says-refine)

  -- ---- number by number

  three-to-seven : (k : ℕ) → 0 < k → Lowest m k → (3 ≤ k) × (k ≤ 7)
  three-to-seven k above l = go (l.applies above)
    where
      go : {j : ℕ} → Applies m j → (3 ≤ j) × (j ≤ 7)
      go (out_of_range k h f) = omega arith
      go (misnames i h f) = omega arith
      go (occurs-twice e h) = omega arith
      go (not-above i h f) = omega arith
      go (in-none z h f) = omega arith

  pub refine-2 : (refine_no w room m marks ≡ 2) ↔ (¬ WellMarked (length m.tris) marks)
  refine-2 = (λ e. go ((refine-exact 2).0 e), λ f. (refine-exact 2).1 (ill-marked f))
    where
      go : RefineSays 2 → ¬ WellMarked (length m.tris) marks
      go (ill-marked f) = f
      go (unlawful k g above l) = absurd (let h = three-to-seven 2 above l in omega arith)

  -- marks that fit: 3 to 7 as for every call
  module _ (g : WellMarked (length m.tris) marks) where
    pub refine-3-to-7 : (k : ℕ) → 3 ≤ k → k ≤ 7 → (refine_no w room m marks ≡ k) ↔ Lowest m k
    refine-3-to-7 k from to = (λ e. go ((refine-exact k).0 e) from to, λ l. (refine-exact k).1 (unlawful k g (omega arith) l))
      where
        go : {j : ℕ} → RefineSays j → 3 ≤ j → j ≤ 7 → Lowest m j
        go (ill-marked f) h l = absurd (f g)
        go (unlawful k g above low) h l = low
        go (odd-sum g law e i o) h l = absurd (omega arith)
        go (no_room g law h' t) h l = absurd (omega arith)
        go (no-fault g law h' f) h l = absurd (omega arith)

    -- and a lawful mesh: one of 8, 9 and 0
    module _ (law : Lawful m) where
      pub refine-8 : (refine_no w room m marks ≡ 8) ↔ ((e : Edge) × Memᴰ e (to_split w m marks) × OddSum m e)
      refine-8 = (λ e. go ((refine-exact 8).0 e), λ r. (refine-exact 8).1 (odd-sum g law r.0 r.1 r.2))
        where
          go : RefineSays 8 → (e : Edge) × Memᴰ e (to_split w m marks) × OddSum m e
          go (odd-sum g law e i o) = (e, i, o)
          go (unlawful k g above l) = absurd (let h = three-to-seven 8 above l in omega arith)

      pub refine-9 : (refine_no w room m marks ≡ 9) ↔ (All (λ e. ¬ OddSum m e) (to_split w m marks) × TooMany room (refined w m marks))
      refine-9 = (λ e. go ((refine-exact 9).0 e), λ r. (refine-exact 9).1 (no_room g law r.0 r.1))
        where
          go : RefineSays 9 → All (λ e. ¬ OddSum m e) (to_split w m marks) × TooMany room (refined w m marks)
          go (no_room g law h t) = (h, t)
          go (unlawful k g above l) = absurd (let h = three-to-seven 9 above l in omega arith)

      pub refine-0 : (refine_no w room m marks ≡ 0) ↔ (All (λ e. ¬ OddSum m e) (to_split w m marks) × Fits room (refined w m marks))
      refine-0 = (λ e. go ((refine-exact 0).0 e), λ r. (refine-exact 0).1 (no-fault g law r.0 r.1))
        where
          go : RefineSays 0 → All (λ e. ¬ OddSum m e) (to_split w m marks) × Fits room (refined w m marks)
          go (no-fault g law h f) = (h, f)
          go (unlawful k g above l) = absurd (omega arith)

      -- "refused only as 8 or 9"
      pub refine-only-8-9 : refine_no w room m marks ≢ 0 → (refine_no w room m marks ≡ 8) ⊎ (refine_no w room m marks ≡ 9)
      refine-only-8-9 n = go refine-says n
        where
          go : {k : ℕ} → RefineSays k → k ≢ 0 → (k ≡ 8) ⊎ (k ≡ 9)
          go (ill-marked f) n = absurd (f g)
          go (unlawful k g above l) n = absurd (n (lowest-one (Applies m) k 0 l ((refusal-exact m 0).0 (lawful-refusal m law))))
          go (odd-sum g law e i o) n = inl refl
          go (no_room g law h t) n = inr refl
          go (no-fault g law h f) n = absurd (n refl)

-- ---- done

-- what is left when the call says 0
pub record Refined (w : Way) (room : Room) (m : Mesh) (marks : List ℕ) (after : Mesh) : Type 0 where
  pub lawful : Lawful after
  pub total_kept : total after ≡ total m
  -- a new node for each edge that is split, a new row for each edge of a row that is split
  pub node-count : length after.nodes ≡ length m.nodes + length (to_split w m marks)
  pub row_count : length after.tris ≡ length m.tris + tally (λ t. count (λ e. mem_edge e (to_split w m marks)) (edges t)) m.tris
  pub fit : Fits room after
  -- an old node keeps its number and is as it was
  pub node_kept : (k : ℕ) → k < length m.nodes → node_of after k ≡ node_of m k
  -- "The place is the exact midpoint": node n + i halves the i-th of them
  pub place-new : (i : ℕ) (d : Edge) → i < length (to_split w m marks) →
      Middle (at after (length m.nodes + i)) (at m (get_or (to_split w m marks) i d).lo) (at m (get_or (to_split w m marks) i d).hi)
  -- W5: it "starts with the mean of the two ends, rounded down"
  pub correction-new : (i : ℕ) (d : Edge) → i < length (to_split w m marks) →
      MeanDown (node_of after (length m.nodes + i)).correction (node_of m (get_or (to_split w m marks) i d).lo).correction (node_of m (get_or (to_split w m marks) i d).hi).correction
  -- the whole of it: the old nodes, then the new; each row's first part in its place, then the other parts, "fathers in row order"
  pub nodes-are : after.nodes ≡ m.nodes ++ map (new_node m) (to_split w m marks)
  pub rows_are : after.tris ≡
      map (λ t. (cut_of w.cutting (length m.nodes) (to_split w m marks) t).kept) m.tris ++
      joined (λ t. (cut_of w.cutting (length m.nodes) (to_split w m marks) t).added) m.tris

-- when refine says 0, every edge to be split has an exact midpoint
pub refine-halves : (w : Way) (room : Room) (m : Mesh) (marks : List ℕ) → refine_no w room m marks ≡ 0 → all (halves m) (to_split w m marks) ≡ true
refine-halves w room m marks e = go ((refine-exact w room m marks 0).0 e)
  where
    go : RefineSays w room m marks 0 → all (halves m) (to_split w m marks) ≡ true
    go (unlawful k g above l) = absurd (omega arith)
    go (no-fault g law h f) = all-halves w room m marks h

-- WHEN REFINE SAYS 0, it leaves a lawful mesh of the same total.
pub refine-done : (w : Way) → CutLaws w.cutting → (room : Room) (m : Mesh) (marks : List ℕ) → refine_no w room m marks ≡ 0 →
    Refined w room m marks (refined w m marks)
unfolding refined split split_at
refine-done w laws room m marks e = go ((refine-exact w room m marks 0).0 e)
  where
    go : RefineSays w room m marks 0 → Refined w room m marks (refined w m marks)
    go (unlawful k g above l) = absurd (omega arith)
    go (no-fault g law h f) =
        let start = started w.starts marks m.tris in
        let even = all-halves w room m marks h in
        record {
          lawful = split-lawful laws m start law even;
          total_kept = split-total laws m start law even;
          node-count = split-nodes w.cutting m start;
          row_count = split_rows laws m start;
          fit = f;
          node_kept = split-old w.cutting m start;
          place-new = λ i d l.
              subst⁻¹ (λ x. Middle x.place (at m (get_or (split_edges m start) i d).lo) (at m (get_or (split_edges m start) i d).hi)) (split-new w.cutting m start i d l)
              (midpoint-middle m (get_or (split_edges m start) i d) (All-get_or (all_yes (halves m) (split_edges m start) even) i d l));
          correction-new = λ i d l.
              rw (split-new w.cutting m start i d l)
              (mean-down (node_of m (get_or (split_edges m start) i d).lo).correction (node_of m (get_or (split_edges m start) i d).hi).correction);
          nodes-are = refl;
          rows_are = refl;
        }

-- in each manner, and however triangles are quartered
pub manner-done : (k : Manner) (q : Quarters) (room : Room) (m : Mesh) (marks : List ℕ) → refine_no (way_of k q) room m marks ≡ 0 → Refined (way_of k q) room m marks (refined (way_of k q) m marks)
manner-done k q = refine-done (way_of k q) (quarters-laws q)
