-- W8: "the answer says 1 in a new field when it made a red cut, else 0". What that tells: it is 1 exactly if the call was not refused and a row is marked; and with no row
-- marked a refine, by whatever way, leaves the mesh as it is. But for that field the answer is W1's. Assumes nothing.
use Rattle.std.specs.Prelude.{Bool, true, false, ◌&&◌, List, [], ◌∷◌, ◌++◌, map, ◌↔◌, ◌≢◌, ◌≡◌, refl, ℕ, zero, suc, ◌<◌, length, get_or, Option, None, Some}
use Rattle.std.proofs.Common.{append-nil, sym, subst, ap₂, ◌∙◌, arith}
use Rattle.std.proofs.Math.Path.{ap}
use Rattle.lists.specs.Lists.{any, cases, joined, All, nil, cons}
use Rattle.lists.specs.ListsLaw.{clash, All-imp, All-at, All-of, yes-all, and_left, any_at, any-row, WhereIs, nowhere, place_of, where-is}
use Rattle.lists.specs.MembersLaw.{at_mem}
use Rattle.lists.specs.Tally.{bit}
use Rattle.meaning.specs.declared.Manner.{Manner}
use Rattle.meaning.specs.declared.Manner.TheVariants.{AllThree}
use Rattle.meaning.specs.declared.Quarters.{Quarters}
use Rattle.meaning.specs.declared.Quarters.TheVariants.{Bisected, Red}
use Rattle.meaning.specs.declared.Tri.{Tri}
use Rattle.meaning.specs.Mesh.{Mesh, Edge, tri, edge, edges, base, mesh}
use Rattle.meaning.specs.Lawful.{row_of}
use Rattle.meaning.specs.Split.{Cut, Cutting, Way, cut, bisected, red, cutting_of, number_of, cut_of, mem_edge, starts_of, way_of, in_red, wholly, red_made, split_edges, split_at, started, split, refined}
use Rattle.meaning.specs.Tables.{Given, Room, mesh_of, room_of}
use Rattle.meaning.specs.Calls.{says, refine_no, refines, sizes_fit, untouched, leaves, refine_out, TintedOut, if_done, refine_by_out, red_out}
use Rattle.laws.specs.Closure.{split_edges-least, started-marked, started-only}
use Rattle.laws.specs.Cut.{CutLaws, there}
use Rattle.laws.specs.Edges.{mem_edge-at}
use Rattle.laws.specs.SplitLaw.{number-there, split-nodes, split_rows}
use Rattle.laws.specs.Red.{quarters-laws}
use Rattle.laws.specs.Refine.{to_split, manner-splits}
use Rattle.laws.specs.TableMesh.{rows-count}

-- one of k rows is marked
abbrev pub SomeMarked : List ℕ → ℕ → Type 0
SomeMarked marks k = (i : ℕ) × (i < k) × (get_or marks i 0 ≡ 1)

-- ---- nothing is split where no row is marked

-- every edge that is split goes back to a marked row
marked_by : (f : Tri → List Edge) (m : Mesh) (marks : List ℕ) → All (λ e. SomeMarked marks (length m.tris)) (split_edges m (started f marks m.tris))
marked_by f m marks = split_edges-least m (started f marks m.tris)
    (record { holds = All-imp (λ e r. (r.0, r.1, r.2)) (started-only f marks m.tris); pull = All-of m.tris (λ t i. All-of (edges t) (λ e j h. h)) })

none_in : {A : Type 0} {P : A → Type 0} {l : List A} → ((x : A) → ¬ P x) → All P l → l ≡ []
none_in f nil = refl
none_in f (cons {x = x} h hs) = absurd (f x h)

unmarked-unsplit : (f : Tri → List Edge) (m : Mesh) (marks : List ℕ) → ¬ SomeMarked marks (length m.tris) → split_edges m (started f marks m.tris) ≡ []
unmarked-unsplit f m marks unmarked = none_in (λ e. unmarked) (marked_by f m marks)

-- a triangle with no edge split stays
rows_stay : (ts : List Tri) → map (λ t. t) ts ++ joined (λ t. []) ts ≡ ts
rows_stay [] = refl
rows_stay (t ∷ ts) = ap (λ us. t ∷ us) (rows_stay ts)

unsplit : {c : Cutting} → CutLaws c → (m : Mesh) → split_at c m [] ≡ m
unfolding split_at
unsplit {c} laws m = ap₂ mesh (append-nil m.nodes) (ap (λ (k : Tri → Cut). map (λ t. (k t).kept) m.tris ++ joined (λ t. (k t).added) m.tris) whole ∙ rows_stay m.tris)
  where
    whole : ◌≡◌ {A = Tri → Cut} (cut_of c (length m.nodes) []) (λ t. cut t [])
    whole = λ i t. laws.whole t None None i

-- WITH NO ROW MARKED THE MESH STAYS AS IT IS, whatever the way.
pub unmarked-stays : (w : Way) → CutLaws w.cutting → (m : Mesh) (marks : List ℕ) → ¬ SomeMarked marks (length m.tris) → refined w m marks ≡ m
unfolding refined split
unmarked-stays w laws m marks unmarked = ap (split_at w.cutting m) (unmarked-unsplit w.starts m marks unmarked) ∙ unsplit laws m

-- AND ALL WAYS DO THE SAME: the same number, counts and tables.
pub unmarked-alike : (w w' : Way) → CutLaws w.cutting → CutLaws w'.cutting → (g : Given) (n0 : ℕ) (marks : List ℕ) → ¬ SomeMarked marks g.t → refine_out w g n0 marks ≡ refine_out w' g n0 marks
unfolding refine_out refines refine_no
unmarked-alike w w' laws laws' g n0 marks unmarked =
    let None : ¬ SomeMarked marks (length (mesh_of g).tris) = rw (rows-count g) unmarked in
    rw (unmarked-stays w laws (mesh_of g) marks None, unmarked-stays w' laws' (mesh_of g) marks None, unmarked-unsplit w.starts (mesh_of g) marks None, unmarked-unsplit w'.starts (mesh_of g) marks None)

-- ---- the field

-- with all three edges starting, every marked row has all three split
pub marked-wholly : (q : Quarters) (m : Mesh) (marks : List ℕ) (i : ℕ) → i < length m.tris → get_or marks i 0 ≡ 1 → wholly (to_split (way_of AllThree q) m marks) (row_of m.tris i) ≡ true
marked-wholly q m marks i l one = yes-all (All-imp (λ e j. All-at (manner-splits AllThree q m marks).closed.holds j) (started-marked (starts_of AllThree) marks m.tris i l one))

-- "One or two split edges are cut as in 01."
pub else-as-01 : (n : ℕ) (s : List Edge) (t : Tri) → wholly s t ≡ false → cut_of red n s t ≡ cut_of bisected n s t
else-as-01 n s t h =
    let pq = edge t.p t.q in
    let rp = edge t.r t.p in
    go (number_of n s (base t)) (number_of n s pq) (number_of n s rp) (mem_edge (base t) s) (mem_edge pq s) (mem_edge rp s) (number-there n s (base t)) (number-there n s pq) (number-there n s rp) h
  where
    go : (o u v : Option ℕ) (a b c : Bool) → there o ≡ bit a → there u ≡ bit b → there v ≡ bit c → a && (b && (c && true)) ≡ false → red t o u v ≡ bisected t o u v
    go None u v a b c e f g h = refl
    go (Some m) None v a b c e f g h = refl
    go (Some m) (Some u) None a b c e f g h = refl
    go (Some m) (Some u) (Some v) true true true e f g h = clash h
    go (Some m) (Some u) (Some v) false b c e f g h = absurd (omega arith)
    go (Some m) (Some u) (Some v) true false c e f g h = absurd (omega arith)
    go (Some m) (Some u) (Some v) true true false e f g h = absurd (omega arith)

red-0-or-1 : (q : Quarters) (s : List Edge) (ts : List Tri) → red_made q s ts ≢ 1 → red_made q s ts ≡ 0
red-0-or-1 Bisected s ts n = refl
red-0-or-1 Red s ts n = go (any (wholly s) ts) n
  where
    go : (b : Bool) → cases {A = ℕ} b 1 0 ≢ 1 → cases {A = ℕ} b 1 0 ≡ 0
    go true n = absurd (n refl)
    go false n = refl

-- one of the rows has all three edges split, s being the split edges
abbrev pub SomeWholly : List Edge → List Tri → Type 0
SomeWholly s ts = (i : ℕ) × (i < length ts) × (wholly s (row_of ts i) ≡ true)

-- A RED CUT IS MADE EXACTLY IF A ROW HAS ALL THREE EDGES SPLIT,
pub red-wholly : (s : List Edge) (ts : List Tri) → (red_made Red s ts ≡ 1) ↔ SomeWholly s ts
red-wholly s ts = (onward (any (wholly s) ts) refl (where-is (wholly s) ts (tri 0 0 0)), λ r. rw (any_at (wholly s) r.2 (at_mem ts r.0 (tri 0 0 0) r.1)))
  where
    onward : (b : Bool) → any (wholly s) ts ≡ b → {o : Option ℕ} → WhereIs (wholly s) ts (tri 0 0 0) o → cases {A = ℕ} b 1 0 ≡ 1 → SomeWholly s ts
    onward true q (place_of i l t) e = (i, l, t)
    onward true q (nowhere h) e = let (t, i, w) = any-row (wholly s) ts q in clash (sym w ∙ All-at h i)
    onward false q w e = absurd (omega arith)

-- AND FROM ALL THREE EDGES EXACTLY IF A ROW IS MARKED.
pub red-marked : (m : Mesh) (marks : List ℕ) → (red_made Red (to_split in_red m marks) m.tris ≡ 1) ↔ SomeMarked marks (length m.tris)
red-marked m marks =
    let s = to_split in_red m marks in
    let w = red-wholly s m.tris in (
      λ e. (let (i, l, t) = w.0 e in mem_edge-at (base (row_of m.tris i)) (marked_by (starts_of AllThree) m marks) (and_left (mem_edge (base (row_of m.tris i)) s) _ t)),
      λ r. w.1 (r.0, r.1, marked-wholly Red m marks r.0 r.1 r.2),
    )

-- ---- the same answer, however triangles are quartered

-- as many nodes and rows are made
pub quarters-count : (k : Manner) (q q' : Quarters) (m : Mesh) (marks : List ℕ) →
    (length (refined (way_of k q) m marks).nodes ≡ length (refined (way_of k q') m marks).nodes) × (length (refined (way_of k q) m marks).tris ≡ length (refined (way_of k q') m marks).tris)
unfolding refined
quarters-count k q q' m marks =
    let start = started (starts_of k) marks m.tris in
    (split-nodes (cutting_of q) m start ∙ sym (split-nodes (cutting_of q') m start), split_rows (quarters-laws q) m start ∙ sym (split_rows (quarters-laws q') m start))

-- so that the same calls are refused, with the same number
pub quarters-number : (k : Manner) (q q' : Quarters) (room : Room) (m : Mesh) (marks : List ℕ) → refine_no (way_of k q) room m marks ≡ refine_no (way_of k q') room m marks
unfolding refine_no
quarters-number k q q' room m marks = let (a, b) = quarters-count k q q' m marks in rw (a, b)

-- THE ANSWER IS THE SAME, HOWEVER TRIANGLES ARE QUARTERED: number, counts and culprit. So a red refine answers as W1's does, but for the new field.
pub quarters-answer : (k : Manner) (q q' : Quarters) (g : Given) (n0 : ℕ) (marks : List ℕ) → (refine_out (way_of k q) g n0 marks).answer ≡ (refine_out (way_of k q') g n0 marks).answer
unfolding refine_out refines
quarters-answer k q q' g n0 marks = rw (quarters-number k q q' (room_of g) (mesh_of g) marks) (go (sizes_fit g n0) (refine_no (way_of k q') (room_of g) (mesh_of g) marks))
  where
    go : (b : Bool) (j : ℕ) →
        (cases b (leaves g (says j (mesh_of g) (refined (way_of k q) (mesh_of g) marks) 0)) (untouched g 1 0)).answer ≡ (cases b (leaves g (says j (mesh_of g) (refined (way_of k q') (mesh_of g) marks) 0)) (untouched g 1 0)).answer
    go true zero = let (a, b) = quarters-count k q q' (mesh_of g) marks in rw (a, b)
    go true (suc j) = refl
    go false j = refl

-- ---- of a call

done-1 : (k r : ℕ) → (if_done k r ≡ 1) ↔ ((k ≡ 0) × (r ≡ 1))
done-1 zero r = (λ e. (refl, e), λ h. h.1)
done-1 (suc k) r = (λ e. absurd (omega arith), λ h. absurd (omega (arith, h.0)))

done-else-0 : (k r : ℕ) → (r ≢ 1 → r ≡ 0) → if_done k r ≢ 1 → if_done k r ≡ 0
done-else-0 zero r f n = f n
done-else-0 (suc k) r f n = refl

-- what a call leaves but for the field
pub but-for-the-field : (k : Manner) (q : Quarters) (g : Given) (n0 : ℕ) (marks : List ℕ) (x : TintedOut) → x ≡ refine_by_out k q g n0 marks → x.outcome ≡ refine_out (way_of k q) g n0 marks
unfolding refine_by_out
but-for-the-field k q g n0 marks x e = ap (λ (y : TintedOut). y.outcome) e

module _ (g : Given) (n0 : ℕ) (marks : List ℕ) (x : TintedOut) (made : x ≡ red_out g n0 marks) where
  pub red-outcome : x.outcome ≡ refine_out in_red g n0 marks
  red-outcome = but-for-the-field AllThree Red g n0 marks x made

  abbrev cuts : ℕ
  cuts = red_made Red (to_split in_red (mesh_of g) marks) (mesh_of g).tris

  field_is : x.red ≡ if_done x.outcome.answer.number cuts
  unfolding refine_by_out
  field_is = ap (λ (y : TintedOut). y.red) made ∙ ap (λ (y : TintedOut). if_done y.outcome.answer.number cuts) (sym made)

  says-1 : {A : Type 0} → (cuts ≡ 1) ↔ A → (x.red ≡ 1) ↔ ((x.outcome.answer.number ≡ 0) × A)
  says-1 r =
      let d = done-1 x.outcome.answer.number cuts in
      (λ e. (let (z, o) = d.0 (sym field_is ∙ e) in (z, r.0 o)), λ h. field_is ∙ d.1 (h.0, r.1 h.1))

  -- W8: "SAYS 1 .. WHEN IT MADE A RED CUT": exactly if it was not refused and a row has all three edges split,
  pub says-1-exactly : (x.red ≡ 1) ↔ ((x.outcome.answer.number ≡ 0) × SomeWholly (to_split in_red (mesh_of g) marks) (mesh_of g).tris)
  says-1-exactly = says-1 (red-wholly (to_split in_red (mesh_of g) marks) (mesh_of g).tris)

  -- that is, if a row is marked;
  pub says-1-marked : (x.red ≡ 1) ↔ ((x.outcome.answer.number ≡ 0) × SomeMarked marks g.t)
  says-1-marked = says-1 (subst (λ k. (cuts ≡ 1) ↔ SomeMarked marks k) (rows-count g) (red-marked (mesh_of g) marks))

  -- "ELSE 0"
  pub else-0 : x.red ≢ 1 → x.red ≡ 0
  else-0 n = field_is ∙ done-else-0 x.outcome.answer.number cuts (red-0-or-1 Red (to_split in_red (mesh_of g) marks) (mesh_of g).tris) (λ e. n (field_is ∙ e))
