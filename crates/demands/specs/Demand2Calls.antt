-- DEMAND 2 OF THE CALLS. Every premise on a call is the equation that its contract ensures, so that what is said here holds of any run of
-- the calls themselves: mesh::check, mesh::refine, mesh::quarter, mesh::refine_red, mesh::coarsen, mesh::set_correction, mesh::correction_at (crates/mesh/src/lib.rt;
-- the last in AskCall) and job::restore (crates/job/src/lib.rt). What `Answers`, `Holds` and `AsGiven` say of tables stands in crates/laws/specs/CallLaw.antt: `Answers` says of every
-- call which number it gives and, W2, which node or row the culprit is (`Names` in crates/meaning/specs/Lawful.antt). Assumes nothing.
use Rattle.std.specs.Prelude.{true, false, ◌↔◌, ◌≢◌, ◌⊎◌, ◌≡◌, refl, ℕ, zero, suc, ◌*◌, ◌/◌, ◌≤◌, ◌<◌, length, get_or, replicate, Some}
use mathlib.Core.List.{List, [], ◌∷◌, Memᴰ}
use Rattle.std.proofs.Common.{sym, subst, ap, ◌∙◌, arith}
use Rattle.lists.specs.Lists.{All}
use Rattle.lists.specs.IterLaw.{get_or-items}
use Rattle.meaning.specs.declared.Manner.{Manner}
use Rattle.meaning.specs.declared.Manner.TheVariants.{Newest, AllThree}
use Rattle.meaning.specs.declared.Quarters.{Quarters}
use Rattle.meaning.specs.declared.Quarters.TheVariants.{Bisected, Red}
use Rattle.meaning.specs.declared.Tri.{Tri}
use Rattle.meaning.specs.declared.Correction.{Correction}
use Rattle.meaning.specs.declared.Node.{Node}
use Rattle.meaning.specs.declared.Place.{Place}
use Rattle.meaning.specs.Mesh.{Mesh, Edge, tri, node, node_of, origin, edges, base}
use Rattle.meaning.specs.Lawful.{InBounds, Lawful, Compatible, Lowest, Names, refusal, row_of}
use Rattle.meaning.specs.Split.{Way, starts_of, way_of, newest, all_three, in_red, bisected, red, cut_of, wholly, started, refined}
use Rattle.meaning.specs.Coarsen.{coarsened, restored}
use Rattle.meaning.specs.Setting.{SetSays, SetNames, corrected, set_fault}
use Rattle.meaning.specs.Tables.{Given, Outcome, given, node_form, row_form, node_at, place_at, row_at, mesh_of, room_of}
use Rattle.meaning.specs.Calls.{culprit_of, check_no, refine_no, coarsen_no, check_out, refine_out, TintedOut, red_out, coarsen_out, restore_out, set_out, Heard, ask_out}
use Rattle.laws.specs.Lawful.{refusal-lawful, refusal-exact, applies-from-3}
use Rattle.laws.specs.Late.{late-not-1}
use Rattle.proper.specs.Flawless.{Flawless}
use Rattle.proper.proofs.Check.{CheckSays, NoneCrowded, SomeCrowded, SomeOverlap, base-past, check-exact, check-11, check-12, check-10, check-0}
use Rattle.laws.specs.Marks.{WellMarked}
use Rattle.laws.specs.Cut.{CutLaws, parts}
use Rattle.laws.specs.Red.{quarters-laws}
use Rattle.laws.specs.RedShape.{ShapedLike}
use Rattle.laws.specs.RedTold.{SomeMarked, SomeWholly, marked-wholly, else-as-01, quarters-answer, unmarked-stays, red-outcome, says-1-exactly, says-1-marked, else-0}
use Rattle.laws.specs.Refine.{to_split, Least, OddSum, Fits, TooMany, RefineSays, unlawful, Refined, refine-splits, started-exactly, starts-own, refine-exact, refine-8, refine-9, refine-0, refine-only-8-9, refine-done}
use Rattle.laws.specs.CoarsenCalls.{Coarsened, CoarsenSays, well-marked, RestoreDone, coarsen-exact, coarsen-0, coarsen-done, restore-done}
use Rattle.laws.specs.Restore.{LooksAt, looks-lawful, restored-fewer, restored-rows}
use Rattle.laws.specs.Setting.{Corrected, set-exact, set-not-1, set-0, set-13, set-15, set-done}
use Rattle.laws.specs.TableMesh.{nodes-count, rows-count, tables_after}
use Rattle.laws.specs.CallLaw.{Sizes, sizes-exact, AsGiven, Holds, AnswersBy, Answers, CallLeaves, call-answers, done-holds, check-leaves, refine-leaves, coarsen-leaves, restore-leaves, set-leaves, check-names, refine-names, coarsen-names, restore-names, set-call-names, set-counts, restore-refused}
use Rattle.demands.specs.AskCall.{AskMade, ask-call}
use Rattle.demands.specs.InFour.{InFour, wholly-in-four, marked-in-four, four-shaped}

-- ---- what a user finds

-- W7: the number k of the base check, in tables that fit
pub record OfBase (m : Mesh) (k : ℕ) : Type 0 where
  pub exactly-11 : (k ≡ 11) ↔ (Lawful m × SomeCrowded m)
  pub exactly-12 : (k ≡ 12) ↔ (Lawful m × NoneCrowded m × SomeOverlap m)
  pub exactly-10 : (k ≡ 10) ↔ (Flawless m × (¬ Compatible m))
  pub exactly-0 : (k ≡ 0) ↔ (Flawless m × Compatible m)

pub record CheckMade (g : Given) (o : Outcome) : Type 0 where
  pub answered : Answers g 0 (CheckSays (mesh_of g)) o
  pub of-sized : Sizes g 0 → OfBase (mesh_of g) o.answer.number
  -- after 0 too: "the base check writes no table but scratch"
  pub never-written : AsGiven g o

-- of a lawful mesh with lawful marks: refused only as 8 or 9, and exactly when
pub record OfLawful (w : Way) (g : Given) (marks : List ℕ) (k : ℕ) : Type 0 where
  pub only-8-or-9 : k ≢ 0 → (k ≡ 8) ⊎ (k ≡ 9)
  pub exactly-8 : (k ≡ 8) ↔ ((e : Edge) × Memᴰ e (to_split w (mesh_of g) marks) × OddSum (mesh_of g) e)
  pub exactly-9 : (k ≡ 9) ↔ (All (λ e. ¬ OddSum (mesh_of g) e) (to_split w (mesh_of g) marks) × TooMany (room_of g) (refined w (mesh_of g) marks))
  pub exactly-0 : (k ≡ 0) ↔ (All (λ e. ¬ OddSum (mesh_of g) e) (to_split w (mesh_of g) marks) × Fits (room_of g) (refined w (mesh_of g) marks))

-- after 0
pub record RefineDone (w : Way) (g : Given) (marks : List ℕ) (o : Outcome) : Type 0 where
  -- the tables hold the refined mesh, zeros past it
  pub holds : Holds g (refined w (mesh_of g) marks) o
  -- which is lawful, of the same total, with the nodes and rows that splitting makes
  pub is-refined : Refined w (room_of g) (mesh_of g) marks (mesh_of (tables_after o))
  pub reports-none : o.answer.passes ≡ 0

-- a refine by the way w, which starts from `starts t` for every marked triangle t
pub record RefineMade (w : Way) (starts : Tri → List Edge) (g : Given) (n0 : ℕ) (marks : List ℕ) (o : Outcome) : Type 1 where
  pub answered : Answers g n0 (RefineSays w (room_of g) (mesh_of g) marks) o
  -- the starting edges: those of every marked triangle, and no other
  pub starts-exactly : (e : Edge) →
      Memᴰ e (started w.starts marks (mesh_of g).tris) ↔ ((i : ℕ) × (i < length (mesh_of g).tris) × (get_or marks i 0 ≡ 1) × Memᴰ e (starts (row_of (mesh_of g).tris i)))
  -- the edges to be split: the least set that holds these and, with any edge of a triangle, its refinement edge
  pub splits-least : Least (mesh_of g).tris (started w.starts marks (mesh_of g).tris) (to_split w (mesh_of g) marks)
  pub of-lawful : Sizes g n0 → WellMarked g.t marks → Lawful (mesh_of g) → OfLawful w g marks o.answer.number
  pub leaves-refined : o.answer.number ≡ 0 → RefineDone w g marks o

-- what a call leaves that changed nothing in the mesh
pub record SameMesh (g : Given) (o : Outcome) : Type 0 where
  pub mesh-same : mesh_of (tables_after o) ≡ mesh_of g
  pub n-same : o.answer.n ≡ g.n
  pub t_same : o.answer.t ≡ g.t

-- W8: the triangle t, which was row i, is cut red in the mesh new
pub record CutRed (t : Tri) (i : ℕ) (new : Mesh) : Type 0 where
  pub in_four : InFour Red t i new
  -- "children shaped like the father"
  pub shaped : All (ShapedLike new t) (parts (red t (Some in_four.m) (Some in_four.u) (Some in_four.v)))

-- a red refine, with the new field
pub record RedMade (g : Given) (n0 : ℕ) (marks : List ℕ) (x : TintedOut) : Type 1 where
  -- "start and close as in W1"; and all that is said of 01's refine and W1's
  pub made : RefineMade in_red edges g n0 marks x.outcome
  -- "a triangle with all three edges split", as every marked one is
  pub cuts-red : x.outcome.answer.number ≡ 0 → (i : ℕ) → i < g.t → wholly (to_split in_red (mesh_of g) marks) (row_of (mesh_of g).tris i) ≡ true →
      CutRed (row_of (mesh_of g).tris i) i (mesh_of (tables_after x.outcome))
  pub marked-wholly : (i : ℕ) → i < g.t → get_or marks i 0 ≡ 1 → wholly (to_split in_red (mesh_of g) marks) (row_of (mesh_of g).tris i) ≡ true
  -- "One or two split edges are cut as in 01."
  pub others-as-01 : (t : Tri) → wholly (to_split in_red (mesh_of g) marks) t ≡ false → cut_of red (length (mesh_of g).nodes) (to_split in_red (mesh_of g) marks) t ≡ cut_of bisected (length (mesh_of g).nodes) (to_split in_red (mesh_of g) marks) t
  -- number, counts and culprit are those of W1's call
  pub answers-as-W1 : (o : Outcome) → o ≡ refine_out all_three g n0 marks → x.outcome.answer ≡ o.answer
  -- "the answer says 1 in a new field when it made a red cut": if it was not refused and a row had all three edges split, that is, if a row is marked; "else 0"
  pub says-1-exactly : (x.red ≡ 1) ↔ ((x.outcome.answer.number ≡ 0) × SomeWholly (to_split in_red (mesh_of g) marks) (mesh_of g).tris)
  pub says-1-marked : (x.red ≡ 1) ↔ ((x.outcome.answer.number ≡ 0) × SomeMarked marks g.t)
  pub else-0 : x.red ≢ 1 → x.red ≡ 0
  -- what says 0 there left the mesh as it was
  pub says-0-same : x.red ≡ 0 → SameMesh g x.outcome

pub record CoarsenDone (g : Given) (n0 : ℕ) (marks : List ℕ) (o : Outcome) : Type 0 where
  -- the tables hold the coarsened mesh, zeros past it
  pub holds : Holds g (coarsened n0 (mesh_of g) marks) o
  -- exactly the marked good nodes are gone; the mesh is lawful, of the same total, with the base nodes
  pub is-coarsened : Coarsened n0 (mesh_of g) marks (mesh_of (tables_after o))
  pub reports-none : o.answer.passes ≡ 0

pub record CoarsenMade (g : Given) (n0 : ℕ) (marks : List ℕ) (o : Outcome) : Type 0 where
  pub answered : Answers g n0 (CoarsenSays (mesh_of g) marks) o
  -- a lawful mesh with lawful marks is not refused
  pub of-lawful : Sizes g n0 → WellMarked g.n marks → Lawful (mesh_of g) → o.answer.number ≡ 0
  pub leaves-coarsened : o.answer.number ≡ 0 → CoarsenDone g n0 marks o

pub record RestoreEnded (g : Given) (n0 : ℕ) (o : Outcome) : Type 0 where
  pub holds : Holds g (restored n0 (mesh_of g)).end o
  -- full passes while a good node exists, lawful, of the same total, with the base nodes
  pub is-restored : RestoreDone n0 (mesh_of g)
  pub reports-made : o.answer.passes ≡ (restored n0 (mesh_of g)).passes

-- (what the passes come to from a base that the check admits is demand 3)
pub record RestoreMade (g : Given) (n0 : ℕ) (o : Outcome) : Type 0 where
  -- 0 exactly of a lawful mesh (`lowest-0`), 3 to 7 exactly if the number is the lowest that applies
  pub answered : Answers g n0 (Lowest (mesh_of g)) o
  -- a refusal is that of the first pass, so that the culprit is a node or row of the mesh as given:
  pub refused-at-first : o.answer.number ≢ 0 → o ≡ coarsen_out g n0 (replicate g.n 1)
  -- where that one is not refused no later one is, for every mesh in which restore looks for good nodes is lawful
  pub not-refused-later : o.answer.number ≡ 0 → {x : Mesh} → LooksAt n0 (mesh_of g) x → refusal x ≡ 0
  pub leaves-restored : o.answer.number ≡ 0 → RestoreEnded g n0 o

-- after 0, node z being set to c
pub record SetDone (g : Given) (z : ℕ) (c : Correction) (o : Outcome) : Type 0 where
  -- the tables hold the mesh, zeros past it
  pub holds : Holds g (corrected (mesh_of g) z c) o
  -- lawful, of the same total; the node given carries c, nothing else differs
  pub is-corrected : Corrected (mesh_of g) z c (mesh_of (tables_after o))
  -- of the tables: two numbers are set, those of every other node and row stay
  pub numbers-set : node_at o.nodes z ≡ node (place_at g.nodes z) c
  pub nodes-stay : (k : ℕ) → k < g.n → k ≢ z → node_at o.nodes k ≡ node_at g.nodes k
  pub rows_stay : (i : ℕ) → i < g.t → row_at o.rows i ≡ row_at g.rows i
  pub counts-stay : (o.answer.n ≡ g.n) × (o.answer.t ≡ g.t)
  pub reports-none : o.answer.passes ≡ 0

-- of a lawful mesh and a value in its range: refused only as 13 or 15, and exactly when
pub record SetOfLawful (g : Given) (n0 z k : ℕ) : Type 0 where
  pub exactly-13 : (k ≡ 13) ↔ (z < n0)
  pub exactly-15 : (k ≡ 15) ↔ (g.n ≤ z)
  pub exactly-0 : (k ≡ 0) ↔ ((n0 ≤ z) × (z < g.n))

pub record SetMade (g : Given) (n0 z : ℕ) (c : Correction) (o : Outcome) : Type 0 where
  -- the lowest of 3 to 7, 13 and 15 that applies; with 3 the lowest node at fault in the table, else the node given
  pub answered : AnswersBy g n0 (SetSays n0 (mesh_of g) z c) (SetNames (mesh_of g) z c) o
  pub of-lawful : Sizes g n0 → Lawful (mesh_of g) → InBounds c → SetOfLawful g n0 z o.answer.number
  pub leaves-set : o.answer.number ≡ 0 → SetDone g z c o

-- ---- the proof

no-1 : (m : Mesh) → ¬ Lowest m 1
no-1 m l = omega (arith, applies-from-3 m 1 ((refusal-exact m 1).1 l) (omega arith))

-- what fits the rooms fits the tables
fits-tables : (a b n t : ℕ) → n ≤ a / node_form.width → t ≤ b / row_form.width → (node_form.width * n ≤ a) × (row_form.width * t ≤ b)
fits-tables a b n t h k = (omega arith, omega arith)

pub check-call : (g : Given) (o : Outcome) → o ≡ check_out g → CheckMade g o
check-call g o e =
    let c = check-leaves g in
    subst (CheckMade g) (sym e)
    (record {
      answered = call-answers g 0 (check_no (mesh_of g)) (CheckSays (mesh_of g)) (Names (mesh_of g)) (check_out g) c.check-number (check-exact (mesh_of g)) (late-not-1 (base-past (mesh_of g))) (check-names g) (λ n. c.all-as-given) c.scratch-zero;
      of-sized = λ s. record { exactly-11 = at s (check-11 (mesh_of g)); exactly-12 = at s (check-12 (mesh_of g)); exactly-10 = at s (check-10 (mesh_of g)); exactly-0 = at s (check-0 (mesh_of g)) };
      never-written = c.all-as-given;
    })
  where
    number : Sizes g 0 → (check_out g).answer.number ≡ check_no (mesh_of g)
    number s = (check-leaves g).check-number ∙ rw ((sizes-exact g 0).1 s)

    at : {k : ℕ} {A : Type 0} → Sizes g 0 → (check_no (mesh_of g) ≡ k) ↔ A → ((check_out g).answer.number ≡ k) ↔ A
    at s h = (λ e. h.0 (sym (number s) ∙ e), λ a. number s ∙ h.1 a)

-- REFINE, for any way whose cut has the laws of a cut, and that starts with edges of the marked triangles.
module _ (w : Way) (laws : CutLaws w.cutting) (own : (t : Tri) → All (λ e. Memᴰ e (edges t)) (w.starts t)) where
  module _ (g : Given) (n0 : ℕ) (marks : List ℕ) where
    abbrev k : ℕ
    k = refine_no w (room_of g) (mesh_of g) marks

    not-1 : ¬ RefineSays w (room_of g) (mesh_of g) marks 1
    not-1 (unlawful k f above l) = no-1 (mesh_of g) l

    sized-number : Sizes g n0 → (refine_out w g n0 marks).answer.number ≡ refine_no w (room_of g) (mesh_of g) marks
    sized-number s = (refine-leaves g n0 w marks).number-said ∙ rw ((sizes-exact g n0).1 s)

    lawful-says : Sizes g n0 → WellMarked g.t marks → Lawful (mesh_of g) → OfLawful w g marks (refine_out w g n0 marks).answer.number
    lawful-says s f law =
        let f' : WellMarked (length (mesh_of g).tris) marks = rw (rows-count g) f in
        rw (sized-number s)
        (record {
          only-8-or-9 = refine-only-8-9 w (room_of g) (mesh_of g) marks f' law;
          exactly-8 = refine-8 w (room_of g) (mesh_of g) marks f' law;
          exactly-9 = refine-9 w (room_of g) (mesh_of g) marks f' law;
          exactly-0 = refine-0 w (room_of g) (mesh_of g) marks f' law;
        })

    made : (refine_out w g n0 marks).answer.number ≡ 0 → RefineDone w g marks (refine_out w g n0 marks)
    made e =
        let c = refine-leaves g n0 w marks in
        let d = refine-done w laws (room_of g) (mesh_of g) marks (c.sized-and-0 e).1 in
        let (a, b) = fits-tables (length g.nodes) (length g.rows) _ _ d.fit.nodes-fit d.fit.rows_fit in
        let h : Holds g (refined w (mesh_of g) marks) (refine_out w g n0 marks) = rw (c.done-is e) (done-holds g (refined w (mesh_of g) marks) 0 a b) in
        record {
          holds = h;
          is-refined = rw h.mesh-is d;
          reports-none = ap (λ (x : Outcome). x.answer.passes) (c.done-is e);
        }

  pub refine-call : (g : Given) (n0 : ℕ) (marks : List ℕ) (o : Outcome) → o ≡ refine_out w g n0 marks → RefineMade w w.starts g n0 marks o
  refine-call g n0 marks o e =
      let c = refine-leaves g n0 w marks in
      subst (RefineMade w w.starts g n0 marks) (sym e)
      (record {
        answered = call-answers g n0 (k g n0 marks) (RefineSays w (room_of g) (mesh_of g) marks) (Names (mesh_of g)) (refine_out w g n0 marks) c.number-said (refine-exact w (room_of g) (mesh_of g) marks) (not-1 g n0 marks) (refine-names g n0 w marks) c.refusal-leaves c.scratch-zero;
        starts-exactly = started-exactly w.starts marks (mesh_of g).tris;
        splits-least = refine-splits w own (mesh_of g) marks;
        of-lawful = lawful-says g n0 marks;
        leaves-refined = made g n0 marks;
      })

-- in each manner, and however triangles are quartered
pub manner-call : (k : Manner) (q : Quarters) (g : Given) (n0 : ℕ) (marks : List ℕ) (o : Outcome) → o ≡ refine_out (way_of k q) g n0 marks → RefineMade (way_of k q) (starts_of k) g n0 marks o
manner-call k q = refine-call (way_of k q) (quarters-laws q) (starts-own k)

-- of an accepted call: what is said of the mesh that it makes is said of the tables that it leaves
module _ (k : Manner) (q : Quarters) (g : Given) (n0 : ℕ) (marks : List ℕ) (o : Outcome) (e : o ≡ refine_out (way_of k q) g n0 marks) (z : o.answer.number ≡ 0) where
  accepted : refine_no (way_of k q) (room_of g) (mesh_of g) marks ≡ 0
  accepted = ((refine-leaves g n0 (way_of k q) marks).sized-and-0 (ap (λ (x : Outcome). x.answer.number) (sym e) ∙ z)).1

  left_is : mesh_of (tables_after o) ≡ refined (way_of k q) (mesh_of g) marks
  left_is = ((manner-call k q g n0 marks o e).leaves-refined z).holds.mesh-is

-- what was row i, marked, is four rows of the mesh left
pub quarter-in-four : (g : Given) (n0 : ℕ) (marks : List ℕ) (o : Outcome) → o ≡ refine_out all_three g n0 marks → o.answer.number ≡ 0 → (i : ℕ) → i < g.t → get_or marks i 0 ≡ 1 →
    InFour Bisected (row_of (mesh_of g).tris i) i (mesh_of (tables_after o))
quarter-in-four g n0 marks o e z i l one =
    rw (left_is AllThree Bisected g n0 marks o e z) (marked-in-four Bisected (room_of g) (mesh_of g) marks (accepted AllThree Bisected g n0 marks o e z) i (omega (arith, rows-count g)) one)

-- tables as given hold the mesh they held
given-same : {g : Given} {o : Outcome} → AsGiven g o → SameMesh g o
unfolding mesh_of
given-same {g} a = record { mesh-same = (λ i. mesh_of (given (a.nodes-same i) (a.rows_same i) g.scratch (a.n-same i) (a.t_same i))); n-same = a.n-same; t_same = a.t_same }

pub red-call : (g : Given) (n0 : ℕ) (marks : List ℕ) (x : TintedOut) → x ≡ red_out g n0 marks → RedMade g n0 marks x
red-call g n0 marks x by = record {
  made = as-refine;
  cuts-red = λ z i l all. (let f = cut z i l all in record { in_four = f; shaped = four-shaped f });
  marked-wholly = λ i l one. marked-wholly Red (mesh_of g) marks i (omega (arith, rows-count g)) one;
  others-as-01 = else-as-01 (length (mesh_of g).nodes) (to_split in_red (mesh_of g) marks);
  answers-as-W1 = λ o f. ap (λ (y : Outcome). y.answer) e ∙ quarters-answer AllThree Red Bisected g n0 marks ∙ ap (λ (y : Outcome). y.answer) (sym f);
  says-1-exactly = says-1-exactly g n0 marks x by;
  says-1-marked = says-1-marked g n0 marks x by;
  else-0 = else-0 g n0 marks x by;
  says-0-same = same x.outcome.answer.number refl;
}
  where
    e : x.outcome ≡ refine_out in_red g n0 marks
    e = red-outcome g n0 marks x by

    as-refine : RefineMade in_red edges g n0 marks x.outcome
    as-refine = manner-call AllThree Red g n0 marks x.outcome e

    cut : x.outcome.answer.number ≡ 0 → (i : ℕ) → i < g.t → wholly (to_split in_red (mesh_of g) marks) (row_of (mesh_of g).tris i) ≡ true → InFour Red (row_of (mesh_of g).tris i) i (mesh_of (tables_after x.outcome))
    cut z i l all = rw (left_is AllThree Red g n0 marks x.outcome e z) (wholly-in-four AllThree Red (room_of g) (mesh_of g) marks (accepted AllThree Red g n0 marks x.outcome e z) i (omega (arith, rows-count g)) all)

    same : (j : ℕ) → x.outcome.answer.number ≡ j → x.red ≡ 0 → SameMesh g x.outcome
    same zero z r =
        let unmarked : ¬ SomeMarked marks (length (mesh_of g).tris) = λ h. (let one = (says-1-marked g n0 marks x by).1 (z, rw (rows-count g) at h) in omega arith) in
        let m : mesh_of (tables_after x.outcome) ≡ mesh_of g = left_is AllThree Red g n0 marks x.outcome e z ∙ unmarked-stays in_red (quarters-laws Red) (mesh_of g) marks unmarked in
        record {
          mesh-same = m;
          n-same = sym (nodes-count (tables_after x.outcome)) ∙ ap (λ (y : Mesh). length y.nodes) m ∙ nodes-count g;
          t_same = sym (rows-count (tables_after x.outcome)) ∙ ap (λ (y : Mesh). length y.tris) m ∙ rows-count g;
        }
    same (suc j) z r = given-same (as-refine.answered.refused-as-given (λ h. omega arith))

pub coarsen-call : (g : Given) (n0 : ℕ) (marks : List ℕ) (o : Outcome) → o ≡ coarsen_out g n0 marks → CoarsenMade g n0 marks o
coarsen-call g n0 marks o e =
    let c = coarsen-leaves g n0 marks in
    subst (CoarsenMade g n0 marks) (sym e)
    (record {
      answered = call-answers g n0 (coarsen_no (mesh_of g) marks) (CoarsenSays (mesh_of g) marks) (Names (mesh_of g)) (coarsen_out g n0 marks) c.number-said (coarsen-exact (mesh_of g) marks) not-1 (coarsen-names g n0 marks) c.refusal-leaves c.scratch-zero;
      of-lawful = λ s f law. c.number-said ∙ rw ((sizes-exact g n0).1 s) ((coarsen-0 (mesh_of g) marks).1 (rw (nodes-count g) f, law));
      leaves-coarsened = made c;
    })
  where
    not-1 : ¬ CoarsenSays (mesh_of g) marks 1
    not-1 (well-marked k w l) = no-1 (mesh_of g) l

    made : CallLeaves g n0 (coarsen_no (mesh_of g) marks) (culprit_of (mesh_of g) (coarsen_no (mesh_of g) marks)) (coarsened n0 (mesh_of g) marks) 0 (coarsen_out g n0 marks) → (coarsen_out g n0 marks).answer.number ≡ 0 → CoarsenDone g n0 marks (coarsen_out g n0 marks)
    made c z =
        let (s, k) = c.sized-and-0 z in
        let d = coarsen-done n0 (mesh_of g) marks (omega (arith, s.n0-fits, nodes-count g)) k in
        let (a, b) = fits-tables (length g.nodes) (length g.rows) (length (coarsened n0 (mesh_of g) marks).nodes) (length (coarsened n0 (mesh_of g) marks).tris) (omega (arith, s.n-fits, nodes-count g, d.goes.node-count)) (omega (arith, s.t-fits, rows-count g, d.goes.row_count)) in
        let h : Holds g (coarsened n0 (mesh_of g) marks) (coarsen_out g n0 marks) = rw (c.done-is z) (done-holds g (coarsened n0 (mesh_of g) marks) 0 a b) in
        record { holds = h; is-coarsened = rw h.mesh-is d; reports-none = ap (λ (x : Outcome). x.answer.passes) (c.done-is z) }

pub restore-call : (g : Given) (n0 : ℕ) (o : Outcome) → o ≡ restore_out g n0 → RestoreMade g n0 o
restore-call g n0 o e =
    let c = restore-leaves g n0 in
    subst (RestoreMade g n0) (sym e)
    (record {
      answered = call-answers g n0 (refusal (mesh_of g)) (Lowest (mesh_of g)) (Names (mesh_of g)) (restore_out g n0) c.number-said (refusal-exact (mesh_of g)) (no-1 (mesh_of g)) (restore-names g n0) c.refusal-leaves c.scratch-zero;
      refused-at-first = restore-refused g n0;
      not-refused-later = λ z. let (s, k) = c.sized-and-0 z in looks-lawful (refusal-lawful (mesh_of g) k) (base-fits s);
      leaves-restored = made c;
    })
  where
    base-fits : Sizes g n0 → n0 ≤ length (mesh_of g).nodes
    base-fits s = omega (arith, s.n0-fits, nodes-count g)

    made : CallLeaves g n0 (refusal (mesh_of g)) (culprit_of (mesh_of g) (refusal (mesh_of g))) (restored n0 (mesh_of g)).end (restored n0 (mesh_of g)).passes (restore_out g n0) → (restore_out g n0).answer.number ≡ 0 → RestoreEnded g n0 (restore_out g n0)
    made c z =
        let (s, k) = c.sized-and-0 z in
        let (a, b) = fits-tables (length g.nodes) (length g.rows) (length (restored n0 (mesh_of g)).end.nodes) (length (restored n0 (mesh_of g)).end.tris) (omega (arith, s.n-fits, nodes-count g, restored-fewer n0 (mesh_of g))) (omega (arith, s.t-fits, rows-count g, restored-rows n0 (mesh_of g))) in
        record {
          holds = rw (c.done-is z) (done-holds g (restored n0 (mesh_of g)).end (restored n0 (mesh_of g)).passes a b);
          is-restored = restore-done n0 (mesh_of g) (base-fits s) k;
          reports-made = ap (λ (x : Outcome). x.answer.passes) (c.done-is z);
        }

-- a node or row of the tables is that of their mesh
node_in : (g : Given) (k : ℕ) → k < g.n → node_of (mesh_of g) k ≡ node_at g.nodes k
unfolding mesh_of
node_in g k h = get_or-items (node_at g.nodes) g.n k origin h

row_in : (g : Given) (i : ℕ) → i < g.t → row_of (mesh_of g).tris i ≡ row_at g.rows i
unfolding mesh_of
row_in g i h = get_or-items (row_at g.rows) g.t i (tri 0 0 0) h

pub set-call : (g : Given) (n0 z : ℕ) (c : Correction) (o : Outcome) → o ≡ set_out g n0 z c → SetMade g n0 z c o
set-call g n0 z c o e =
    let l = set-leaves g n0 z c in
    subst (SetMade g n0 z c) (sym e)
    (record {
      answered = call-answers g n0 (set_fault n0 (mesh_of g) z c).number (SetSays n0 (mesh_of g) z c) (SetNames (mesh_of g) z c) (set_out g n0 z c) l.number-said (set-exact n0 (mesh_of g) z c) (set-not-1 n0 (mesh_of g) z c) (set-call-names g n0 z c) l.refusal-leaves l.scratch-zero;
      of-lawful = of-lawful;
      leaves-set = made l;
    })
  where
    of-lawful : Sizes g n0 → Lawful (mesh_of g) → InBounds c → SetOfLawful g n0 z (set_out g n0 z c).answer.number
    of-lawful s law b =
        let e : (set_out g n0 z c).answer.number ≡ (set_fault n0 (mesh_of g) z c).number = (set-leaves g n0 z c).number-said ∙ rw ((sizes-exact g n0).1 s) in
        let count = nodes-count g in
        rw e
        (record {
          exactly-13 = set-13 n0 (mesh_of g) z c law b;
          exactly-15 = rw count at (set-15 n0 (mesh_of g) z c law b (omega (arith, s.n0-fits)));
          exactly-0 = (
            λ q. (let (law, b, a, l) = (set-0 n0 (mesh_of g) z c).0 q in (a, rw count at l)),
            λ h. (set-0 n0 (mesh_of g) z c).1 (law, b, h.0, rw count h.1),
          );
        })

    made : CallLeaves g n0 (set_fault n0 (mesh_of g) z c).number (set_fault n0 (mesh_of g) z c).at (corrected (mesh_of g) z c) 0 (set_out g n0 z c) → (set_out g n0 z c).answer.number ≡ 0 → SetDone g z c (set_out g n0 z c)
    made l q =
        let (s, k) = l.sized-and-0 q in
        let d = set-done n0 (mesh_of g) z c k in
        let (n-stays, t-stays) = set-counts g n0 z c in
        let (a, b) = fits-tables (length g.nodes) (length g.rows) (length (corrected (mesh_of g) z c).nodes) (length (corrected (mesh_of g) z c).tris) (omega (arith, s.n-fits, nodes-count g, d.count_kept)) (omega (arith, s.t-fits, rows-count g, ap length d.rows-kept)) in
        let h : Holds g (corrected (mesh_of g) z c) (set_out g n0 z c) = rw (l.done-is q) (done-holds g (corrected (mesh_of g) z c) 0 a b) in
        let (law, in_bounds, added, below) = (set-0 n0 (mesh_of g) z c).0 k in
        let z-in : z < g.n = omega (arith, nodes-count g) in
        let out : Given = tables_after (set_out g n0 z c) in
        record {
          holds = h;
          is-corrected = rw h.mesh-is d;
          numbers-set = sym (node_in out z (omega arith)) ∙ ap (λ (m : Mesh). node_of m z) h.mesh-is ∙ d.node-set ∙ ap (λ (x : Node). node x.place c) (node_in g z z-in);
          nodes-stay = λ j below o. sym (node_in out j (omega arith)) ∙ ap (λ (m : Mesh). node_of m j) h.mesh-is ∙ d.others-kept j o ∙ node_in g j below;
          rows_stay = λ i below. sym (row_in out i (omega arith)) ∙ ap (λ (m : Mesh). row_of m.tris i) h.mesh-is ∙ ap (λ (ts : List Tri). row_of ts i) d.rows-kept ∙ row_in g i below;
          counts-stay = (n-stays, t-stays);
          reports-none = ap (λ (x : Outcome). x.answer.passes) (l.done-is q);
        }

-- DEMAND 2 OF THE CALLS.
pub record Demand2 : Type 1 where
  pub of-check : (g : Given) (o : Outcome) → o ≡ check_out g → CheckMade g o
  -- 01: from "the refinement edge of every marked triangle"
  pub of-refine : (g : Given) (n0 : ℕ) (marks : List ℕ) (o : Outcome) → o ≡ refine_out newest g n0 marks → RefineMade newest (λ t. base t ∷ []) g n0 marks o
  -- W1: from "all three edges of a marked triangle"
  pub of-quarter : (g : Given) (n0 : ℕ) (marks : List ℕ) (o : Outcome) → o ≡ refine_out all_three g n0 marks → RefineMade all_three edges g n0 marks o
  -- W1: "a marked triangle cut in four at once"
  pub cut-in-four : (g : Given) (n0 : ℕ) (marks : List ℕ) (o : Outcome) → o ≡ refine_out all_three g n0 marks → o.answer.number ≡ 0 → (i : ℕ) → i < g.t → get_or marks i 0 ≡ 1 →
      InFour Bisected (row_of (mesh_of g).tris i) i (mesh_of (tables_after o))
  -- W8: from all three edges too, in red
  pub of-red : (g : Given) (n0 : ℕ) (marks : List ℕ) (x : TintedOut) → x ≡ red_out g n0 marks → RedMade g n0 marks x
  pub of-coarsen : (g : Given) (n0 : ℕ) (marks : List ℕ) (o : Outcome) → o ≡ coarsen_out g n0 marks → CoarsenMade g n0 marks o
  pub of-restore : (g : Given) (n0 : ℕ) (o : Outcome) → o ≡ restore_out g n0 → RestoreMade g n0 o
  -- W5: "A job may set the correction of an added node"
  pub of-set : (g : Given) (n0 z : ℕ) (c : Correction) (o : Outcome) → o ≡ set_out g n0 z c → SetMade g n0 z c o
  -- W6: "The raster side asks for the correction at a given point."
  pub of-question : (g : Given) (n0 : ℕ) (P : Place) (o : Heard) → o ≡ ask_out g n0 P → AskMade g n0 P o

pub demand2-calls : Demand2
demand2-calls = record { of-check = check-call; of-refine = manner-call Newest Bisected; of-quarter = manner-call AllThree Bisected; cut-in-four = quarter-in-four; of-red = red-call; of-coarsen = coarsen-call; of-restore = restore-call; of-set = set-call; of-question = ask-call }
