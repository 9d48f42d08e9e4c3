-- DEMAND 3 OF THE CALLS. Every premise on a call is the equation that its contract ensures, so that what is said here holds of any run of
-- the calls themselves: mesh::check, mesh::refine, mesh::quarter, mesh::coarsen, mesh::set_correction, mesh::correction_at (crates/mesh/src/lib.rt)
-- and job::restore (crates/job/src/lib.rt). W1: "Demand 3 then covers sequences that mix both ways." W5: it "now includes in the sequence accepted settings
-- made with the base's node count, and refused settings, and base rows come back with their corrections." W8: "Demand 3 doesn't hold for a sequence with such a refinement;
-- the answer says 1 in a new field when it made a red cut, else 0": so a red call that says 0 there may stand in the sequence (`red-0-held`), and one that says 1 may lead away
-- from the base (RedAway). Assumes nothing.
use Rattle.std.specs.Prelude.{true, List, ◌≢◌, ◌≡◌, refl, ℕ, zero, suc, ◌+◌, ◌*◌, ◌≤◌, ◌<◌, leb, length, replicate}
use Rattle.std.proofs.Common.{sym, subst, subst₂, ap, ◌∙◌, arith}
use Rattle.lists.specs.Lists.{cases}
use Rattle.meaning.specs.declared.Correction.{Correction}
use Rattle.meaning.specs.declared.Quarters.TheVariants.{Bisected, Red}
use Rattle.meaning.specs.Split.{Way, bisected, newest, in_red}
use Rattle.meaning.specs.declared.Place.{Place}
use Rattle.meaning.specs.Tables.{Given, Outcome, given, mesh_of, room_of, cleared}
use Rattle.meaning.specs.Calls.{sizes_fit, check_out, refine_out, TintedOut, red_out, coarsen_out, restore_out, set_out, Heard, ask_out}
use Rattle.laws.specs.Red.{quarters-laws}
use Rattle.laws.specs.RedTold.{SomeMarked, unmarked-alike, red-outcome, says-1-marked}
use Rattle.laws.specs.TableMesh.{tables_after}
use Rattle.laws.specs.CallLaw.{AsGiven, refine-leaves}
use Rattle.growth.specs.Demand3.{Removals, TablesReached, begin, lent, refined-by, coarsened-by, set-by, restored_by, refused-by, checked-by, a-refine, a-coarsen, a-set, a-restore, still, base_again}

-- A call that was made on the tables g: what it left, o, is what its contract ensures.
pub data Made (g : Given) (o : Outcome) : Type 0 where
  check-made : o ≡ check_out g → Made g o
  -- by `newest`, 01's way, by `all_three`, W1's, or by `in_red`, W8's
  refine-made : (w : Way) (n0 : ℕ) (marks : List ℕ) → o ≡ refine_out w g n0 marks → Made g o
  coarsen-made : (n0 : ℕ) (marks : List ℕ) → o ≡ coarsen_out g n0 marks → Made g o
  set-made : (n0 z : ℕ) (c : Correction) → o ≡ set_out g n0 z c → Made g o
  restore-made : (n0 : ℕ) → o ≡ restore_out g n0 → Made g o

-- What a user holds who made calls one after the other on the tables g₀ of a base: the tables, and the counts of the accepted call before.
-- (A refused call on other tables does not concern these.)
pub data Held (g₀ : Given) : Given → Type 0 where
  base-held : Held g₀ g₀
  -- scratch may be another table at every call
  scratch-anew : {g : Given} → Held g₀ g → (scratch : List ℕ) → Held g₀ (given g.nodes g.rows scratch g.n g.t)
  -- an accepted refine, coarsen, setting or restore with the base's node count, on the tables and counts left by the accepted call before;
  -- a refine by any way that cuts by bisection, as `newest` and `all_three` do, and by another at every step
  after-refine : {g : Given} → Held g₀ g → (w : Way) → w.cutting ≡ bisected → (marks : List ℕ) (o : Outcome) →
      o ≡ refine_out w g g₀.n marks → o.answer.number ≡ 0 → Held g₀ (tables_after o)
  after-coarsen : {g : Given} → Held g₀ g → (marks : List ℕ) (o : Outcome) → o ≡ coarsen_out g g₀.n marks → o.answer.number ≡ 0 → Held g₀ (tables_after o)
  -- whatever node it is and whatever correction
  after-set : {g : Given} → Held g₀ g → (z : ℕ) (c : Correction) (o : Outcome) → o ≡ set_out g g₀.n z c → o.answer.number ≡ 0 → Held g₀ (tables_after o)
  after-restore : {g : Given} → Held g₀ g → (o : Outcome) → o ≡ restore_out g g₀.n → o.answer.number ≡ 0 → Held g₀ (tables_after o)
  -- a refused call of any kind, with whatever counts, n0, marks or correction, and scratch: the counts held stay
  after-refusal : {g : Given} → Held g₀ g → (scratch : List ℕ) (n t : ℕ) (o : Outcome) → Made (given g.nodes g.rows scratch n t) o → o.answer.number ≢ 0 →
      Held g₀ (still g o)
  -- W6: a question, answered or refused, with whatever counts, n0 and scratch, about whatever point
  after-question : {g : Given} → Held g₀ g → (scratch : List ℕ) (n t n0 : ℕ) (P : Place) (o : Heard) → o ≡ ask_out (given g.nodes g.rows scratch n t) n0 P →
      Held g₀ (given o.nodes o.rows o.scratch g.n g.t)

-- W8's call, whatever the new field says: refused, it is among those of `after-refusal`
pub red-made : {g : Given} (n0 : ℕ) (marks : List ℕ) (x : TintedOut) → x ≡ red_out g n0 marks → Made g x.outcome
red-made {g} n0 marks x e = refine-made in_red n0 marks (red-outcome g n0 marks x e)

-- What the user then finds.
pub record Ends (g₀ g : Given) : Type 0 where
  -- while added nodes remain, each full pass (coarsen with all nodes marked) that is made removes at least one
  pub pass-takes-one : g₀.n < g.n → (o : Outcome) → o ≡ coarsen_out g g₀.n (replicate g.n 1) → sizes_fit g g₀.n ≡ true →
      (o.answer.number ≡ 0) × (o.answer.n < g.n)
  -- restore with the base's node count is refused at most as 1, and that only where scratch is short
  pub refused-as-1 : (o : Outcome) → o ≡ restore_out g g₀.n → o.answer.number ≡ cases (sizes_fit g g₀.n) 0 1
  pub scratch-alone : sizes_fit g g₀.n ≡ leb (4 * ((room_of g₀).nodes + (room_of g₀).rows)) (length g.scratch)
  -- else it ends with the base row for row: node table with its corrections, triangle table, counts, zeros past them, scratch zero
  pub base-again : (o : Outcome) → o ≡ restore_out g g₀.n → o.answer.number ≡ 0 → o ≡ base_again g₀ g
  -- the mesh in the tables is the base's
  pub mesh-again : (o : Outcome) → o ≡ restore_out g g₀.n → o.answer.number ≡ 0 → mesh_of (tables_after o) ≡ mesh_of g₀
  -- after no more passes than there were added nodes
  pub passes-bounded : (o : Outcome) → o ≡ restore_out g g₀.n → o.answer.number ≡ 0 → o.answer.passes + g₀.n ≤ g.n
  -- and it reports their true number: so many full passes, each of which removed a node, lead to the base
  pub passes-true : (o : Outcome) → o ≡ restore_out g g₀.n → o.answer.number ≡ 0 → Removals g₀.n (mesh_of g) o.answer.passes (mesh_of g₀)

-- ---- the proof: each call's outcome is the definition's, by its contract

pub held-reached : (g₀ : Given) {g : Given} → Held g₀ g → TablesReached g₀ g
unfolding ask_out
held-reached g₀ base-held = begin
held-reached g₀ (scratch-anew h scratch) = lent (held-reached g₀ h) scratch
held-reached g₀ (after-refine {g = g} h w cuts marks o e z) =
    subst (λ x. TablesReached g₀ (tables_after x)) (sym e) (refined-by (held-reached g₀ h) w cuts marks (ap (λ x. x.answer.number) (sym e) ∙ z))
held-reached g₀ (after-coarsen {g = g} h marks o e z) =
    subst (λ x. TablesReached g₀ (tables_after x)) (sym e) (coarsened-by (held-reached g₀ h) marks (ap (λ x. x.answer.number) (sym e) ∙ z))
held-reached g₀ (after-set {g = g} h y c o e z) =
    subst (λ x. TablesReached g₀ (tables_after x)) (sym e) (set-by (held-reached g₀ h) y c (ap (λ x. x.answer.number) (sym e) ∙ z))
held-reached g₀ (after-restore {g = g} h o e z) =
    subst (λ x. TablesReached g₀ (tables_after x)) (sym e) (restored_by (held-reached g₀ h) (ap (λ x. x.answer.number) (sym e) ∙ z))
held-reached g₀ (after-refusal {g = g} h scratch n t o m z) = go m (held-reached g₀ h)
  where
    go : Made (given g.nodes g.rows scratch n t) o → TablesReached g₀ g → TablesReached g₀ (still g o)
    go (check-made e) l = subst (λ x. TablesReached g₀ (still g x)) (sym e) (checked-by l scratch n t)
    go (refine-made w n0 marks e) l = subst (λ x. TablesReached g₀ (still g x)) (sym e) (refused-by l scratch n t (a-refine w n0 marks) (λ y. z (ap (λ x. x.answer.number) e ∙ y)))
    go (coarsen-made n0 marks e) l = subst (λ x. TablesReached g₀ (still g x)) (sym e) (refused-by l scratch n t (a-coarsen n0 marks) (λ y. z (ap (λ x. x.answer.number) e ∙ y)))
    go (set-made n0 y c e) l = subst (λ x. TablesReached g₀ (still g x)) (sym e) (refused-by l scratch n t (a-set n0 y c) (λ y. z (ap (λ x. x.answer.number) e ∙ y)))
    go (restore-made n0 e) l = subst (λ x. TablesReached g₀ (still g x)) (sym e) (refused-by l scratch n t (a-restore n0) (λ y. z (ap (λ x. x.answer.number) e ∙ y)))
held-reached g₀ (after-question {g = g} h scratch n t n0 P o e) =
    subst (λ x. TablesReached g₀ (given x.nodes x.rows x.scratch g.n g.t)) (sym e) (lent (held-reached g₀ h) (cleared scratch))

-- A RED CALL THAT SAYS 0 IN THE NEW FIELD IS COVERED: made with the base's node count it leaves what 01's refine leaves, or was refused.
pub red-0-held : {g₀ g : Given} → Held g₀ g → (marks : List ℕ) (x : TintedOut) → x ≡ red_out g g₀.n marks → x.red ≡ 0 → Held g₀ (tables_after x.outcome)
red-0-held {g₀} {g} h marks x e r = go o.answer.number refl
  where
    o : Outcome
    o = x.outcome

    by : o ≡ refine_out in_red g g₀.n marks
    by = red-outcome g g₀.n marks x e

    go : (k : ℕ) → o.answer.number ≡ k → Held g₀ (tables_after o)
    go zero z =
        let unmarked : ¬ SomeMarked marks g.t = λ s. (let one = (says-1-marked g g₀.n marks x e).1 (z, s) in omega arith) in
        after-refine h newest refl marks o (by ∙ unmarked-alike in_red newest (quarters-laws Red) (quarters-laws Bisected) g g₀.n marks unmarked) z
    go (suc k) z =
        let refused : o.answer.number ≢ 0 = λ y. omega arith in
        let a : AsGiven g o = subst (AsGiven g) (sym by) ((refine-leaves g g₀.n in_red marks).refusal-leaves (λ y. refused (ap (λ (x : Outcome). x.answer.number) by ∙ y))) in
        subst₂ (λ n t. Held g₀ (given o.nodes o.rows o.scratch n t)) (sym a.n-same) (sym a.t_same) (after-refusal h g.scratch g.n g.t o (red-made g₀.n marks x e) refused)
