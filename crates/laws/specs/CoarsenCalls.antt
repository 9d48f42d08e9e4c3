-- Coarsen and restore as calls: a call that says 0 keeps demand 2, and each refusal is given exactly when its line says. Assumes nothing.
use Rattle.std.specs.Prelude.{Bool, ◌↔◌, ◌≢◌, ◌≡◌, ℕ, zero, suc, ◌+◌, ◌≤◌, ◌<◌, length}
use Rattle.std.proofs.Math.Bool.{true, false}
use mathlib.Core.List.{List, Memᴰ}
use Rattle.std.proofs.Math.Path.{refl}
use Rattle.std.proofs.Common.{sym, subst, ◌∙◌, arith}
use Rattle.lists.specs.Lists.{nil}
use Rattle.lists.specs.ListsLaw.{All-at}
use Rattle.meaning.specs.Mesh.{Mesh}
use Rattle.meaning.specs.Lawful.{Lawful, Lowest, refusal}
use Rattle.meaning.specs.Good.{Good}
use Rattle.meaning.specs.Coarsen.{marked, taken, coarsened, restored}
use Rattle.meaning.specs.Calls.{unless, marks_fit, coarsen_no, says, restores}
use Rattle.laws.specs.Lawful.{refusal-lowest, refusal-lawful, lawful-refusal, refusal-exact, applies-from-3}
use Rattle.laws.specs.Numbers.{unless-done}
use Rattle.laws.specs.Marks.{WellMarked, marks-exact, marks-unfit}
use Rattle.laws.specs.Good.{good-is}
use Rattle.laws.specs.Coarsen.{Preserved, Gone, taken_is, coarsened-gone, coarsened-preserved}
use Rattle.laws.specs.Restore.{Passes, good_nodes-is, restored-is, restored-ends, restored-preserved, restored-passes}

-- ---- coarsen

-- the nodes taken are those "that are marked and good in the mesh as given"
abbrev pub Takes : ℕ → Mesh → List ℕ → Type 0
Takes n0 m marks = (z : ℕ) → Memᴰ z (taken n0 m marks) ↔ ((z < length m.nodes) × (marked marks z ≡ true) × Good n0 m z)

pub coarsened-takes : (n0 : ℕ) (m : Mesh) (marks : List ℕ) → Lawful m → Takes n0 m marks
coarsened-takes n0 m marks law z = (
  λ i. (let t = (taken_is n0 m marks z).0 i in (t.0, t.1, (good-is n0 m z law t.0).0 t.2)),
  λ h. (taken_is n0 m marks z).1 (h.0, h.1, (good-is n0 m z law h.0).1 h.2),
)

-- no number applies exactly to a lawful mesh
pub lowest-0 : (m : Mesh) → Lowest m 0 ↔ Lawful m
lowest-0 m = (λ l. refusal-lawful m ((refusal-exact m 0).1 l), λ law. (refusal-exact m 0).0 (lawful-refusal m law))

-- what a coarsen that says 0 has done
pub record Coarsened (n0 : ℕ) (m : Mesh) (marks : List ℕ) (after : Mesh) : Type 0 where
  pub takes : Takes n0 m marks
  -- these go, and no other
  pub goes : Gone m (taken n0 m marks) after
  pub keeps : Preserved n0 m after

pub coarsen-done : (n0 : ℕ) (m : Mesh) (marks : List ℕ) → n0 ≤ length m.nodes → coarsen_no m marks ≡ 0 → Coarsened n0 m marks (coarsened n0 m marks)
unfolding coarsen_no
coarsen-done n0 m marks le e =
    let law = refusal-lawful m (unless-done (marks_fit (length m.nodes) marks) 2 _ (omega arith) e).1 in
    record { takes = coarsened-takes n0 m marks law; goes = coarsened-gone n0 m marks law; keeps = coarsened-preserved n0 m marks law le }

module _ (m : Mesh) (marks : List ℕ) where
  -- when each number is given, line by line
  pub data CoarsenSays : ℕ → Type 0 where
    -- 2 "mark table of another length, or a byte above 1"
    ill-marked-nodes : ¬ WellMarked (length m.nodes) marks → CoarsenSays 2
    -- 3 to 7; and 0, which is said of a lawful mesh (`lowest-0`)
    well-marked : (k : ℕ) → WellMarked (length m.nodes) marks → Lowest m k → CoarsenSays k

  coarsen-says : CoarsenSays (coarsen_no m marks)
  unfolding coarsen_no
  coarsen-says = go (marks_fit (length m.nodes) marks) refl
    where
      go : (b : Bool) → marks_fit (length m.nodes) marks ≡ b → CoarsenSays (unless b 2 (refusal m))
      go true q = well-marked (refusal m) ((marks-exact (length m.nodes) marks).0 q) (refusal-lowest m)
      go false q = ill-marked-nodes ((marks-unfit (length m.nodes) marks).0 q)

  says-coarsen : {k : ℕ} → CoarsenSays k → coarsen_no m marks ≡ k
  unfolding coarsen_no
  says-coarsen (ill-marked-nodes f) = rw ((marks-unfit (length m.nodes) marks).1 f)
  says-coarsen (well-marked k w l) = rw ((marks-exact (length m.nodes) marks).1 w) ((refusal-exact m k).1 l)

  -- EACH NUMBER IS GIVEN EXACTLY WHEN ITS LINE SAYS, AND NO OTHER IS.
  pub coarsen-exact : (k : ℕ) → (coarsen_no m marks ≡ k) ↔ CoarsenSays k
  coarsen-exact k = (λ e. subst CoarsenSays e coarsen-says, says-coarsen)

  -- ---- number by number

  of-marked : {k : ℕ} → CoarsenSays k → k ≢ 2 → WellMarked (length m.nodes) marks × Lowest m k
  of-marked (ill-marked-nodes f) n = absurd (n refl)
  of-marked (well-marked k w l) n = (w, l)

  pub coarsen-0 : (coarsen_no m marks ≡ 0) ↔ (WellMarked (length m.nodes) marks × Lawful m)
  coarsen-0 = (
    λ e. (let r = of-marked ((coarsen-exact 0).0 e) (λ w. omega arith) in (r.0, (lowest-0 m).0 r.1)),
    λ h. (coarsen-exact 0).1 (well-marked 0 h.0 ((lowest-0 m).1 h.1)),
  )

  pub coarsen-2 : (coarsen_no m marks ≡ 2) ↔ (¬ WellMarked (length m.nodes) marks)
  coarsen-2 = (λ e. go ((coarsen-exact 2).0 e), λ f. (coarsen-exact 2).1 (ill-marked-nodes f))
    where
      go : CoarsenSays 2 → ¬ WellMarked (length m.nodes) marks
      go (ill-marked-nodes f) = f
      go (well-marked k w l) = absurd (omega (arith, applies-from-3 m 2 ((refusal-exact m 2).1 l) (omega arith)))

  pub coarsen-lowest : (k : ℕ) → 2 < k → (coarsen_no m marks ≡ k) ↔ (WellMarked (length m.nodes) marks × Lowest m k)
  coarsen-lowest k l = (λ e. of-marked ((coarsen-exact k).0 e) (λ w. omega arith), λ h. (coarsen-exact k).1 (well-marked k h.0 h.1))

-- ---- restore

-- restore says k exactly if k is the lowest number that applies; so 0 exactly of a lawful mesh
pub restore-lowest : (n0 : ℕ) (m : Mesh) (k : ℕ) → ((restores n0 m).number ≡ k) ↔ Lowest m k
unfolding restores
restore-lowest n0 m k = (λ e. (refusal-exact m k).0 (sym (same (refusal m)) ∙ e), λ l. same (refusal m) ∙ (refusal-exact m k).1 l)
  where
    same : (j : ℕ) → (says j m (restored n0 m).end (restored n0 m).passes).number ≡ j
    same zero = refl
    same (suc j) = refl

pub restore-0 : (n0 : ℕ) (m : Mesh) → ((restores n0 m).number ≡ 0) ↔ Lawful m
restore-0 n0 m = (λ e. (lowest-0 m).0 ((restore-lowest n0 m 0).0 e), λ l. (restore-lowest n0 m 0).1 ((lowest-0 m).1 l))

-- what a restore that says 0 has done
pub record RestoreDone (n0 : ℕ) (m : Mesh) : Type 0 where
  -- full passes while a good node exists, each removing one; the passes reported are those made
  pub made : Passes n0 m (restored n0 m)
  pub none-good : (z : ℕ) → z < length (restored n0 m).end.nodes → ¬ Good n0 (restored n0 m).end z
  pub keeps : Preserved n0 m (restored n0 m).end
  -- no more passes than nodes were added
  pub at_most : (restored n0 m).passes + n0 ≤ length m.nodes

pub restore-done : (n0 : ℕ) (m : Mesh) → n0 ≤ length m.nodes → refusal m ≡ 0 → RestoreDone n0 m
restore-done n0 m le e =
    let law = refusal-lawful m e in
    let preserved = restored-preserved n0 m law le in
    let after = (restored n0 m).end in
    record {
      made = restored-is n0 m;
      none-good = λ z l g.
          All-at {P = λ y. ⊥} nil (subst (λ zs. Memᴰ z zs) (restored-ends n0 m) ((good_nodes-is n0 after z).1 (l, (good-is n0 after z preserved.lawful l).1 g)));
      keeps = preserved;
      at_most = restored-passes n0 m law le;
    }
