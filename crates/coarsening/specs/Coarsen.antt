-- Coarsen: nothing is judged after 1 to 7. Assumes nothing.
use Rattle.std.specs.Prelude.{◌≡◌, List, ℕ, zero, suc, ℤ, length, replicate, Result, Ok, Err}
use Rattle.std.proofs.Math.Path.{refl, ap}
use Rattle.std.proofs.Common.{sym, ◌∙◌}
use Rattle.meaning.specs.declared.Answer.{Answer}
use Rattle.meaning.specs.Fault.{Fault}
use Rattle.meaning.specs.Mesh.{Mesh}
use Rattle.meaning.specs.Lawful.{Lawful, fault, refusal}
use Rattle.meaning.specs.Coarsen.{coarsened}
use Rattle.meaning.specs.Tables.{given, outcome, answer, mesh_of}
use Rattle.meaning.specs.Calls.{unless, or_else, marks_fit, coarsen_no, coarsens, says, leaves, sized, coarsen_out}
use Rattle.laws.specs.TableMesh.{nodes-count}
use Rattle.laws.specs.Meshes.{mesh_at}
use Rattle.gather.specs.Whole as Gather
use Rattle.refusals.specs.declared.Counts.{Counts}
use Rattle.refusals.specs.declared.Refusal.{Refusal}
use Rattle.refusals.specs.Refusals.{fault_in, answer_in}
use Rattle.judging.specs.Judge.{mesh_in, early}
use Rattle.judging.specs.Leaving.{numbered, late_out, leaves-refused, leaves-done, leaves-same, call-out}

pub law-at : (nodes : List ℤ) (rows : List ℕ) (n t : ℕ) → Lawful (mesh_in nodes rows n t) → Lawful (mesh_at nodes rows n t)
unfolding mesh_at
law-at nodes rows n t law = law

or_else-zero : (j : ℕ) → or_else j 0 ≡ j
or_else-zero zero = refl
or_else-zero (suc j) = refl

-- f is what was judged first; there is nothing more to judge
module _ (nodes : List ℤ) (rows s marks : List ℕ) (n0 n t : ℕ) (z : s ≡ replicate (length s) 0) (f : Fault) (e : f ≡ early (given nodes rows s n t) n0 n marks) where
  coarsen-number : coarsen_no (mesh_of (given nodes rows s n t)) marks ≡ unless (marks_fit n marks) 2 (or_else (refusal (mesh_of (given nodes rows s n t))) 0)
  unfolding coarsen_no
  coarsen-number = rw (nodes-count (given nodes rows s n t), or_else-zero (refusal (mesh_of (given nodes rows s n t))))

  coarsen-out : late_out (given nodes rows s n t) n0 n marks 0 (coarsened n0 (mesh_of (given nodes rows s n t)) marks) ≡ coarsen_out (given nodes rows s n t) n0 marks
  unfolding coarsen_out coarsens
  coarsen-out =
      let g = given nodes rows s n t in
      let m : Mesh = mesh_of (given nodes rows s n t) in
      ap (λ (j : ℕ). sized g n0 (leaves g (says j m (coarsened n0 m marks) 0))) (sym coarsen-number)

  pub refused : (f.number ≡ 0 → ⊥) → outcome (answer f.number n t 0 f.at) nodes rows s ≡ coarsen_out (given nodes rows s n t) n0 marks
  refused o = leaves-refused nodes rows s marks n0 n t n 0 _ z f e (answer f.number n t 0 f.at) o refl ∙ coarsen-out

  pub worked : f.number ≡ 0 → (c : Counts) (a : List ℤ) (b : List ℕ) →
      Gather.tabled c a b ≡ Gather.tabled_of (length nodes) (length rows) (coarsened n0 (mesh_at nodes rows n t) marks) →
      outcome (answer 0 c.n c.t 0 0) a b s ≡ coarsen_out (given nodes rows s n t) n0 marks
  unfolding Gather.tabled_of mesh_at mesh_of
  worked y c a b q =
      leaves-done nodes rows s marks n0 n t n 0 (coarsened n0 (mesh_in nodes rows n t) marks) z f e y (answer 0 c.n c.t 0 0) a b c.n c.t refl
      (ap (λ (x : Gather.Tabled). x.counts.n) q) (ap (λ (x : Gather.Tabled). x.counts.t) q) (ap (λ (x : Gather.Tabled). x.nodes) q) (ap (λ (x : Gather.Tabled). x.rows) q) refl
      ∙ coarsen-out

-- as the code answers
module _ (nodes : List ℤ) (rows s marks : List ℕ) (n0 n t : ℕ) (z : s ≡ replicate (length s) 0) where
  pub coarsen-refused : (e : Refusal) (r : Result Counts Refusal) → r ≡ Err e → fault_in e ≡ early (given nodes rows s n t) n0 n marks →
      outcome (answer_in r n t) nodes rows s ≡ coarsen_out (given nodes rows s n t) n0 marks
  coarsen-refused e r h f = rw h (refused nodes rows s marks n0 n t z (fault_in e) f (numbered e))

  pub coarsen-worked : fault 0 0 ≡ early (given nodes rows s n t) n0 n marks → (c : Counts) (a : List ℤ) (b : List ℕ) →
      Gather.tabled c a b ≡ Gather.tabled_of (length nodes) (length rows) (coarsened n0 (mesh_at nodes rows n t) marks) →
      outcome (answer_in (Ok c) n t) a b s ≡ coarsen_out (given nodes rows s n t) n0 marks
  coarsen-worked e c a b q = worked nodes rows s marks n0 n t z (fault 0 0) e refl c a b q

pub coarsened-call : (nodes a : List ℤ) (rows b s s₁ s₂ marks : List ℕ) (n0 n t len : ℕ) (r : Answer) → s₁ ≡ replicate (length s) 0 →
    outcome r a b s₁ ≡ coarsen_out (given nodes rows s₁ n t) n0 marks → s₂ ≡ replicate len 0 → len ≡ length s₁ →
    outcome r a b s₂ ≡ coarsen_out (given nodes rows s n t) n0 marks
unfolding coarsen_out mesh_of
coarsened-call nodes a rows b s s₁ s₂ marks n0 n t len r p =
    call-out s s₁ p (λ x. coarsen_out (given nodes rows x n t) n0 marks) (λ x x' l. leaves-same nodes rows x x' n0 n t l (coarsens n0 (mesh_in nodes rows n t) marks))
    r a b s₂ len
