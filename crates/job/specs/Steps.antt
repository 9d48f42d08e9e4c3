-- Laws of single steps, which the check finds alone today. Assumes nothing.
use Rattle.std.specs.Prelude.{◌≡◌, refl, Bool, true, false, List, ℕ, zero, suc, ◌≤◌, min, ℤ, length, take, replicate}
use Rattle.std.proofs.Common.{sym, ap, ◌∙◌, arith, length-take-le}
use Rattle.std.proofs.Math.ListN.{length-replicate}
use Rattle.lists.specs.Lists.{cases}
use Rattle.meaning.specs.declared.Answer.{Answer}
use Rattle.meaning.specs.Coarsen.{coarsened}
use Rattle.meaning.specs.Tables.{Given, Outcome, outcome, answer, mesh_of}
use Rattle.meaning.specs.Calls.{says, coarsen_no, coarsens, sizes_fit, untouched, leaves, coarsen_out, restore_out}
use Rattle.job.specs.Pass.{pass_out, after}
use Rattle.job.specs.PassLaw.{refuse as refuse-said, finish as finish-said}

-- ---- the marks

pub ones-count : (m n : ℕ) → m ≡ min n 1024 → m ≡ length (take {A = ℕ} m (replicate 1024 1))
ones-count m n e =
    let k : length (replicate {A = ℕ} 1024 1) ≡ 1024 = length-replicate {A = ℕ} 1024 1 in
    let h : m ≤ length (replicate {A = ℕ} 1024 1) = omega arith in
    sym (length-take-le m (replicate 1024 1) h)

-- ---- what a pass says

-- of 0 passes,
no-passes : (g : Given) (n0 : ℕ) → (pass_out g n0).answer.passes ≡ 0
unfolding pass_out coarsen_out coarsens
no-passes g n0 = go (sizes_fit g n0)
  where
    left : (k : ℕ) → (leaves g (says k (mesh_of g) (coarsened n0 (mesh_of g) (replicate {A = ℕ} (min g.n 1024) 1)) 0)).answer.passes ≡ 0
    left zero = refl
    left (suc k) = refl

    go : (b : Bool) →
        (cases b (leaves g (says (coarsen_no (mesh_of g) (replicate (min g.n 1024) 1)) (mesh_of g) (coarsened n0 (mesh_of g) (replicate (min g.n 1024) 1)) 0)) (untouched g 1 0)).answer.passes ≡ 0
    go true = left (coarsen_no (mesh_of g) (replicate (min g.n 1024) 1))
    go false = refl

-- and of no culprit where it says 0
no-culprit : (g : Given) (n0 : ℕ) → (pass_out g n0).answer.number ≡ 0 → (pass_out g n0).answer.culprit ≡ 0
unfolding pass_out coarsen_out coarsens
no-culprit g n0 = go (sizes_fit g n0)
  where
    left : (k : ℕ) → (leaves g (says k (mesh_of g) (coarsened n0 (mesh_of g) (replicate {A = ℕ} (min g.n 1024) 1)) 0)).answer.number ≡ 0 →
        (leaves g (says k (mesh_of g) (coarsened n0 (mesh_of g) (replicate {A = ℕ} (min g.n 1024) 1)) 0)).answer.culprit ≡ 0
    left zero e = refl
    left (suc k) e = absurd (omega arith)

    go : (b : Bool) →
        (cases b (leaves g (says (coarsen_no (mesh_of g) (replicate (min g.n 1024) 1)) (mesh_of g) (coarsened n0 (mesh_of g) (replicate (min g.n 1024) 1)) 0)) (untouched g 1 0)).answer.number ≡ 0 →
        (cases b (leaves g (says (coarsen_no (mesh_of g) (replicate (min g.n 1024) 1)) (mesh_of g) (coarsened n0 (mesh_of g) (replicate (min g.n 1024) 1)) 0)) (untouched g 1 0)).answer.culprit ≡ 0
    go true e = left (coarsen_no (mesh_of g) (replicate (min g.n 1024) 1)) e
    go false e = absurd (omega arith)

-- ---- the turn: a is what the pass said, nodes' rows' scratch' what it left

module _ (a : Answer) (g : Given) (nodes' : List ℤ) (rows' scratch' : List ℕ) (n0 n t p : ℕ) (w : Outcome) (e : outcome a nodes' rows' scratch' ≡ pass_out g n0)
    (inv : after p n t (restore_out g n0) ≡ w) where
  pub refuse : (a.number ≡ 0 → ⊥) → outcome (answer a.number n t 0 a.culprit) nodes' rows' scratch' ≡ w
  refuse o =
      let k : a.passes ≡ 0 = ap (λ (o : Outcome). o.answer.passes) e ∙ no-passes g n0 in
      rw k at (refuse-said a g nodes' rows' scratch' n0 n t p w e inv o)

  module _ (z : a.number ≡ 0) where
    pub finish : a.n ≡ g.n → outcome (answer 0 a.n a.t p 0) nodes' rows' scratch' ≡ w
    finish q =
        let k : (pass_out g n0).answer.number ≡ 0 = sym (ap (λ (o : Outcome). o.answer.number) e) ∙ z in
        let c : a.culprit ≡ 0 = ap (λ (o : Outcome). o.answer.culprit) e ∙ no-culprit g n0 k in
        rw (z, c) at (finish-said a g nodes' rows' scratch' n0 n t p w e inv z q)
