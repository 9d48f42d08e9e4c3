-- The turn of restore, in the form of its needs. It rests on what coarsen leaves, and on laws of passes. Assumes nothing.
use Rattle.std.specs.Prelude.{◌≡◌, refl, ◌≢◌, Bool, true, false, List, [], ◌∷◌, ℕ, zero, suc, ◌+◌, ◌≤◌, ◌<◌, min, ℤ, replicate, take}
use Rattle.std.proofs.Common.{sym, ap, ◌∙◌, arith, ne_eqb, Fits}
use Rattle.std.proofs.Math.ListN.{length, length-replicate}
use Rattle.std.specs.Int.{w64}
use Rattle.lists.specs.Lists.{cases}
use Rattle.meaning.specs.declared.Answer.{Answer}
use Rattle.meaning.specs.Mesh.{Mesh}
use Rattle.meaning.specs.Lawful.{Lawful, refusal}
use Rattle.meaning.specs.Coarsen.{coarsened, good_nodes, all_marked, pass, restored}
use Rattle.meaning.specs.Tables.{Given, Outcome, given, outcome, answer, mesh_of, cleared}
use Rattle.meaning.specs.Calls.{culprit_of, unless, marks_fit, coarsen_no, coarsens, restores, says, sizes_fit, untouched, done, leaves, coarsen_out, restore_out}
use Rattle.laws.specs.Lawful.{refusal-lawful, lawful-refusal}
use Rattle.laws.specs.Marks.{marks-exact, ones-fit}
use Rattle.laws.specs.Coarsen.{Preserved}
use Rattle.laws.specs.Restore.{ones-mark-all, pass-count, pass-gone, pass-preserved, restored-stop, restored-step}
use Rattle.laws.specs.StillLaw.{pass-still}
use Rattle.laws.specs.TableMesh.{nodes-count, rows-count, tables_after}
use Rattle.laws.specs.CallLaw.{Sizes, sizes-exact, sizes-again, Holds, done-holds}
use Rattle.job.specs.Pass.{pass_out, after}

-- ---- the marks

take-ones : (m k : ℕ) → m ≤ k → take {A = ℕ} m (replicate k 1) ≡ replicate m 1
take-ones zero k h = refl
take-ones (suc m) zero h = absurd (omega arith)
take-ones (suc m) (suc k) h = ap (λ (l : List ℕ). 1 ∷ l) (take-ones m k (omega arith))

pub pass-made : (o : Outcome) (nodes : List ℤ) (rows scratch : List ℕ) (n0 n t m : ℕ) → m ≡ min n 1024 →
    o ≡ coarsen_out (given nodes rows scratch n t) n0 (take {A = ℕ} m (replicate 1024 1)) → o ≡ pass_out (given nodes rows scratch n t) n0
unfolding pass_out
pass-made o nodes rows scratch n0 n t m e f = f ∙ ap (coarsen_out (given nodes rows scratch n t) n0) (take-ones m 1024 (omega arith) ∙ ap (λ (x : ℕ). replicate {A = ℕ} x 1) e)

-- ---- what a pass leaves, and what restore leaves, of the same tables

data Said (g : Given) (n0 : ℕ) : Outcome → Outcome → Type 0 where
  refused : (k c : ℕ) → k ≢ 0 → Said g n0 (untouched g k c) (untouched g k c)
  passed : Sizes g n0 → Lawful (mesh_of g) → Said g n0 (done g (pass n0 (mesh_of g)) 0) (done g (restored n0 (mesh_of g)).end (restored n0 (mesh_of g)).passes)

pass-and-restore : (g : Given) (n0 : ℕ) → Said g n0 (pass_out g n0) (restore_out g n0)
unfolding pass_out coarsen_out restore_out coarsens restores coarsen_no pass
pass-and-restore g n0 = go (sizes_fit g n0) refl
  where
    marks : Sizes g n0 → replicate {A = ℕ} (min g.n 1024) 1 ≡ all_marked (mesh_of g).nodes
    marks s =
        let d : min g.n 1024 ≡ length (mesh_of g).nodes = omega (arith, nodes-count g, s.few-nodes, s.n-fits) in
        ap (λ (x : ℕ). replicate {A = ℕ} x 1) d ∙ ones-mark-all (mesh_of g).nodes

    fit : marks_fit (length (mesh_of g).nodes) (all_marked (mesh_of g).nodes) ≡ true
    fit = (marks-exact (length (mesh_of g).nodes) (all_marked (mesh_of g).nodes)).1 (rw (← ones-mark-all (mesh_of g).nodes) (ones-fit (length (mesh_of g).nodes)))

    lawful : Sizes g n0 → (k : ℕ) → refusal (mesh_of g) ≡ k →
        Said g n0 (leaves g (says k (mesh_of g) (coarsened n0 (mesh_of g) (all_marked (mesh_of g).nodes)) 0)) (leaves g (says k (mesh_of g) (restored n0 (mesh_of g)).end (restored n0 (mesh_of g)).passes))
    lawful s zero e = passed s (refusal-lawful (mesh_of g) e)
    lawful s (suc k) e = refused (suc k) (culprit_of (mesh_of g) (suc k)) (omega arith)

    go : (b : Bool) → sizes_fit g n0 ≡ b →
        Said g n0
        (cases b (leaves g (says (unless (marks_fit (length (mesh_of g).nodes) (replicate (min g.n 1024) 1)) 2 (refusal (mesh_of g))) (mesh_of g) (coarsened n0 (mesh_of g) (replicate (min g.n 1024) 1)) 0)) (untouched g 1 0))
        (cases b (leaves g (says (refusal (mesh_of g)) (mesh_of g) (restored n0 (mesh_of g)).end (restored n0 (mesh_of g)).passes)) (untouched g 1 0))
    go true e = let s = (sizes-exact g n0).0 e in rw (marks s, fit) (lawful s (refusal (mesh_of g)) refl)
    go false e = refused 1 0 (omega arith)

-- ---- the turn: a is what the pass said, nodes' rows' scratch' what it left

after-done : (p n t : ℕ) (g : Given) (m : Mesh) (k : ℕ) → after p n t (done g m k) ≡ done g m (p + k)
unfolding after
after-done p n t g m k = refl

after-refused : (p n t : ℕ) (g : Given) (k c : ℕ) → k ≢ 0 → after p n t (untouched g k c) ≡ outcome (answer k n t 0 c) g.nodes g.rows (cleared g.scratch)
unfolding after
after-refused p n t g k c o = rw (ne_eqb k 0 o)

pub after-start : (g : Given) (n0 : ℕ) → after 0 g.n g.t (restore_out g n0) ≡ restore_out g n0
after-start g n0 = go (pass-and-restore g n0)
  where
    go : {x y : Outcome} → Said g n0 x y → after 0 g.n g.t y ≡ y
    go (refused k c o) = after-refused 0 g.n g.t g k c o
    go (passed s l) = after-done 0 g.n g.t g (restored n0 (mesh_of g)).end (restored n0 (mesh_of g)).passes ∙ ap (done g (restored n0 (mesh_of g)).end) zero-plus
      where
        zero-plus : 0 + (restored n0 (mesh_of g)).passes ≡ (restored n0 (mesh_of g)).passes
        zero-plus = omega arith

module _ (g : Given) (n0 : ℕ) where
  m : Mesh
  m = mesh_of g

  empty-or : (l : List ℕ) → length l ≡ 0 → l ≡ []
  empty-or [] e = refl
  empty-or (x ∷ l) e = absurd (omega arith)

  -- a pass that leaves as many nodes finds none good
  none-good : length (pass n0 (mesh_of g)).nodes ≡ length (mesh_of g).nodes → good_nodes n0 (mesh_of g) ≡ []
  none-good e = empty-or (good_nodes n0 (mesh_of g)) (let a = pass-count n0 (mesh_of g) in omega arith)

  ended : length (pass n0 (mesh_of g)).nodes ≡ length (mesh_of g).nodes → (p : ℕ) →
      done g (pass n0 (mesh_of g)) p ≡ done g (restored n0 (mesh_of g)).end (p + (restored n0 (mesh_of g)).passes)
  ended e p =
      let z = none-good e in
      let a : pass n0 (mesh_of g) ≡ mesh_of g = pass-still n0 (mesh_of g) z in
      let b = restored-stop n0 (mesh_of g) z in
      let c : p + 0 ≡ p = omega arith in
      rw (a, b, c)

  -- a pass that takes a node leaves tables to go on with
  module _ (s : Sizes g n0) (law : Lawful (mesh_of g)) where
    preserved : Preserved n0 (mesh_of g) (pass n0 (mesh_of g))
    preserved = pass-preserved n0 (mesh_of g) law (omega (arith, nodes-count g, s.n0-fits))

    -- which hold it,
    holds : Holds g (pass n0 (mesh_of g)) (done g (pass n0 (mesh_of g)) 0)
    holds =
        done-holds g (pass n0 (mesh_of g)) 0
        (omega (arith, pass-count n0 (mesh_of g), nodes-count g, s.n-fits)) (omega (arith, (pass-gone n0 (mesh_of g) law).row_count, rows-count g, s.t-fits))

    -- and whose sizes fit
    sizes-after : Sizes (tables_after (done g (pass n0 (mesh_of g)) 0)) n0
    sizes-after =
        sizes-again s holds.nodes-long holds.rows_long (omega (arith, holds.nodes-long, pass-count n0 (mesh_of g), nodes-count g, s.n-fits))
        (omega (arith, holds.rows_long, (pass-gone n0 (mesh_of g) law).row_count, rows-count g, s.t-fits)) preserved.base_there (rw (length-replicate {A = ℕ} (length g.scratch) 0) s.scratch-fits)

    -- what restore leaves of these
    restore-after-pass : restore_out (tables_after (done g (pass n0 (mesh_of g)) 0)) n0 ≡ done g (restored n0 (pass n0 (mesh_of g))).end (restored n0 (pass n0 (mesh_of g))).passes
    unfolding restore_out restores
    restore-after-pass =
        let h = tables_after (done g (pass n0 (mesh_of g)) 0) in
        let z : refusal (pass n0 (mesh_of g)) ≡ 0 = lawful-refusal (pass n0 (mesh_of g)) preserved.lawful in
        let c : length (replicate {A = ℕ} (length g.scratch) 0) ≡ length g.scratch = length-replicate (length g.scratch) 0 in
        rw ((sizes-exact h n0).1 sizes-after, holds.mesh-is, z, holds.nodes-long, holds.rows_long, c)

    stepped : length (pass n0 (mesh_of g)).nodes ≢ length (mesh_of g).nodes → (p : ℕ) →
        done g (restored n0 (pass n0 (mesh_of g))).end (p + 1 + (restored n0 (pass n0 (mesh_of g))).passes) ≡ done g (restored n0 (mesh_of g)).end (p + (restored n0 (mesh_of g)).passes)
    stepped o p = go (good_nodes n0 (mesh_of g)) refl
      where
        go : (l : List ℕ) → good_nodes n0 (mesh_of g) ≡ l →
            done g (restored n0 (pass n0 (mesh_of g))).end (p + 1 + (restored n0 (pass n0 (mesh_of g))).passes) ≡ done g (restored n0 (mesh_of g)).end (p + (restored n0 (mesh_of g)).passes)
        go [] e = absurd (o (let a = pass-count n0 (mesh_of g) in let b = ap length e in omega arith))
        go (z ∷ zs) e =
            let q : p + 1 + (restored n0 (pass n0 (mesh_of g))).passes ≡ p + suc (restored n0 (pass n0 (mesh_of g))).passes = omega arith in
            rw (restored-step n0 (mesh_of g) z zs e, q)

module _ (a : Answer) (g : Given) (nodes' : List ℤ) (rows' scratch' : List ℕ) (n0 n t p : ℕ) (w : Outcome) (e : outcome a nodes' rows' scratch' ≡ pass_out g n0)
    (inv : after p n t (restore_out g n0) ≡ w) where
  pub refuse : (a.number ≡ 0 → ⊥) → outcome (answer a.number n t a.passes a.culprit) nodes' rows' scratch' ≡ w
  refuse o = go (pass-and-restore g n0) e inv
    where
      go : {x y : Outcome} → Said g n0 x y → outcome a nodes' rows' scratch' ≡ x → after p n t y ≡ w → outcome (answer a.number n t a.passes a.culprit) nodes' rows' scratch' ≡ w
      go (refused k c z) e inv = ap (λ (o : Outcome). outcome (answer o.answer.number n t o.answer.passes o.answer.culprit) o.nodes o.rows o.scratch) e ∙ sym (after-refused p n t g k c z) ∙ inv
      go (passed s l) e inv = absurd (o (ap (λ (o : Outcome). o.answer.number) e))

  module _ (z : a.number ≡ 0) where
    pub finish : a.n ≡ g.n → outcome (answer a.number a.n a.t p a.culprit) nodes' rows' scratch' ≡ w
    finish q = go (pass-and-restore g n0) e inv
      where
        go : {x y : Outcome} → Said g n0 x y → outcome a nodes' rows' scratch' ≡ x → after p n t y ≡ w → outcome (answer a.number a.n a.t p a.culprit) nodes' rows' scratch' ≡ w
        go (refused k c o) e inv = absurd (o (sym (ap (λ (o : Outcome). o.answer.number) e) ∙ z))
        go (passed s l) e inv =
            let b : length (pass n0 (mesh_of g)).nodes ≡ length (mesh_of g).nodes = sym (ap (λ (o : Outcome). o.answer.n) e) ∙ q ∙ sym (nodes-count g) in
            ap (λ (o : Outcome). outcome (answer o.answer.number o.answer.n o.answer.t p o.answer.culprit) o.nodes o.rows o.scratch) e
            ∙ ended g n0 b p
            ∙ sym (after-done p n t g (restored n0 (mesh_of g)).end (restored n0 (mesh_of g)).passes) ∙ inv

    module _ (o : a.n ≡ g.n → ⊥) where
      pub pass-fewer-nodes : a.n < g.n
      pass-fewer-nodes = go (pass-and-restore g n0) e
        where
          go : {x y : Outcome} → Said g n0 x y → outcome a nodes' rows' scratch' ≡ x → a.n < g.n
          go (refused k c r) e = absurd (r (sym (ap (λ (o : Outcome). o.answer.number) e) ∙ z))
          go (passed s l) e =
              let b = ap (λ (o : Outcome). o.answer.n) e in
              let c = pass-count n0 (mesh_of g) in
              let d = nodes-count g in
              omega arith

      pub passes-fit : p + g.n ≤ n → Fits w64 n → Fits w64 (p + 1)
      passes-fit h f = let b = pass-fewer-nodes in omega arith

      pub passes-in : p + g.n ≤ n → p + 1 + a.n ≤ n
      passes-in h = let b = pass-fewer-nodes in omega arith

      pub goes_on : after (p + 1) n t (restore_out (given nodes' rows' scratch' a.n a.t) n0) ≡ w
      goes_on = go (pass-and-restore g n0) e inv
        where
          go : {x y : Outcome} → Said g n0 x y → outcome a nodes' rows' scratch' ≡ x → after p n t y ≡ w → after (p + 1) n t (restore_out (given nodes' rows' scratch' a.n a.t) n0) ≡ w
          go (refused k c r) e inv = absurd (r (sym (ap (λ (o : Outcome). o.answer.number) e) ∙ z))
          go (passed s l) e inv =
              let b : length (pass n0 (mesh_of g)).nodes ≢ length (mesh_of g).nodes = (λ q. o (ap (λ (o : Outcome). o.answer.n) e ∙ q ∙ nodes-count g)) in
              ap (λ (o : Outcome). after (p + 1) n t (restore_out (tables_after o) n0)) e
              ∙ ap (after (p + 1) n t) (restore-after-pass g n0 s l)
              ∙ after-done (p + 1) n t g (restored n0 (pass n0 (mesh_of g))).end (restored n0 (pass n0 (mesh_of g))).passes
              ∙ stepped g n0 s l b p
              ∙ sym (after-done p n t g (restored n0 (mesh_of g)).end (restored n0 (mesh_of g)).passes) ∙ inv

pub less : (a : Answer) (nodes nodes' : List ℤ) (rows rows' scratch scratch' : List ℕ) (n0 k u : ℕ) → outcome a nodes' rows' scratch' ≡ pass_out (given nodes rows scratch k u) n0 → a.number ≡ 0 → (a.n ≡ k → ⊥) → a.n < k
less a nodes nodes' rows rows' scratch scratch' n0 k u e z o =
    pass-fewer-nodes a (given nodes rows scratch k u) nodes' rows' scratch' n0 0 0 0 (after 0 0 0 (restore_out (given nodes rows scratch k u) n0)) e refl z o
