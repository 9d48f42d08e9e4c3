-- Laws of single steps, which the check finds alone today: each test of `weigh` as the code has it, what its parts ask for, and what a call leaves
-- that says this or that. Assumes nothing.
use Rattle.std.specs.Prelude.{◌≡◌, Bool, ◌||◌, List, ℕ, ◌+◌, ◌*◌, ◌/◌, ◌≤◌, ◌<◌, ltb, ℤ, length, replicate, Option, is_some, Result, Ok, Err}
use Rattle.std.proofs.Math.Path.{ap}
use Rattle.std.proofs.Common.{◌∙◌, arith}
use Rattle.std.proofs.Math.Bool.{true, false}
use Rattle.lists.specs.Search.{lowest, iter}
use Rattle.lists.specs.ItemsLaw.{sum_to}
use Rattle.meaning.specs.declared.Manner.{Manner}
use Rattle.meaning.specs.declared.Quarters.{Quarters}
use Rattle.meaning.specs.declared.Answer.{Answer}
use Rattle.meaning.specs.declared.Tinted.{Tinted}
use Rattle.meaning.specs.Fault.{Fault}
use Rattle.meaning.specs.Lawful.{fault}
use Rattle.meaning.specs.Tables.{given, outcome, answer, row_at}
use Rattle.meaning.specs.Calls.{tinted, refine_by_out}
use Rattle.refusals.specs.declared.Refusal.{Refusal}
use Rattle.refusals.specs.declared.Refusal.TheVariants.{Odd, Full}
use Rattle.refusals.specs.Refusals.{verdict}
use Rattle.neighbours.specs.Ready.{Ready}
use Rattle.notes.specs.Notes.{note_at}
use Rattle.notes.specs.Met.{after}
use Rattle.laws.specs.Meshes.{Standing}
use Rattle.nodes.specs.Nodes.{odd_at}
use Rattle.close.specs.Drawn.{closed_notes}
use Rattle.close.specs.DrawLaw.{closed-kept}
use Rattle.number.specs.Numbered.{numbers, number_row}
use Rattle.cut.specs.Cutting.{splits, red_at}
use Rattle.refining.specs.declared.Plan.{Plan}
use Rattle.judging.specs.Judge.{early, Admitted}
use Rattle.judging.specs.Leaving.{leaves-refused, leaves-refused-late}
use Rattle.refining.specs.Refine.{plan_of, weighed, late_number, Carry, both_tables, carried, Planned, with_red}
use Rattle.refining.specs.RefineLaw.{notes-fit, late-verdict, refine-out, refused-by, work-done}

-- ---- 8 and 9, by the notes: each test of `weigh` as the code has it

module _ (q : Quarters) (nodes : List ℤ) (rows s : List ℕ) (n t k : ℕ) (f : Option ℕ) (y : Bool) (e : f ≡ lowest (odd_at nodes rows s) 0 t) (g : y ≡ is_some f) where
  pub weigh-odd : y ≡ true → Err Odd ≡ weighed q nodes rows s n t k
  unfolding weighed
  weigh-odd h = rw (← e, ← g, h)

  module _ (t1 : ℕ) (h : y ≡ false) (c : t1 ≡ t + sum_to (splits s) t) where
    pub weigh-short : ltb (length nodes / 4) (n + k) || ltb (length rows / 3) t1 ≡ true → Err Full ≡ weighed q nodes rows s n t k
    unfolding weighed
    weigh-short b = rw (← e, ← g, h, ← c, b)

    pub weigh-done : (x : ℕ) → ltb (length nodes / 4) (n + k) || ltb (length rows / 3) t1 ≡ false → x ≡ red_at q s t → Ok (plan_of (n + k) t1 x) ≡ weighed q nodes rows s n t k
    unfolding weighed
    weigh-done x b d = rw (← e, ← g, h, ← c, b, d)

-- ---- the notes of a lawful mesh

module _ (how : Manner) (nodes : List ℤ) (rows s₀ marks : List ℕ) (n t : ℕ) (R : Admitted nodes rows s₀ marks t n t) where
  -- s₁ after close, s₂ and k after number
  module _ (s₁ s₂ : List ℕ) (k : ℕ) (e₁ : s₁ ≡ closed_notes how rows t marks s₀) (e₂ : numbers s₂ k ≡ iter (number_row rows t) 0 t (numbers s₁ 0)) (q : Quarters) where
    pub late-number : (r : Result Plan Refusal) → r ≡ weighed q nodes rows s₂ n t k → (verdict r).number ≡ late_number how q nodes rows marks n t
    late-number r e = ap (λ (f : Fault). f.number) (late-verdict how nodes rows s₀ marks n t R s₁ s₂ k e₁ e₂ q r e)

  pub closed-fit : (s₁ : List ℕ) → s₁ ≡ closed_notes how rows t marks s₀ → t ≤ length s₁
  closed-fit s₁ e =
      let a = notes-fit how nodes rows s₀ marks n t R in
      let b = ap length e ∙ (closed-kept rows t t (omega arith) how marks s₀).0 in
      omega arith

  pub marks-long : t ≤ length marks
  marks-long = let a = R.marks-fit in omega arith

-- ---- the work: a after placing and cutting

module _ (q : Quarters) (nodes a : List ℤ) (rows s : List ℕ) (n t n1 t1 : ℕ) (C : Carry q nodes rows s n t n1 t1) where
  pub carry-standing : (i : ℕ) → i < t → Standing nodes (row_at rows i)
  carry-standing = C.standing

  pub carry-room : (i : ℕ) → i < t → 4 * after n (note_at s i) ≤ length nodes
  carry-room = C.room

  pub carry-ready : length a ≡ length nodes → Ready s (length a / 4) rows t
  carry-ready e = rw e C.ready

-- ---- what is said

pub refused-said : (a b : Answer) → a ≡ b → with_red a 0 ≡ with_red b 0
refused-said a b e = ap (λ (x : Answer). with_red x 0) e

-- f is what was judged first, k what was judged at last; r is what the call says
module _ (how : Manner) (q : Quarters) (nodes : List ℤ) (rows s marks : List ℕ) (n0 n t : ℕ) (z : s ≡ replicate (length s) 0) (f : Fault) (e : f ≡ early (given nodes rows s n t) n0 t marks) where
  pub said-refused : (r : Tinted) → (f.number ≡ 0 → ⊥) → r ≡ with_red (answer f.number n t 0 f.at) 0 →
      tinted (outcome r.answer nodes rows s) r.red ≡ refine_by_out how q (given nodes rows s n t) n0 marks
  said-refused r o h =
      refused-by how q nodes rows s marks n0 n t z f e r f.number f.at o h
      (leaves-refused nodes rows s marks n0 n t t _ _ z f e r.answer o (ap (λ (x : Tinted). x.answer) h) ∙ refine-out how q nodes rows s marks n0 n t z f e)

  module _ (y : f.number ≡ 0) (k : ℕ) (d : k ≡ late_number how q nodes rows marks n t) where
    pub said-refused-late : (r : Tinted) → (k ≡ 0 → ⊥) → r ≡ with_red (answer k n t 0 0) 0 →
        tinted (outcome r.answer nodes rows s) r.red ≡ refine_by_out how q (given nodes rows s n t) n0 marks
    said-refused-late r o h =
        refused-by how q nodes rows s marks n0 n t z f e r k 0 o h
        (leaves-refused-late nodes rows s marks n0 n t t _ _ z f e y r.answer k d o (ap (λ (x : Tinted). x.answer) h) ∙ refine-out how q nodes rows s marks n0 n t z f e)

    pub said-done : (r : Answer) (a : List ℤ) (b s' : List ℕ) (n1 t1 x : ℕ) → k ≡ 0 → (k ≡ 0 → Planned how q nodes rows s' marks n t n1 t1 x) →
        both_tables a b ≡ carried q nodes rows s' n t n1 → r ≡ answer 0 n1 t1 0 0 →
        tinted (outcome r a b s) x ≡ refine_by_out how q (given nodes rows s n t) n0 marks
    said-done r a b s' n1 t1 x o w g h =
        ap (λ (i : Answer). tinted (outcome i a b s) x) h
        ∙ work-done how q nodes rows s marks n0 n t z f e y (fault k 0) (ap (λ (i : ℕ). fault i 0) d) a b s' (plan_of n1 t1 x) o (w o) g
