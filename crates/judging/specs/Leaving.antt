-- What the three calls share once 1 to 7 are judged: each judges what is its own (`late`: 10, or 8 and 9, or nothing), then works;
-- scratch is cleared before and after, and counts by its length alone. Assumes nothing.
use Rattle.std.specs.Prelude.{◌≡◌, Bool, true, false, List, ℤ, pos, length, replicate, Result, Ok, Err}
use Rattle.std.specs.Result.{IsErrAnd}
use Rattle.std.proofs.Math.Path.{refl}
use Rattle.std.proofs.Common.{sym, ap, ◌∙◌, inl, arith}
use Prim.Native.Nat.{ℕ, zero, suc}
use Rattle.std.proofs.lemmas.List.{length-replicate}
use Rattle.lists.specs.Lists.{cases}
use Rattle.meaning.specs.declared.Answer.{Answer}
use Rattle.meaning.specs.Fault.{Fault}
use Rattle.meaning.specs.Mesh.{Mesh}
use Rattle.meaning.specs.Lawful.{fault, fault_of, refusal}
use Rattle.meaning.specs.Tables.{Given, given, Outcome, outcome, answer, mesh_of, flat_nodes, flat_rows, filled}
use Rattle.meaning.specs.Calls.{Reply, culprit_of, says, unless, or_else, marks_fit, sizes_fit, untouched, leaves_by, leaves, sized}
use Rattle.laws.specs.Culprit.{culprit-none, culprit-own, culprit-lawful}
use Rattle.refusals.specs.declared.Refusal.{Refusal}
use Rattle.refusals.specs.declared.Refusal.TheVariants.{Sizes, Marks, OutOfRange, Misnamed, Repeated, Flat, Unused, Odd, Full, Clashing, Touching, Lapping, BaseNode, Nowhere, NoNode}
use Rattle.refusals.specs.Refusals.{fault_in}
use Rattle.judging.specs.Sizes.{fitting, fitting-is}
use Rattle.judging.specs.Judge.{early}

-- ---- what a call says in the end, and what it leaves

-- what was judged first, or else the number of what is the call's own
abbrev or_late_by : ℕ → Fault → ℕ → Fault
or_late_by zero f late = fault late 0
or_late_by (suc j) f late = f

abbrev pub or_late : Fault → ℕ → Fault
or_late f late = or_late_by f.number f late

pub first_of : (f : Fault) (late : ℕ) → (f.number ≡ 0 → ⊥) → f ≡ or_late f late
first_of f late o = go f.number refl
  where
    go : (j : ℕ) → f.number ≡ j → f ≡ or_late_by j f late
    go zero e = absurd (o e)
    go (suc j) e = refl

-- a refusal has a number
pub numbered : (r : Refusal) → (fault_in r).number ≡ 0 → ⊥
numbered Sizes e = cc
numbered Marks e = cc
numbered (OutOfRange k) e = cc
numbered (Misnamed k) e = cc
numbered (Repeated k) e = cc
numbered (Flat k) e = cc
numbered (Unused k) e = cc
numbered Odd e = cc
numbered Full e = cc
numbered Clashing e = cc
numbered Touching e = cc
numbered Lapping e = cc
numbered BaseNode e = cc
numbered Nowhere e = cc
numbered NoNode e = cc

-- what a `?` hands on
pub passed-on : {A : Type 0} (e : Refusal) (r : Result A Refusal) → IsErrAnd r (λ y. y ≡ e) → r ≡ Err e
passed-on e (Err y) h = ap Err h
passed-on e (Ok a) h = absurd h

abbrev leaves_for : Given → Mesh → Fault → Outcome
leaves_for g after f = leaves_by g f.number after 0 f.at

-- the number of a call that wants k marks and judges `late` at last: 1 comes first, and then 2
module _ (g : Given) (n0 k : ℕ) (marks : List ℕ) (late : ℕ) where
  abbrev pub late_no : ℕ
  late_no = unless (marks_fit k marks) 2 (or_else (refusal (mesh_of g)) late)

  -- what it names is what the fault names that was judged first
  pub verdict : cases (sizes_fit g n0) (fault late_no (culprit_of (mesh_of g) late_no)) (fault 1 0) ≡ or_late (early g n0 k marks) late
  unfolding early refusal
  verdict = go (sizes_fit g n0) (marks_fit k marks) (refusal (mesh_of g)) refl
    where
      named : ℕ → Fault
      named j = fault j (culprit_of (mesh_of g) j)

      go : (b c : Bool) (j : ℕ) → refusal (mesh_of g) ≡ j → cases b (named (unless c 2 (or_else j late))) (fault 1 0) ≡ or_late (cases b (cases c (fault_of (mesh_of g)) (fault 2 0)) (fault 1 0)) late
      go false c j q = refl
      go true false j q = ap (fault 2) (culprit-none (mesh_of g) 2 (inl (omega arith)))
      go true true zero q = rw q (ap (fault late) (culprit-lawful (mesh_of g) late q))
      go true true (suc j) q = rw (← q) (ap (fault (refusal (mesh_of g))) (culprit-own (mesh_of g)) ∙ first_of (fault_of (mesh_of g)) late (λ z. omega (arith, sym z ∙ q)))

  -- what it leaves
  module _ (after : Mesh) where
    abbrev pub late_out : Outcome
    late_out = sized g n0 (leaves g (says late_no (mesh_of g) after 0))

    late_out-is : late_out ≡ leaves_for g after (or_late (early g n0 k marks) late)
    late_out-is = go (sizes_fit g n0) late_no ∙ ap (leaves_for g after) verdict
      where
        go : (b : Bool) (j : ℕ) → cases b (leaves g (says j (mesh_of g) after 0)) (untouched g 1 0) ≡ leaves_for g after (cases b (fault j (culprit_of (mesh_of g) j)) (fault 1 0))
        go true zero = refl
        go true (suc j) = refl
        go false j = refl

-- f is what was judged first
module _ (nodes : List ℤ) (rows s marks : List ℕ) (n0 n t k late : ℕ) (after : Mesh) (z : s ≡ replicate (length s) 0) (f : Fault) (e : f ≡ early (given nodes rows s n t) n0 k marks) where
  -- refused: nothing is written
  untouched-is : (j c : ℕ) → (j ≡ 0 → ⊥) → outcome (answer j n t 0 c) nodes rows s ≡ leaves_by (given nodes rows s n t) j after 0 c
  untouched-is zero c o = absurd (o refl)
  untouched-is (suc j) c o = ap (outcome (answer (suc j) n t 0 c) nodes rows) z

  pub leaves-refused : (r : Answer) → (f.number ≡ 0 → ⊥) → r ≡ answer f.number n t 0 f.at → outcome r nodes rows s ≡ late_out (given nodes rows s n t) n0 k marks late after
  leaves-refused r o h =
      let g = given nodes rows s n t in
      let v : f ≡ or_late (early g n0 k marks) late = first_of f late o ∙ ap (λ (x : Fault). or_late x late) e in
      rw h (untouched-is f.number f.at o) ∙ ap (leaves_for g after) v ∙ sym (late_out-is g n0 k marks late after)

  module _ (y : f.number ≡ 0) where
    late_is : fault late 0 ≡ or_late (early (given nodes rows s n t) n0 k marks) late
    late_is = rw (← e, y)

    pub leaves-refused-late : (r : Answer) (j : ℕ) → j ≡ late → (j ≡ 0 → ⊥) → r ≡ answer j n t 0 0 → outcome r nodes rows s ≡ late_out (given nodes rows s n t) n0 k marks late after
    leaves-refused-late r j d o h =
        let g = given nodes rows s n t in
        rw h (untouched-is j 0 o) ∙ ap (λ (i : ℕ). leaves_by g i after 0 0) d ∙ ap (leaves_for g after) late_is ∙ sym (late_out-is g n0 k marks late after)

    -- done: both tables hold the mesh after
    pub leaves-done : (r : Answer) (a : List ℤ) (b : List ℕ) (n1 t1 : ℕ) → late ≡ 0 → n1 ≡ length after.nodes → t1 ≡ length after.tris →
        a ≡ filled (pos 0) (length nodes) (flat_nodes after.nodes) → b ≡ filled 0 (length rows) (flat_rows after.tris) → r ≡ answer 0 n1 t1 0 0 →
        outcome r a b s ≡ late_out (given nodes rows s n t) n0 k marks late after
    leaves-done r a b n1 t1 d p q x y h =
        let g = given nodes rows s n t in
        rw (h, x, y, p, q) (ap (outcome _ _ _) z) ∙ ap (λ (j : ℕ). leaves_by g j after 0 0) (sym d) ∙ ap (leaves_for g after) late_is ∙ sym (late_out-is g n0 k marks late after)

-- ---- scratch before the call does not matter, but for its length

module _ (nodes : List ℤ) (rows s s' : List ℕ) (n0 n t : ℕ) (e : length s' ≡ length s) where
  pub fits-same : sizes_fit (given nodes rows s' n t) n0 ≡ sizes_fit (given nodes rows s n t) n0
  fits-same = sym (fitting-is nodes rows s' n0 n t) ∙ ap (λ (k : ℕ). fitting (length nodes) (length rows) k n0 n t) e ∙ fitting-is nodes rows s n0 n t

  pub sized_same : (o o' : Outcome) → o' ≡ o → sized (given nodes rows s' n t) n0 o' ≡ sized (given nodes rows s n t) n0 o
  sized_same o o' f = rw (fits-same, f, e)

  pub leaves-same : (r : Reply) → sized (given nodes rows s' n t) n0 (leaves (given nodes rows s' n t) r) ≡ sized (given nodes rows s n t) n0 (leaves (given nodes rows s n t) r)
  leaves-same r = sized_same _ _ (go r.number r.after r.passes r.culprit)
    where
      go : (k : ℕ) (m : Mesh) (p c : ℕ) → leaves_by (given nodes rows s' n t) k m p c ≡ leaves_by (given nodes rows s n t) k m p c
      go zero m p c = rw e
      go (suc k) m p c = rw e

-- scratch is s before the call, s₁ before the work, and s₂ at the end; len is its length after the work
module _ (s s₁ : List ℕ) (p : s₁ ≡ replicate (length s) 0) where
  pub cleared-length : length s₁ ≡ length s
  cleared-length = ap length p ∙ length-replicate (length s) 0

  pub zeroed : s₁ ≡ replicate (length s₁) 0
  zeroed = rw cleared-length p

  pub call-out : (out : List ℕ → Outcome) → ((s s' : List ℕ) → length s' ≡ length s → out s' ≡ out s) → (r : Answer) (a : List ℤ) (b s₂ : List ℕ) (len : ℕ) →
      outcome r a b s₁ ≡ out s₁ → s₂ ≡ replicate len 0 → len ≡ length s₁ → outcome r a b s₂ ≡ out s
  call-out out same r a b s₂ len q d c =
      let f : s₂ ≡ s₁ = d ∙ ap (λ (k : ℕ). replicate k 0) (c ∙ cleared-length) ∙ sym p in
      ap (outcome r a b) f ∙ q ∙ same s s₁ cleared-length
