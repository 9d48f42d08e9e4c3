-- W2, "Name the bad row": the fault of a mesh names the lowest node or row at fault; a mesh and a number name one culprit; what a call carries
-- with its number is that culprit. Assumes nothing.
use Rattle.std.specs.Prelude.{Bool, true, false, List, ◌↔◌, ◌⊎◌, ◌≡◌, refl, ℕ, zero, suc, ◌≤◌, ◌<◌, eqb, pos, ◌<ℤ◌, length, Option, Some, None, is_some}
use Rattle.std.proofs.Common.{inl, inr, sym, subst, arith, eqb-true, eq-eqb}
use Rattle.std.proofs.Math.Decide.{dec_lt}
use Rattle.std.proofs.lemmas.Bool.{eqb-false}
use Rattle.lists.specs.Lists.{all, cases, count}
use Rattle.meaning.specs.Fault.{Fault}
use Rattle.meaning.specs.declared.Place.{Place}
use Rattle.meaning.specs.Mesh.{Mesh, node_of, holds_node, twice_area}
use Rattle.meaning.specs.Lawful.{NodeInRange, Named, First, Repeats, Other, Names, names-3, names-4, names-5, names-6, names-7, names-none, first_outside, first_misnamed, first_repeat, first_flat, first_unused, row_of, fault, or_later, from4, fault_of, refusal, compatible}
use Rattle.meaning.specs.Split.{Way, split_edges, started, halves, refined}
use Rattle.meaning.specs.Asking.{row_holding}
use Rattle.meaning.specs.Tables.{Room}
use Rattle.meaning.specs.Proper.{uncrowded, disjoint}
use Rattle.meaning.specs.Calls.{culprit_of, unless, or_else, marks_fit, fits, check_no, refine_no, coarsen_no, ask_no}
use Rattle.laws.specs.Faults.{first-3, first-4, first-5, first-6, first-7}

-- a chain of numbers, whatever they name
pub names-or-later : (N : ℕ → ℕ → Type 0) (k : ℕ) (f : Option ℕ) (rest : Fault) → ((i : ℕ) → f ≡ Some i → N k i) → (f ≡ None → N rest.number rest.at) →
    N (or_later k f rest).number (or_later k f rest).at
names-or-later N k (Some i) rest here later = here i refl
names-or-later N k None rest here later = later refl

pub names-4-7 : (m : Mesh) (N : ℕ → ℕ → Type 0) → ((k z : ℕ) → Names m k z → N k z) → (rest : Fault) → N rest.number rest.at → N (from4 m rest).number (from4 m rest).at
names-4-7 m N there rest later =
    names-or-later N 4 (first_misnamed m) _ (λ i e. there 4 i (names-4 (first-4 m i e))) λ e4.
    names-or-later N 5 (first_repeat m) _ (λ i e. there 5 i (names-5 (first-5 m i e))) λ e5.
    names-or-later N 6 (first_flat m) _ (λ i e. there 6 i (names-6 (first-6 m i e))) λ e6.
    names-or-later N 7 (first_unused m) _ (λ i e. there 7 i (names-7 (first-7 m i e))) λ e7.
    later

-- WHAT THE FAULT OF A MESH NAMES.
pub fault-names : (m : Mesh) → Names m (fault_of m).number (fault_of m).at
unfolding fault_of
fault-names m =
    names-or-later (Names m) 3 (first_outside m) _ (λ i e. names-3 (first-3 m i e)) λ e3.
    names-4-7 m (Names m) (λ k z h. h) (fault 0 0) (names-none 0 (inl (omega arith)))

-- ---- number by number

-- 3 to 7 are not among the others
other-no : {X : Type 0} {k : ℕ} → 3 ≤ k → k ≤ 7 → Other k → X
other-no a b (inl h) = absurd (omega arith)
other-no a b (inr h) = absurd (omega arith)

module _ {m : Mesh} where
  -- WHAT 3 NAMES: a node out of range, all below it being in range.
  pub named-3 : {z : ℕ} → Names m 3 z → First (length m.nodes) (λ j. ¬ NodeInRange (node_of m j)) (λ j. NodeInRange (node_of m j)) z
  named-3 (names-3 f) = f
  named-3 (names-none k o) = other-no (omega arith) (omega arith) o

  -- WHAT 4 NAMES: a row that names a node that is not there or one node twice, no lower row doing so.
  pub named-4 : {z : ℕ} → Names m 4 z → First (length m.tris) (λ i. ¬ Named (length m.nodes) (row_of m.tris i)) (λ i. Named (length m.nodes) (row_of m.tris i)) z
  named-4 (names-4 f) = f
  named-4 (names-none k o) = other-no (omega arith) (omega arith) o

  -- WHAT 5 NAMES: a row with a directed edge that a lower row has, no lower row having one that a still lower row has.
  pub named-5 : {z : ℕ} → Names m 5 z → First (length m.tris) (Repeats m.tris) (λ i. ¬ Repeats m.tris i) z
  named-5 (names-5 f) = f
  named-5 (names-none k o) = other-no (omega arith) (omega arith) o

  -- WHAT 6 NAMES: a row whose twice-area is not above 0, that of every lower row being so.
  pub named-6 : {z : ℕ} → Names m 6 z → First (length m.tris) (λ i. ¬ (pos 0 <ℤ twice_area m (row_of m.tris i))) (λ i. pos 0 <ℤ twice_area m (row_of m.tris i)) z
  named-6 (names-6 f) = f
  named-6 (names-none k o) = other-no (omega arith) (omega arith) o

  -- WHAT 7 NAMES: a node in no row, all below it being in one.
  pub named-7 : {z : ℕ} → Names m 7 z → First (length m.nodes) (λ j. count (holds_node j) m.tris ≡ 0) (λ j. 1 ≤ count (holds_node j) m.tris) z
  named-7 (names-7 f) = f
  named-7 (names-none k o) = other-no (omega arith) (omega arith) o

  -- AND EVERY OTHER NUMBER: 0.
  pub named-0 : {k z : ℕ} → Names m k z → Other k → z ≡ 0
  named-0 (names-3 f) o = other-no (omega arith) (omega arith) o
  named-0 (names-4 f) o = other-no (omega arith) (omega arith) o
  named-0 (names-5 f) o = other-no (omega arith) (omega arith) o
  named-0 (names-6 f) o = other-no (omega arith) (omega arith) o
  named-0 (names-7 f) o = other-no (omega arith) (omega arith) o
  named-0 (names-none k p) o = refl

-- ---- one culprit

pub first_one : {end : ℕ} {Faulty Sound : ℕ → Type 0} {y z : ℕ} → ((j : ℕ) → Faulty j → Sound j → ⊥) → First end Faulty Sound y → First end Faulty Sound z → y ≡ z
first_one {y = y} {z = z} apart a b = go (dec_lt y z) (dec_lt z y)
  where
    go : Dec (y < z) → Dec (z < y) → y ≡ z
    go (yes l) d = absurd (apart y a.at-fault (b.sound-below y l))
    go (no n) (yes l) = absurd (apart z b.at-fault (a.sound-below z l))
    go (no n) (no l) = omega arith

-- A MESH AND A NUMBER NAME ONE CULPRIT.
pub names-one : {m : Mesh} {k y z : ℕ} → Names m k y → Names m k z → y ≡ z
names-one (names-3 f) b = first_one (λ j x y. x y) f (named-3 b)
names-one (names-4 f) b = first_one (λ j x y. x y) f (named-4 b)
names-one (names-5 f) b = first_one (λ j x y. y x) f (named-5 b)
names-one (names-6 f) b = first_one (λ j x y. x y) f (named-6 b)
names-one (names-7 f) b = first_one (λ j x y. omega arith) f (named-7 b)
names-one (names-none k o) b = sym (named-0 b o)

-- So what names a culprit names no other.
pub names-exact : {m : Mesh} {k y : ℕ} → Names m k y → (z : ℕ) → (y ≡ z) ↔ Names m k z
names-exact {m} {k} a z = (λ e. subst (Names m k) e a, λ b. names-one a b)

-- ---- what a call carries

-- the number is due to the mesh itself, or names nobody
abbrev pub Due : Mesh → ℕ → Type 0
Due m k = (k ≡ refusal m) ⊎ Other k

-- WHAT A NUMBER CARRIES IS WHAT IT NAMES.
pub culprit-names : (m : Mesh) (k : ℕ) → Due m k → Names m k (culprit_of m k)
unfolding culprit_of refusal
culprit-names m k due = go (eqb k (fault_of m).number) refl due
  where
    go : (b : Bool) → eqb k (fault_of m).number ≡ b → Due m k → Names m k (cases b (fault_of m).at 0)
    go true q d = subst (λ j. Names m j (fault_of m).at) (sym (eqb-true k (fault_of m).number q)) (fault-names m)
    go false q (inl e) = absurd (eqb-false k (fault_of m).number q e)
    go false q (inr o) = names-none k o

-- "All other answers, later numbers too, carry 0 there."
pub culprit-none : (m : Mesh) (k : ℕ) → Other k → culprit_of m k ≡ 0
culprit-none m k o = named-0 (culprit-names m k (inr o)) o

-- the number that a mesh draws carries its fault's node or row
pub culprit-own : (m : Mesh) → culprit_of m (refusal m) ≡ (fault_of m).at
unfolding culprit_of
culprit-own m = rw (eq-eqb (refusal m) (refusal m) refl)

-- a mesh at no fault blames nobody, whatever else refuses it
pub culprit-lawful : (m : Mesh) (k : ℕ) → refusal m ≡ 0 → culprit_of m k ≡ 0
unfolding culprit_of refusal
culprit-lawful m k e = go (eqb k (fault_of m).number)
  where
    go : (b : Bool) → cases b (fault_of m).at 0 ≡ 0
    go true = named-0 (fault-names m) (inl (omega arith))
    go false = refl

module _ (m : Mesh) where
  unless-due : (b : Bool) (k later : ℕ) → Other k → Due m later → Due m (unless b k later)
  unless-due true k later o d = d
  unless-due false k later o d = inr o

  or-else-due : (later : ℕ) → Due m later → Due m (or_else (refusal m) later)
  or-else-due later d = go (refusal m) refl
    where
      go : (k : ℕ) → refusal m ≡ k → Due m (or_else k later)
      go zero e = d
      go (suc k) e = inl (sym e)

  done-due : Due m 0
  done-due = inr (inl (omega arith))

  pub check-due : Due m (check_no m)
  unfolding check_no
  check-due =
      or-else-due _
      (unless-due (uncrowded m) 11 _ (inr (omega arith))
      (unless-due (disjoint m) 12 _ (inr (omega arith))
      (unless-due (compatible m) 10 0 (inr (omega arith)) done-due)))

  pub ask-due : (P : Place) → Due m (ask_no m P)
  unfolding ask_no
  ask-due P = or-else-due _ (unless-due (is_some (row_holding m P)) 14 0 (inr (omega arith)) done-due)

  pub restore-due : Due m (refusal m)
  restore-due = inl refl

  pub coarsen-due : (marks : List ℕ) → Due m (coarsen_no m marks)
  unfolding coarsen_no
  coarsen-due marks = unless-due (marks_fit (length m.nodes) marks) 2 _ (inl (omega arith)) restore-due

  pub refine-due : (w : Way) (room : Room) (marks : List ℕ) → Due m (refine_no w room m marks)
  unfolding refine_no
  refine-due w room marks =
      unless-due (marks_fit (length m.tris) marks) 2 _ (inl (omega arith))
      (or-else-due _
      (unless-due (all (halves m) (split_edges m (started w.starts marks m.tris))) 8 _ (inr (omega arith))
      (unless-due (fits room (refined w m marks)) 9 0 (inr (omega arith))
      done-due)))
