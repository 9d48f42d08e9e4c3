-- Laws of single steps, which the check finds alone today, or by newer laws. Assumes nothing.
use Rattle.std.specs.Prelude.{◌≡◌, refl, Bool, true, false, List, [], ℕ, zero, suc, ℤ, pos, Option, None, Some, is_some}
use Rattle.std.proofs.Common.{sym, ap, ◌∙◌, arith}
use Rattle.std.specs.Int.Signed.{le_z, lt_z}
use Rattle.whole.specs.Diff.{onℤ}
use Rattle.whole.specs.Tests.{tests}
use Rattle.lists.specs.Lists.{cases}
use Rattle.lists.specs.Search.{lowest}
use Rattle.meaning.specs.declared.Correction.{Correction}
use Rattle.meaning.specs.Fault.{Fault}
use Rattle.meaning.specs.declared.Place.{Place}
use Rattle.meaning.specs.declared.Told.{Told}
use Rattle.meaning.specs.declared.Tri.{Tri}
use Rattle.meaning.specs.Mesh.{Mesh, correction}
use Rattle.meaning.specs.Lawful.{fault, fault_of, first_outside, first_misnamed, first_repeat, first_flat, first_unused, or_later}
use Rattle.meaning.specs.Tables.{Given, given, row_at, mesh_of}
use Rattle.meaning.specs.Asking.{row_holding, correction_at}
use Rattle.meaning.specs.Calls.{culprit_of, unless, ask_no, told, asks, sizes_fit, marks_fit, ask_out}
use Rattle.judging.specs.Judge.{early, Admitted}
use Rattle.judging.specs.Leaving.{or_late, first_of, verdict}
use Rattle.asking.specs.Asking.{side_of, weights_in, holds_in, holds_at, correction_of, refused_by}
use Rattle.asking.specs.WorkLaw as Work

-- ---- the row that holds the point

below : (z : ℤ) → lt_z z (pos 0) ≡ true → le_z (pos 0) z ≡ false
below z h = omega (arith, onℤ, tests)

not-below : (z : ℤ) → lt_z z (pos 0) ≡ false → le_z (pos 0) z ≡ true
not-below z h = omega (arith, onℤ, tests)

module _ (nodes : List ℤ) (w : Tri) (P : Place) where
  abbrev qr : ℤ
  qr = side_of nodes w.q w.r P

  abbrev rp : ℤ
  rp = side_of nodes w.r w.p P

  abbrev pq : ℤ
  pq = side_of nodes w.p w.q P

  pub right-of-qr : lt_z qr (pos 0) ≡ true → false ≡ holds_in nodes w P
  unfolding holds_in weights_in
  right-of-qr h = rw (below qr h)

  module _ (h : lt_z qr (pos 0) ≡ false) where
    pub right-of-rp : lt_z rp (pos 0) ≡ true → false ≡ holds_in nodes w P
    unfolding holds_in weights_in
    right-of-rp k = rw (not-below qr h, below rp k)

    module _ (k : lt_z rp (pos 0) ≡ false) where
      pub right-of-pq : lt_z pq (pos 0) ≡ true → false ≡ holds_in nodes w P
      unfolding holds_in weights_in
      right-of-pq l = rw (not-below qr h, not-below rp k, below pq l)

      pub right-of-none : lt_z pq (pos 0) ≡ false → true ≡ holds_in nodes w P
      unfolding holds_in weights_in
      right-of-none l = rw (not-below qr h, not-below rp k, not-below pq l)

-- ---- what is told; f is what was judged first

-- 14, where no row holds the point
abbrev late_of : Mesh → Place → ℕ
late_of m P = unless (is_some (row_holding m P)) 14 0

abbrev told_for : Correction → Fault → Told
told_for v f = told f.number f.at v

told_is : (g : Given) (n0 : ℕ) (P : Place) → (ask_out g n0 P).told ≡ told_for (correction_at (mesh_of g) P) (or_late (early g n0 0 []) (late_of (mesh_of g) P))
unfolding ask_out asks ask_no
told_is g n0 P = go (sizes_fit g n0) ∙ ap (told_for (correction_at (mesh_of g) P)) (verdict g n0 0 [] (late_of (mesh_of g) P))
  where
    go : (b : Bool) → cases b (asks (mesh_of g) P) (told 1 0 (correction (pos 0) (pos 0))) ≡
        told_for (correction_at (mesh_of g) P) (cases b (fault (ask_no (mesh_of g) P) (culprit_of (mesh_of g) (ask_no (mesh_of g) P))) (fault 1 0))
    go true = refl
    go false = refl

refused-told : (f : Fault) (v : Correction) → (f.number ≡ 0 → ⊥) → refused_by f ≡ told_for v f
refused-told f v o = go f.number o
  where
    go : (k : ℕ) → (k ≡ 0 → ⊥) → refused_by (fault k f.at) ≡ told k f.at v
    go zero o = absurd (o refl)
    go (suc k) o = refl

-- where no number applies, there is no culprit
early-none : (g : Given) (n0 : ℕ) → (early g n0 0 []).number ≡ 0 → fault 0 0 ≡ early g n0 0 []
unfolding early fault_of
early-none g n0 = go (sizes_fit g n0) (marks_fit 0 []) (first_outside m) (first_misnamed m) (first_repeat m) (first_flat m) (first_unused m)
  where
    m : Mesh
    m = mesh_of g

    found : Option ℕ → Option ℕ → Option ℕ → Option ℕ → Option ℕ → Fault
    found o f g h k = or_later 3 o (or_later 4 f (or_later 5 g (or_later 6 h (or_later 7 k (fault 0 0)))))

    go : (b c : Bool) (o f g h k : Option ℕ) → (cases b (cases c (found o f g h k) (fault 2 0)) (fault 1 0)).number ≡ 0 →
        fault 0 0 ≡ cases b (cases c (found o f g h k) (fault 2 0)) (fault 1 0)
    go false c o f g h k e = cc
    go true false o f g h k e = cc
    go true true (Some i) f g h k e = cc
    go true true None (Some i) g h k e = cc
    go true true None None (Some i) h k e = cc
    go true true None None None (Some i) k e = cc
    go true true None None None None (Some i) e = cc
    go true true None None None None None e = refl

module _ (nodes : List ℤ) (rows s : List ℕ) (n0 n t : ℕ) (P : Place) (f : Fault) (e : f ≡ early (given nodes rows s n t) n0 0 []) where
  pub ask-refused : (r : Told) → (f.number ≡ 0 → ⊥) → r ≡ refused_by f → r ≡ (ask_out (given nodes rows s n t) n0 P).told
  ask-refused r o h =
      let g = given nodes rows s n t in
      let v : f ≡ or_late (early g n0 0 []) (late_of (mesh_of g) P) = first_of f _ o ∙ ap (λ (x : Fault). or_late x (late_of (mesh_of g) P)) e in
      h ∙ refused-told f (correction_at (mesh_of g) P) o ∙ ap (told_for (correction_at (mesh_of g) P)) v ∙ sym (told_is g n0 P)

  -- nothing stood in the way; s₁ is scratch then, and h what the search gave
  module _ (y : f.number ≡ 0) (s₁ : List ℕ) (A : Admitted nodes rows s₁ [] 0 n t) (h : Option ℕ) (q : h ≡ lowest (holds_at nodes rows P) 0 t) where
    clean : fault 0 0 ≡ early (given nodes rows s n t) n0 0 []
    clean = early-none (given nodes rows s n t) n0 (ap (λ (x : Fault). x.number) (sym e) ∙ y)

    pub ask-none : (r : Told) → h ≡ None → r ≡ refused_by (fault 14 0) → r ≡ (ask_out (given nodes rows s n t) n0 P).told
    ask-none r d k = k ∙ Work.ask-none nodes rows s n0 n t P clean s₁ A h q d

    pub ask-found : (i : ℕ) → h ≡ Some i → (w : Tri) → w ≡ row_at rows i → (c : Correction) → c ≡ correction_of nodes w P → told 0 0 c ≡ (ask_out (given nodes rows s n t) n0 P).told
    ask-found i d w k c j = Work.ask-found nodes rows s n0 n t P clean s₁ A h q i d w k c j
