-- 1 to 7, which every call judges first: the number and where, and what its absence tells. Assumes nothing.
use Rattle.std.specs.Prelude.{◌≡◌, refl, Bool, true, false, List, ℕ, ◌*◌, ◌/◌, ◌≤◌, eqb, ℤ, length, take, replicate, Result, Ok, Err, IfOk}
use Rattle.std.proofs.Common.{sym, ap, ◌∙◌, arith}
use borrow.Author.Tests.{eqb-true}
use Rattle.std.proofs.Math.Dec.{leb}
use Rattle.lists.specs.Lists.{all, cases}
use Rattle.lists.specs.ListsLaw.{and_left}
use Rattle.lists.specs.Search.{items}
use Rattle.meaning.specs.Fault.{Fault}
use Rattle.meaning.specs.Mesh.{Mesh, mesh}
use Rattle.meaning.specs.Lawful.{Lawful, fault, fault_of, refusal}
use Rattle.meaning.specs.Tables.{Given, given, mesh_of, row_at, node_at}
use Rattle.meaning.specs.Calls.{marks_fit, sizes_fit}
use Rattle.laws.specs.Lawful.{refusal-lawful}
use Rattle.laws.specs.CallLaw.{Sizes, sizes-exact}
use Rattle.refusals.specs.declared.Refusal.{Refusal}
use Rattle.refusals.specs.Refusals.{verdict}
use Rattle.neighbours.specs.Sized.{Sized, index_at}
use Rattle.neighbours.specs.Ready.{Ready}
use Rattle.lawful.specs.FaultLaw.{Judged}
use Rattle.judging.specs.Sizes.{fitting, fitting-is}

-- the mesh in the tables
abbrev pub mesh_in : List ℤ → List ℕ → ℕ → ℕ → Mesh
mesh_in nodes rows n t = mesh (items (node_at nodes) 0 n) (items (row_at rows) 0 t)

-- ---- 1 to 7, where k marks are wanted

unfoldable pub early : Given → ℕ → ℕ → List ℕ → Fault
early g n0 k marks = cases (sizes_fit g n0) (cases (marks_fit k marks) (fault_of (mesh_of g)) (fault 2 0)) (fault 1 0)

-- after 0: the mesh is lawful, tables and marks fit, scratch holds notes of 0 and the index of all rows
pub record Admitted (nodes : List ℤ) (rows scratch marks : List ℕ) (k n t : ℕ) : Type 0 where
  pub law : Lawful (mesh_in nodes rows n t)
  pub sizes : Sized (length nodes / 4) (length rows) (length scratch)
  pub nodes-fit : 4 * n ≤ length nodes
  pub rows_fit : 3 * t ≤ length rows
  pub few : length nodes / 4 ≤ 1024
  pub marks-fit : length marks ≡ k
  pub notes : take (index_at (length nodes / 4) (length rows)) scratch ≡ replicate (index_at (length nodes / 4) (length rows)) 0
  pub ready : Ready scratch (length nodes / 4) rows t

-- each test in the form in which the code has it
module _ (nodes : List ℤ) (rows s marks : List ℕ) (k n0 n t : ℕ) (b : Bool) (e : b ≡ fitting (length nodes) (length rows) (length s) n0 n t) where
  fits-are : sizes_fit (given nodes rows s n t) n0 ≡ b
  fits-are = sym (e ∙ fitting-is nodes rows s n0 n t)

  pub early-one : b ≡ false → fault 1 0 ≡ early (given nodes rows s n t) n0 k marks
  unfolding early
  early-one h = rw (fits-are, h)

  module _ (h : b ≡ true) where
    all_fit : Sizes (given nodes rows s n t) n0
    all_fit = (sizes-exact (given nodes rows s n t) n0).0 (fits-are ∙ h)

    pub fits-sizes : Sized (length nodes / 4) (length rows) (length s)
    fits-sizes = let f = all_fit in record { few-nodes = omega (arith, f.few-nodes); few-rows = omega (arith, f.few-rows); scratch = f.scratch-fits }

    pub fits-nodes : 4 * n ≤ length nodes
    fits-nodes = omega (arith, all_fit.n-fits)

    pub fits-rows : 3 * t ≤ length rows
    fits-rows = omega (arith, all_fit.t-fits)

    module _ (c : Bool) (q : c ≡ marks_fit k marks) where
      early-on : early (given nodes rows s n t) n0 k marks ≡ cases c (fault_of (mesh_of (given nodes rows s n t))) (fault 2 0)
      unfolding early
      early-on = rw (fits-are, h, ← q)

      pub early-two : c ≡ false → fault 2 0 ≡ early (given nodes rows s n t) n0 k marks
      early-two y = sym (early-on ∙ rw y)

      module _ (y : c ≡ true) {A : Type 0} (r : Result A Refusal) (d : verdict r ≡ fault_of (mesh_of (given nodes rows s n t))) where
        pub early-fault : verdict r ≡ early (given nodes rows s n t) n0 k marks
        early-fault = sym (early-on ∙ rw y (sym d))

        pub admitted : (s' : List ℕ) → length s' ≡ length s → Judged (verdict r) s' (length nodes / 4) rows t → IfOk r (λ _. Admitted nodes rows s' marks k n t)
        unfolding mesh_of refusal
        admitted s' len j = go r d j
          where
            go : (r : Result A Refusal) → verdict r ≡ fault_of (mesh_of (given nodes rows s n t)) → Judged (verdict r) s' (length nodes / 4) rows t →
                IfOk r (λ _. Admitted nodes rows s' marks k n t)
            go (Ok a) d j = record {
              law = refusal-lawful (mesh_of (given nodes rows s n t)) (sym (ap (λ (f : Fault). f.number) d));
              sizes = rw len fits-sizes;
              nodes-fit = fits-nodes;
              rows_fit = fits-rows;
              few = all_fit.few-nodes;
              marks-fit = eqb-true (length marks) k (and_left (eqb (length marks) k) (all (λ b. leb b 1) marks) (sym q ∙ y));
              notes = j.notes;
              ready = j.ready refl;
            }
            go (Err e) d j = tt
