-- A mark table is refused exactly if it has "another length, or a byte above 1". Assumes nothing.
use Rattle.std.specs.Prelude.{Bool, true, false, List, ◌↔◌, ◌≡◌, ℕ, zero, suc, ◌≤◌, eqb, leb, length, replicate}
use Rattle.std.proofs.Common.{arith, eqb-true, eq-eqb, leb-true, le-leb}
use Rattle.std.proofs.lemmas.List.{length-replicate}
use Rattle.lists.specs.Lists.{all, All, nil, cons}
use Rattle.lists.specs.ListsLaw.{and_both, and_left, and_right, All-imp, all_yes, yes-all}
use Rattle.meaning.specs.Calls.{marks_fit}
use Rattle.laws.specs.Exact.{unfit}

-- a byte for each of k triangles or nodes, 0 or 1
pub record WellMarked (k : ℕ) (marks : List ℕ) : Type 0 where
  pub as_many : length marks ≡ k
  pub zero-or-one : All (λ b. b ≤ 1) marks

pub marks-exact : (k : ℕ) (marks : List ℕ) → (marks_fit k marks ≡ true) ↔ WellMarked k marks
marks-exact k marks = (there, back)
  where
    bytes : Bool
    bytes = all (λ b. leb b 1) marks

    there : marks_fit k marks ≡ true → WellMarked k marks
    there e = record {
      as_many = eqb-true (length marks) k (and_left (eqb (length marks) k) bytes e);
      zero-or-one = All-imp (λ b h. leb-true b 1 h) (all_yes (λ b. leb b 1) marks (and_right (eqb (length marks) k) bytes e));
    }

    back : WellMarked k marks → marks_fit k marks ≡ true
    back h = and_both (eq-eqb (length marks) k h.as_many) (yes-all (All-imp (λ b l. le-leb b 1 l) h.zero-or-one))

pub marks-unfit : (k : ℕ) (marks : List ℕ) → (marks_fit k marks ≡ false) ↔ (¬ WellMarked k marks)
marks-unfit k marks = unfit (marks_fit k marks) (marks-exact k marks)

-- all marked
pub ones-fit : (k : ℕ) → WellMarked k (replicate k 1)
ones-fit k = record { as_many = length-replicate k 1; zero-or-one = ones k }
  where
    ones : (k : ℕ) → All (λ b. b ≤ 1) (replicate k 1)
    ones zero = nil
    ones (suc k) = cons {x = 1} (omega arith) (ones k)
