-- Laws of single steps, which the check finds alone today, or by newer laws. Assumes nothing.
use Rattle.std.specs.Prelude.{◌≡◌, refl, Bool, true, false, not, ◌&&◌, List, ℕ, ◌*◌, ◌/◌, ◌≤◌, eqb, ltb, leb, ℤ, length, get_or, Option, is_some}
use Rattle.std.proofs.Common.{sym, ap, ◌∙◌, arith, leb-true, leb-false, le-ltb, lt-ltb, ext_get_or}
use borrow.Author.Tests.{not-true, not-false, eqb-true}
use Rattle.lists.specs.Lists.{all, any, cases}
use Rattle.lists.specs.ListsLaw.{and_left}
use Rattle.lists.specs.Search.{lowest, items}
use Rattle.lists.specs.SearchLaw.{lowest-any}
use Rattle.lists.specs.IterLaw.{length-items, get_or-items}
use Rattle.lists.specs.AnyLaw.{any-cong, any-not}
use Rattle.meaning.specs.Fault.{Fault}
use Rattle.meaning.specs.Lawful.{fault, fault_of, refusal}
use Rattle.meaning.specs.Tables.{given, mesh_of}
use Rattle.meaning.specs.Calls.{marks_fit, sizes_fit}
use Rattle.laws.specs.Lawful.{refusal-lawful}
use Rattle.laws.specs.CallLaw.{Sizes, sizes-exact}
use Rattle.neighbours.specs.Sized.{Sized}
use Rattle.lawful.specs.FaultLaw.{Judged}
use Rattle.judging.specs.Sizes.{fitting, fitting-is, quarter}
use Rattle.judging.specs.Judge.{early, Admitted}

-- ---- 1: the code divides, so that nothing overflows

pub fitting-made : (b : Bool) (x sl : ℕ) → b && leb x (sl / 4) ≡ b && leb (4 * x) sl
fitting-made b x sl = rw (quarter x sl)

-- ---- 2: a byte above 1 among the marks

unfoldable pub mark_high : List ℕ → ℕ → Bool
mark_high marks i = ltb 1 (get_or marks i 0)

items-list : (l : List ℕ) → items (λ j. get_or l j 0) 0 (length l) ≡ l
items-list l =
    ext_get_or 0 (items (λ j. get_or l j 0) 0 (length l)) l (length-items (λ j. get_or l j 0) (length l))
    (λ i h. get_or-items (λ j. get_or l j 0) (length l) i 0 (rw (length-items (λ j. get_or l j 0) (length l)) at h))

above : (b : ℕ) → ltb 1 b ≡ not (leb b 1)
above b = go (leb b 1) refl
  where
    go : (x : Bool) → leb b 1 ≡ x → ltb 1 b ≡ not x
    go true e = le-ltb 1 b (leb-true b 1 e)
    go false e = lt-ltb 1 b (leb-false b 1 e)

high-found : (marks : List ℕ) → is_some (lowest (mark_high marks) 0 (length marks)) ≡ not (all (λ b. leb b 1) marks)
unfolding mark_high
high-found marks =
    lowest-any (λ b. ltb 1 b) (λ j. get_or marks j 0) (mark_high marks) (length marks) (λ j h. refl)
    ∙ ap (any (λ b. ltb 1 b)) (items-list marks) ∙ any-cong (λ b. ltb 1 b) (λ b. not (leb b 1)) above marks ∙ any-not (λ b. leb b 1) marks

not-not : (b : Bool) → not (not b) ≡ b
not-not true = refl
not-not false = refl

pub marks-fit-is : (marks : List ℕ) (k : ℕ) (f : Option ℕ) (y : Bool) → f ≡ lowest (mark_high marks) 0 (length marks) → y ≡ is_some f →
    eqb (length marks) k && not y ≡ marks_fit k marks
marks-fit-is marks k f y e g = rw (g, e, high-found marks, not-not (all (λ b. leb b 1) marks))

-- ---- 1 to 7, each test in the form in which the code has it

module _ (nodes : List ℤ) (rows s marks : List ℕ) (k n0 n t : ℕ) (b : Bool) (e : b ≡ fitting (length nodes) (length rows) (length s) n0 n t) where
  fits-are : sizes_fit (given nodes rows s n t) n0 ≡ b
  fits-are = sym (e ∙ fitting-is nodes rows s n0 n t)

  pub early-one : not b ≡ true → fault 1 0 ≡ early (given nodes rows s n t) n0 k marks
  unfolding early
  early-one h = rw (fits-are, not-true b h)

  module _ (h : not b ≡ false) where
    all_fit : Sizes (given nodes rows s n t) n0
    all_fit = (sizes-exact (given nodes rows s n t) n0).0 (fits-are ∙ not-false b h)

    pub fits-sizes : Sized (length nodes / 4) (length rows) (length s)
    fits-sizes = let f = all_fit in record { few-nodes = omega (arith, f.few-nodes); few-rows = omega (arith, f.few-rows); scratch = f.scratch-fits }

    pub fits-nodes : 4 * n ≤ length nodes
    fits-nodes = omega (arith, all_fit.n-fits)

    pub fits-rows : 3 * t ≤ length rows
    fits-rows = omega (arith, all_fit.t-fits)

    module _ (c : Bool) (q : c ≡ marks_fit k marks) where
      early-on : early (given nodes rows s n t) n0 k marks ≡ cases c (fault_of (mesh_of (given nodes rows s n t))) (fault 2 0)
      unfolding early
      early-on = rw (fits-are, not-false b h, ← q)

      pub early-two : not c ≡ true → fault 2 0 ≡ early (given nodes rows s n t) n0 k marks
      early-two y = sym (early-on ∙ rw (not-true c y))

      module _ (y : not c ≡ false) (f : Fault) (d : f ≡ fault_of (mesh_of (given nodes rows s n t))) where
        refusal_is : refusal (mesh_of (given nodes rows s n t)) ≡ f.number
        unfolding refusal
        refusal_is = rw d

        pub early-fault : f ≡ early (given nodes rows s n t) n0 k marks
        early-fault = sym (early-on ∙ rw (not-false c y) (sym d))

        pub admitted : (s' : List ℕ) → length s' ≡ length s → Judged f s' (length nodes / 4) rows t → f.number ≡ 0 → Admitted nodes rows s' marks k n t
        unfolding mesh_of
        admitted s' len j z = record {
          law = refusal-lawful (mesh_of (given nodes rows s n t)) (refusal_is ∙ z);
          sizes = rw len fits-sizes;
          nodes-fit = fits-nodes;
          rows_fit = fits-rows;
          few = all_fit.few-nodes;
          marks-fit = eqb-true (length marks) k (and_left (eqb (length marks) k) (all (λ b. leb b 1) marks) (sym q ∙ not-false c y));
          notes = j.notes;
          ready = j.ready z;
        }
