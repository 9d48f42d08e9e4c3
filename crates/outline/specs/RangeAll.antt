-- `all` over a range that begins at 0 is true exactly where no number in it is found by the opposite test. Assumes nothing.
use Rattle.std.specs.Prelude.{◌≡◌, ℕ, ◌-◌, ◌<◌, Bool, true, false, not, List, length, get_or, Option, Some, None, is_some, MatchBool}
use Rattle.std.proofs.Common.{sym, ap, subst, refl, ◌∙◌, arith}
use Rattle.std.specs.Fn.{Called}
use Rattle.std.specs.Iterator.{ChecksAll}
use Rattle.std.specs.List.{AllWithin, HoldsAt, range_with_len}
use Rattle.std.proofs.lemmas.Iterator.{cases_from_all, YieldsList-from_range}
use Rattle.std.proofs.lemmas.List.FromFn.{length-range_with_len, get_or-range_with_len}
use Rattle.std.proofs.iter.Yields.{nat_range_steps}
use Rattle.std.specs.declared.ops.Range.{Range}
use denote.Param.Members.{Mut}
use Rattle.lists.specs.ListsLaw.{clash}
use Rattle.lists.specs.Search.{lowest}
use Rattle.lists.specs.SearchLaw.{lowest-nothing}
use Rattle.lists.specs.ByNumberLaw.{lowest-no}

-- p is the test as a closure, which no call changes; f is the opposite
pub none-fails : {F : Type 0} {g : Mut F (ℕ × Unit {0}) Bool} (f : ℕ → Bool) (t : ℕ) (s u : Range ℕ) (p : F) (r : Bool) →
    ChecksAll nat_range_steps g s p r u → (s.start ≡ 0) → (s.end ≡ t) →
    ((x : ℕ) (b : Bool) (q : F) → Called g p (x, tt) b q → (q ≡ p) × (f x ≡ not b)) →
    r ≡ not (is_some (lowest f 0 t))
none-fails f t s u p r ran from to told =
    tell r
    (cases_from_all u p r (λ x. f x ≡ false) (λ x. f x ≡ true) ran (YieldsList-from_range s.start s.end _ refl refl)
    (λ x q k. told x true q k) (λ x q k. (told x false q k).1))
  where
    all : List ℕ
    all = range_with_len s.start (s.end - s.start)

    long : length all ≡ t
    long = let l = length-range_with_len s.start (s.end - s.start) in omega arith

    at : (k : ℕ) → k < t → get_or all k 0 ≡ k
    at k l = omega (arith, get_or-range_with_len s.start (s.end - s.start) k 0 (omega arith))

    tell : (r : Bool) → MatchBool r (AllWithin (λ x. f x ≡ false) all 0 (length all)) ((k : ℕ) × (k < length all) × HoldsAt (λ x. f x ≡ true) all k) → r ≡ not (is_some (lowest f 0 t))
    tell true h =
        sym (ap (λ (o : Option ℕ). not (is_some o)) (lowest-no f t (λ k l. subst (λ (n : ℕ). f n ≡ false) (at k l) (h k 0 (omega arith) (omega (arith, long))))))
    tell false h = go (lowest f 0 t) refl
      where
        below : h.0 < t
        below = omega (arith, long, h.1)

        go : (o : Option ℕ) → lowest f 0 t ≡ o → false ≡ not (is_some o)
        go None e = clash (sym (subst (λ (n : ℕ). f n ≡ true) (at h.0 below) (h.2 0)) ∙ lowest-nothing f t h.0 e below)
        go (Some i) e = refl
