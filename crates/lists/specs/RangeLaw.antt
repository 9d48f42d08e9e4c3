-- `find` over a range that begins at 0 gives the lowest number that passes. Assumes nothing.
use Rattle.std.specs.Prelude.{◌≡◌, ℕ, ◌≤◌, ◌<◌, Bool, true, false, List, Option, Some, None, MatchOption, ⊤}
use Rattle.std.proofs.Common.{sym, ap, subst, ◌∙◌, refl}
use Rattle.std.specs.Fn.{CalledAt}
use Rattle.std.specs.Iterator.{FindsItem}
use Rattle.std.proofs.lemmas.Iterator.{first_from_Range}
use Rattle.std.proofs.iter.Yields.{nat_range_steps}
use Rattle.std.specs.declared.ops.Range.{Range}
use denote.Param.Members.{Mut}
use denote.Ref.{Bor}
use native.Mathlib.Omega.{arith}
use Rattle.lists.specs.Search.{lowest}
use Rattle.lists.specs.ByNumberLaw.{lowest-at, lowest-no}

lowest-told : (f : ℕ → Bool) (t : ℕ) (r : Option ℕ) →
    MatchOption r ((k : ℕ) → 0 ≤ k → k < t → f k ≡ false) (λ i. (0 ≤ i) × (i < t) × (f i ≡ true) × ((k : ℕ) → 0 ≤ k → k < i → f k ≡ false)) →
    r ≡ lowest f 0 t
lowest-told f t None h = sym (lowest-no f t (λ k. h k (omega arith)))
lowest-told f t (Some i) h = sym (lowest-at f t i h.1 h.2 (λ k. h.3 k (omega arith)))

-- p is the test as a closure, which no call changes
pub lowest-found : {F : Type 0} {g : Mut F (Bor ℕ × Unit {0}) Bool} (f : ℕ → Bool) (t : ℕ) (s u : Range ℕ) (p : F) (r : Option ℕ) →
    FindsItem nat_range_steps g s p r u → (s.start ≡ 0) → (s.end ≡ t) →
    ((x : ℕ) (b : Bool) (q : F) → CalledAt g p x b q → (q ≡ p) × (f x ≡ b)) →
    r ≡ lowest f 0 t
lowest-found f t s u p r ran from to told = lowest-told f t r
    (subst (λ a. MatchOption r ((k : ℕ) → a ≤ k → k < t → f k ≡ false) (λ i. (a ≤ i) × (i < t) × (f i ≡ true) × ((k : ℕ) → a ≤ k → k < i → f k ≡ false))) from
    (subst (λ e. MatchOption r ((k : ℕ) → s.start ≤ k → k < e → f k ≡ false) (λ i. (s.start ≤ i) × (i < e) × (f i ≡ true) × ((k : ℕ) → s.start ≤ k → k < i → f k ≡ false))) to
    (first_from_Range s u p r (λ x. f x ≡ true) (λ x. f x ≡ false) ran
    (λ x q k. (told x true q k).1) (λ x q k. told x false q k))))
