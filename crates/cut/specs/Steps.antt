-- Laws of single steps, which the check finds alone today: the rows counted to the end, and whether a red cut is made. Assumes nothing.
use Rattle.std.specs.Prelude.{◌≡◌, List, ℕ, ◌+◌, ◌≤◌, eqb, Option, Some, None}
use Rattle.std.proofs.Common.{arith}
use Rattle.lists.specs.Search.{lowest}
use Rattle.lists.specs.ItemsLaw.{sum_to}
use Rattle.meaning.specs.declared.Quarters.{Quarters}
use Rattle.meaning.specs.declared.Quarters.TheVariants.{Bisected, Red}
use Rattle.cut.specs.Cutting.{splits, wholly_at, red_at}

pub count-end : (s : List ℕ) (t i r : ℕ) → i ≤ t → t ≤ i → r ≡ t + sum_to (splits s) i → r ≡ t + sum_to (splits s) t
count-end s t i r h k e = let q : i ≡ t = omega arith in rw q at e

-- ---- red cuts

pub wholly-is : (s : List ℕ) (i a : ℕ) → a ≡ splits s i → eqb a 3 ≡ wholly_at s i
unfolding wholly_at
wholly-is s i a e = rw e

pub red-never : (q : Quarters) (s : List ℕ) (t : ℕ) → q ≡ Bisected → 0 ≡ red_at q s t
unfolding red_at
red-never q s t e = rw e

module _ (q : Quarters) (s : List ℕ) (t : ℕ) (e : q ≡ Red) (f : Option ℕ) (g : f ≡ lowest (wholly_at s) 0 t) where
  pub red-some : (i : ℕ) → f ≡ Some i → 1 ≡ red_at q s t
  unfolding red_at
  red-some i h = rw (e, ← g, h)

  pub red-none : f ≡ None → 0 ≡ red_at q s t
  unfolding red_at
  red-none h = rw (e, ← g, h)
