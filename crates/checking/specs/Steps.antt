-- Laws of single steps, which the check finds alone today. Assumes nothing.
use Rattle.std.specs.Prelude.{◌≡◌, Bool, true, false, ℕ}
use borrow.Author.Tests.{ne_eqb}
use Rattle.checking.specs.Check.{number_of}

-- each number in the form in which the code has it
module _ (r : ℕ) (y : Bool) where
  pub number-11 : r ≡ 2 → 11 ≡ number_of r y
  unfolding number_of
  number-11 e = rw e

  module _ (not-2 : r ≡ 2 → ⊥) where
    pub number-12 : r ≡ 1 → 12 ≡ number_of r y
    unfolding number_of
    number-12 e = rw e

    module _ (not-1 : r ≡ 1 → ⊥) where
      pub number-10 : y ≡ true → 10 ≡ number_of r y
      unfolding number_of
      number-10 e = rw (ne_eqb r 2 not-2, ne_eqb r 1 not-1, e)

      pub number-0 : y ≡ false → 0 ≡ number_of r y
      unfolding number_of
      number-0 e = rw (ne_eqb r 2 not-2, ne_eqb r 1 not-1, e)
