-- Laws of single steps, which the check finds alone today, or by newer laws. Assumes nothing.
use Rattle.std.specs.Prelude.{◌≡◌, Bool, true, false, not, ◌&&◌, ℕ, eqb, leb}
use borrow.Author.Tests.{eq-eqb, ne_eqb}
use Rattle.meaning.specs.declared.Correction.{Correction}
use Rattle.meaning.specs.Fault.{Fault}
use Rattle.meaning.specs.Lawful.{beyond, fault}
use Rattle.setting.specs.Setting.{late_fault, settled}

-- f was judged of the tables
module _ (f : Fault) (n0 n z : ℕ) (c : Correction) where
  pub settled-first : not (eqb f.number 0) && leb f.number 3 ≡ true → f ≡ settled f n0 n z c
  unfolding settled
  settled-first h = rw h

  module _ (h : not (eqb f.number 0) && leb f.number 3 ≡ false) (b : Bool) (e : b ≡ beyond c) where
    pub settled-value : b ≡ true → fault 3 z ≡ settled f n0 n z c
    unfolding settled
    settled-value y = rw (h, ← e, y)

    pub settled-later : b ≡ false → (f.number ≡ 0 → ⊥) → f ≡ settled f n0 n z c
    unfolding settled
    settled-later y o = rw (h, ← e, y, ne_eqb f.number 0 o)

    pub settled-late : b ≡ false → f.number ≡ 0 → (r : Fault) → r ≡ late_fault n0 n z → r ≡ settled f n0 n z c
    unfolding settled
    settled-late y o r q = rw (h, ← e, y, eq-eqb f.number 0 o) q
