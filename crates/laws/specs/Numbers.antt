-- A chain of numbers gives 0 exactly if no link refuses. Assumes nothing.
use Rattle.std.specs.Prelude.{Bool, true, false, ◌≡◌, refl, ℕ, zero, suc, ◌<◌}
use Rattle.std.proofs.Common.{arith}
use Rattle.meaning.specs.Calls.{unless, or_else}

pub unless-done : (b : Bool) (k later : ℕ) → 0 < k → unless b k later ≡ 0 → (b ≡ true) × (later ≡ 0)
unless-done true k later h e = (refl, e)
unless-done false k later h e = absurd (omega arith)

pub or_else-done : (k later : ℕ) → or_else k later ≡ 0 → (k ≡ 0) × (later ≡ 0)
or_else-done zero later e = (refl, e)
or_else-done (suc k) later e = absurd (omega arith)
