-- Number 1 by the lengths of the tables. Assumes nothing.
use Rattle.std.specs.Prelude.{◌≡◌, refl, Bool, true, false, ◌&&◌, List, ℕ, ◌+◌, ◌*◌, ◌/◌, ◌%◌, eqb, leb, ℤ, length}
use Rattle.std.proofs.Common.{arith, leb-true, leb-false, le-leb}
use Rattle.std.proofs.lemmas.Bool.{lt-leb}
use Rattle.meaning.specs.Tables.{given}
use Rattle.meaning.specs.Calls.{sizes_fit}

-- `sizes_fit`, by lengths
unfoldable pub fitting : ℕ → ℕ → ℕ → ℕ → ℕ → ℕ → Bool
fitting nl tl sl n0 n t =
    eqb (nl % 4) 0 && eqb (tl % 3) 0 && leb (nl / 4) 1024 && leb (tl / 3) 2048 && leb n (nl / 4) && leb t (tl / 3) && leb n0 n && leb (4 * (nl / 4 + tl / 3)) sl

pub fitting-is : (nodes : List ℤ) (rows s : List ℕ) (n0 n t : ℕ) → fitting (length nodes) (length rows) (length s) n0 n t ≡ sizes_fit (given nodes rows s n t) n0
unfolding fitting sizes_fit
fitting-is nodes rows s n0 n t = refl

-- the code divides, so that nothing overflows
pub quarter : (x sl : ℕ) → leb x (sl / 4) ≡ leb (4 * x) sl
quarter x sl = go (leb (4 * x) sl) refl
  where
    go : (b : Bool) → leb (4 * x) sl ≡ b → leb x (sl / 4) ≡ b
    go true e = le-leb x (sl / 4) (omega (arith, leb-true (4 * x) sl e))
    go false e = lt-leb x (sl / 4) (omega (arith, leb-false (4 * x) sl e))
