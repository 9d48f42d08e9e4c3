-- 10 of one row, by its number in the tables. Assumes nothing.
use Rattle.std.specs.Prelude.{◌≡◌, Bool, false, not, ◌&&◌, List, ℕ, ◌+◌, ◌*◌, ◌≤◌, eqb, Option, Some, None}
use Rattle.std.proofs.Common.{sym, ◌∙◌, arith}
use Rattle.lists.specs.Search.{lowest}
use Rattle.lists.specs.SearchLaw.{lowest-below}
use Rattle.meaning.specs.declared.Tri.{Tri}
use Rattle.meaning.specs.Tables.{row_at}
use Rattle.tables.specs.Arrow.{arrow_at}

-- u holds r→q of w, and not as its own q→r
unfoldable pub clash_with : Tri → Tri → Bool
clash_with w u = not (eqb w.r u.q && eqb w.q u.r)

abbrev pub clash_found : List ℕ → Tri → Option ℕ → Bool
clash_found l w (Some j) = clash_with w (row_at l j)
clash_found l w None = false

unfoldable pub clash_at : List ℕ → ℕ → ℕ → Bool
clash_at l t i = clash_found l (row_at l i) (lowest (arrow_at l (row_at l i).r (row_at l i).q) 0 t)

-- ---- a row that was found, in the form of needs

pub met-row : (f : ℕ → Bool) (r : Option ℕ) (t j len : ℕ) → r ≡ lowest f 0 t → r ≡ Some j → 3 * t ≤ len → 3 * j + 3 ≤ len
met-row f r t j len e g h = let b = lowest-below f t j (sym e ∙ g) in omega arith

module _ (l : List ℕ) (w : Tri) (f : Option ℕ) (t i : ℕ) (a : w ≡ row_at l i) (b : f ≡ lowest (arrow_at l w.r w.q) 0 t) where
  pub clash-found : (u : Tri) (j : ℕ) (r : Bool) → f ≡ Some j → u ≡ row_at l j → r ≡ clash_with w u → r ≡ clash_at l t i
  unfolding clash_at
  clash-found u j r g e h = h ∙ rw (← a, ← b, g, e)

  pub clash-none : f ≡ None → false ≡ clash_at l t i
  unfolding clash_at
  clash-none g = rw (← a, ← b, g)
