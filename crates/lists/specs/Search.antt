-- Searches and lists by number: from i up to, not including, t. Assumes nothing.
use Rattle.std.specs.Prelude.{Bool, List, [], ◌∷◌, ℕ, zero, suc, ◌+◌, ◌-◌, Option, Some, None}
use Rattle.lists.specs.Lists.{cases}

unfoldable pub lowest_from : (ℕ → Bool) → ℕ → ℕ → Option ℕ
lowest_from f i zero = None
lowest_from f i (suc k) = cases (f i) (Some i) (lowest_from f (i + 1) k)

-- the lowest number of which a test says yes
unfoldable pub lowest : (ℕ → Bool) → ℕ → ℕ → Option ℕ
lowest f i t = lowest_from f i (t - i)

unfoldable pub items_from : {R : Type 0} → (ℕ → R) → ℕ → ℕ → List R
items_from f i zero = []
items_from f i (suc k) = f i ∷ items_from f (i + 1) k

-- f i, f (i + 1), .. : the rows of a table are `items (row_at l) 0 t`
unfoldable pub items : {R : Type 0} → (ℕ → R) → ℕ → ℕ → List R
items f i t = items_from f i (t - i)

unfoldable pub iter_from : {S : Type 0} → (ℕ → S → S) → ℕ → ℕ → S → S
iter_from f i zero s = s
iter_from f i (suc k) s = iter_from f (i + 1) k (f i s)

-- a counting loop: step i, then step (i + 1), ..
unfoldable pub iter : {S : Type 0} → (ℕ → S → S) → ℕ → ℕ → S → S
iter f i t s = iter_from f i (t - i) s
