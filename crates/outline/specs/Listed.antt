-- The border arrows as they are put into scratch, row by row. Assumes nothing.
use Rattle.std.specs.Prelude.{Bool, not, List, ◌++◌, ◌≡◌, ℕ, ◌+◌, ◌*◌, ◌≤◌, length, set, Option, Some, None, is_some}
use Rattle.lists.specs.Lists.{only, joined}
use Rattle.lists.specs.Search.{lowest, items}
use Rattle.meaning.specs.Mesh.{Arrow, arrows}
use Rattle.meaning.specs.Tables.{row_at}
use Rattle.tables.specs.Arrow.{arrow_at}
use Rattle.neighbours.specs.Sized.{index_at}
use Rattle.neighbours.specs.Ready.{Ready}
use Rattle.outline.specs.Seen.{arrow_in}

-- none of the first t rows holds e the other way round
unfoldable pub is_border : List ℕ → ℕ → Arrow → Bool
is_border rows t e = not (is_some (lowest (arrow_at rows e.to e.from) 0 t))

-- the border arrows among es
unfoldable pub border_of : List ℕ → ℕ → List Arrow → List Arrow
border_of rows t es = only (is_border rows t) es

-- the border arrows of the first i rows
unfoldable pub border_to : List ℕ → ℕ → ℕ → List Arrow
border_to rows t i = border_of rows t (joined arrows (items (row_at rows) 0 i))

-- arrow b is x→y
unfoldable pub set_arrow : List ℕ → ℕ → ℕ → ℕ → List ℕ
set_arrow s b x y = set (set s (2 * b) x) (2 * b + 1) y

-- es were put after the first b arrows in scratch, which are r then, n more at most; the index stands
pub record Grown (s s' : List ℕ) (nc : ℕ) (rows : List ℕ) (t b r n : ℕ) (es : List Arrow) : Type 0 where
  pub ready : Ready s' nc rows t
  pub most : r ≤ b + n
  pub are : items (arrow_in s') 0 r ≡ items (arrow_in s) 0 b ++ es

-- the first b arrows in scratch are the border arrows of the first i rows
pub record Holding (s : List ℕ) (nc : ℕ) (rows : List ℕ) (t i b : ℕ) : Type 0 where
  pub ready : Ready s nc rows t
  pub below : 2 * b ≤ index_at nc (length rows)
  pub are : items (arrow_in s) 0 b ≡ border_to rows t i

-- how a listing ended: with all border arrows, or given up
pub data Ended (s : List ℕ) (nc : ℕ) (rows : List ℕ) (t : ℕ) : Option ℕ → Type 0 where
  all_in : (b : ℕ) → Holding s nc rows t t b → Ended s nc rows t (Some b)
  gave-up : Ready s nc rows t → Ended s nc rows t None
