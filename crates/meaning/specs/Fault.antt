-- What stands in the way of a mesh. Assumes nothing.
use Rattle.std.specs.Prelude.{ℕ}

-- the number of a refusal, with the lowest node or row at fault. 0 at 0: nothing stands in the way
pub record Fault : Type 0 where
  pub number : ℕ
  pub at : ℕ
