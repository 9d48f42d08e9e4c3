-- The sizes that the code relies on. nc is the room for nodes, tl the length of the triangle table, sl that of scratch. The limits
-- here are wider than those of document 01, and only keep numbers from overflowing. Assumes nothing.
use Rattle.std.specs.Prelude.{ℕ, ◌+◌, ◌*◌, ◌/◌, ◌≤◌, ◌<◌}
use Rattle.meaning.specs.declared.Tri.{Tri}

pub record Sized (nc tl sl : ℕ) : Type 0 where
  pub few-nodes : nc ≤ 65_536
  pub few-rows : tl ≤ 262_144
  pub scratch : 4 * (nc + tl / 3) ≤ sl

-- where the index begins in scratch: below it are notes. It has room for 2 * nc + 3 * (tl / 3) numbers
abbrev pub index_at : ℕ → ℕ → ℕ
index_at nc tl = 2 * nc + tl / 3

-- slots of a triangle table: the numbers of its rows
abbrev pub slots_of : ℕ → ℕ
slots_of tl = 3 * (tl / 3)

-- the row names nodes below nc
pub record Corners (nc : ℕ) (w : Tri) : Type 0 where
  pub p-in : w.p < nc
  pub q-in : w.q < nc
  pub r-in : w.r < nc
