-- G5 by the numbers of the pairs: nodes are linked by the remainder of their number by t. Assumes nothing.
use Rattle.std.specs.Prelude.{◌≡◌, Bool, not, ◌&&◌, List, ℕ, ◌+◌, ◌*◌, ◌/◌, ◌%◌, ◌≤◌, ◌<◌, eqb, length, get_or, is_some, take, drop, replicate, ◌++◌}
use Rattle.lists.specs.Lists.{cases}
use Rattle.lists.specs.Tally.{bit}
use Rattle.lists.specs.Search.{lowest}
use Rattle.lists.specs.ChainLaw.{Chain, linked}
use Rattle.meaning.specs.Mesh.{Mesh}
use Rattle.meaning.specs.Good.{good}
use Rattle.good.specs.Sign.{sign_from}

-- the numbers noted at nc and on: twice each, or 1 more
abbrev pub numbers_at : List ℕ → ℕ → ℕ → ℕ
numbers_at s nc z = get_or s (nc + z) 0 / 2

-- y is another node with the number of z
abbrev pub rivals : (ℕ → ℕ) → ℕ → ℕ → Bool
rivals sg z y = eqb (sg y) (sg z) && not (eqb y z)

-- z has a number, and no other node below n has it
abbrev pub lone : (ℕ → ℕ) → ℕ → ℕ → Bool
lone sg n z = not (eqb (sg z) 0) && not (is_some (lowest (rivals sg z) 0 n))

unfoldable pub tagged : (ℕ → ℕ) → ℕ → ℕ → ℕ
tagged sg n z = 2 * sg z + bit (lone sg n z)

-- s' has the tags of the numbers that s has
pub record Tags (s s' : List ℕ) (nc n : ℕ) : Type 0 where
  pub each : (z : ℕ) → z < n → get_or s' (nc + z) 0 ≡ tagged (numbers_at s nc) n z

-- what is noted of a node of the mesh
abbrev pub judged : ℕ → Mesh → ℕ → ℕ
judged n0 m z = 2 * sign_from n0 m z + bit (good n0 m z)

-- ---- how a rival is found

-- the remainder; t where there is no number
abbrev pub key_of : ℕ → ℕ → ℕ
key_of t v = cases (eqb v 0) t (v % t)

abbrev pub same_key : ℕ → (ℕ → ℕ) → ℕ → ℕ → Bool
same_key t sg z y = eqb (key_of t (sg y)) (key_of t (sg z))

-- the nodes below n are linked by the remainders of their numbers
pub record Linked (s : List ℕ) (nc n t : ℕ) : Type 0 where
  pub chain : Chain (λ z. key_of t (numbers_at s nc z)) t (2 * nc) 0 n 0 s
  pub room : n ≤ nc
  pub long : 2 * nc + t ≤ length s

-- s with zeros from o on, t of them
unfoldable pub blanked : ℕ → ℕ → List ℕ → List ℕ
blanked o t s = take o s ++ (replicate t 0 ++ drop (o + t) s)

unfoldable pub link_node : ℕ → ℕ → ℕ → List ℕ → List ℕ
link_node nc t z s = cases (eqb (numbers_at s nc z) 0) s (linked (2 * nc + numbers_at s nc z % t) z z s)
