-- W5: setting the correction of one node: the mesh after it, and when each number is given, as named facts and as what is computed.
-- Assumes nothing.
use Rattle.std.specs.Prelude.{Bool, true, false, ℕ, ◌≤◌, ◌<◌, leb, ltb, length, set, Option, Some, None}
use Rattle.lists.specs.Lists.{All}
use Rattle.meaning.specs.Fault.{Fault}
use Rattle.meaning.specs.Mesh.{Correction, Mesh, node, at, mesh}
use Rattle.meaning.specs.Lawful.{InBounds, NodeInRange, Applies, LowestOf, Names, beyond, first_outside, fault, or_later, from4}

-- node z stands where it stood and carries c; nothing else differs
unfoldable pub corrected : Mesh → ℕ → Correction → Mesh
corrected m z c = mesh (set m.nodes z (node (at m z) c)) m.tris

-- ---- as facts

-- when each of 3 to 7, 13 and 15 applies to setting node z to c, line by line
pub data SetApplies (n0 : ℕ) (m : Mesh) (z : ℕ) (c : Correction) : ℕ → Type 0 where
  -- 3 to 7
  of-mesh : (k : ℕ) → Applies m k → SetApplies n0 m z c k
  -- 3 "a value out of range, stored or to be set, is refused as 3"
  value_out : ¬ InBounds c → SetApplies n0 m z c 3
  -- 13 "a base node is refused as 13"
  base-node : z < n0 → SetApplies n0 m z c 13
  -- 15 "a number not below n as 15"
  not-below : length m.nodes ≤ z → SetApplies n0 m z c 15

-- the number that is given, 0 if none
abbrev pub SetSays : ℕ → Mesh → ℕ → Correction → ℕ → Type 0
SetSays n0 m z c = LowestOf (SetApplies n0 m z c)

-- what an answer names with its number: "W2's number: the lowest node at fault in the table, else the node given"
pub data SetNames (m : Mesh) (z : ℕ) (c : Correction) : ℕ → ℕ → Type 0 where
  names-stored : {k y : ℕ} → Names m k y → SetNames m z c k y
  names-given : All NodeInRange m.nodes → ¬ InBounds c → SetNames m z c 3 z

-- ---- as the number and the node or row named

-- i, if a test says yes
abbrev pub found_if : Bool → ℕ → Option ℕ
found_if true i = Some i
found_if false i = None

abbrev pub or_found : Option ℕ → Option ℕ → Option ℕ
or_found (Some i) g = Some i
or_found None g = g

-- "a value out of range, stored or to be set, is refused as 3 (.. the lowest node at fault in the table, else the node given)";
-- "a base node is refused as 13, a number not below n as 15, after 1 and 3 to 7"
unfoldable pub set_fault : ℕ → Mesh → ℕ → Correction → Fault
set_fault n0 m z c =
    or_later 3 (or_found (first_outside m) (found_if (beyond c) z))
    (from4 m
    (or_later 13 (found_if (ltb z n0) 0)
    (or_later 15 (found_if (leb (length m.nodes) z) 0)
    (fault 0 0))))
