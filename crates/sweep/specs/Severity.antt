-- W7: how grave it is of a whole mesh, by its tests and by its rows two by two. Assumes nothing.
use Rattle.std.specs.Prelude.{Bool, true, false, ◌≢◌, ◌≡◌, refl, ℕ, ◌≤◌, ◌<◌, length}
use Rattle.lists.specs.Lists.{cases}
use Rattle.meaning.specs.Mesh.{Mesh, at}
use Rattle.meaning.specs.Lawful.{row_of}
use Rattle.meaning.specs.Proper.{uncrowded, disjoint}
use Rattle.pairs.specs.Pair.{grave}

-- 2: 11 is drawn; 1: 12 is, and not 11; 0: neither
unfoldable pub severity : Mesh → ℕ
severity m = cases (uncrowded m) (cases (disjoint m) 0 1) 2

-- rows i and j of the mesh
abbrev pub grave_of : Mesh → ℕ → ℕ → ℕ
grave_of m i j = grave (at m) (row_of m.tris i) (row_of m.tris j)

-- r is 0, or what g gives of some two of t
pub data SomeTwo (g : ℕ → ℕ → ℕ) (t r : ℕ) : Type 0 where
  none : r ≡ 0 → SomeTwo g t r
  two : (i j : ℕ) → i < t → j < t → i ≢ j → g i j ≡ r → SomeTwo g t r

-- r is the gravest of any two rows
pub record Gravest (m : Mesh) (r : ℕ) : Type 0 where
  pub most : (i j : ℕ) → i < j → j < length m.tris → grave_of m i j ≤ r
  pub met : SomeTwo (grave_of m) (length m.tris) r

-- what each number tells
pub data SeverityIs (m : Mesh) : ℕ → Type 0 where
  eleven : uncrowded m ≡ false → SeverityIs m 2
  twelve : uncrowded m ≡ true → disjoint m ≡ false → SeverityIs m 1
  neither : uncrowded m ≡ true → disjoint m ≡ true → SeverityIs m 0

pub severity-is : (m : Mesh) → SeverityIs m (severity m)
unfolding severity
severity-is m = go (uncrowded m) refl (disjoint m) refl
  where
    go : (u : Bool) → uncrowded m ≡ u → (d : Bool) → disjoint m ≡ d → SeverityIs m (cases u (cases d 0 1) 2)
    go false e d f = eleven e
    go true e false f = twelve e f
    go true e true f = neither e f
