-- The border of the hand meshes: clear where they are proper, and not where they are not. Assumes nothing.
use Rattle.std.specs.Prelude.{Bool, true, false, [], ◌∷◌, map, ◌≡◌, refl}
use Rattle.meaning.specs.Mesh.{Mesh, at}
use Rattle.meaning.specs.ProperMeshes.{proper_cases}
use Rattle.border.specs.Under.{under}
use Rattle.border.specs.Cancel.{border}
use Rattle.border.specs.Clear.{meets, under_middle, clear}

abbrev clear_of : Mesh → Bool
clear_of m = clear (at m) (border m.tris)

-- by the order of `proper_cases`: the first five are proper, and the one a step above the diagonal
pub clear-meshes : map (λ c. clear_of c.given) proper_cases ≡
    true ∷ true ∷ true ∷ true ∷ true ∷ false ∷ false ∷ false ∷ false ∷ false ∷ false ∷ false ∷ false ∷ true ∷ false ∷ false ∷ false ∷ false ∷ false ∷ []
unfolding under meets under_middle clear
clear-meshes = refl
