-- Each of the three tests of a border is needed: three meshes by hand, each refused by one of them alone. Assumes nothing.
use Rattle.std.specs.Prelude.{Bool, true, false, not, List, [], ◌∷◌, map, ◌≡◌, refl}
use Rattle.lists.specs.Lists.{any}
use Rattle.meaning.specs.Mesh.{Mesh, Arrow, mesh, tri, at}
use Rattle.meaning.specs.HandCase as Hand
use Rattle.meaning.specs.ProperMeshes.{doubled}
use Rattle.pairs.specs.Pair.{on_side}
use Rattle.border.specs.Under.{under}
use Rattle.border.specs.Cancel.{border}
use Rattle.border.specs.Clear.{crosses, meets, under_middle, right_free, clear}

-- the tip of a narrow triangle is in a wide one, far from the middle of the side that it crosses
abbrev tipped : Mesh
tipped = mesh (Hand.at 0 8 ∷ Hand.at 32 8 ∷ Hand.at 0 40 ∷ Hand.at 1 0 ∷ Hand.at 3 0 ∷ Hand.at 2 10 ∷ []) (tri 0 1 2 ∷ tri 3 4 5 ∷ [])

-- a small triangle within a wide one
abbrev within : Mesh
within = mesh (Hand.at 0 0 ∷ Hand.at 16 0 ∷ Hand.at 0 16 ∷ Hand.at 2 2 ∷ Hand.at 4 2 ∷ Hand.at 2 4 ∷ []) (tri 0 1 2 ∷ tri 3 4 5 ∷ [])

-- some border arrow begins on another; some two cross; a row lies just right of some one
abbrev told : Mesh → List Bool
told m =
    let es = border m.tris in
    any (λ (e : Arrow). any (λ (g : Arrow). on_side (at m) e g.from) es) es ∷
    any (λ (e : Arrow). any (λ (g : Arrow). crosses (at m e.from) (at m e.to) (at m g.from) (at m g.to)) es) es ∷
    any (λ e. not (right_free (at m) es e)) es ∷ []

pub tells-alone : map told (doubled ∷ tipped ∷ within ∷ []) ≡ (true ∷ false ∷ false ∷ []) ∷ (false ∷ true ∷ false ∷ []) ∷ (false ∷ false ∷ true ∷ []) ∷ []
unfolding under under_middle
tells-alone = refl

pub none-clear : map (λ m. clear (at m) (border m.tris)) (doubled ∷ tipped ∷ within ∷ []) ≡ false ∷ false ∷ false ∷ []
unfolding under meets under_middle clear
none-clear = refl
