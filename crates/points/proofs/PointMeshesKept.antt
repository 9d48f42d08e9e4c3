-- W6 and W7: by hand, a mesh whose sums of corrections are even tells at every point after a refine what it told before. Assumes nothing.
use Rattle.std.specs.Prelude.{[], ◌∷◌, ◌≡◌, refl}
use Rattle.meaning.specs.declared.Place.{Place}
use Rattle.meaning.specs.Split.{newest}
use Rattle.meaning.specs.Calls.{asks}
use Rattle.points.specs.PointMeshes.{cut, smooth, room, even-lawful, even-proper, even-accepted, even-ends}
use Rattle.points.proofs.RefinedAsked.{refined-asked}

pub even-keeps : (P : Place) → asks (cut smooth) P ≡ asks smooth P
even-keeps = refined-asked newest refl room smooth (1 ∷ []) even-lawful even-proper even-accepted even-ends
