-- W7: two rows side by side. P gives the place of each node. Assumes nothing.
use Rattle.std.specs.Prelude.{Bool, not, ◌&&◌, ◌||◌, List, [], ◌∷◌, ℕ, eqb, pos}
use Rattle.std.specs.Int.Signed.{le_z}
use Rattle.lists.specs.Lists.{any, cases}
use Rattle.meaning.specs.declared.Place.{Place}
use Rattle.meaning.specs.declared.Tri.{Tri}
use Rattle.meaning.specs.Mesh.{Arrow, arrows, turn}
use Rattle.meaning.specs.Good.{same_z}
use Rattle.meaning.specs.Tables.{row_at}
use Rattle.meaning.specs.Proper.{facing, apart}
pub use Rattle.meaning.specs.Proper.{shape_by}

abbrev pub corners : Tri → List ℕ
corners t = t.p ∷ t.q ∷ t.r ∷ []

-- node k is none of its ends, and is strictly inside the edge or at the place of an end
abbrev pub on_side : (ℕ → Place) → Arrow → ℕ → Bool
on_side P e k =
    not (eqb k e.from || eqb k e.to) && same_z (turn (P e.from) (P e.to) (P k)) (pos 0) && le_z (facing (P e.from) (P e.to) (P k)) (pos 0)

-- a corner of u is on a side of t
unfoldable pub touches : (ℕ → Place) → Tri → Tri → Bool
touches P t u = any (λ e. any (on_side P e) (corners u)) (arrows t)

-- 2: a corner of one is on a side of the other, which is 11; 1: they share an interior point, which is 12; 0: neither
unfoldable pub grave : (ℕ → Place) → Tri → Tri → ℕ
grave P t u = cases (touches P t u || touches P u t) 2 (cases (apart (shape_by P t) (shape_by P u)) 0 1)

-- of the rows i and j of a table; a row has nothing against itself
unfoldable pub grave_at : (ℕ → Place) → List ℕ → ℕ → ℕ → ℕ
grave_at P rows i j = cases (eqb i j) 0 (grave P (row_at rows i) (row_at rows j))
