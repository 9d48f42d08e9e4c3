-- W6 and W7: on a lawful mesh that draws neither 11 nor 12 any two rows that hold a point tell the same of it: they make one fraction of it, and so one
-- mean and one correction. Assumes nothing.
use mathlib.Core.List.{Memᴰ}
use Rattle.std.specs.Prelude.{◌≡◌, ℕ, ℤ}
use Rattle.meaning.specs.declared.Place.{Place}
use Rattle.meaning.specs.declared.Tri.{Tri}
use Rattle.meaning.specs.Mesh.{Mesh, correction}
use Rattle.meaning.specs.Lawful.{Lawful}
use Rattle.meaning.specs.Proper.{Proper}
use Rattle.meaning.specs.Asking.{HoldsPoint, mean_in, dx_of, dy_of, correction_in}
use Rattle.laws.specs.RowMean.{mean-same}
use Rattle.points.specs.AnyRow.{above-t, above-u, any-row-same}

module _ {m : Mesh} (law : Lawful m) (proper : Proper m) {P : Place} {t u : Tri} (i : Memᴰ t m.tris) (j : Memᴰ u m.tris) (h : HoldsPoint m P t) (k : HoldsPoint m P u) where
  -- so one mean, rounded down,
  pub any-row-mean : (f : ℕ → ℤ) → mean_in f m P t ≡ mean_in f m P u
  any-row-mean f = mean-same f f m m P t u (above-t law proper i j h k) (above-u law proper i j h k) (any-row-same law proper i j h k f)

  -- AND ONE CORRECTION.
  pub any-row-correction : correction_in m P t ≡ correction_in m P u
  any-row-correction n = correction (any-row-mean (dx_of m) n) (any-row-mean (dy_of m) n)
