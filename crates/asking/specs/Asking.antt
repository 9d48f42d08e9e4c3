-- A question about a point, by the tables: which row holds it, its weights there, and their mean. Assumes nothing.
use Rattle.std.specs.Prelude.{Bool, ◌&&◌, List, ℕ, ℤ, pos, Result, Ok, Err}
use Rattle.std.specs.Int.Signed.{le_z}
use Rattle.meaning.specs.declared.Correction.{Correction}
use Rattle.meaning.specs.Fault.{Fault}
use Rattle.meaning.specs.declared.Place.{Place}
use Rattle.meaning.specs.declared.Told.{Told}
use Rattle.meaning.specs.declared.Tri.{Tri}
use Rattle.meaning.specs.Mesh.{correction, turn}
use Rattle.meaning.specs.Tables.{node_at, place_at, row_at}
use Rattle.meaning.specs.Calls.{told}
use Rattle.refusals.specs.declared.Refusal.{Refusal}
use Rattle.refusals.specs.Refusals.{fault_in}
use Rattle.weighing.specs.declared.Weights.{Weights}
use Rattle.weighing.specs.Weighing.{means}

-- twice the area that P makes with the side from node x to node y
unfoldable pub side_of : List ℤ → ℕ → ℕ → Place → ℤ
side_of nodes x y P = turn (place_at nodes x) (place_at nodes y) P

abbrev pub weights_at : ℤ → ℤ → ℤ → Weights
weights_at x y z = record { p = x; q = y; r = z }

-- by the side opposite to each corner
unfoldable pub weights_in : List ℤ → Tri → Place → Weights
weights_in nodes w P = weights_at (side_of nodes w.q w.r P) (side_of nodes w.r w.p P) (side_of nodes w.p w.q P)

abbrev pub none_below : Weights → Bool
none_below v = le_z (pos 0) v.p && le_z (pos 0) v.q && le_z (pos 0) v.r

-- the triangle of a row holds P; that of row i
unfoldable pub holds_in : List ℤ → Tri → Place → Bool
holds_in nodes w P = none_below (weights_in nodes w P)

unfoldable pub holds_at : List ℤ → List ℕ → Place → ℕ → Bool
holds_at nodes rows P i = holds_in nodes (row_at rows i) P

-- ---- its mean

unfoldable pub correction_of : List ℤ → Tri → Place → Correction
correction_of nodes w P = means (weights_in nodes w P) (node_at nodes w.p).correction (node_at nodes w.q).correction (node_at nodes w.r).correction

-- what is told of a correction, or of what stands in its way
abbrev pub refused_by : Fault → Told
refused_by f = record { number = f.number; correction = correction (pos 0) (pos 0); culprit = f.at }

abbrev pub told_in : Result Correction Refusal → Told
told_in (Ok c) = told 0 0 c
told_in (Err r) = refused_by (fault_in r)
