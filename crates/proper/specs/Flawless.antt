-- W7: "Show instead that a mesh grown from a base so admitted has no node strictly inside an edge." A mesh that is lawful and proper stays so: by every
-- accepted refine whose cut dissects (bisection does, and so does the red cut), by every coarsen, full pass and restore, and by setting a correction, whatever is marked or set.
-- Assumes nothing.
use Rattle.std.specs.Prelude.{true, List, ◌≡◌, ℕ}
use Rattle.std.proofs.Common.{sym, subst₂, ◌∙◌, arith}
use Rattle.lists.specs.Lists.{all, All}
use Rattle.meaning.specs.declared.Correction.{Correction}
use Rattle.meaning.specs.declared.Place.{Place}
use Rattle.meaning.specs.declared.Tri.{Tri}
use Rattle.meaning.specs.Mesh.{Mesh, arrows, at}
use Rattle.meaning.specs.Lawful.{InBounds, Lawful, row_of}
use Rattle.meaning.specs.Split.{Way, halves, split_edges, started, refined}
use Rattle.meaning.specs.Coarsen.{coarsened, pass, restored, all_marked}
use Rattle.meaning.specs.Setting.{corrected, set_fault}
use Rattle.meaning.specs.Proper.{shape_by, StrictlyInside, Share, Proper}
use Rattle.laws.specs.Cut.{CutLaws}
use Rattle.laws.specs.SplitLaw.{split-lawful}
use Rattle.laws.specs.Coarsen.{coarsened-lawful}
use Rattle.laws.specs.Restore.{restored-keeps}
use Rattle.laws.specs.PlaceOnly.{SamePlaces, at_same, count_same}
use Rattle.laws.specs.Setting.{corrected-places, corrected-lawful, set-0}
use Rattle.proper.specs.Dissects.{Dissects}
use Rattle.proper.specs.SplitProper.{split-proper}
use Rattle.proper.specs.WithoutProper.{coarsened-proper}

-- lawful and proper: it draws none of 3 to 7, 11 and 12
pub record Flawless (m : Mesh) : Type 0 where
  pub lawful : Lawful m
  pub proper : Proper m

-- ---- refine

-- REFINING KEEPS IT, by any way whose cut has the laws and dissects, where every edge to be split has an exact midpoint
pub refined-flawless : (w : Way) → CutLaws w.cutting → Dissects w.cutting → (m : Mesh) (marks : List ℕ) → all (halves m) (split_edges m (started w.starts marks m.tris)) ≡ true →
    Flawless m → Flawless (refined w m marks)
unfolding refined
refined-flawless w laws D m marks even F = record {
  lawful = split-lawful laws m (started w.starts marks m.tris) F.lawful even;
  proper = split-proper laws D m (started w.starts marks m.tris) F.lawful even F.proper;
}

-- ---- coarsen and restore

-- COARSENING KEEPS IT,
pub coarsened-flawless : (n0 : ℕ) (m : Mesh) (marks : List ℕ) → Flawless m → Flawless (coarsened n0 m marks)
coarsened-flawless n0 m marks F = record { lawful = coarsened-lawful n0 m marks F.lawful; proper = coarsened-proper n0 m marks F.lawful F.proper }

pub pass-flawless : (n0 : ℕ) (m : Mesh) → Flawless m → Flawless (pass n0 m)
unfolding pass
pass-flawless n0 m F = coarsened-flawless n0 m (all_marked m.nodes) F

-- AND RESTORING,
pub restored-flawless : (n0 : ℕ) (m : Mesh) → Flawless m → Flawless (restored n0 m).end
restored-flawless n0 m F = restored-keeps Flawless n0 (pass-flawless n0) m F

-- ---- set

-- CORRECTIONS DO NOT MATTER TO 11 AND 12
module _ {m m' : Mesh} (s : SamePlaces m m') where
  places_same : at m ≡ at m'
  places_same = λ i k. at_same s k i

  pub proper-by-place : Proper m → Proper m'
  proper-by-place P = record {
    places-differ = λ j k l h e. P.places-differ j k l (omega (arith, count_same s)) (at_same s j ∙ e ∙ sym (at_same s k));
    none_inside = λ k h. subst₂ (λ (f : ℕ → Place) (ts : List Tri). All (λ t. All (λ e. ¬ StrictlyInside (f e.from) (f e.to) (f k)) (arrows t)) ts)
        places_same s.rows_same (P.none_inside k (omega (arith, count_same s)));
    none-shared = λ i j l h. subst₂ (λ (f : ℕ → Place) (ts : List Tri). ¬ Share (shape_by f (row_of ts i)) (shape_by f (row_of ts j)))
        places_same s.rows_same (P.none-shared i j l (rw s.rows_same h));
  }

-- AND SETTING A CORRECTION IN ITS RANGE.
pub corrected-flawless : (m : Mesh) (z : ℕ) (c : Correction) → InBounds c → Flawless m → Flawless (corrected m z c)
corrected-flawless m z c b F = record { lawful = corrected-lawful m z c F.lawful b; proper = proper-by-place (corrected-places m z c) F.proper }

-- so does every accepted set
pub set-flawless : (n0 : ℕ) (m : Mesh) (z : ℕ) (c : Correction) → (set_fault n0 m z c).number ≡ 0 → Flawless m → Flawless (corrected m z c)
set-flawless n0 m z c e = corrected-flawless m z c ((set-0 n0 m z c).0 e).1
