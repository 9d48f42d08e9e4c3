-- A lawful mesh with a clear border is proper. Assumes nothing.
use Rattle.std.specs.Prelude.{true, ◌≡◌}
use Rattle.lists.specs.ListsLaw.{All-of}
use Rattle.meaning.specs.Mesh.{Mesh, arrows, at}
use Rattle.meaning.specs.Lawful.{Lawful}
use Rattle.meaning.specs.Proper.{Proper}
use Rattle.border.specs.Quiet.{Quiet}
use Rattle.border.specs.Cancel.{border}
use Rattle.border.specs.Clear.{steep, clear}
use Rattle.border.specs.Nearest.{at_most_one}
use Rattle.border.specs.Nudge.{Single, shared-none}
use Rattle.border.specs.Crowd.{place-alone, edge-alone}
use Rattle.border.proofs.ClearLaw.{clear-bare, clear-quiet}
use Rattle.border.specs.Count.{areas-above}

-- no point off the rows is inside two of them, and the border is quiet
quiet-proper : (m : Mesh) → Lawful m → Single m → Quiet m → Proper m
quiet-proper m law most quiet = record {
  places-differ = place-alone m law most quiet;
  none_inside = λ k h. All-of m.tris (λ t i. All-of (arrows t) (λ e j. edge-alone m law most quiet k h i j));
  none-shared = shared-none m law most;
}

clear-single : (m : Mesh) → Lawful m → clear (at m) (border m.tris) ≡ true → Single m
clear-single m law c = at_most_one steep m (areas-above m law) law.no_twice (clear-bare m law c)

-- NEITHER 11 NOR 12, FROM THE BORDER ALONE.
pub border-clear : (m : Mesh) → Lawful m → clear (at m) (border m.tris) ≡ true → Proper m
border-clear m law c = quiet-proper m law (clear-single m law c) (clear-quiet m law c)
