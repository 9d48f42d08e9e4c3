use Rattle.outline.specs.Seen.{look_at, is_met, count_at}
use Rattle.meaning.specs.Tables.{place_at}
use Rattle.lists.specs.ItemsLaw.{sum_to}
use Rattle.lists.specs.Search.{lowest}
use Prim.Native.Nat.{◌≤◌, ◌*◌}
use mathlib.Core.Path.{◌≡◌}
use Rattle.outline.proofs.is_fine.Given as goal

abbrev pub invariant-loop-j : goal.invariant-loop-j
invariant-loop-j l = let f = look_at (place_at l.nodes) l.scratch l.e in
    (l.sum ≤ 2 * l.j) × (l.sum ≡ sum_to (count_at f) l.j) × (lowest (is_met f) l.j l.b ≡ lowest (is_met f) 0 l.b)
