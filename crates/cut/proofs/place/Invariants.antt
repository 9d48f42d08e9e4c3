use Rattle.std.proofs.Common.{◌≡◌, length}
use Rattle.cut.specs.Cutting.{append}
use Rattle.lists.specs.Search.{iter}
use Rattle.cut.proofs.place.Given as goal

abbrev pub invariant-loop-k : goal.invariant-loop-k
invariant-loop-k l = (length l.rows ≡ length l.initial.rows) × (iter (append l.c.rows l.at) l.k l.c.count l.rows ≡ iter (append l.c.rows l.at) 1 l.c.count l.initial.rows)
