use Rattle.std.proofs.Common.{refl}
use Rattle.outline.specs.SeenLaw.{stands_from, stands-to, edge-made}
use borrow.Author.Rules.{rules}
use Rattle.outline.proofs.edge_at.Goals as goal

pub end_of-requires : goal.end_of-requires
end_of-requires c = search (rules, stands_from)

pub end_of-requires-2 : goal.end_of-requires-2
end_of-requires-2 c = search (rules, stands-to)

pub returns : goal.returns
returns c = edge-made _ _ _ _ _ _ _ refl refl c.end_of.ensures c.end_of-2.ensures
