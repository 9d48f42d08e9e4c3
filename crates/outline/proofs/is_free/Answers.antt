use Rattle.outline.specs.TurnsLaw.{room_at, stand-at, close_at, fine-not}
use borrow.Author.Rules.{rules}
use Rattle.outline.proofs.is_free.Goals as goal

pub edge_at-requires-clause-j_in_bounds : goal.edge_at-requires-clause-j_in_bounds
edge_at-requires-clause-j_in_bounds c = search (rules, room_at)

pub edge_at-requires-clause-ends_stand : goal.edge_at-requires-clause-ends_stand
edge_at-requires-clause-ends_stand c = search (rules, stand-at)

pub is_fine-requires-clause-close : goal.is_fine-requires-clause-close
is_fine-requires-clause-close c = search (rules, close_at)

pub returns : goal.returns
returns c = search (rules, fine-not)
