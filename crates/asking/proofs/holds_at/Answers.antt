use Rattle.laws.specs.Meshes.{standing-of}
use Rattle.asking.specs.Asking.{holds_at}
use borrow.Author.Rules.{rules}
use Rattle.asking.proofs.holds_at.Goals as goal

pub holds_point-requires : goal.holds_point-requires
holds_point-requires c = search (rules, standing-of)

pub returns : goal.returns
unfolding holds_at
returns c = cc
