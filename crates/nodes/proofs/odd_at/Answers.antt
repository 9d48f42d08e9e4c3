use Rattle.std.proofs.Common.{rules}
use Rattle.nodes.specs.Nodes.{odd_at, odd_row}
use Rattle.nodes.proofs.odd_at.Goals.{then-odd_split, else-odd_split}
use Rattle.nodes.proofs.odd_at.Goals as goal

pub returns-then-odd_split-2 : goal.returns-then-odd_split-2
unfolding odd_at odd_row
returns-then-odd_split-2 c = elim c.if-odd_split.branch [ then-odd_split w ↦ search rules | else-odd_split w ↦ search rules ]

pub returns-else-odd_split-2 : goal.returns-else-odd_split-2
unfolding odd_at odd_row
returns-else-odd_split-2 c = elim c.if-odd_split.branch [ then-odd_split w ↦ search rules | else-odd_split w ↦ search rules ]
