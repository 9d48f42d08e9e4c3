use Rattle.std.proofs.Common.{sym, ◌∙◌}
use Rattle.pairs.specs.RowsLaw.{near-read, grave-itself, grave-two, grave-clean, grave-cleaned}
use borrow.Author.Rules.{rules}
use Rattle.pairs.proofs.grave_at.Goals as goal
use Rattle.pairs.proofs.grave_at.Goals.{then-clean, else-clean}

pub returns-then-i-j : goal.returns-then-i-j
returns-then-i-j c = search (rules, grave-itself)

pub clean-requires : goal.clean-requires
clean-requires c = near-read _ _ _ c.requires.sound _ c.row_at.ensures _ c.see-t.ensures

pub clean-requires-else-clean : goal.clean-requires-else-clean
clean-requires-else-clean c = near-read _ _ _ c.requires.sound_2 _ c.row_at-2.ensures _ c.see-u.ensures

pub grave_seen-requires : goal.grave_seen-requires
grave_seen-requires c = (
  near-read _ _ _ c.requires.sound _ c.row_at.ensures _ c.see-t.ensures,
  near-read _ _ _ c.requires.sound_2 _ c.row_at-2.ensures _ c.see-u.ensures,
)

pub returns-then-clean-2 : goal.returns-then-clean-2
returns-then-clean-2 c =
    elim c.if-clean.branch [
      | then-clean w ↦
          grave-clean _ _ _ _ c.if-i-j.false _ _ c.row_at.ensures c.row_at-2.ensures _ _ c.see-t.ensures c.see-u.ensures
          c.requires.sound c.requires.sound_2 _ c.clean.ensures w.if-clean.true
      | else-clean w ↦
          grave-cleaned _ _ _ _ c.if-i-j.false _ _ c.row_at.ensures c.row_at-2.ensures _ _ c.see-t.ensures c.see-u.ensures
          c.requires.sound c.requires.sound_2 _ w.clean-else-clean.ensures (sym w.value-is ∙ c.if-clean-2.true)
    ]

pub returns-else-clean-2 : goal.returns-else-clean-2
returns-else-clean-2 c =
    grave-two _ _ _ _ c.if-i-j.false _ _ c.row_at.ensures c.row_at-2.ensures _ _ c.see-t.ensures c.see-u.ensures _
    c.grave_seen.ensures
