use mathlib.Core.Path.{◌∙◌}
use Rattle.asking.specs.Asking.{correction_of}
use Rattle.asking.proofs.correction_in.Goals as goal

pub mean-requires : goal.mean-requires
mean-requires c = (
  rw c.weights_of-v.ensures c.requires.balanced,
  rw c.correction_at-a.ensures c.requires.standing.at_p.range.correction-in,
  rw c.correction_at-b.ensures c.requires.standing.at-q.range.correction-in,
  rw c.correction_at-c.ensures c.requires.standing.at-r.range.correction-in,
)

pub returns : goal.returns
unfolding correction_of
returns c = c.mean.ensures ∙ rw (c.weights_of-v.ensures, c.correction_at-a.ensures, c.correction_at-b.ensures, c.correction_at-c.ensures)
