use Rattle.std.proofs.Common.{rules}
use Rattle.admit.specs.AdmitLaw.{taken-two, taken-admits}
use Rattle.frames.specs.FrameLaw.{line-ff, line_frame}
use Rattle.frames.proofs.plain_line.Goals as goal

pub slice_bounds-frame-count : goal.slice_bounds-frame-count
slice_bounds-frame-count c = let t = c.in-Some.ensures in search (rules, taken-two)

pub slice_bounds-frame-start : goal.slice_bounds-frame-start
slice_bounds-frame-start c = let t = c.in-Some.ensures in search (rules, taken-two)

pub frame-requires-clause-fields_value : goal.frame-requires-clause-fields_value
frame-requires-clause-fields_value c = let t = c.in-Some.ensures in taken-admits _ _ t.0 _ t.1

pub returns-in-Some : goal.returns-in-Some
returns-in-Some c = let t = c.in-Some.ensures in line_frame _ _ _ _ _ _ _ _ t.0 t.1 c.frame.ensures

pub returns-in-None : goal.returns-in-None
returns-in-None c = line-ff _ _ _ _ _ _ _ _ c.in-None.ensures c.put_ff.ensures
