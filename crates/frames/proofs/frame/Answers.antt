use Rattle.std.proofs.Common.{ap, sym, ◌∙◌}
use Rattle.protocol.specs.Kinds.{code}
use Rattle.admit.specs.AdmitLaw.{node-fields, row-fields}
use Rattle.frames.specs.FrameLaw.{node-fits, tri-room, frame-node, frame_row, frame-all, frame-called}
use Rattle.frames.proofs.frame.Goals as goal

pub node_in-requires : goal.node_in-requires
node_in-requires c = node-fields _ _ _ c.requires.fields_value (ap code c.in-Node.is)

pub put_node-requires : goal.put_node-requires
put_node-requires c = node-fits _ _ _ _ _ _ c.requires.whole _ c.requires.fields_value c.in-Node.is

pub returns-in-Node : goal.returns-in-Node
returns-in-Node c = frame-node _ _ _ _ _ _ _ c.in-Node.is _ _ c.node_in.ensures c.put_node.ensures

pub row_in-requires : goal.row_in-requires
row_in-requires c = row-fields _ _ _ c.requires.fields_value (ap code c.in-Row.is)

pub put_row-requires : goal.put_row-requires
put_row-requires c = tri-room _ _ _ _ _ _ c.requires.whole _ c.requires.fields_value c.in-Row.is

pub returns-in-Row : goal.returns-in-Row
returns-in-Row c = frame_row _ _ _ _ _ _ _ c.in-Row.is _ _ c.row_in.ensures c.put_row.ensures

pub returns-in-List : goal.returns-in-List
returns-in-List c = frame-all _ _ _ _ _ _ _ _ _ c.in-List.is c.put_all.ensures

pub returns-in_default : goal.returns-in_default
returns-in_default c =
    frame-called _ _ _ _ _ _ _ _ _ _ _ _ _ _ c.in_default.not-Node c.in_default.not-Row c.in_default.not-List c.call-said.ensures (rw (← c.code-in_default.ensures) c.session_after.ensures)
    (rw (← c.code.ensures) c.put_answer-written.ensures)
