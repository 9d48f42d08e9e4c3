-- The line program on the texts of document 01 and on texts of our own, and what stands after a text that may go on: rows of one list, under
-- one claim each. Assumes nothing.
use Rattle.std.specs.Prelude.{◌≡◌, refl, List, [], ◌∷◌, ◌++◌, map, ℕ, true, false, pos, negsuc, take, set, replicate}
use Prim.Native.String.{String}
use Rattle.lists.specs.Search.{lowest, lowest_from, items, items_from}
use Rattle.meaning.specs.Mesh.{twice_area}
use Rattle.meaning.specs.Lawful.{refusal, compatible, fault_of, first_outside, first_misnamed, first_repeat, first_flat, first_unused, first_clash}
use Rattle.meaning.specs.Proper.{none_left, parted_by, apart, first_crowded, first_overlap, uncrowded, disjoint}
use Rattle.meaning.specs.Split.{closure, split_edges, split_at, split, refined}
use Rattle.meaning.specs.Good.{pairs, span, G1-4, good}
use Rattle.meaning.specs.Coarsen.{taken, without, coarsened, good_nodes, pass, restored}
use Rattle.meaning.specs.Setting.{corrected, set_fault}
use Rattle.meaning.specs.Tables.{node_at, row_at, mesh_of}
use Rattle.meaning.specs.Calls.{check_no, refine_no, coarsen_no, checks, refines, coarsens, restores, sets, culprit_of, sizes_fit, check_out, refine_out, refine_by_out, coarsen_out, restore_out, set_out}
use Rattle.tables.specs.Put.{set_node, set_row}
use Rattle.text.specs.Digits.{bytes, is_digit, worth, number, listed, signed, unsigned, hex_digit, hex}
use Rattle.text.specs.Lines.{correction_in, node_in, row_in, answer_line, node_line, row_line, all_lines}
use Rattle.protocol.specs.declared.Session.{Session}
use Rattle.protocol.specs.Frames.{refines_in, well_formed, lists_below, admits, takes, add_node, add_row, marks_of, called, session_after, frame, line_step, Held, held, session, Step, step}
use Rattle.protocol.specs.Program.{lines_of, start, program, Stands, stands_after}

-- ---- whole texts

record Talk : Type 0 where
  says : List ℕ
  hears : List ℕ

-- the answers between the opening and the closing line
said : List ℕ → List ℕ → Talk
said a b = record { says = a; hears = bytes "mesh lines 1\n" ++ b ++ bytes "end\n" }

talk : String → String → Talk
talk a b = said (bytes a) (bytes b)

-- the nodes of S of document 01
corners : List ℕ
corners = bytes "01000000000000000000000000\n01000000080000000000000000\n01000000080000000800000000\n01000000000000000800000000\n"

over : String → String → Talk
over a b = said (corners ++ bytes a) (bytes b)

-- S; a base that is accepted
square : List ℕ
square = corners ++ bytes "02000100020000\n02000300000002\n03\n"

on : String → String → Talk
on a b = said (square ++ bytes a) (bytes "03000004000200000000\n" ++ bytes b)

-- W5: S with corrections
stretched : List ℕ
stretched = bytes "010000000000000000fffd0000\n01000000080000000000070008\n0100000008000000080000ffff\n01000000000000000880007fff\n02000100020000\n02000300000002\n03\n"

on_stretched : String → String → Talk
on_stretched a b = said (stretched ++ bytes a) (bytes "03000004000200000000\n" ++ bytes b)

talks : List Talk
talks =
    -- the whole example, as W2 and W5 amend it, and empty input
    talk
    "01000000000000000000000000\n01000000080000000000000000\n01000000080000000800000000\n01000000000000000800000000\n02000100020000\n02000300000002\n03\n040000\n06\n"
    "03000004000200000000\n04000005000400000000\n06000004000200010000\n" ∷
    talk "" "" ∷
    -- no kind byte, half of one, an unknown one
    talk "\n0\n00\n0b\n10\nff\n" "ff\nff\nff\nff\nff\nff\n" ∷
    -- a blank, a carriage return, upper case, the bytes beside the digits, the prefix 0x, bytes above 0x7f
    talk " 03\n03 \n03\r\n0A\n010000000A0000000000000000\n0/\n0:\n0`\n0g\n0x03\n" "ff\nff\nff\nff\nff\nff\nff\nff\nff\nff\n" ∷
    said (0x30 ∷ 0xb3 ∷ 0x0a ∷ 0xff ∷ 0x0a ∷ 0x30 ∷ 0x33 ∷ 0x80 ∷ 0x0a ∷ 0 ∷ 0x0a ∷ []) (bytes "ff\nff\nff\nff\n") ∷
    -- a last line without its end byte, also an empty frame's; nothing after the last end byte is no line
    talk "03" "ff\n" ∷
    talk "03\n03" "03000000000000000000\nff\n" ∷
    talk "03\n0" "03000000000000000000\nff\n" ∷
    -- 01 and 02 of another length; 01 without a correction
    talk "01\n0100000000000000000000000\n010000000000000000000000000\n010000000000000000\n02\n0200010002000\n020001000200000\n07\n" "ff\nff\nff\nff\nff\nff\nff\n" ∷
    -- 07 shows rows that are not judged yet, coordinates and corrections as they came
    talk "0180000000ffffffff80007fff\n017ffffffffffffffdffff0001\n02ffff00010000\n07\n" "0180000000ffffffff80007fff\n017ffffffffffffffdffff0001\n02ffff00010000\n" ∷
    -- 03, 06, 07 with digits behind them
    on "0600\n0700\n060\n" "ff\nff\nff\n" ∷
    talk "0300\n030\n" "ff\nff\n" ∷
    -- 03 accepts the empty mesh, once; 01 and 02 after it
    talk "03\n03\n01000000000000000000000000\n02000000010002\n07\n" "03000000000000000000\nff\nff\nff\n" ∷
    -- 04 to 06, 08 to 0a before an accepted 03
    talk "04\n05\n06\n09\n0a\n040000\n08000000010002\n090000\n0a0000\n" "ff\nff\nff\nff\nff\nff\nff\nff\nff\n" ∷
    -- a refused 03 (x = 1,048,577 is 3; R is 10) drops all rows; another base may follow; 04, 09 and 0a are still too early
    talk "01001000010000000000000000\n03\n07\n04\n09\n0a\n03\n" "03030000000000000000\nff\nff\nff\n03000000000000000000\n" ∷
    talk
    "01000000000000000000000000\n01000000100000000000000000\n01000000000000001000000000\n01000000040000000400000000\n02000000010003\n02000100020003\n02000200000003\n03\n07\n"
    "030a0000000000000000\n" ∷
    -- values are judged only by 03: a node number too high is 4, one node twice too
    talk "01000000000000000000000000\n02000000010002\n03\n07\n01000000000000000000000000\n02000000000000\n03\n" "03040000000000000000\n03040000000000000000\n" ∷
    -- W2: 3 to 7 name the lowest of several culprits. 3: nodes 4 and 5 are out of range
    over "01001000010000000000000000\n0100000000ffefffff00000000\n03\n" "03030000000000000004\n" ∷
    -- 4: row 1 names a node that is not there, row 2 one node twice
    over "02000100020000\n02000300000004\n02000200020003\n03\n" "03040000000000000001\n" ∷
    -- 5: row 2 has an edge of row 1, row 3 one of row 0
    over "02000100020000\n02000300000002\n02000000020003\n02000200000001\n03\n" "03050000000000000002\n" ∷
    -- 6: rows 1 and 2 turn the other way
    over "02000100020000\n02000100000003\n02000300020001\n03\n" "03060000000000000001\n" ∷
    -- 7: nodes 3 and 4 are in no triangle; then a base that is 10 for its row 1. "All other answers, later numbers too, carry 0 there."
    over
    "01000000040000000400000000\n02000100020000\n03\n01000000000000000000000000\n01000000080000000000000000\n01000000080000000800000000\n01000000000000000800000000\n02000200030000\n02000100020000\n03\n"
    "03070000000000000003\n030a0000000000000000\n" ∷
    -- so does 8, for an edge of row 1
    talk
    "01000000000000000000000000\n01000000020000000000000000\n01000000000000000200000000\n01000000040000000000000000\n01000000050000000000000000\n01000000040000000100000000\n02000000010002\n02000300040005\n03\n040001\n"
    "03000006000200000000\n04080006000200000000\n" ∷
    -- 04: none listed, one twice, all; t itself, a number and a half
    on "04\n07\n" "04000004000200000000\n01000000000000000000000000\n01000000080000000000000000\n01000000080000000800000000\n01000000000000000800000000\n02000100020000\n02000300000002\n" ∷
    on "0400000000\n" "04000005000400000000\n" ∷
    on "0400010000\n07\n" "04000005000400000000\n01000000000000000000000000\n01000000080000000000000000\n01000000080000000800000000\n01000000000000000800000000\n01000000040000000400000000\n02000400010002\n02000400030000\n02000400000001\n02000400020003\n" ∷
    on "040002\n0400000002\n04000\n0400000\n04ffff\n" "ff\nff\nff\nff\nff\n" ∷
    -- 09, W1: row 0 cut in four, with the row across its refinement edge; 06 takes 2 passes back to S
    on "090000\n07\n06\n07\n" "09000007000600000000\n01000000000000000000000000\n01000000080000000000000000\n01000000080000000800000000\n01000000000000000800000000\n01000000040000000400000000\n01000000080000000400000000\n01000000040000000000000000\n02000500040001\n02000400030000\n02000600040000\n02000500020004\n02000600010004\n02000400020003\n06000004000200020000\n01000000000000000000000000\n01000000080000000000000000\n01000000080000000800000000\n01000000000000000800000000\n02000100020000\n02000300000002\n" ∷
    -- none listed, one twice, all; t itself, a number and a half
    on "09\n07\n" "09000004000200000000\n01000000000000000000000000\n01000000080000000000000000\n01000000080000000800000000\n01000000000000000800000000\n02000100020000\n02000300000002\n" ∷
    on "0900000000\n" "09000007000600000000\n" ∷
    on "0900010000\n07\n" "09000009000800000000\n01000000000000000000000000\n01000000080000000000000000\n01000000080000000800000000\n01000000000000000800000000\n01000000040000000400000000\n01000000080000000400000000\n01000000040000000000000000\n01000000000000000400000000\n01000000040000000800000000\n02000500040001\n02000700040003\n02000600040000\n02000500020004\n02000600010004\n02000800040002\n02000700000004\n02000800030004\n" ∷
    on "090002\n0900000002\n09000\n0900000\n09ffff\n" "ff\nff\nff\nff\nff\n" ∷
    -- 04 and 09 mixed: the closure reaches rows across the other two edges
    on "040000\n090000\n07\n040002\n06\n" "04000005000400000000\n0900000a000b00000000\n01000000000000000000000000\n01000000080000000000000000\n01000000080000000800000000\n01000000000000000800000000\n01000000040000000400000000\n01000000080000000400000000\n01000000060000000200000000\n01000000060000000600000000\n01000000040000000000000000\n01000000040000000800000000\n02000600050004\n02000400030000\n02000800040000\n02000700090004\n02000700050002\n02000600010005\n02000700040005\n02000600080001\n02000600040008\n02000900030004\n02000700020009\n0400000c000e00000000\n06000004000200030000\n" ∷
    -- an odd sum on a side is 8 for 09 and nothing to 04
    talk "01000000010000000100000000\n01000000000000000000000000\n01000000020000000000000000\n02000000010002\n03\n090000\n040000\n06\n" "03000003000100000000\n09080003000100000000\n04000004000200000000\n06000003000100010000\n" ∷
    -- 0a, W8: row 0 cut red, with the row across its refinement edge bisected: the field is 01; of this 06 takes nothing back, and answers 0
    on "0a0000\n07\n06\n07\n" "0a00000700060000000001\n01000000000000000000000000\n01000000080000000000000000\n01000000080000000800000000\n01000000000000000800000000\n01000000040000000400000000\n01000000080000000400000000\n01000000040000000000000000\n02000100050006\n02000400030000\n02000500020004\n02000600040000\n02000400060005\n02000400020003\n06000007000600000000\n01000000000000000000000000\n01000000080000000000000000\n01000000080000000800000000\n01000000000000000800000000\n01000000040000000400000000\n01000000080000000400000000\n01000000040000000000000000\n02000100050006\n02000400030000\n02000500020004\n02000600040000\n02000400060005\n02000400020003\n" ∷
    -- none listed: no red cut, field 00; one twice, all; t itself, a number and a half
    on "0a\n07\n" "0a00000400020000000000\n01000000000000000000000000\n01000000080000000000000000\n01000000080000000800000000\n01000000000000000800000000\n02000100020000\n02000300000002\n" ∷
    on "0a00000000\n" "0a00000700060000000001\n" ∷
    on "0a00010000\n07\n" "0a00000900080000000001\n01000000000000000000000000\n01000000080000000000000000\n01000000080000000800000000\n01000000000000000800000000\n01000000040000000400000000\n01000000080000000400000000\n01000000040000000000000000\n01000000000000000400000000\n01000000040000000800000000\n02000100050006\n02000300070008\n02000500020004\n02000600040000\n02000400060005\n02000700000004\n02000800040002\n02000400080007\n" ∷
    on "0a0002\n0a00000002\n0a000\n0a00000\n0affff\n" "ff\nff\nff\nff\nff\n" ∷
    -- one triangle, whose four children are shaped like it; then the last of them, from which the closure goes on to the others
    talk "01000000000000000000000000\n01000000080000000000000000\n01000000000000000800000000\n02000000010002\n03\n0a0000\n07\n0a0003\n07\n06\n" "03000003000100000000\n0a00000600040000000001\n01000000000000000000000000\n01000000080000000000000000\n01000000000000000800000000\n01000000040000000400000000\n01000000040000000000000000\n01000000000000000400000000\n02000000040005\n02000400010003\n02000500030002\n02000300050004\n0a00000b000c0000000001\n01000000000000000000000000\n01000000080000000000000000\n01000000000000000800000000\n01000000040000000400000000\n01000000040000000000000000\n01000000000000000400000000\n01000000020000000200000000\n01000000060000000200000000\n01000000040000000200000000\n01000000020000000600000000\n01000000020000000400000000\n02000600000004\n02000700040001\n02000a00090005\n020003000a0008\n02000600050000\n02000800070003\n02000800040007\n02000900020005\n02000a00030009\n02000a00050006\n02000800060004\n0200060008000a\n0600000b000c00000000\n" ∷
    -- 04, 09 and 0a mixed: no field but 0a's; 06 takes back what was bisected after, and no red cut
    on "040000\n0a0000\n07\n090002\n0a\n06\n" "04000005000400000000\n0a00000a000b0000000001\n01000000000000000000000000\n01000000080000000000000000\n01000000080000000800000000\n01000000000000000800000000\n01000000040000000400000000\n01000000080000000400000000\n01000000060000000200000000\n01000000060000000600000000\n01000000040000000000000000\n01000000040000000800000000\n02000400060007\n02000400030000\n02000800040000\n02000700090004\n02000600010005\n02000700050002\n02000500070006\n02000600080001\n02000600040008\n02000900030004\n02000700020009\n0900000e001100000000\n0a00000e00110000000000\n0600000a000b00030000\n" ∷
    -- an odd sum on a side is 8 for 0a: nothing was cut, and the field is 00
    talk "01000000010000000100000000\n01000000000000000000000000\n01000000020000000000000000\n02000000010002\n03\n0a0000\n07\n" "03000003000100000000\n0a08000300010000000000\n01000000010000000100000000\n01000000000000000000000000\n01000000020000000000000000\n02000000010002\n" ∷
    -- W5's means, as of every new node
    on_stretched "0a0000\n07\n" "0a00000700060000000001\n010000000000000000fffd0000\n01000000080000000000070008\n0100000008000000080000ffff\n01000000000000000880007fff\n010000000400000004fffeffff\n01000000080000000400030003\n01000000040000000000020004\n02000100050006\n02000400030000\n02000500020004\n02000600040000\n02000400060005\n02000400020003\n" ∷
    -- 05: base nodes do not go; node 4 does, listed twice; n itself
    on "050000\n040000\n050000000100020003\n05\n05000400040000\n050003\n050004\n" "05000004000200000000\n04000005000400000000\n05000005000400000000\n05000005000400000000\n05000004000200000000\n05000004000200000000\nff\n" ∷
    on "050004\n05ffff\n" "ff\nff\n" ∷
    -- W5: a new node has the mean of its two ends, rounded down: -3 and 0 give -2, 0 and -1 give -1
    on_stretched "040000\n07\n" "04000005000400000000\n010000000000000000fffd0000\n01000000080000000000070008\n0100000008000000080000ffff\n01000000000000000880007fff\n010000000400000004fffeffff\n02000400010002\n02000400030000\n02000400000001\n02000400020003\n" ∷
    -- 08 sets it, to both ends of the range too; a base node is 13, and n itself and above 15: these change nothing
    on_stretched
    "040000\n080004ffff0102\n0800047fff8000\n08000000010002\n08000300010002\n08000500010002\n08ffff00010002\n07\n"
    "04000005000400000000\n08000005000400000000\n08000005000400000000\n080d0005000400000000\n080d0005000400000000\n080f0005000400000000\n080f0005000400000000\n010000000000000000fffd0000\n01000000080000000000070008\n0100000008000000080000ffff\n01000000000000000880007fff\n0100000004000000047fff8000\n02000400010002\n02000400030000\n02000400000001\n02000400020003\n" ∷
    -- a later mean is of what was set; 06 gives the base back with its corrections
    on_stretched
    "040000\n0800047fff8000\n040000\n040000\n07\n06\n07\n"
    "04000005000400000000\n08000005000400000000\n04000006000500000000\n04000008000800000000\n010000000000000000fffd0000\n01000000080000000000070008\n0100000008000000080000ffff\n01000000000000000880007fff\n0100000004000000047fff8000\n01000000080000000400030003\n0100000006000000024003c004\n01000000040000000000020004\n02000600050004\n02000400030000\n02000700040000\n02000400020003\n02000500020004\n02000600010005\n02000600070001\n02000600040007\n06000004000200030000\n010000000000000000fffd0000\n01000000080000000000070008\n0100000008000000080000ffff\n01000000000000000880007fff\n02000100020000\n02000300000002\n" ∷
    -- 08 too short, too long, without its fields, with an upper-case digit; and as it should be
    on "040000\n0800040001000\n080004000100020\n08\n0800040001000A\n0800040001000a\n" "04000005000400000000\nff\nff\nff\nff\n08000005000400000000\n" ∷
    -- 06 counts its passes; a refused 04 (an odd sum is 8) shows the counts as they are
    on "040000\n040000\n040000\n06\n06\n" "04000005000400000000\n04000006000500000000\n04000008000800000000\n06000004000200030000\n06000004000200000000\n" ∷
    talk
    "01000000000000000000000000\n01000000010000000000000000\n01000000000000000100000000\n02000000010002\n03\n040000\n06\n"
    "03000003000100000000\n04080003000100000000\n06000003000100000000\n" ∷
    -- 254 digits are taken, 255, 256 and 300 are not
    said (square ++ bytes "04" ++ replicate 252 0x30 ++ 0x0a ∷ []) (bytes "03000004000200000000\n04000005000400000000\n") ∷
    said (square ++ bytes "04" ++ replicate 253 0x30 ++ 0x0a ∷ []) (bytes "03000004000200000000\nff\n") ∷
    said (square ++ bytes "04" ++ replicate 256 0x30 ++ 0x0a ∷ []) (bytes "03000004000200000000\nff\n") ∷
    said (bytes "03" ++ replicate 298 0x30 ++ bytes "\n03\n") (bytes "ff\n03000000000000000000\n") ∷
    []

talks-heard : map (λ t. program t.says) talks ≡ map (λ t. t.hears) talks
unfolding talks said talk corners over square on stretched on_stretched lowest lowest_from items items_from twice_area refusal compatible none_left parted_by apart first_crowded first_overlap uncrowded disjoint fault_of first_outside first_misnamed first_repeat first_flat first_unused first_clash closure split_edges split_at split refined pairs span G1-4 good taken without coarsened good_nodes pass restored node_at row_at mesh_of check_no refine_no coarsen_no checks refines coarsens restores corrected set_fault sets culprit_of sizes_fit check_out refine_out refine_by_out coarsen_out restore_out set_out set_node set_row is_digit worth number listed signed unsigned hex_digit hex correction_in node_in row_in answer_line node_line row_line all_lines refines_in well_formed lists_below admits takes add_node add_row marks_of called session_after frame line_step program
talks-heard = refl

-- ---- single lines, on tables of any size

record Row : Type 0 where
  got : Step
  expected : Step

-- the line is answered so, and changes nothing
only : Held → String → String → Row
only h a b = record { got = line_step h (bytes a); expected = step h (bytes b) }

-- full tables, and tables with no room to grow
full : Held
full = held (replicate 2048 (negsuc 6)) (replicate 3072 7) [] (session 512 1024 0 false)

tight : Held
tight =
    held
    (pos 0 ∷ pos 0 ∷ pos 1 ∷ pos 2 ∷ pos 8 ∷ pos 0 ∷ pos 3 ∷ pos 4 ∷ pos 8 ∷ pos 8 ∷ pos 5 ∷ pos 6 ∷ pos 0 ∷ pos 8 ∷ pos 7 ∷ pos 8 ∷ [])
    (1 ∷ 2 ∷ 0 ∷ 3 ∷ 0 ∷ 2 ∷ [])
    (replicate 24 0)
    (session 4 2 4 true)

rows : List Row
rows =
    -- a row past 512 nodes or 1,024 triangles; the last of each is taken
    only full "01000000000000000000000000" "ff\n" ∷
    only full "02000000010002" "ff\n" ∷
    record {
      got = line_step (held (replicate 2048 (pos 0)) [] [] (session 511 0 0 false)) (bytes "01fffffffd0000000a0102ff00");
      expected = step (held (replicate 2044 (pos 0) ++ negsuc 2 ∷ pos 10 ∷ pos 258 ∷ negsuc 255 ∷ []) [] [] (session 512 0 0 false)) [];
    } ∷
    record {
      got = line_step (held [] (replicate 3072 0) [] (session 0 1023 0 false)) (bytes "02000100ff0abc");
      expected = step (held [] (replicate 3069 0 ++ 1 ∷ 255 ∷ 2748 ∷ []) [] (session 0 1024 0 false)) [];
    } ∷
    -- growth past the rooms is 9
    only tight "040000" "04090004000200000000\n" ∷
    only tight "090000" "09090004000200000000\n" ∷
    only tight "0a0000" "0a09000400020000000000\n" ∷
    -- W5: after 08 just that node's correction differs; a base node, a number not below n, and a correction out of range that is stored: of
    -- node 1, which is named though the node given is 3
    record {
      got = line_step (held tight.nodes tight.rows (replicate 24 3) (session 4 2 3 true)) (bytes "080003ffff0102");
      expected = step
          (held (take 14 tight.nodes ++ negsuc 0 ∷ pos 258 ∷ []) tight.rows (replicate 24 0) (session 4 2 3 true))
          (bytes "08000004000200000000\n");
    } ∷
    only tight "080003ffff0102" "080d0004000200000000\n" ∷
    only tight "080004ffff0102" "080f0004000200000000\n" ∷
    only (held (set tight.nodes 6 (pos 32768)) tight.rows tight.scratch (session 4 2 3 true)) "080003ffff0102" "08030004000200000001\n" ∷
    -- a refused 03 leaves zeros, an accepted one the rows as they are
    record {
      got = line_step (held (pos 5 ∷ negsuc 5 ∷ pos 1 ∷ pos 1 ∷ replicate 4 (pos 3)) (9 ∷ 9 ∷ 9 ∷ 9 ∷ 9 ∷ 9 ∷ []) (replicate 16 3) (session 1 1 0 false)) (bytes "03");
      expected = step (held (replicate 8 (pos 0)) (replicate 6 0) (replicate 16 0) (session 0 0 0 false)) (bytes "03040000000000000000\n");
    } ∷
    record {
      got = line_step (held tight.nodes tight.rows (replicate 24 3) (session 4 2 0 false)) (bytes "03");
      expected = step tight (bytes "03000004000200000000\n");
    } ∷
    []

lines-stepped : map (λ r. r.got) rows ≡ map (λ r. r.expected) rows
unfolding rows only full tight lowest lowest_from items items_from twice_area refusal compatible none_left parted_by apart first_crowded first_overlap uncrowded disjoint fault_of first_outside first_misnamed first_repeat first_flat first_unused first_clash closure split_edges split_at split refined pairs span G1-4 good taken without coarsened good_nodes pass restored node_at row_at mesh_of check_no refine_no coarsen_no checks refines coarsens restores corrected set_fault sets culprit_of sizes_fit check_out refine_out refine_by_out coarsen_out restore_out set_out set_node set_row is_digit worth number listed signed unsigned hex_digit hex correction_in node_in row_in answer_line node_line row_line all_lines refines_in well_formed lists_below admits takes add_node add_row marks_of called session_after frame line_step
lines-stepped = refl

-- ---- W4: texts that may go on

-- what is said to the whole lines, the bytes that wait for their end byte, and the session
record Standing : Type 0 where
  said : List ℕ
  waits : List ℕ
  session : Session

record Text : Type 0 where
  came : List ℕ
  leaves : Standing

after : List ℕ → List ℕ → List ℕ → Session → Text
after a b l s = record { came = a; leaves = record { said = b; waits = l; session = s } }

standing : List ℕ → Standing
standing text = let s : Stands = stands_after start (lines_of text) in record { said = s.said; waits = s.waits; session = s.held.session }

texts : List Text
texts =
    after [] [] [] (session 0 0 0 false) ∷
    -- "a last line without its end byte is malformed only once the end is announced"
    after (bytes "0") [] (bytes "0") (session 0 0 0 false) ∷
    after (bytes "03") [] (bytes "03") (session 0 0 0 false) ∷
    after (bytes "03\n") (bytes "03000000000000000000\n") [] (session 0 0 0 true) ∷
    after (bytes "03\n0") (bytes "03000000000000000000\n") (bytes "0") (session 0 0 0 true) ∷
    after (bytes "\nf\n07") (bytes "ff\nff\n") (bytes "07") (session 0 0 0 false) ∷
    -- frames that have no answer; the second is not whole
    after (bytes "01000000000000000000000000\n01000000080000000000000000") [] (bytes "01000000080000000000000000") (session 1 0 0 false) ∷
    after (square ++ bytes "06") (bytes "03000004000200000000\n") (bytes "06") (session 4 2 4 true) ∷
    after (square ++ bytes "040000\n06") (bytes "03000004000200000000\n04000005000400000000\n") (bytes "06") (session 5 4 4 true) ∷
    -- a line that is too long already waits too
    after (bytes "03\n" ++ replicate 300 0x30) (bytes "03000000000000000000\n") (replicate 300 0x30) (session 0 0 0 true) ∷
    []

texts-stand : map (λ t. standing t.came) texts ≡ map (λ t. t.leaves) texts
unfolding texts after standing corners square lowest lowest_from items items_from twice_area refusal compatible none_left parted_by apart first_crowded first_overlap uncrowded disjoint fault_of first_outside first_misnamed first_repeat first_flat first_unused first_clash closure split_edges split_at split refined node_at row_at mesh_of check_no refine_no checks refines culprit_of sizes_fit check_out refine_out refine_by_out set_node set_row is_digit worth number listed signed unsigned hex_digit hex correction_in node_in row_in answer_line refines_in well_formed lists_below admits takes add_node add_row marks_of called session_after frame line_step
texts-stand = refl
