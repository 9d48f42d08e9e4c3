-- Texts cut into pieces, computed: rows of one list, under one claim. Assumes nothing.
use Rattle.std.specs.Prelude.{◌≡◌, refl, Bool, true, false, List, [], ◌∷◌, ◌++◌, map, ℕ, pos, take, replicate}
use Prim.Native.String.{String}
use Rattle.lists.specs.Search.{lowest, lowest_from, items, items_from}
use Rattle.meaning.specs.Mesh.{twice_area}
use Rattle.meaning.specs.Lawful.{refusal, compatible, fault_of, first_outside, first_misnamed, first_repeat, first_flat, first_unused, first_clash}
use Rattle.meaning.specs.Proper.{none_left, parted_by, apart, first_crowded, first_overlap, uncrowded, disjoint}
use Rattle.meaning.specs.Split.{closure, split_edges, split_at, split, refined}
use Rattle.meaning.specs.Good.{pairs, span, G1-4, good}
use Rattle.meaning.specs.Coarsen.{taken, without, coarsened, good_nodes, pass, restored}
use Rattle.meaning.specs.Setting.{corrected, set_fault}
use Rattle.meaning.specs.Tables.{node_at, row_at, mesh_of}
use Rattle.meaning.specs.Calls.{check_no, refine_no, coarsen_no, checks, refines, coarsens, restores, sets, culprit_of, sizes_fit, check_out, refine_out, refine_by_out, coarsen_out, restore_out, set_out}
use Rattle.tables.specs.Put.{set_node, set_row}
use Rattle.text.specs.Digits.{bytes, is_digit, worth, number, listed, signed, unsigned, hex_digit, hex}
use Rattle.text.specs.Lines.{correction_in, node_in, row_in, answer_line, node_line, row_line, all_lines}
use Rattle.text.specs.Writing.{writes}
use Rattle.protocol.specs.Frames.{held, session, refines_in, well_formed, lists_below, admits, takes, add_node, add_row, marks_of, called, session_after, frame, line_step}
use Rattle.fitting.specs.Lent.{whole, line_lent}
use Rattle.pieces.specs.Reader.{unfinished, Reader, reader, Taken, fits, longer, wiped, line_read, byte_read, further, untimely, take_out, begin_out, end_out}
use Rattle.pieces.specs.Turns.{Turn, piece, announce, Had, had_of}

-- ---- turns after a begin

-- all that was said, how many bytes of a line wait, the first four bytes of the line buffer, and whether the end was announced
record Seen : Type 0 where
  said : List ℕ
  used : ℕ
  line : List ℕ
  ended : Bool

-- on tables and buffers that held something
told : List Turn → Seen
told ts =
    let h : Had = had_of (replicate 255 7) (replicate 2048 (pos 7)) (replicate 3072 7) (replicate 6144 7) (replicate 32768 7) ts in
    record { said = h.said; used = h.carried.line.used; line = take 4 h.carried.line.buffer; ended = h.carried.ended }

record Row : Type 0 where
  turns : List Turn
  seen : Seen

words : String → Turn
words s = piece (bytes s)

-- a line waits, of k bytes, of which the first are these
waits : List Turn → String → ℕ → List ℕ → Row
waits ts said k l = record { turns = ts; seen = record { said = bytes "mesh lines 1\n" ++ bytes said; used = k; line = l; ended = false } }

-- no line waits
done : List Turn → String → Row
done ts said = waits ts said 0 (replicate 4 0)

-- the end was announced
ended : List Turn → String → Row
ended ts said = record { turns = ts; seen = record { said = bytes "mesh lines 1\n" ++ bytes said ++ bytes "end\n"; used = 0; line = replicate 4 0; ended = true } }

-- bytes of digits
digits : ℕ → Turn
digits k = piece (replicate k 0x30)

-- S of document 01, cut anywhere
square : List Turn
square =
    words "01000000000000000000000000\n01000000080" ∷
    words "000000000000000\n010000000800000008000" ∷
    words "00000\n01000000000000000800000000\n0" ∷
    words "2000100020000\n" ∷
    words "02000300000002\n03" ∷
    []

rows : List Row
rows =
    done [] "" ∷
    -- inside a digit pair; every byte alone
    done (words "0" ∷ words "3\n" ∷ []) "03000000000000000000\n" ∷
    done (words "0" ∷ words "3" ∷ words "\n" ∷ words "f" ∷ words "\n" ∷ words "\n" ∷ []) "03000000000000000000\nff\nff\n" ∷
    -- empty pieces
    done (words "" ∷ words "" ∷ []) "" ∷
    done (words "" ∷ words "0" ∷ words "" ∷ words "3" ∷ words "" ∷ words "\n" ∷ words "" ∷ []) "03000000000000000000\n" ∷
    -- before an end byte, and after one
    done (words "03" ∷ words "\n03\n" ∷ []) "03000000000000000000\nff\n" ∷
    done (words "03\n" ∷ words "03\n" ∷ []) "03000000000000000000\nff\n" ∷
    -- several lines in a piece
    done (words "ff\n03\n\n" ∷ []) "ff\n03000000000000000000\nff\n" ∷
    waits (words "\n\n\n0" ∷ []) "ff\nff\nff\n" 1 (0x30 ∷ 0 ∷ 0 ∷ 0 ∷ []) ∷
    waits (words "0\n03\nff\n1" ∷ words "23" ∷ []) "ff\n03000000000000000000\nff\n" 3 (bytes "123" ++ 0 ∷ []) ∷
    -- bytes that are no digits
    done (piece (0x30 ∷ 0xb3 ∷ []) ∷ piece (0x0a ∷ 0xff ∷ 0 ∷ []) ∷ piece (0x0a ∷ []) ∷ []) "ff\nff\n" ∷
    -- a shorter line after a longer one has none of its bytes
    done (words "0300" ∷ words "\n03" ∷ words "\n" ∷ []) "ff\n03000000000000000000\n" ∷
    -- "A line over 254 digits is one malformed frame"
    waits (digits 200 ∷ []) "" 200 (bytes "0000") ∷
    waits (digits 200 ∷ digits 55 ∷ []) "" 255 (bytes "0000") ∷
    waits (digits 200 ∷ digits 100 ∷ []) "" 255 (bytes "0000") ∷
    done (digits 200 ∷ digits 100 ∷ words "\n" ∷ []) "ff\n" ∷
    done (digits 200 ∷ digits 100 ∷ words "\n03\n" ∷ []) "ff\n03000000000000000000\n" ∷
    done (digits 512 ∷ digits 512 ∷ words "\n" ∷ []) "ff\n" ∷
    ended (digits 200 ∷ digits 100 ∷ announce ∷ []) "ff\n" ∷
    -- "a last line without its end byte is malformed only once the end is announced"
    waits (words "03" ∷ []) "" 2 (bytes "03" ++ 0 ∷ 0 ∷ []) ∷
    waits (words "03\n0" ∷ words "7" ∷ []) "03000000000000000000\n" 2 (bytes "07" ++ 0 ∷ 0 ∷ []) ∷
    ended (words "03" ∷ announce ∷ []) "ff\n" ∷
    ended (words "03\n0" ∷ words "7" ∷ announce ∷ []) "03000000000000000000\nff\n" ∷
    -- no line waits at the end: nothing at all, or all lines have their end byte
    ended (announce ∷ []) "" ∷
    ended (words "" ∷ announce ∷ []) "" ∷
    ended (words "03" ∷ words "\n" ∷ announce ∷ []) "03000000000000000000\n" ∷
    ended (words "\n" ∷ announce ∷ []) "ff\n" ∷
    -- announced once more
    ended (announce ∷ announce ∷ []) "" ∷
    ended (words "0" ∷ announce ∷ announce ∷ announce ∷ []) "ff\n" ∷
    -- "A piece over 512 bytes, or any after the end, is refused as 17 and changes nothing."
    done (words "0" ∷ piece (replicate 513 0x0a) ∷ words "3\n" ∷ []) "03000000000000000000\n" ∷
    waits (words "0" ∷ piece (replicate 600 0x0a) ∷ []) "" 1 (0x30 ∷ 0 ∷ 0 ∷ 0 ∷ []) ∷
    ended (words "0" ∷ announce ∷ words "3\n" ∷ words "" ∷ announce ∷ words "\n" ∷ []) "ff\n" ∷
    ended (announce ∷ piece (replicate 513 0x0a) ∷ words "03\n" ∷ []) "" ∷
    -- 512 bytes are taken
    waits (digits 512 ∷ []) "" 255 (bytes "0000") ∷
    done (piece (replicate 511 0x30 ++ 0x0a ∷ []) ∷ []) "ff\n" ∷
    waits (piece (bytes "03\n" ++ replicate 509 0x31) ∷ []) "03000000000000000000\n" 255 (bytes "1111") ∷
    -- frames that have no answer
    done (words "01000000000000000000000000\n" ∷ words "02000000010002\n" ∷ []) "" ∷
    done (words "0180000000ffff" ∷ words "ffff8000" ∷ words "7fff\n02ffff00010000\n07\n" ∷ []) "0180000000ffffffff80007fff\n02ffff00010000\n" ∷
    done (words "01000000000000000000000000\n01000000000000000000000000\nff\n02000000010002\n03\n" ∷ []) "ff\n03040000000000000000\n" ∷
    -- a base that came in pieces
    waits square "" 2 (bytes "03" ++ 0 ∷ 0 ∷ []) ∷
    done (square ++ words "\n" ∷ []) "03000004000200000000\n" ∷
    -- 254 digits are taken, 255 are not
    done (square ++ words "\n04" ∷ digits 100 ∷ digits 152 ∷ words "\n" ∷ []) "03000004000200000000\n04000005000400000000\n" ∷
    done (square ++ words "\n04" ∷ digits 100 ∷ digits 153 ∷ words "\n" ∷ []) "03000004000200000000\nff\n" ∷
    done (square ++ words "\n0400" ∷ words "00\n06\n" ∷ []) "03000004000200000000\n04000005000400000000\n06000004000200010000\n" ∷
    -- W8: a kind cut in two, and an answer that is two digits longer
    done (square ++ words "\n0" ∷ words "a0000\n0a" ∷ words "\n06\n" ∷ []) "03000004000200000000\n0a00000700060000000001\n0a00000700060000000000\n06000007000600000000\n" ∷
    -- W5: a setting that came in pieces; of a node that is not there
    done (square ++ words "\n040000\n0800047f" ∷ words "ff8000\n08000" ∷ words "500010002\n" ∷ []) "03000004000200000000\n04000005000400000000\n08000005000400000000\n080f0005000400000000\n" ∷
    []

cuts-told : map (λ r. told r.turns) rows ≡ map (λ r. r.seen) rows
unfolding rows told words digits square waits done ended had_of begin_out take_out untimely further byte_read line_read longer wiped fits whole line_lent writes lowest lowest_from items items_from twice_area refusal compatible none_left parted_by apart first_crowded first_overlap uncrowded disjoint fault_of first_outside first_misnamed first_repeat first_flat first_unused first_clash closure split_edges split_at split refined pairs span G1-4 good taken without coarsened good_nodes pass restored node_at row_at mesh_of check_no refine_no coarsen_no checks refines coarsens restores corrected set_fault sets culprit_of sizes_fit check_out refine_out refine_by_out coarsen_out restore_out set_out set_node set_row is_digit worth number listed signed unsigned hex_digit hex correction_in node_in row_in answer_line node_line row_line all_lines refines_in well_formed lists_below admits takes add_node add_row marks_of called session_after frame line_step end_out
cuts-told = refl

-- ---- single calls: the number, how many bytes were taken and how many written, how many wait

-- what is lent, and what is carried
record Sizes : Type 0 where
  line : ℕ
  nodes : ℕ
  rows : ℕ
  scratch : ℕ
  out : ℕ
  used : ℕ
  n : ℕ
  t : ℕ

lent : ℕ → ℕ → ℕ → ℕ → ℕ → ℕ → ℕ → ℕ → Sizes
lent ll nl rl sl ol used n t = record { line = ll; nodes = nl; rows = rl; scratch = sl; out = ol; used = used; n = n; t = t }

reader_of : Sizes → Bool → Reader
reader_of l e = reader (unfinished l.used (replicate l.line 0x30)) e (held (replicate l.nodes (pos 0)) (replicate l.rows 0) (replicate l.scratch 0) (session l.n l.t 0 false))

shown : Taken → List ℕ
shown x = x.number ∷ x.taken ∷ x.text.at ∷ x.next.line.used ∷ []

take-of : Sizes → Bool → List ℕ → List ℕ
take-of l e p = shown (take_out (reader_of l e) p (replicate l.out 7))

end_of : Sizes → Bool → List ℕ
end_of l e = shown (end_out (reader_of l e) (replicate l.out 7))

begin-of : Sizes → List ℕ
begin-of l = shown (begin_out (replicate l.line 7) (replicate l.nodes (pos 7)) (replicate l.rows 7) (replicate l.scratch 7) (replicate l.out 7))

-- all in its size
fit : Sizes
fit = lent 255 2048 3072 6144 32768 0 0 0

-- one thing in another size
unfit : List Sizes
unfit =
    lent 254 2048 3072 6144 32768 0 0 0 ∷
    lent 256 2048 3072 6144 32768 0 0 0 ∷
    lent 255 2047 3072 6144 32768 0 0 0 ∷
    lent 255 2049 3072 6144 32768 0 0 0 ∷
    lent 255 2048 3071 6144 32768 0 0 0 ∷
    lent 255 2048 3073 6144 32768 0 0 0 ∷
    lent 255 2048 3072 6143 32768 0 0 0 ∷
    lent 255 2048 3072 6145 32768 0 0 0 ∷
    lent 255 2048 3072 6144 32767 0 0 0 ∷
    []

-- or too much carried
too_much : List Sizes
too_much =
    lent 255 2048 3072 6144 32768 256 0 0 ∷
    lent 255 2048 3072 6144 32768 0 513 0 ∷
    lent 255 2048 3072 6144 32768 0 0 1025 ∷
    []

record Call : Type 0 where
  got : List ℕ
  expected : List ℕ

call : List ℕ → ℕ → ℕ → ℕ → ℕ → Call
call got number taken written used = record { got = got; expected = number ∷ taken ∷ written ∷ used ∷ [] }

-- all are refused as 1
ones : (Sizes → List ℕ) → List Sizes → List Call
ones f ls = map (λ l. call (f l) 1 0 0 l.used) ls

calls : List Call
calls =
    ones begin-of unfit ++
    ones (λ l. take-of l false (bytes "\n")) (unfit ++ too_much) ++
    ones (λ l. end_of l false) (unfit ++ too_much) ++
    -- 1 comes before 17
    ones (λ l. take-of l false (replicate 513 0x0a)) (unfit ++ too_much) ++
    ones (λ l. take-of l true []) (unfit ++ too_much) ++
    ones (λ l. end_of l true) (unfit ++ too_much) ++
    -- a longer buffer for answers, and the most that may be carried
    call (begin-of fit) 0 0 13 0 ∷
    call (begin-of (lent 255 2048 3072 6144 40000 0 0 0)) 0 0 13 0 ∷
    call (take-of (lent 255 2048 3072 6144 40000 255 512 1024) false (bytes "\n03")) 0 1 3 0 ∷
    call (end_of (lent 255 2048 3072 6144 40000 255 512 1024) false) 0 0 7 0 ∷
    -- up to the first line that has an answer
    call (take-of fit false []) 0 0 0 0 ∷
    call (take-of fit false (bytes "03")) 0 2 0 2 ∷
    call (take-of fit false (bytes "03\n")) 0 3 21 0 ∷
    call (take-of fit false (bytes "03\nff")) 0 3 21 0 ∷
    call (take-of fit false (bytes "\n\n")) 0 1 3 0 ∷
    call (take-of fit false (bytes "02000000010002\n02000000010002\n0")) 0 31 0 1 ∷
    call (take-of fit false (bytes "02000000010002\n\n0")) 0 16 3 0 ∷
    -- 512 bytes, and one more; after the end
    call (take-of fit false (replicate 512 0x30)) 0 512 0 255 ∷
    call (take-of fit false (replicate 513 0x30)) 17 0 0 0 ∷
    call (take-of fit true []) 17 0 0 0 ∷
    call (take-of fit true (bytes "\n")) 17 0 0 0 ∷
    -- the end, and once more
    call (end_of fit false) 0 0 4 0 ∷
    call (end_of (lent 255 2048 3072 6144 32768 1 0 0) false) 0 0 7 0 ∷
    call (end_of fit true) 0 0 0 0 ∷
    []

calls-answered : map (λ c. c.got) calls ≡ map (λ c. c.expected) calls
unfolding calls unfit too_much ones call lent reader_of shown take-of end_of begin-of fit begin_out take_out untimely further byte_read line_read longer wiped fits whole line_lent writes lowest lowest_from items items_from refusal compatible none_left parted_by apart first_crowded first_overlap uncrowded disjoint fault_of first_outside first_misnamed first_repeat first_flat first_unused first_clash node_at row_at mesh_of check_no checks culprit_of sizes_fit check_out set_row is_digit worth number listed hex_digit hex row_in answer_line refines_in well_formed admits takes add_row called session_after frame line_step end_out
calls-answered = refl
