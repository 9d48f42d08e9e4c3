-- Document 01, 'The line program', W2, W5 and W8: the lines that the program reads and writes. Assumes nothing.
use Rattle.std.specs.Prelude.{List, [], ◌∷◌, ◌++◌, ℕ, ◌+◌, eqb, ℤ}
use Rattle.lists.specs.Lists.{cases, joined}
use Rattle.lists.specs.Search.{items}
use Rattle.meaning.specs.declared.Correction.{Correction}
use Rattle.meaning.specs.declared.Node.{Node}
use Rattle.meaning.specs.declared.Tinted.{Tinted}
use Rattle.meaning.specs.declared.Tri.{Tri}
use Rattle.meaning.specs.Mesh.{place, correction, node, tri}
use Rattle.meaning.specs.Tables.{node_at, row_at}
use Rattle.text.specs.Digits.{bytes, field, signed, unsigned, hex}

-- ---- read

-- W5: "dx dy (4 digits each)", numbers i and i + 1 of 4 digits
unfoldable pub correction_in : List ℕ → ℕ → Correction
correction_in fields i = correction (signed 4 (field 4 fields i)) (signed 4 (field 4 fields (i + 1)))

-- "`01` x y (8 digits each)"; W5: "Frame 01 grows by eight digits": dx and dy. In front of these are 16 digits, 4 numbers of 4
unfoldable pub node_in : List ℕ → Node
node_in fields = node (place (signed 8 (field 8 fields 0)) (signed 8 (field 8 fields 1))) (correction_in fields 4)

-- "`02` p q r (4 digits each)"
unfoldable pub row_in : List ℕ → Tri
row_in fields = tri (field 4 fields 0) (field 4 fields 1) (field 4 fields 2)

-- ---- written

-- "every line ended by 0x0A"
abbrev pub ended : List ℕ → List ℕ
ended text = text ++ (0x0a ∷ [])

-- "Anything malformed .. answers `ff`"
abbrev pub ff_line : List ℕ
ff_line = bytes "ff\n"

-- "Frames 03 to 06 answer kind, number (2 digits each), n, t, passes (4 each)." W2: "Answer lines but `ff` grow by four digits at their end":
-- the culprit. W8: "The line program gets `0a` ..; its answer alone ends with that field, two digits."
abbrev pub red_field : ℕ → ℕ → List ℕ
red_field kind r = cases (eqb kind 0x0a) (hex 2 r) []

unfoldable pub answer_line : ℕ → Tinted → List ℕ
answer_line kind a =
    ended
    (hex 2 kind ++
    hex 2 a.answer.number ++ hex 4 a.answer.n ++ hex 4 a.answer.t ++ hex 4 a.answer.passes ++ hex 4 a.answer.culprit ++
    red_field kind a.red)

-- a node "as `01` frames", a triangle "as `02` frames"
unfoldable pub node_line : Node → List ℕ
node_line a =
    ended
    (hex 2 1 ++
    hex 8 (unsigned a.place.x) ++ hex 8 (unsigned a.place.y) ++
    hex 4 (unsigned a.correction.dx) ++ hex 4 (unsigned a.correction.dy))

unfoldable pub row_line : Tri → List ℕ
row_line w = ended (hex 2 2 ++ hex 4 w.p ++ hex 4 w.q ++ hex 4 w.r)

-- "`07` writes all nodes as `01` frames, then all triangles as `02` frames"
unfoldable pub all_lines : List ℤ → List ℕ → ℕ → ℕ → List ℕ
all_lines nodes rows n t = joined node_line (items (node_at nodes) 0 n) ++ joined row_line (items (row_at rows) 0 t)
