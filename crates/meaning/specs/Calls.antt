-- Document 01, 'What a call says', W2, W5, W6 and W7: for each call, what it says of a mesh, and one outcome for any tables. Assumes nothing.
use Rattle.std.specs.Prelude.{Bool, true, false, ◌&&◌, List, ℕ, zero, suc, ◌+◌, ◌*◌, ◌%◌, eqb, leb, ℤ, pos, length, is_some}
use Rattle.lists.specs.Lists.{all, cases}
use Rattle.meaning.specs.declared.Told.{Told}
use Rattle.meaning.specs.Mesh.{Place, Correction, Tri, Mesh, correction}
use Rattle.meaning.specs.Lawful.{fault_of, refusal, compatible}
use Rattle.meaning.specs.declared.Manner.{Manner}
use Rattle.meaning.specs.declared.Manner.TheVariants.{AllThree}
use Rattle.meaning.specs.declared.Quarters.{Quarters}
use Rattle.meaning.specs.declared.Quarters.TheVariants.{Red}
use Rattle.meaning.specs.Split.{Way, starts_of, way_of, split_edges, started, refined, red_made, halves}
use Rattle.meaning.specs.Coarsen.{coarsened, restored}
use Rattle.meaning.specs.Setting.{corrected, set_fault}
use Rattle.meaning.specs.Proper.{uncrowded, disjoint}
use Rattle.meaning.specs.Asking.{row_holding, correction_at}
use Rattle.meaning.specs.Tables.{Given, Outcome, Room, outcome, answer, node_form, row_form, mesh_of, room_of, flat_nodes, flat_rows, filled, cleared}

-- ---- of a mesh

-- the number, the mesh after the call, the passes, and the culprit
pub record Reply : Type 0 where
  pub number : ℕ
  pub after : Mesh
  pub passes : ℕ
  pub culprit : ℕ

-- W2: "Refusals 3 to 7 are to carry the lowest offending number as well .. All other answers, later numbers too, carry 0 there." So the
-- number that the mesh itself draws carries its fault's node or row, and every other number 0.
unfoldable pub culprit_of : Mesh → ℕ → ℕ
culprit_of m k = cases (eqb k (refusal m)) (fault_of m).at 0

-- done, with the new mesh and the passes; or refused, with the culprit c and "0 passes": "It changes no node, triangle or mark."
abbrev pub says_of : ℕ → ℕ → Mesh → Mesh → ℕ → Reply
says_of zero c old new k = record { number = 0; after = new; passes = k; culprit = 0 }
says_of (suc j) c old new k = record { number = suc j; after = old; passes = 0; culprit = c }

abbrev pub says : ℕ → Mesh → Mesh → ℕ → Reply
says k old = says_of k (culprit_of old k) old

-- number k unless a test says yes
abbrev pub unless : Bool → ℕ → ℕ → ℕ
unless true k later = later
unless false k later = k

-- the first number that is not 0
abbrev pub or_else : ℕ → ℕ → ℕ
or_else zero later = later
or_else (suc k) later = suc k

-- not 2: "mark table of another length, or a byte above 1"
abbrev pub marks_fit : ℕ → List ℕ → Bool
marks_fit k marks = eqb (length marks) k && all (λ b. leb b 1) marks

-- not 9: "new counts above NC or TC"
abbrev pub fits : Room → Mesh → Bool
fits room m = leb (length m.nodes) room.nodes && leb (length m.tris) room.rows

-- what only the base check asks, of a lawful mesh. W7: "in the order 7, 11, 12, 10"
abbrev pub base_no : Mesh → ℕ
base_no m =
    unless (uncrowded m) 11
    (unless (disjoint m) 12
    (unless (compatible m) 10
    0))

-- 3 to 7, then these
unfoldable pub check_no : Mesh → ℕ
check_no m = or_else (refusal m) (base_no m)

-- 2 to 9
unfoldable pub refine_no : Way → Room → Mesh → List ℕ → ℕ
refine_no w room m marks =
    unless (marks_fit (length m.tris) marks) 2
    (or_else (refusal m)
    (unless (all (halves m) (split_edges m (started w.starts marks m.tris))) 8
    (unless (fits room (refined w m marks)) 9
    0)))

-- 2 to 7
unfoldable pub coarsen_no : Mesh → List ℕ → ℕ
coarsen_no m marks = unless (marks_fit (length m.nodes) marks) 2 (refusal m)

unfoldable pub checks : Mesh → Reply
checks m = says (check_no m) m m 0

unfoldable pub refines : Way → Room → Mesh → List ℕ → Reply
refines w room m marks = says (refine_no w room m marks) m (refined w m marks) 0

unfoldable pub coarsens : ℕ → Mesh → List ℕ → Reply
coarsens n0 m marks = says (coarsen_no m marks) m (coarsened n0 m marks) 0

unfoldable pub restores : ℕ → Mesh → Reply
restores n0 m = says (refusal m) m (restored n0 m).end (restored n0 m).passes

-- W5: node z is to carry c
unfoldable pub sets : ℕ → Mesh → ℕ → Correction → Reply
sets n0 m z c = says_of (set_fault n0 m z c).number (set_fault n0 m z c).at m (corrected m z c) 0

-- ---- a question about a point

-- "After 1 and 3 to 7, refuse as 14 exactly if no triangle holds the point"
unfoldable pub ask_no : Mesh → Place → ℕ
ask_no m P = or_else (refusal m) (unless (is_some (row_holding m P)) 14 0)

-- what is told, part by part
abbrev pub told_as : ℕ → ℤ → ℤ → ℕ → Told
told_as k x y c = record { number = k; correction = correction x y; culprit = c }

-- number k, the culprit c; "any refusal gives 0, 0"
abbrev pub told : ℕ → ℕ → Correction → Told
told zero c v = record { number = 0; correction = v; culprit = 0 }
told (suc k) c v = told_as (suc k) (pos 0) (pos 0) c

unfoldable pub asks : Mesh → Place → Told
asks m P = told (ask_no m P) (culprit_of m (ask_no m P)) (correction_at m P)

-- ---- of tables

-- not 1: "a table length is not a multiple of its row, a room or count breaks the sizes above, or scratch is short"
unfoldable pub sizes_fit : Given → ℕ → Bool
sizes_fit g n0 =
    eqb (length g.nodes % node_form.width) 0 && eqb (length g.rows % row_form.width) 0 &&
    leb (room_of g).nodes 1024 && leb (room_of g).rows 2048 &&
    leb g.n (room_of g).nodes && leb g.t (room_of g).rows && leb n0 g.n &&
    leb (4 * ((room_of g).nodes + (room_of g).rows)) (length g.scratch)

-- "A refusal returns its number, the counts it was given and 0 passes", and the culprit c; no table but scratch is written
abbrev pub untouched : Given → ℕ → ℕ → Outcome
untouched g k c = outcome (answer k g.n g.t 0 c) g.nodes g.rows (cleared g.scratch)

-- "After 0, node and triangle entries past the new counts are zero"
abbrev pub done : Given → Mesh → ℕ → Outcome
done g m k =
    outcome (answer 0 (length m.nodes) (length m.tris) k 0)
    (filled (pos 0) (length g.nodes) (flat_nodes m.nodes))
    (filled 0 (length g.rows) (flat_rows m.tris))
    (cleared g.scratch)

-- what a reply leaves in the tables
abbrev pub leaves_by : Given → ℕ → Mesh → ℕ → ℕ → Outcome
leaves_by g zero m k c = done g m k
leaves_by g (suc j) m k c = untouched g (suc j) c

abbrev pub leaves : Given → Reply → Outcome
leaves g r = leaves_by g r.number r.after r.passes r.culprit

-- 1 comes first
abbrev pub sized : Given → ℕ → Outcome → Outcome
sized g n0 o = cases (sizes_fit g n0) o (untouched g 1 0)

-- "The base check takes no n0": as with 0. "the base check writes no table but scratch"
unfoldable pub check_out : Given → Outcome
check_out g = sized g 0 (untouched g (check_no (mesh_of g)) (culprit_of (mesh_of g) (check_no (mesh_of g))))

unfoldable pub refine_out : Way → Given → ℕ → List ℕ → Outcome
refine_out w g n0 marks = sized g n0 (leaves g (refines w (room_of g) (mesh_of g) marks))

-- W8: an outcome, and the new field
pub record TintedOut : Type 0 where
  pub outcome : Outcome
  pub red : ℕ

abbrev pub tinted : Outcome → ℕ → TintedOut
tinted o r = record { outcome = o; red = r }

-- a refusal cuts nothing
abbrev pub if_done : ℕ → ℕ → ℕ
if_done zero r = r
if_done (suc j) r = 0

-- "the answer says 1 in a new field when it made a red cut, else 0"
unfoldable pub refine_by_out : Manner → Quarters → Given → ℕ → List ℕ → TintedOut
refine_by_out k q g n0 marks =
    let o : Outcome = refine_out (way_of k q) g n0 marks in
    let ts : List Tri = (mesh_of g).tris in
    tinted o (if_done o.answer.number (red_made q (split_edges (mesh_of g) (started (starts_of k) marks ts)) ts))

-- W8's call
abbrev pub red_out : Given → ℕ → List ℕ → TintedOut
red_out = refine_by_out AllThree Red

unfoldable pub coarsen_out : Given → ℕ → List ℕ → Outcome
coarsen_out g n0 marks = sized g n0 (leaves g (coarsens n0 (mesh_of g) marks))

unfoldable pub restore_out : Given → ℕ → Outcome
restore_out g n0 = sized g n0 (leaves g (restores n0 (mesh_of g)))

unfoldable pub set_out : Given → ℕ → ℕ → Correction → Outcome
set_out g n0 z c = sized g n0 (leaves g (sets n0 (mesh_of g) z c))

-- what a question leaves: what it is told, and every table; it is lent nodes and rows to read alone
pub record Heard : Type 0 where
  pub told : Told
  pub nodes : List ℤ
  pub rows : List ℕ
  pub scratch : List ℕ

abbrev pub heard : Told → List ℤ → List ℕ → List ℕ → Heard
heard a ns rs s = record { told = a; nodes = ns; rows = rs; scratch = s }

-- W6: the correction at the point P
unfoldable pub ask_out : Given → ℕ → Place → Heard
ask_out g n0 P = heard (cases (sizes_fit g n0) (asks (mesh_of g) P) (told 1 0 (correction (pos 0) (pos 0)))) g.nodes g.rows (cleared g.scratch)
