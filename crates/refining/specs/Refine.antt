-- Refine, step by step, in any manner and however a triangle becomes four: what is judged, what is planned, and what is carried out. Assumes nothing.
use Rattle.std.specs.Prelude.{◌≡◌, Bool, ◌||◌, List, ℕ, ◌+◌, ◌*◌, ◌/◌, ◌≤◌, ◌<◌, ltb, ℤ, pos, length, is_some, Result, Ok, Err}
use Rattle.lists.specs.Lists.{all, cases}
use Rattle.lists.specs.Search.{lowest, items, iter}
use Rattle.lists.specs.ItemsLaw.{sum_to}
use Rattle.meaning.specs.declared.Answer.{Answer}
use Rattle.meaning.specs.declared.Tinted.{Tinted}
use Rattle.meaning.specs.declared.Manner.{Manner}
use Rattle.meaning.specs.declared.Quarters.{Quarters}
use Rattle.meaning.specs.Mesh.{Mesh, Edge}
use Rattle.meaning.specs.Split.{split_edges, starts_of, started, way_of, refined, red_made, halves}
use Rattle.meaning.specs.Tables.{row_at, node_at, flat_nodes, flat_rows, filled, outcome, answer}
use Rattle.meaning.specs.Calls.{unless, fits, TintedOut, tinted}
use Rattle.refusals.specs.declared.Refusal.{Refusal}
use Rattle.refusals.specs.declared.Refusal.TheVariants.{Odd, Full}
use Rattle.refusals.specs.Refusals.{fault_in}
use Rattle.neighbours.specs.Ready.{Ready}
use Rattle.notes.specs.Notes.{note_at}
use Rattle.notes.specs.Met.{after}
use Rattle.laws.specs.Meshes.{Standing}
use Rattle.nodes.specs.Nodes.{odd_at, place_row}
use Rattle.cut.specs.Cutting.{cut_at, added_at, cut_all, splits, red_at}
use Rattle.refining.specs.declared.Plan.{Plan}
use Rattle.judging.specs.Judge.{mesh_in}

-- the split edges of the mesh in the tables
abbrev pub split_in : Manner → List ℤ → List ℕ → List ℕ → ℕ → ℕ → List Edge
split_in how nodes rows marks n t = split_edges (mesh_in nodes rows n t) (started (starts_of how) marks (items (row_at rows) 0 t))

-- the mesh after
abbrev pub after_in : Manner → Quarters → List ℤ → List ℕ → List ℕ → ℕ → ℕ → Mesh
after_in how q nodes rows marks n t = refined (way_of how q) (mesh_in nodes rows n t) marks

-- and there is room for it
abbrev pub fits_in : Manner → Quarters → List ℤ → List ℕ → List ℕ → ℕ → ℕ → Bool
fits_in how q nodes rows marks n t = fits (record { nodes = length nodes / 4; rows = length rows / 3 }) (after_in how q nodes rows marks n t)

-- W8: 1 "when it made a red cut, else 0"
abbrev pub red_in : Manner → Quarters → List ℤ → List ℕ → List ℕ → ℕ → ℕ → ℕ
red_in how q nodes rows marks n t = red_made q (split_in how nodes rows marks n t) (items (row_at rows) 0 t)

-- ---- what is judged

abbrev pub plan_of : ℕ → ℕ → ℕ → Plan
plan_of n t x = record { after = record { n = n; t = t }; red = x }

-- 8 and 9, by the notes in s: k new nodes
unfoldable pub weighed : Quarters → List ℤ → List ℕ → List ℕ → ℕ → ℕ → ℕ → Result Plan Refusal
weighed q nodes rows s n t k =
    cases (is_some (lowest (odd_at nodes rows s) 0 t)) (Err Odd)
    (cases (ltb (length nodes / 4) (n + k) || ltb (length rows / 3) (t + sum_to (splits s) t)) (Err Full)
    (Ok (plan_of (n + k) (t + sum_to (splits s) t) (red_at q s t))))

pub record Weighty (nodes : List ℤ) (rows s : List ℕ) (n t k : ℕ) : Type 0 where
  pub rows_fit : 3 * t ≤ length rows
  pub notes-fit : t ≤ length s
  pub few-rows : t ≤ 262_144
  pub few-nodes : n + k ≤ 1_000_000
  pub standing : (i : ℕ) → i < t → Standing nodes (row_at rows i)

-- document 01's 8 and 9, of a lawful mesh
unfoldable pub late_number : Manner → Quarters → List ℤ → List ℕ → List ℕ → ℕ → ℕ → ℕ
late_number how q nodes rows marks n t =
    unless (all (halves (mesh_in nodes rows n t)) (split_in how nodes rows marks n t)) 8
    (unless (fits_in how q nodes rows marks n t) 9
    0)

-- ---- what is carried out

-- n1 nodes and t1 rows after
pub record Carry (q : Quarters) (nodes : List ℤ) (rows s : List ℕ) (n t n1 t1 : ℕ) : Type 0 where
  pub few-nodes : n ≤ 65_536
  pub rows_fit : 3 * t ≤ length rows
  pub notes-fit : t ≤ length s
  pub standing : (i : ℕ) → i < t → Standing nodes (row_at rows i)
  pub room : (i : ℕ) → i < t → 4 * after n (note_at s i) ≤ length nodes
  pub ready : Ready s (length nodes / 4) rows t
  pub count : t1 ≡ t + sum_to (added_at q n rows s) t
  pub rows-room : 3 * t1 ≤ length rows
  pub nodes-room : 4 * n1 ≤ length nodes

pub record Pair : Type 0 where
  pub nodes : List ℤ
  pub rows : List ℕ

abbrev pub both_tables : List ℤ → List ℕ → Pair
both_tables a b = record { nodes = a; rows = b }

-- both tables, by the notes in s
unfoldable pub carried : Quarters → List ℤ → List ℕ → List ℕ → ℕ → ℕ → ℕ → Pair
carried q nodes rows s n t n1 =
    both_tables
    (filled (pos 0) (length nodes) (flat_nodes (items (node_at (iter (place_row n rows s) 0 t nodes)) 0 n1)))
    (filled 0 (length rows) (flat_rows (cut_all (items (cut_at q n rows s) 0 t))))

-- carried out, it is the refined mesh
pub record Planned (how : Manner) (q : Quarters) (nodes : List ℤ) (rows s marks : List ℕ) (n t n1 t1 x : ℕ) : Type 0 where
  pub carry : Carry q nodes rows s n t n1 t1
  pub nodes-are : items (node_at (iter (place_row n rows s) 0 t nodes)) 0 n1 ≡ (after_in how q nodes rows marks n t).nodes
  pub rows_are : cut_all (items (cut_at q n rows s) 0 t) ≡ (after_in how q nodes rows marks n t).tris
  pub nodes-after : n1 ≡ length (after_in how q nodes rows marks n t).nodes
  pub rows-after : t1 ≡ length (after_in how q nodes rows marks n t).tris
  pub red-is : x ≡ red_in how q nodes rows marks n t

-- ---- what is said

abbrev pub with_red : Answer → ℕ → Tinted
with_red a x = record { answer = a; red = x }

-- what a call says that was given n nodes and t rows
abbrev pub said_in : Result Plan Refusal → ℕ → ℕ → Tinted
said_in (Ok p) n t = with_red (answer 0 p.after.n p.after.t 0 0) p.red
said_in (Err r) n t = with_red (answer (fault_in r).number n t 0 (fault_in r).at) 0

-- and what it leaves
abbrev pub left_in : Result Plan Refusal → List ℤ → List ℕ → List ℕ → ℕ → ℕ → TintedOut
left_in r nodes rows s n t = tinted (outcome (said_in r n t).answer nodes rows s) (said_in r n t).red
