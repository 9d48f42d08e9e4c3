-- One row of a list of hand meshes: a mesh, a call, and what the call must say. Assumes nothing.
use Rattle.std.specs.Prelude.{List, ℕ, ℤ, pos}
use Rattle.meaning.specs.Mesh.{Correction, Node, Mesh, place, plain, total}
use Rattle.meaning.specs.declared.Manner.{Manner}
use Rattle.meaning.specs.declared.Manner.TheVariants.{Newest, AllThree}
use Rattle.meaning.specs.declared.Quarters.{Quarters}
use Rattle.meaning.specs.declared.Quarters.TheVariants.{Bisected, Red}
use Rattle.meaning.specs.Split.{starts_of, way_of, split_edges, started, red_made}
use Rattle.meaning.specs.Tables.{Room}
use Rattle.meaning.specs.Calls.{Reply, checks, refines, coarsens, restores, sets, if_done}

pub data Call : Type 0 where
  check : Call
  refine_by : Manner → Quarters → List ℕ → Call
  coarsen : List ℕ → Call
  restore : Call
  setting : ℕ → Correction → Call

-- in the ways of 01, W1 and W8
abbrev pub refine : List ℕ → Call
refine = refine_by Newest Bisected

abbrev pub quarter : List ℕ → Call
quarter = refine_by AllThree Bisected

abbrev pub refine_red : List ℕ → Call
refine_red = refine_by AllThree Red

-- what a call says: its number, the mesh after it, the passes, the culprit, W8's field; and the total twice-area of that mesh
pub record Said : Type 0 where
  pub number : ℕ
  pub after : Mesh
  pub passes : ℕ
  pub culprit : ℕ
  pub red : ℕ
  pub twice : ℤ

pub record Case : Type 0 where
  pub room : Room
  pub n0 : ℕ
  pub given : Mesh
  pub called : Call
  pub expected : Said

abbrev pub call : Room → ℕ → Mesh → Call → Reply
call r n0 m check = checks m
call r n0 m (refine_by k q marks) = refines (way_of k q) r m marks
call r n0 m (coarsen marks) = coarsens n0 m marks
call r n0 m restore = restores n0 m
call r n0 m (setting z c) = sets n0 m z c

-- W8's field, of a call that is done
abbrev pub red_of : Mesh → Call → ℕ
red_of m check = 0
red_of m (refine_by k q marks) = red_made q (split_edges m (started (starts_of k) marks m.tris)) m.tris
red_of m (coarsen marks) = 0
red_of m restore = 0
red_of m (setting z c) = 0

abbrev pub said : Reply → ℕ → Said
said a r = record { number = a.number; after = a.after; passes = a.passes; culprit = a.culprit; red = if_done a.number r; twice = total a.after }

-- no node and no row is named, and no red cut told
abbrev pub says : ℕ → Mesh → ℕ → ℕ → Said
says k m passes twice = record { number = k; after = m; passes = passes; culprit = 0; red = 0; twice = pos twice }

-- done, and a red cut told
abbrev pub cuts_red : Mesh → ℕ → Said
cuts_red m twice = record { number = 0; after = m; passes = 0; culprit = 0; red = 1; twice = pos twice }

-- refused, and node or row z is named
abbrev pub blames : ℕ → ℕ → Mesh → ℤ → Said
blames k z m twice = record { number = k; after = m; passes = 0; culprit = z; red = 0; twice = twice }

-- the answer that the definitions give
abbrev pub computed : Case → Said
computed c = said (call c.room c.n0 c.given c.called) (red_of c.given c.called)

abbrev pub within : ℕ → ℕ → ℕ → Mesh → Call → Said → Case
within nc tc n0 m c s = record { room = record { nodes = nc; rows = tc }; n0 = n0; given = m; called = c; expected = s }

-- in tables with all the room there may be
abbrev pub case : ℕ → Mesh → Call → Said → Case
case = within 1024 2048

-- nodes that carry no correction: by two numbers not below 0, and by any two
abbrev pub at : ℕ → ℕ → Node
at a b = plain (place (pos a) (pos b))

abbrev pub spot : ℤ → ℤ → Node
spot a b = plain (place a b)
