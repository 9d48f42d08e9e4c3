-- Document 01, 'Sizes': a mesh in the tables that a caller lends. Assumes nothing.
use Rattle.std.specs.Prelude.{List, [], ◌∷◌, ◌++◌, ◌≡◌, refl, ℕ, ◌+◌, ◌-◌, ◌/◌, ℤ, pos, length, replicate}
use Rattle.std.proofs.Common.{arith}
use Rattle.lists.specs.Search.{items, items_from}
use Rattle.lists.specs.Table.{Form, read_at, flatten, Faithful}
use Rattle.meaning.specs.declared.Answer.{Answer}
use Rattle.meaning.specs.Mesh.{Place, Node, Tri, Mesh, place, correction, node, tri, mesh}

-- ---- what a call is given, and what it leaves

-- a node table, a triangle table, scratch, and the counts of nodes and rows
pub record Given : Type 0 where
  pub nodes : List ℤ
  pub rows : List ℕ
  pub scratch : List ℕ
  pub n : ℕ
  pub t : ℕ

abbrev pub given : List ℤ → List ℕ → List ℕ → ℕ → ℕ → Given
given ns rs s n t = record { nodes = ns; rows = rs; scratch = s; n = n; t = t }

-- the answer, and the content of every table after the call
pub record Outcome : Type 0 where
  pub answer : Answer
  pub nodes : List ℤ
  pub rows : List ℕ
  pub scratch : List ℕ

abbrev pub outcome : Answer → List ℤ → List ℕ → List ℕ → Outcome
outcome a ns rs s = record { answer = a; nodes = ns; rows = rs; scratch = s }

abbrev pub answer : ℕ → ℕ → ℕ → ℕ → ℕ → Answer
answer k n t p c = record { number = k; n = n; t = t; passes = p; culprit = c }

-- ---- how a node and a row stand in their tables

-- W5: "a node row has four numbers", x, y, dx, dy
abbrev pub node_form : Form ℤ Node
node_form = record {
  width = 4;
  blank = pos 0;
  fields = λ a. a.place.x ∷ a.place.y ∷ a.correction.dx ∷ a.correction.dy ∷ [];
  from = λ f b. node (place (f b) (f (b + 1))) (correction (f (b + 2)) (f (b + 3)));
}

-- "Triangle table: three numbers a row"
abbrev pub row_form : Form ℕ Tri
row_form = record { width = 3; blank = 0; fields = λ t. t.p ∷ t.q ∷ t.r ∷ []; from = λ f b. tri (f b) (f (b + 1)) (f (b + 2)) }

-- ---- reading

-- node k of a node table
unfoldable pub node_at : List ℤ → ℕ → Node
node_at = read_at node_form

-- its place
abbrev pub place_at : List ℤ → ℕ → Place
place_at l k = (node_at l k).place

-- row i of a triangle table
unfoldable pub row_at : List ℕ → ℕ → Tri
row_at = read_at row_form

-- the mesh in the tables: its first n nodes and t rows
unfoldable pub mesh_of : Given → Mesh
mesh_of g = mesh (items (node_at g.nodes) 0 g.n) (items (row_at g.rows) 0 g.t)

pub record Room : Type 0 where
  pub nodes : ℕ
  pub rows : ℕ

-- "The rooms are the table lengths divided by" 4 (W5) "and by 3."
abbrev pub room_of : Given → Room
room_of g = record { nodes = length g.nodes / node_form.width; rows = length g.rows / row_form.width }

-- ---- writing

abbrev pub flat_nodes : List Node → List ℤ
flat_nodes = flatten node_form

abbrev pub flat_rows : List Tri → List ℕ
flat_rows = flatten row_form

-- reading and writing agree
pub nodes-faithful : Faithful node_form
unfolding items_from
nodes-faithful = record {
  fields-from = λ f b.
      (let e : b + 1 + 1 ≡ b + 2 = omega arith in
      let d : b + 2 + 1 ≡ b + 3 = omega arith in
      rw (e, d));
  from_fields = λ a more. refl;
}

pub rows-faithful : Faithful row_form
unfolding items_from
rows-faithful = record { fields-from = λ f b. (let e : b + 1 + 1 ≡ b + 2 = omega arith in rw e); from_fields = λ t more. refl }

-- a table's content, then zeros to the table's length
abbrev pub filled : {A : Type 0} → A → ℕ → List A → List A
filled z len xs = xs ++ replicate (len - length xs) z

-- "It is all zero after every call"
abbrev pub cleared : List ℕ → List ℕ
cleared l = replicate (length l) 0
