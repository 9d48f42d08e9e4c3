-- Midpoints by the tables: which split edge has none, and a table in which they become nodes. Assumes nothing.
use Rattle.std.specs.Prelude.{Bool, not, ◌&&◌, ◌||◌, List, ℕ, ◌≤◌, eqb, ℤ, nat_abs, ◌+ℤ◌}
use Rattle.lists.specs.Lists.{cases}
use Rattle.meaning.specs.declared.Node.{Node}
use Rattle.meaning.specs.declared.Place.{Place}
use Rattle.meaning.specs.declared.Tri.{Tri}
use Rattle.meaning.specs.Mesh.{place, node}
use Rattle.meaning.specs.Split.{even, half, mean}
use Rattle.meaning.specs.Tables.{node_at, place_at, row_at}
use Rattle.tables.specs.Put.{set_node}
use Rattle.notes.specs.declared.Note.{Note}
use Rattle.notes.specs.Notes.{note_at, own_m, own_u, own_v}

-- x is from −m to m
pub record Near (m : ℕ) (x : ℤ) : Type 0 where
  pub near : nat_abs x ≤ m

-- both sums are even
unfoldable pub even_between : Place → Place → Bool
even_between a b = even (a.x +ℤ b.x) && even (a.y +ℤ b.y)

unfoldable pub middle_of : Place → Place → Place
middle_of a b = place (half (a.x +ℤ b.x)) (half (a.y +ℤ b.y))

-- the node of an edge between two nodes
unfoldable pub between : Node → Node → Node
between a b = node (middle_of a.place b.place) (mean a.correction b.correction)

-- ---- 8

-- an edge x–y that is split, where on is not 0, and has no exact midpoint
unfoldable pub odd_split : List ℤ → ℕ → ℕ → ℕ → Bool
odd_split nodes on x y = not (eqb on 0) && not (even_between (place_at nodes x) (place_at nodes y))

unfoldable pub odd_row : List ℤ → Tri → Note → Bool
odd_row nodes w c = odd_split nodes c.m w.q w.r || odd_split nodes c.u w.p w.q || odd_split nodes c.v w.r w.p

-- row i has one
unfoldable pub odd_at : List ℤ → List ℕ → List ℕ → ℕ → Bool
odd_at nodes l s i = odd_row nodes (row_at l i) (note_at s i)

-- ---- the new nodes

-- the node of x–y becomes node k, where the edge is first met
unfoldable pub place_edge : ℕ → ℕ → ℕ → ℕ → List ℤ → List ℤ
place_edge fst k x y nodes = cases (eqb fst 1) (set_node nodes k (between (node_at nodes x) (node_at nodes y))) nodes

unfoldable pub place_three : ℕ → Tri → Note → List ℤ → List ℤ
place_three n w c nodes =
    place_edge c.fv (own_v n c) w.r w.p (place_edge c.fu (own_u n c) w.p w.q (place_edge c.fm (own_m n c) w.q w.r nodes))

unfoldable pub place_row : ℕ → List ℕ → List ℕ → ℕ → List ℤ → List ℤ
place_row n l s i nodes = place_three n (row_at l i) (note_at s i) nodes
