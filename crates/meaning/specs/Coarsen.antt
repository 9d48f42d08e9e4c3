-- Document 01, 'Good nodes': what coarsen, a full pass and restore make of a mesh. Assumes nothing.
use Rattle.std.specs.Prelude.{Bool, true, false, not, ◌&&◌, List, [], ◌∷◌, map, ℕ, zero, suc, eqb, length, get_or, Option, None, Some}
use Rattle.lists.specs.Lists.{any, only, first, cons_if, suc_if, joined, up_to}
use Rattle.meaning.specs.Mesh.{Tri, Mesh, tri, same_tri, mesh}
use Rattle.meaning.specs.Good.{Brothers, father, pairs, good}

-- ---- coarsen

abbrev pub marked : List ℕ → ℕ → Bool
marked marks z = eqb (get_or marks z 0) 1

-- "Coarsen takes the nodes that are marked and good in the mesh as given."
unfoldable pub taken : ℕ → Mesh → List ℕ → List ℕ
taken n0 m marks = only (λ z. marked marks z && good n0 m z) (up_to (length m.nodes))

abbrev pub becomes : Tri → Option Brothers → Bool → List Tri
becomes t (Some b) gone = father b ∷ []
becomes t None true = []
becomes t None false = t ∷ []

-- "The left row becomes (a, b, c), and with 4 the other becomes (d, c, b); the brothers' rows go."
abbrev pub fate : List Brothers → Tri → List Tri
fate bs t = becomes t (first (λ b. same_tri b.left t) bs) (any (λ b. same_tri b.right t) bs)

-- node i is not one of those that go
abbrev pub stays : List ℕ → ℕ → Bool
stays zs i = not (any (eqb i) zs)

-- how many of the k nodes from i upward stay
abbrev pub stayed : List ℕ → ℕ → ℕ → ℕ
stayed zs i zero = 0
stayed zs i (suc k) = suc_if (stays zs i) (stayed zs (suc i) k)

-- "node numbers follow": a node's new number is how many nodes below it stay
abbrev pub renumber : List ℕ → ℕ → ℕ
renumber zs k = stayed zs 0 k

abbrev pub renamed : List ℕ → Tri → Tri
renamed zs t = tri (renumber zs t.p) (renumber zs t.q) (renumber zs t.r)

-- the nodes that stay, as they are, where the first of the list has the number i
abbrev pub staying : {A : Type 0} → List ℕ → ℕ → List A → List A
staying zs i [] = []
staying zs i (a ∷ more) = cons_if (stays zs i) a (staying zs (suc i) more)

-- "Remaining rows and nodes keep their order and close up"
unfoldable pub without : Mesh → List ℕ → Mesh
without m zs = mesh (staying zs 0 m.nodes) (map (renamed zs) (joined (fate (joined (pairs m) zs)) m.tris))

unfoldable pub coarsened : ℕ → Mesh → List ℕ → Mesh
coarsened n0 m marks = without m (taken n0 m marks)

-- ---- restore

unfoldable pub good_nodes : ℕ → Mesh → List ℕ
good_nodes n0 m = only (good n0 m) (up_to (length m.nodes))

abbrev pub all_marked : {A : Type 0} → List A → List ℕ
all_marked ns = map (λ a. 1) ns

-- "A full pass is coarsen with all nodes marked."
unfoldable pub pass : ℕ → Mesh → Mesh
pass n0 m = coarsened n0 m (all_marked m.nodes)

pub record Restored : Type 0 where
  pub end : Mesh
  pub passes : ℕ

-- "The passes reported are those made; the last look that finds none is not counted."
abbrev pub more : List ℕ → Mesh → Restored → Restored
more [] m r = record { end = m; passes = 0 }
more (z ∷ zs) m r = record { end = r.end; passes = suc r.passes }

-- passes while a good node exists, at most k
abbrev pub run : ℕ → ℕ → Mesh → Restored
run zero n0 m = record { end = m; passes = 0 }
run (suc k) n0 m = let r : Restored = run k n0 (pass n0 m) in more (good_nodes n0 m) m r

-- "Restore makes passes while a good node exists." Each pass removes a node, so there are no more passes than nodes
unfoldable pub restored : ℕ → Mesh → Restored
restored n0 m = run (length m.nodes) n0 m
