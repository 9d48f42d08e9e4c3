-- Where no node goes, a mesh stays as it is: a pass over a mesh with no good node changes nothing. Assumes nothing.
use Rattle.std.specs.Prelude.{List, [], ◌∷◌, map, ◌≡◌, refl, ℕ, suc}
use Rattle.std.proofs.Common.{ap, ap₂, ◌∙◌}
use Rattle.lists.specs.Lists.{joined}
use Rattle.meaning.specs.declared.Tri.{Tri}
use Rattle.meaning.specs.Mesh.{Mesh, mesh}
use Rattle.meaning.specs.Coarsen.{fate, renumber, renamed, staying, without, good_nodes, pass}
use Rattle.laws.specs.Stay.{stayed-all}
use Rattle.laws.specs.Restore.{pass-is}

number-still : (k : ℕ) → renumber [] k ≡ k
number-still k = stayed-all [] 0 k (λ j h. refl)

row-still : (t : Tri) → renamed [] t ≡ t
row-still t =
    let p = number-still t.p in
    let q = number-still t.q in
    let r = number-still t.r in
    λ i. record { p = p i; q = q i; r = r i }

nodes-still : {A : Type 0} (i : ℕ) (ns : List A) → staying [] i ns ≡ ns
nodes-still i [] = refl
nodes-still i (a ∷ ns) = ap (λ r. a ∷ r) (nodes-still (suc i) ns)

rows-still : (ts : List Tri) → map (renamed []) (joined (fate []) ts) ≡ ts
rows-still [] = refl
rows-still (t ∷ ts) = ap₂ ◌∷◌ (row-still t) (rows-still ts)

pub without-none : (m : Mesh) → without m [] ≡ m
unfolding without
without-none m = ap₂ mesh (nodes-still 0 m.nodes) (rows-still m.tris)

pub pass-still : (n0 : ℕ) (m : Mesh) → good_nodes n0 m ≡ [] → pass n0 m ≡ m
pass-still n0 m e = pass-is n0 m ∙ ap (without m) e ∙ without-none m
