-- W5, "Good nodes are still judged by place only": of two meshes with the same rows and the same places, whatever their nodes carry, the same nodes are
-- good, the same are taken, and areas are the same. Assumes nothing.
use Rattle.std.specs.Prelude.{Bool, ◌&&◌, ◌||◌, List, [], ◌∷◌, map, ◌≡◌, refl, ℕ, zero, suc, length, get_or}
use Rattle.std.proofs.Math.Bool.{not}
use Rattle.std.proofs.Common.{sym, ◌∙◌}
use Rattle.std.proofs.Math.Path.{ap}
use Rattle.std.proofs.Math.Dec.{eqb, leb, ltb}
use Rattle.std.proofs.lemmas.List.{length-map}
use Rattle.lists.specs.Lists.{all, only, up_to}
use Rattle.meaning.specs.declared.Node.{Node}
use Rattle.meaning.specs.declared.Place.{Place}
use Rattle.meaning.specs.declared.Tri.{Tri}
use Rattle.meaning.specs.Mesh.{Mesh, mesh, at, origin, same_edge, sum, twice_area, total}
use Rattle.meaning.specs.Good.{G1, G2, G4, G1-4, good, pairs, span, is_middle}
use Rattle.meaning.specs.Coarsen.{marked, taken}

-- where the nodes stand
abbrev pub places_of : Mesh → List Place
places_of m = map (λ a. a.place) m.nodes

pub record SamePlaces (m m' : Mesh) : Type 0 where
  pub rows_same : m.tris ≡ m'.tris
  pub places_same : places_of m ≡ places_of m'

place_of : (l : List Node) (k : ℕ) → (get_or l k origin).place ≡ get_or (map (λ a. a.place) l) k origin.place
place_of [] k = refl
place_of (a ∷ l) zero = refl
place_of (a ∷ l) (suc k) = place_of l k

module _ {m m' : Mesh} (s : SamePlaces m m') where
  pub at_same : (k : ℕ) → at m k ≡ at m' k
  at_same k = place_of m.nodes k ∙ ap (λ (l : List Place). get_or l k origin.place) s.places_same ∙ sym (place_of m'.nodes k)

  pub count_same : length m.nodes ≡ length m'.nodes
  count_same = sym (length-map m.nodes (λ a. a.place)) ∙ ap length s.places_same ∙ length-map m'.nodes (λ a. a.place)

-- ---- meshes of the same rows

module _ (ts : List Tri) (ns ns' : List Node) (same : (k : ℕ) → at (mesh ns ts) k ≡ at (mesh ns' ts) k) (count : length ns ≡ length ns') where
  four_same : (z : ℕ) → G1-4 (mesh ns ts) z ≡ G1-4 (mesh ns' ts) z
  unfolding G1-4 span pairs
  four_same z =
      let e = span (mesh ns ts) z in
      ap (λ (b : Bool). G1 (mesh ns ts) z && G2 (mesh ns ts) z && b && G4 (mesh ns ts) z)
      (λ i. is_middle (same z i) (same e.lo i) (same e.hi i))

  good-rows : (n0 z : ℕ) → good n0 (mesh ns ts) z ≡ good n0 (mesh ns' ts) z
  unfolding good span pairs
  good-rows n0 z = λ i.
      leb n0 z && four_same z i && all (λ y. ltb y n0 || eqb y z || not (four_same y i) || not (same_edge (span (mesh ns ts) z) (span (mesh ns ts) y))) (up_to (count i))

  area-rows : (t : Tri) → twice_area (mesh ns ts) t ≡ twice_area (mesh ns' ts) t
  unfolding twice_area
  area-rows t = rw (same t.p, same t.q, same t.r)

  total-rows : total (mesh ns ts) ≡ total (mesh ns' ts)
  unfolding total
  total-rows = λ i. sum (λ t. area-rows t i) ts

-- ---- the theorems

module _ {m m' : Mesh} (s : SamePlaces m m') where
  -- the rows of m with the nodes of m'
  abbrev between : Mesh
  between = mesh m'.nodes m.tris

  is-between : between ≡ m'
  is-between = λ i. mesh m'.nodes (s.rows_same i)

  -- CORRECTIONS DO NOT MATTER TO GOODNESS.
  pub good-by-place : (n0 z : ℕ) → good n0 m z ≡ good n0 m' z
  good-by-place n0 z = good-rows m.tris m.nodes m'.nodes (at_same s) (count_same s) n0 z ∙ ap (λ (x : Mesh). good n0 x z) is-between

  -- so coarsen takes the same nodes
  pub taken-by-place : (n0 : ℕ) (marks : List ℕ) → taken n0 m marks ≡ taken n0 m' marks
  unfolding taken
  taken-by-place n0 marks = λ i. only (λ z. marked marks z && good-by-place n0 z i) (up_to (count_same s i))

  pub area-by-place : (t : Tri) → twice_area m t ≡ twice_area m' t
  area-by-place t = area-rows m.tris m.nodes m'.nodes (at_same s) (count_same s) t ∙ ap (λ (x : Mesh). twice_area x t) is-between

  pub total-by-place : total m ≡ total m'
  total-by-place = total-rows m.tris m.nodes m'.nodes (at_same s) (count_same s) ∙ ap total is-between
