-- A row with an odd split edge is found exactly where a split edge has no exact midpoint: document 01's number 8. Assumes nothing.
use Rattle.std.specs.Prelude.{◌≡◌, refl, Bool, true, false, ◌&&◌, ℕ, ◌<◌, eqb, ℤ, is_some}
use Rattle.std.proofs.Math.Path.{sym}
use Rattle.std.proofs.Common.{◌∙◌, eqb-true}
use Rattle.std.proofs.Math.Bool.{not}
use mathlib.Core.List.{List}
use Rattle.lists.specs.Lists.{all, any, only, once, joined}
use Rattle.lists.specs.ListsLaw.{and_left, and_right}
use Rattle.lists.specs.Search.{lowest, items}
use Rattle.lists.specs.SearchLaw.{or-three, lowest-any}
use Rattle.lists.specs.AnyLaw.{any-only, any-not, any-once, any-joined}
use Rattle.lists.specs.Tally.{bit}
use Rattle.meaning.specs.declared.Tri.{Tri}
use Rattle.meaning.specs.Mesh.{Mesh, Edge, node_of, edge, edges, base, same_edge}
use Rattle.meaning.specs.Split.{halves}
use Rattle.meaning.specs.Tables.{node_at, row_at}
use Rattle.neighbours.specs.Sized.{Corners}
use Rattle.notes.specs.declared.Note.{Note}
use Rattle.notes.specs.Notes.{note_at}
use Rattle.notes.specs.Met.{Says}
use Rattle.nodes.specs.Nodes.{odd_split, odd_row, odd_at}
use Rattle.nodes.specs.PlacedLaw.{halves-is}

bit-on : (b : Bool) → not (eqb (bit b) 0) ≡ b
bit-on true = refl
bit-on false = refl

-- m: a mesh whose first n nodes are the table's; f: which edges are split
module _ (nodes : List ℤ) (n : ℕ) (m : Mesh) (same : (k : ℕ) → k < n → node_of m k ≡ node_at nodes k) (f : Edge → Bool) where
  abbrev bad : Edge → Bool
  bad e = f e && not (halves m e)

  edge-odd : (x y : ℕ) → x < n → y < n → odd_split nodes (bit (f (edge x y))) x y ≡ bad (edge x y)
  unfolding odd_split
  edge-odd x y a b = rw (bit-on (f (edge x y)), halves-is nodes n m same x y a b)

  row-odd : (w : Tri) (c : Note) → Corners n w → Says f w c → odd_row nodes w c ≡ any bad (edges w)
  unfolding odd_row
  row-odd w c o d =
      rw (d.m-said, d.u-said, d.v-said, edge-odd w.q w.r o.q-in o.r-in, edge-odd w.p w.q o.p-in o.q-in, edge-odd w.r w.p o.r-in o.p-in)
      (or-three (bad (base w)) (bad (edge w.p w.q)) (bad (edge w.r w.p)))

  like : (d e : Edge) → same_edge d e ≡ true → not (halves m d) ≡ not (halves m e)
  like d e h =
      let a = eqb-true d.lo e.lo (and_left (eqb d.lo e.lo) (eqb d.hi e.hi) h) in
      let b = eqb-true d.hi e.hi (and_right (eqb d.lo e.lo) (eqb d.hi e.hi) h) in
      rw (a, b)

  pub odd-found : (l s : List ℕ) (t : ℕ) → ((i : ℕ) → i < t → Corners n (row_at l i)) → ((i : ℕ) → i < t → Says f (row_at l i) (note_at s i)) →
      is_some (lowest (odd_at nodes l s) 0 t) ≡ not (all (halves m) (once same_edge (only f (joined edges (items (row_at l) 0 t)))))
  unfolding odd_at
  odd-found l s t corners says =
      let ts : List Tri = items (row_at l) 0 t in
      lowest-any (λ w. any bad (edges w)) (row_at l) (odd_at nodes l s) t (λ j h. row-odd (row_at l j) (note_at s j) (corners j h) (says j h))
      ∙ sym (any-joined bad edges ts)
      ∙ sym (any-only f (λ e. not (halves m e)) (joined edges ts))
      ∙ sym (any-once same_edge (λ e. not (halves m e)) like (only f (joined edges ts)))
      ∙ any-not (halves m) (once same_edge (only f (joined edges ts)))
