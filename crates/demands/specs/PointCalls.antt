-- What W6 gains by W7, OF THE CALLS: in tables that grew from a base which the check admitted, what a question about a point is told is what any row that
-- holds the point makes of it, whatever the order of the rows; at the place of a node it is what the node carries; and a refine by bisection where the means are exact
-- changes no answer at any point. Assumes nothing.
use mathlib.Core.List.{List, Memᴰ}
use Rattle.std.specs.Prelude.{◌≡◌, ℕ, ◌<◌}
use Rattle.std.proofs.Common.{sym, ap, ◌∙◌, arith}
use Rattle.lists.specs.Lists.{All}
use Rattle.meaning.specs.declared.Place.{Place}
use Rattle.meaning.specs.declared.Tri.{Tri}
use Rattle.meaning.specs.Mesh.{node_of, at}
use Rattle.meaning.specs.Lawful.{Lawful, row_of}
use Rattle.meaning.specs.Split.{Way, bisected, split_edges, started, refined}
use Rattle.meaning.specs.Asking.{RowHolds, correction_in}
use Rattle.meaning.specs.Tables.{Given, Outcome, mesh_of, room_of}
use Rattle.meaning.specs.Calls.{check_out, refine_out, told, asks, Heard, ask_out}
use Rattle.laws.specs.TableMesh.{nodes-count, rows-count, tables_after, done-mesh}
use Rattle.laws.specs.CallLaw.{Sizes, sizes-exact, ask-leaves, refine-leaves}
use Rattle.proper.specs.Flawless.{Flawless}
use Rattle.points.proofs.OneAnswer.{any-row-told, node-told, order-free}
use Rattle.points.specs.Refined.{EvenEnds}
use Rattle.points.proofs.RefinedAsked.{refined-asked}
use Rattle.demands.specs.ProperCalls.{Grew, grew-flawless}

-- a question in tables that fit
asks_of : (g : Given) (n0 : ℕ) (P : Place) (o : Heard) → o ≡ ask_out g n0 P → Sizes g n0 → o.told ≡ asks (mesh_of g) P
asks_of g n0 P o e s = ap (λ x. x.told) e ∙ (ask-leaves g n0 P).told_is ∙ rw ((sizes-exact g n0).1 s)

-- the base check, made on g₀, said 0; then any calls
module _ (g₀ : Given) (c : Outcome) (ce : c ≡ check_out g₀) (cz : c.answer.number ≡ 0) {g : Given} (h : Grew g₀ g) where
  flawless : Flawless (mesh_of g)
  flawless = grew-flawless g₀ c ce cz h

  -- a question about P
  module _ (n0 : ℕ) (P : Place) (o : Heard) (e : o ≡ ask_out g n0 P) (s : Sizes g n0) where
    -- ANY ROW THAT HOLDS THE POINT MAKES OF IT WHAT IS TOLD.
    pub any-row-tells : (i : ℕ) → i < g.t → RowHolds (mesh_of g) P i → o.told ≡ told 0 0 (correction_in (mesh_of g) P (row_of (mesh_of g).tris i))
    any-row-tells i l r = asks_of g n0 P o e s ∙ any-row-told flawless.lawful flawless.proper i (omega (arith, rows-count g)) r

    -- AT THE PLACE OF A NODE IT IS WHAT THE NODE CARRIES.
    pub node-tells : (k : ℕ) → k < g.n → P ≡ at (mesh_of g) k → o.told ≡ told 0 0 (node_of (mesh_of g) k).correction
    node-tells k l q = asks_of g n0 P o e s ∙ ap (asks (mesh_of g)) q ∙ node-told flawless.lawful flawless.proper k (omega (arith, nodes-count g))

  -- THE ORDER OF THE ROWS DOES NOT MATTER: tables of a lawful mesh with the same nodes, and the same rows in whatever order, tell the same.
  pub order-tells : (g' : Given) → Lawful (mesh_of g') → (mesh_of g).nodes ≡ (mesh_of g').nodes →
      ((t : Tri) → Memᴰ t (mesh_of g).tris → Memᴰ t (mesh_of g').tris) → ((t : Tri) → Memᴰ t (mesh_of g').tris → Memᴰ t (mesh_of g).tris) →
      (n0 n0' : ℕ) (P : Place) (o o' : Heard) → o ≡ ask_out g n0 P → Sizes g n0 → o' ≡ ask_out g' n0' P → Sizes g' n0' → o.told ≡ o'.told
  order-tells g' lawful nodes there back n0 n0' P o o' e s e' s' =
      asks_of g n0 P o e s ∙ order-free (mesh_of g) (mesh_of g') flawless.lawful flawless.proper lawful nodes there back P ∙ sym (asks_of g' n0' P o' e' s')

  -- A REFINE BY BISECTION WHERE THE MEANS ARE EXACT CHANGES NO ANSWER AT ANY POINT: the sums of the corrections at the ends of every edge that it splits are even.
  pub refine-tells : (w : Way) → w.cutting ≡ bisected → (n0 : ℕ) (marks : List ℕ) (r : Outcome) → r ≡ refine_out w g n0 marks → r.answer.number ≡ 0 →
      All (EvenEnds (mesh_of g)) (split_edges (mesh_of g) (started w.starts marks (mesh_of g).tris)) →
      (n1 n2 : ℕ) (P : Place) (o o' : Heard) → o ≡ ask_out g n1 P → Sizes g n1 → o' ≡ ask_out (tables_after r) n2 P → Sizes (tables_after r) n2 → o'.told ≡ o.told
  refine-tells w cuts n0 marks r re rz evens n1 n2 P o o' e s e' s' =
      let l = refine-leaves g n0 w marks in
      let z = ap (λ x. x.answer.number) (sym re) ∙ rz in
      let after : mesh_of (tables_after r) ≡ refined w (mesh_of g) marks = ap (λ x. mesh_of (tables_after x)) (re ∙ l.done-is z) ∙ done-mesh g (refined w (mesh_of g) marks) 0 in
      asks_of (tables_after r) n2 P o' e' s' ∙ ap (λ x. asks x P) after
      ∙ refined-asked w cuts (room_of g) (mesh_of g) marks flawless.lawful flawless.proper (l.sized-and-0 z).1 evens P ∙ sym (asks_of g n1 P o e s)
