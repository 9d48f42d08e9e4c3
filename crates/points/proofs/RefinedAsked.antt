-- W6 and W7: refining by bisection keeps what is told of every point, where the corrections of the two ends of every split edge have even sums: each row
-- of the split mesh makes of a point what the row that it is cut from makes of it. Assumes nothing.
use Rattle.std.specs.Prelude.{true, ◌≡◌, ℕ, length, ◌<ℤ◌, Option}
use mathlib.Core.List.{List, Memᴰ}
use Rattle.std.proofs.Math.Path.{sym, ap, subst}
use Rattle.std.proofs.Common.{◌∙◌}
use Rattle.std.proofs.Math.IntN.{pos}
use Rattle.lists.specs.Lists.{all, All}
use Rattle.lists.specs.ListsLaw.{All-of, All-at, All-imp}
use Rattle.meaning.specs.declared.Place.{Place}
use Rattle.meaning.specs.declared.Tri.{Tri}
use Rattle.meaning.specs.Mesh.{Mesh, Edge, edge, twice_area}
use Rattle.meaning.specs.Lawful.{Named, Lawful}
use Rattle.meaning.specs.Proper.{Proper}
use Rattle.meaning.specs.Split.{Way, bisected, number_of, halves, cut_of, split_edges, split_at, split, started, refined}
use Rattle.meaning.specs.Asking.{HoldsPoint, Covered}
use Rattle.meaning.specs.Calls.{refine_no, asks}
use Rattle.meaning.specs.Tables.{Room}
use Rattle.laws.specs.Bisected.{bisected-laws}
use Rattle.laws.specs.SplitLaw.{all-cuts, split-old, split-lawful}
use Rattle.laws.specs.Refine.{refine-halves}
use Rattle.points.proofs.OneAnswer.{Likewise, SameCorners, corners-back, corners-hold, corners-make, corners-area, covered-by, same-told}
use Rattle.points.specs.Halves.{parts_within, some-part}
use Rattle.points.specs.Refined.{EvenEnds, in-cuts, halved}

module _ (m : Mesh) (start : List Edge) (law : Lawful m) (exact : all (halves m) (split_edges m start) ≡ true) (evens : All (EvenEnds m) (split_edges m start)) where
  abbrev n : ℕ
  n = length m.nodes

  abbrev S : List Edge
  S = split_edges m start

  abbrev num : ℕ → ℕ → Option ℕ
  num a b = number_of (length m.nodes) (split_edges m start) (edge a b)

  abbrev after_mesh : Mesh
  after_mesh = split bisected m start

  -- the nodes of a row stay as they are
  corners-stay : (t : Tri) → Named (length m.nodes) t → SameCorners m after_mesh t
  corners-stay t N = record {
    at_p = sym (split-old bisected m start t.p N.p-below);
    at-q = sym (split-old bisected m start t.q N.q-below);
    at-r = sym (split-old bisected m start t.r N.r-below);
  }

  -- what a row of the split mesh holds, the row that it is cut from held, and made the same of it
  rows-likewise : (P : Place) → All (λ k. HoldsPoint after_mesh P k → Likewise m after_mesh P k) after_mesh.tris
  unfolding split split_at
  rows-likewise P =
      all-cuts (λ k. HoldsPoint after_mesh P k → Likewise m after_mesh P k) (cut_of bisected n S) (All-of m.tris (λ t i.
      (let N = All-at law.named i in
      let stay = corners-stay t N in
      let above : pos 0 <ℤ twice_area after_mesh t = subst (λ z. pos 0 <ℤ z) (corners-area stay) (All-at law.positive i) in
      All-imp (λ k w h. record { row = t; row_in = i; holds = corners-hold (corners-back stay) P (w.holds h); same = w.same ∙ sym (corners-make stay P) })
      (parts_within after_mesh P t (num t.q t.r) (num t.p t.q) (num t.r t.p) above (halved m start law exact evens t N)))))

  -- what a row held, a row of the split mesh holds
  row-covered : (P : Place) (t : Tri) → Memᴰ t m.tris → HoldsPoint m P t → Covered after_mesh P
  unfolding split split_at
  row-covered P t i h =
      let N = All-at law.named i in
      let (k, j, l) = some-part after_mesh P t (num t.q t.r) (num t.p t.q) (num t.r t.p) (halved m start law exact evens t N) (corners-hold (corners-stay t N) P h) in
      covered-by (in-cuts (cut_of bisected n S) i j) l

  -- SPLITTING BY BISECTION KEEPS WHAT IS TOLD OF EVERY POINT.
  pub split-asked : Proper m → (P : Place) → asks (split bisected m start) P ≡ asks m P
  split-asked proper P = same-told law proper (split-lawful bisected-laws m start law exact) P (λ k i. All-at (rows-likewise P) i) (row-covered P)

-- SO DOES EVERY ACCEPTED REFINE THAT CUTS BY BISECTION, where the sums of the corrections of the ends of every split edge are even.
pub refined-asked : (w : Way) → w.cutting ≡ bisected → (room : Room) (m : Mesh) (marks : List ℕ) → Lawful m → Proper m → refine_no w room m marks ≡ 0 →
    All (EvenEnds m) (split_edges m (started w.starts marks m.tris)) → (P : Place) → asks (refined w m marks) P ≡ asks m P
unfolding refined
refined-asked w cuts room m marks law proper e evens P =
    let start = started w.starts marks m.tris in
    ap (λ c. asks (split c m start) P) cuts ∙ split-asked m start law (refine-halves w room m marks e) evens proper P
