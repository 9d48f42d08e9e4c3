-- W6 and W7: on a lawful mesh that draws neither 11 nor 12 a question about a point is told what any row that holds the point makes of it. So the
-- order of the rows does not matter, and at the place of a node it is told what the node carries. Assumes nothing.
use Rattle.std.specs.Prelude.{Bool, true, false, ◌≡◌, refl, ℕ, ◌<◌, ℤ, pos, ◌+ℤ◌, ◌*ℤ◌, length, get_or, ◌≤ℤ◌, is_some}
use mathlib.Core.List.{Memᴰ}
use Rattle.std.proofs.Common.{inr, sym, ap, subst₂, ◌∙◌, arith}
use Rattle.std.proofs.Math.Path.{subst⁻¹}
use Rattle.lists.specs.ListsLaw.{All-at}
use Rattle.lists.specs.MembersLaw.{mem-at, at_mem}
use Rattle.meaning.specs.declared.Correction.{Correction}
use Rattle.meaning.specs.declared.Node.{Node}
use Rattle.meaning.specs.declared.Place.{Place}
use Rattle.meaning.specs.declared.Tri.{Tri}
use Rattle.meaning.specs.Mesh.{Mesh, tri, correction, origin, node_of, at, turn, twice_area}
use Rattle.meaning.specs.Lawful.{Lawful, names-none, row_of}
use Rattle.meaning.specs.Proper.{Proper}
use Rattle.meaning.specs.Rounding.{floor}
use Rattle.meaning.specs.Asking.{HoldsPoint, weighted, weights, mean_in, RowHolds, Covered, dx_of, dy_of, correction_in, row_holding, correction_at}
use Rattle.meaning.specs.Calls.{culprit_of, ask_no, told_as, told, asks}
use Rattle.laws.specs.Exact.{unfit}
use Rattle.laws.specs.RowMean.{corner-holds, mean-corner}
use Rattle.laws.specs.Asking.{covered-exact, ask-0, ask-14, ask-exact, refuses, answered, asks-exact, told_is}
use Rattle.proper.specs.FaithfulProper.{node_row}
use Rattle.points.proofs.AnyRowTold.{any-row-correction}

-- ---- any mesh that is lawful

pub covered-by : {m : Mesh} {P : Place} {t : Tri} → Memᴰ t m.tris → HoldsPoint m P t → Covered m P
covered-by {m} {P} i h = let (j, l, e) = mem-at (tri 0 0 0) i in record { row = j; row_below = l; row-holds = subst⁻¹ (HoldsPoint m P) e h }

-- a row holds the point, and what it makes of the point is told
record ToldBy (m : Mesh) (P : Place) : Type 0 where
  row : Tri
  row_in : Memᴰ row m.tris
  holds : HoldsPoint m P row
  tells : asks m P ≡ told 0 0 (correction_in m P row)

told-by : {m : Mesh} {P : Place} → Lawful m → Covered m P → ToldBy m P
unfolding asks
told-by {m} {P} law c =
    let done : ask_no m P ≡ 0 = (ask-0 m P).1 (law, c) in
    let (i, M) = answered m P done in
    record {
      row = row_of m.tris i;
      row_in = at_mem m.tris i (tri 0 0 0) M.lowest-holding.below;
      holds = M.lowest-holding.at-fault;
      tells = ap (λ k. told k (culprit_of m k) (correction_at m P)) done ∙ ap (told 0 0) (sym (told_is M));
    }

none_told : {m : Mesh} {P : Place} → Lawful m → ¬ Covered m P → asks m P ≡ told_as 14 (pos 0) (pos 0) 0
none_told {m} {P} law none =
    (asks-exact m P (told_as 14 (pos 0) (pos 0) 0)).1 (refuses 14 0 (omega arith) ((ask-exact m P 14).0 ((ask-14 m P).1 (law, none))) (names-none 14 (inr (omega arith))))

-- ---- lawful, and neither 11 nor 12

module _ {m : Mesh} (law : Lawful m) (proper : Proper m) where
  row_told : {P : Place} {t : Tri} → Memᴰ t m.tris → HoldsPoint m P t → asks m P ≡ told 0 0 (correction_in m P t)
  row_told i h =
      let T = told-by law (covered-by i h) in
      T.tells ∙ ap (told 0 0) (any-row-correction law proper T.row_in i T.holds h)

  -- WHAT IS TOLD IS WHAT ANY ROW THAT HOLDS THE POINT MAKES OF IT.
  pub any-row-told : {P : Place} (i : ℕ) → i < length m.tris → RowHolds m P i → asks m P ≡ told 0 0 (correction_in m P (row_of m.tris i))
  any-row-told i l h = row_told (at_mem m.tris i (tri 0 0 0) l) h

  -- AT THE PLACE OF A NODE: WHAT THE NODE CARRIES.
  pub node-told : (k : ℕ) → k < length m.nodes → asks m (at m k) ≡ told 0 0 (node_of m k).correction
  node-told k l =
      let (t, i, c) = node_row m law k l in
      let above = All-at law.positive i in
      row_told i (corner-holds m t above c) ∙ (λ n. told 0 0 (correction (mean-corner (dx_of m) m t above c n) (mean-corner (dy_of m) m t above c n)))

-- ---- two meshes

-- a row of m holds the point, and makes of it what row u of n makes
pub record Likewise (m n : Mesh) (P : Place) (u : Tri) : Type 0 where
  pub row : Tri
  pub row_in : Memᴰ row m.tris
  pub holds : HoldsPoint m P row
  pub same : correction_in n P u ≡ correction_in m P row

-- Two meshes tell the same of a point, if for each row of n that holds it a row of m does so likewise, and a row of n holds it wherever one of m does.
pub same-told : {m n : Mesh} → Lawful m → Proper m → Lawful n → (P : Place) →
    ((u : Tri) → Memᴰ u n.tris → HoldsPoint n P u → Likewise m n P u) → ((t : Tri) → Memᴰ t m.tris → HoldsPoint m P t → Covered n P) → asks n P ≡ asks m P
same-told {m} {n} law proper lawful P back there = go (is_some (row_holding n P)) refl
  where
    go : (b : Bool) → is_some (row_holding n P) ≡ b → asks n P ≡ asks m P
    go true e =
        let T = told-by lawful ((covered-exact n P).0 e) in
        let L = back T.row T.row_in T.holds in
        T.tells ∙ ap (told 0 0) L.same ∙ sym (row_told law proper L.row_in L.holds)
    go false e =
        let none = (unfit (is_some (row_holding n P)) (covered-exact n P)).0 e in
        none_told lawful none ∙ sym (none_told law (λ c. none (there (row_of m.tris c.row) (at_mem m.tris c.row (tri 0 0 0) c.row_below) c.row-holds)))

-- ---- the order of the rows

-- what a row makes of P, by the nodes of its corners
abbrev made_of : Place → Node → Node → Node → Correction
made_of P a b c =
    let p : ℤ = turn b.place c.place P in
    let q : ℤ = turn c.place a.place P in
    let r : ℤ = turn a.place b.place P in
    let part : (Node → ℤ) → ℤ = λ f. floor (p *ℤ f a +ℤ q *ℤ f b +ℤ r *ℤ f c) (p +ℤ q +ℤ r) in
    correction (part (λ d. d.correction.dx)) (part (λ d. d.correction.dy))

-- the corners of row t are the same nodes in both
pub record SameCorners (m n : Mesh) (t : Tri) : Type 0 where
  pub at_p : node_of m t.p ≡ node_of n t.p
  pub at-q : node_of m t.q ≡ node_of n t.q
  pub at-r : node_of m t.r ≡ node_of n t.r

pub corners-back : {m n : Mesh} {t : Tri} → SameCorners m n t → SameCorners n m t
corners-back s = record { at_p = sym s.at_p; at-q = sym s.at-q; at-r = sym s.at-r }

pub corners-area : {m n : Mesh} {t : Tri} → SameCorners m n t → twice_area m t ≡ twice_area n t
unfolding twice_area
corners-area s = λ i. turn (s.at_p i).place (s.at-q i).place (s.at-r i).place

module _ {m n : Mesh} {t : Tri} (s : SameCorners m n t) (P : Place) where
  -- so both hold the point or neither does, and both make the same of it
  pub corners-hold : HoldsPoint m P t → HoldsPoint n P t
  corners-hold h = record { off-qr = moved s.at-q s.at-r h.off-qr; off-rp = moved s.at-r s.at_p h.off-rp; off-pq = moved s.at_p s.at-q h.off-pq }
    where
      moved : {a b a' b' : Node} → a ≡ a' → b ≡ b' → pos 0 ≤ℤ turn a.place b.place P → pos 0 ≤ℤ turn a'.place b'.place P
      moved = subst₂ (λ (a b : Node). pos 0 ≤ℤ turn a.place b.place P)

  pub corners-make : correction_in m P t ≡ correction_in n P t
  unfolding weighted weights mean_in
  corners-make i = made_of P (s.at_p i) (s.at-q i) (s.at-r i)

-- THE ANSWER DOES NOT DEPEND ON THE ORDER OF THE ROWS.
pub order-free : (m n : Mesh) → Lawful m → Proper m → Lawful n → m.nodes ≡ n.nodes →
    ((t : Tri) → Memᴰ t m.tris → Memᴰ t n.tris) → ((t : Tri) → Memᴰ t n.tris → Memᴰ t m.tris) → (P : Place) → asks m P ≡ asks n P
order-free m n law proper lawful e there back P =
    sym (same-told law proper lawful P
    (λ u i h. record { row = u; row_in = back u i; holds = corners-hold (corners-back (same u)) P h; same = sym (corners-make (same u) P) })
    (λ t i h. covered-by (there t i) (corners-hold (same t) P h)))
  where
    same : (t : Tri) → SameCorners m n t
    same t = record { at_p = ap (λ ns. get_or ns t.p origin) e; at-q = ap (λ ns. get_or ns t.q origin) e; at-r = ap (λ ns. get_or ns t.r origin) e }
