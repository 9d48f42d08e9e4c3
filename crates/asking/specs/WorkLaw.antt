-- A question about a point as a whole: what is judged first, the row, its mean. By the tables it is what `ask_out` tells of the mesh. Assumes nothing.
use Rattle.std.specs.Prelude.{◌≡◌, refl, Bool, true, false, List, [], ℕ, zero, suc, ◌+◌, ◌*◌, ◌≤◌, ◌<◌, ℤ, pos, nat_abs, ◌-ℤ◌, ◌*ℤ◌, ◌≤ℤ◌, ◌<ℤ◌, length, replicate, Option, Some, None, is_some, Ok, Err}
use Rattle.std.proofs.Math.Path.{sym, ap₂}
use Rattle.std.proofs.Common.{ap, ◌∙◌, arith}
use Rattle.whole.specs.Bound.{absℤ, abs-sub, abs-mul}
use Rattle.whole.specs.Diff.{onℤ}
use Rattle.lists.specs.Lists.{cases}
use Rattle.lists.specs.Search.{lowest}
use Rattle.lists.specs.SearchLaw.{lowest-where, lowest-below, lowest-true}
use Rattle.lists.specs.IterLaw.{get_or-items}
use Rattle.meaning.specs.declared.Correction.{Correction}
use Rattle.meaning.specs.Fault.{Fault}
use Rattle.meaning.specs.declared.Node.{Node}
use Rattle.meaning.specs.declared.Place.{Place}
use Rattle.meaning.specs.declared.Told.{Told}
use Rattle.meaning.specs.declared.Tri.{Tri}
use Rattle.meaning.specs.Mesh.{Mesh, correction, tri, node_of, turn, twice_area}
use Rattle.meaning.specs.Lawful.{InRange, Named, Lawful, fault}
use Rattle.meaning.specs.Tables.{Given, given, mesh_of, node_at, place_at, row_at}
use Rattle.meaning.specs.Asking.{holds_point, weight_p, weight_q, weight_r, weighted, weights, mean_in, row_holding, correction_in, correction_by, correction_at}
use Rattle.meaning.specs.Calls.{culprit_of, unless, ask_no, told, asks, sizes_fit, heard, ask_out}
use Rattle.laws.specs.Asking.{holds_exact}
use Rattle.laws.specs.Meshes.{Standing, mesh_at, mesh-is, node-is, place_is, row_named, row-stands, row-above}
use Rattle.laws.specs.Weights.{weights-sum}
use Rattle.refusals.specs.declared.Refusal.{Refusal}
use Rattle.refusals.specs.declared.Refusal.TheVariants.{Nowhere}
use Rattle.refusals.specs.Refusals.{fault_in}
use Rattle.judging.specs.Judge.{early, Admitted}
use Rattle.judging.specs.Leaving.{or_late, first_of, numbered, verdict, fits-same, cleared-length}
use Rattle.weighing.specs.Weighing.{sum_of, mean_of, Balanced}
use Rattle.asking.specs.Asking.{side_of, weights_in, holds_in, holds_at, correction_of, refused_by, told_in}

-- ---- what is told, by what stands in the way

-- 14, where no row holds the point
abbrev late_of : Mesh → Place → ℕ
late_of m P = unless (is_some (row_holding m P)) 14 0

abbrev told_for : Correction → Fault → Told
told_for v f = told f.number f.at v

told_is : (g : Given) (n0 : ℕ) (P : Place) → (ask_out g n0 P).told ≡ told_for (correction_at (mesh_of g) P) (or_late (early g n0 0 []) (late_of (mesh_of g) P))
unfolding ask_out asks ask_no
told_is g n0 P = go (sizes_fit g n0) ∙ ap (told_for (correction_at (mesh_of g) P)) (verdict g n0 0 [] (late_of (mesh_of g) P))
  where
    go : (b : Bool) → cases b (asks (mesh_of g) P) (told 1 0 (correction (pos 0) (pos 0))) ≡
        told_for (correction_at (mesh_of g) P) (cases b (fault (ask_no (mesh_of g) P) (culprit_of (mesh_of g) (ask_no (mesh_of g) P))) (fault 1 0))
    go true = refl
    go false = refl

refused-told : (f : Fault) (v : Correction) → (f.number ≡ 0 → ⊥) → refused_by f ≡ told_for v f
refused-told f v o = go f.number o
  where
    go : (k : ℕ) → (k ≡ 0 → ⊥) → refused_by (fault k f.at) ≡ told k f.at v
    go zero o = absurd (o refl)
    go (suc k) o = refl

-- ---- a row of a lawful mesh that holds the point

-- the greatest twice-area there is
turn-most : (a b c : Place) → InRange a → InRange b → InRange c → nat_abs (turn a b c) ≤ 8_796_093_022_208
turn-most a b c h i j =
    abs-sub ((b.x -ℤ a.x) *ℤ (c.y -ℤ a.y)) ((c.x -ℤ a.x) *ℤ (b.y -ℤ a.y))
    (abs-mul (b.x -ℤ a.x) (c.y -ℤ a.y) (abs-sub b.x a.x i.x-near h.x-near) (abs-sub c.y a.y j.y-near h.y-near))
    (abs-mul (c.x -ℤ a.x) (b.y -ℤ a.y) (abs-sub c.x a.x j.x-near h.x-near) (abs-sub b.y a.y i.y-near h.y-near))

at_most : (z : ℤ) (k : ℕ) → nat_abs z ≤ k → z ≤ℤ pos k
at_most z k h = omega (arith, onℤ, absℤ z)

-- row w of the mesh in the tables
module _ (nodes : List ℤ) (rows : List ℕ) (n t : ℕ) (P : Place) (w : Tri) (named : Named n w) where
  abbrev m : Mesh
  m = mesh_at nodes rows n t

  p-is : weight_p m P w ≡ (weights_in nodes w P).p
  unfolding weights_in side_of
  p-is = rw (place_is nodes rows n t w.q named.q-below, place_is nodes rows n t w.r named.r-below)

  q-is : weight_q m P w ≡ (weights_in nodes w P).q
  unfolding weights_in side_of
  q-is = rw (place_is nodes rows n t w.r named.r-below, place_is nodes rows n t w.p named.p-below)

  r-is : weight_r m P w ≡ (weights_in nodes w P).r
  unfolding weights_in side_of
  r-is = rw (place_is nodes rows n t w.p named.p-below, place_is nodes rows n t w.q named.q-below)

  holds-is : holds_point m P w ≡ holds_in nodes w P
  unfolding holds_in
  holds-is = rw (p-is, q-is, r-is)

  sum_is : weights m P w ≡ sum_of (weights_in nodes w P)
  unfolding weights
  sum_is = rw (p-is, q-is, r-is)

  -- the mean of any value of a node
  mean-is : (f : ℕ → ℤ) → mean_in f m P w ≡ mean_of (weights_in nodes w P) (f w.p) (f w.q) (f w.r)
  unfolding mean_in weighted mean_of
  mean-is f = rw (sum_is, p-is, q-is, r-is)

  part-is : (f : Node → ℤ) → mean_in (λ k. f (node_of m k)) m P w ≡ mean_of (weights_in nodes w P) (f (node_at nodes w.p)) (f (node_at nodes w.q)) (f (node_at nodes w.r))
  part-is f =
      let p = node-is nodes rows n t w.p named.p-below in
      let q = node-is nodes rows n t w.q named.q-below in
      let r = node-is nodes rows n t w.r named.r-below in
      mean-is (λ k. f (node_of m k)) ∙ (λ i. mean_of (weights_in nodes w P) (f (p i)) (f (q i)) (f (r i)))

  correction-is : correction_in m P w ≡ correction_of nodes w P
  unfolding correction_of
  correction-is = ap₂ correction (part-is (λ a. a.correction.dx)) (part-is (λ a. a.correction.dy))

  module _ (above : pos 0 <ℤ twice_area m w) (S : Standing nodes w) (h : holds_in nodes w P ≡ true) where
    is-balanced : Balanced (weights_in nodes w P)
    unfolding twice_area
    is-balanced =
        let H = (holds_exact m P w).0 (holds-is ∙ h) in
        let e : sum_of (weights_in nodes w P) ≡ twice_area m w = sym sum_is ∙ weights-sum m P w in
        let most = turn-most (place_at nodes w.p) (place_at nodes w.q) (place_at nodes w.r) S.at_p.range.place_in S.at-q.range.place_in S.at-r.range.place_in in
        record {
          p-from = rw (← p-is) H.off-qr;
          q-from = rw (← q-is) H.off-rp;
          r-from = rw (← r-is) H.off-pq;
          above = rw e above;
          most = rw (e, place_is nodes rows n t w.p named.p-below, place_is nodes rows n t w.q named.q-below, place_is nodes rows n t w.r named.r-below) (at_most _ _ most);
        }

-- ---- the search, in a mesh that draws none of 1 to 7

module _ (nodes : List ℤ) (rows s : List ℕ) (n t : ℕ) (A : Admitted nodes rows s [] 0 n t) where
  law : Lawful (mesh_at nodes rows n t)
  unfolding mesh_at
  law = A.law

  named-at : (i : ℕ) → i < t → Named n (row_at rows i)
  named-at = row_named nodes rows n t law

  pub rows-stand : (3 * t ≤ length rows) × ((i : ℕ) → i < t → Standing nodes (row_at rows i))
  rows-stand = (A.rows_fit, row-stands nodes rows n t law A.nodes-fit)

  module _ (P : Place) (h : Option ℕ) (q : h ≡ lowest (holds_at nodes rows P) 0 t) where
    row_is : row_holding (mesh_at nodes rows n t) P ≡ h
    unfolding row_holding holds_at mesh_at
    row_is = sym (q ∙ lowest-where (holds_point (mesh_at nodes rows n t) P) (row_at rows) (holds_at nodes rows P) t (λ i l. sym (holds-is nodes rows n t P (row_at rows i) (named-at i l))))

    -- row i was found
    module _ (i : ℕ) (d : h ≡ Some i) where
      pub found_below : i < t
      found_below = lowest-below (holds_at nodes rows P) t i (sym q ∙ d)

      pub found_inside : 3 * i + 3 ≤ length rows
      found_inside = omega (arith, found_below, A.rows_fit)

      module _ (w : Tri) (k : w ≡ row_at rows i) where
        pub found-balanced : Standing nodes w × Balanced (weights_in nodes w P)
        unfolding holds_at
        found-balanced =
            let S = rows-stand.1 i found_below in
            let H = is-balanced nodes rows n t P (row_at rows i) (named-at i found_below) (row-above nodes rows n t law i found_below) S (lowest-true (holds_at nodes rows P) t i (sym q ∙ d)) in
            rw k (S, H)

        found-correction : correction_of nodes w P ≡ correction_by (mesh_at nodes rows n t) P h
        unfolding mesh_at
        found-correction = rw (k, d, get_or-items (row_at rows) t i (tri 0 0 0) found_below) (sym (correction-is nodes rows n t P (row_at rows i) (named-at i found_below)))

-- ---- what is told

module _ (nodes : List ℤ) (rows s : List ℕ) (n0 n t : ℕ) (P : Place) where
  pub ask-refused : (r : Refusal) → fault_in r ≡ early (given nodes rows s n t) n0 0 [] → told_in (Err r) ≡ (ask_out (given nodes rows s n t) n0 P).told
  ask-refused r e =
      let g = given nodes rows s n t in
      let v : fault_in r ≡ or_late (early g n0 0 []) (late_of (mesh_of g) P) = first_of (fault_in r) _ (numbered r) ∙ ap (λ (x : Fault). or_late x (late_of (mesh_of g) P)) e in
      refused-told (fault_in r) (correction_at (mesh_of g) P) (numbered r) ∙ ap (told_for (correction_at (mesh_of g) P)) v ∙ sym (told_is g n0 P)

  -- nothing stood in the way; s₁ is scratch then, and h what the search gave
  module _ (e : fault 0 0 ≡ early (given nodes rows s n t) n0 0 []) (s₁ : List ℕ) (A : Admitted nodes rows s₁ [] 0 n t) (h : Option ℕ)
      (q : h ≡ lowest (holds_at nodes rows P) 0 t) where
    told-late : (ask_out (given nodes rows s n t) n0 P).told ≡ told_for (correction_by (mesh_at nodes rows n t) P h) (fault (unless (is_some h) 14 0) 0)
    unfolding correction_at
    told-late =
        let z : or_late (early (given nodes rows s n t) n0 0 []) (unless (is_some h) 14 0) ≡ fault (unless (is_some h) 14 0) 0 = rw (← e) in
        told_is (given nodes rows s n t) n0 P ∙ rw (mesh-is nodes rows n t s, row_is nodes rows s₁ n t A P h q, z)

    pub ask-none : h ≡ None → told_in (Err Nowhere) ≡ (ask_out (given nodes rows s n t) n0 P).told
    ask-none d = sym (told-late ∙ rw d)

    pub ask-found : (i : ℕ) → h ≡ Some i → (w : Tri) → w ≡ row_at rows i → (c : Correction) → c ≡ correction_of nodes w P → told_in (Ok c) ≡ (ask_out (given nodes rows s n t) n0 P).told
    ask-found i d w k c j = ap (told 0 0) (j ∙ found-correction nodes rows s₁ n t A P h q i d w k) ∙ sym (told-late ∙ rw d)

-- scratch is s before the call, s₁ before the work, and s₂ at the end; len is its length after the work
pub ask-called : (nodes : List ℤ) (rows s s₁ s₂ : List ℕ) (n0 n t len : ℕ) (P : Place) (r : Told) → s₁ ≡ replicate (length s) 0 → r ≡ (ask_out (given nodes rows s₁ n t) n0 P).told →
    s₂ ≡ replicate len 0 → len ≡ length s₁ → heard r nodes rows s₂ ≡ ask_out (given nodes rows s n t) n0 P
unfolding ask_out mesh_of
ask-called nodes rows s s₁ s₂ n0 n t len P r p h d l =
    let same = cleared-length s s₁ p in
    let said : r ≡ (ask_out (given nodes rows s n t) n0 P).told = h ∙ rw (fits-same nodes rows s s₁ n0 n t same) in
    let zero-after : s₂ ≡ replicate (length s) 0 = d ∙ ap (λ (k : ℕ). replicate k 0) (l ∙ same) in
    (λ i. heard (said i) nodes rows (zero-after i))
