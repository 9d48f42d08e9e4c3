-- After place_nodes the table holds document 01's nodes: the old ones, then those of the split edges in order. Assumes nothing.
use Rattle.std.specs.Prelude.{◌≡◌, Bool, ℕ, zero, suc, ◌+◌, ◌*◌, ◌≤◌, ◌<◌, min, max, ltb, ℤ, get_or}
use Rattle.std.proofs.Math.Path.{refl, ap}
use Rattle.std.proofs.Common.{sym, ◌∙◌, arith, length-append}
use Rattle.std.proofs.Math.Bool.{true, false}
use mathlib.Core.List.{List, [], ◌∷◌, ◌++◌, map, map-append, append_assoc, append-nil}
use borrow.Author.Tests.{eqb-true, ltb-true, ltb-false}
use Rattle.std.proofs.Math.Dec.{eqb}
use Rattle.std.proofs.Math.IntN.{+ℤ_comm}
use Rattle.std.proofs.Math.ListN.{length, get_or-append}
use Rattle.lists.specs.Lists.{cases, cons_if}
use Rattle.lists.specs.Search.{items, iter}
use Rattle.lists.specs.IterLaw.{length-items, get_or-items}
use Rattle.lists.specs.ItemsLaw.{items-snoc, items-agree, iter-carries}
use Rattle.lists.specs.PartsLaw.{cons_if-append}
use Rattle.meaning.specs.declared.Node.{Node}
use Rattle.meaning.specs.declared.Place.{Place}
use Rattle.meaning.specs.declared.Tri.{Tri}
use Rattle.meaning.specs.Mesh.{Mesh, Edge, node_of, edge, base, origin}
use Rattle.meaning.specs.Split.{Cutting, halves, new_node, split_at}
use Rattle.meaning.specs.Tables.{node_at, place_at, row_at}
use Rattle.laws.specs.Mean.{mean-swap}
use Rattle.neighbours.specs.Sized.{Corners}
use Rattle.tables.specs.Put.{set_node}
use Rattle.tables.specs.PutLaw.{nodes-table}
use Rattle.notes.specs.declared.Note.{Note}
use Rattle.notes.specs.Notes.{note_at, own_m, own_u, own_v}
use Rattle.notes.specs.NotesLaw.{note-bits}
use Rattle.notes.specs.Met.{met_of, met_at, met_to, after}
use Rattle.notes.specs.MetLaw.{met-none, met-more, after_is, met-le}
use Rattle.nodes.specs.Nodes.{even_between, middle_of, between, place_edge, place_three, place_row}

-- ---- the nodes of a mesh

even-comm : (a b : Place) → even_between a b ≡ even_between b a
unfolding even_between
even-comm a b = rw (+ℤ_comm a.x b.x, +ℤ_comm a.y b.y)

between-comm : (a b : Node) → between a b ≡ between b a
unfolding between middle_of
between-comm a b =
    rw (+ℤ_comm a.place.x b.place.x, +ℤ_comm a.place.y b.place.y, mean-swap a.correction b.correction)

-- m is a mesh whose first n nodes are the table's
module _ (nodes : List ℤ) (n : ℕ) (m : Mesh) (same : (k : ℕ) → k < n → node_of m k ≡ node_at nodes k) where
  -- a function of two nodes, either way round, at the ends of an edge
  either_way : {B : Type 0} (f : Node → Node → B) → ((a b : Node) → f a b ≡ f b a) → (x y : ℕ) → x < n → y < n →
      f (node_of m (min x y)) (node_of m (max x y)) ≡ f (node_at nodes x) (node_at nodes y)
  either_way f comm x y a b = go (ltb y x) refl
    where
      go : (t : Bool) → ltb y x ≡ t → f (node_of m (min x y)) (node_of m (max x y)) ≡ f (node_at nodes x) (node_at nodes y)
      go true e =
          let k = ltb-true y x e in
          let p : min x y ≡ y = omega arith in
          let q : max x y ≡ x = omega arith in
          rw (p, q, same y b, same x a) (comm (node_at nodes y) (node_at nodes x))
      go false e =
          let k = ltb-false y x e in
          let p : min x y ≡ x = omega arith in
          let q : max x y ≡ y = omega arith in
          rw (p, q, same x a, same y b)

  pub halves-is : (x y : ℕ) → x < n → y < n → halves m (edge x y) ≡ even_between (place_at nodes x) (place_at nodes y)
  unfolding even_between
  halves-is = either_way (λ a b. even_between a.place b.place) (λ a b. even-comm a.place b.place)

  new_is : (x y : ℕ) → x < n → y < n → new_node m (edge x y) ≡ between (node_at nodes x) (node_at nodes y)
  unfolding between middle_of
  new_is = either_way between between-comm

  -- ---- nodes is the table at first; now it holds the nodes of es after the old ones

  pub record Holds (es : List Edge) (now : List ℤ) : Type 0 where
    pub long : length now ≡ length nodes
    pub list : items (node_at now) 0 (n + length es) ≡ items (node_at nodes) 0 n ++ map (new_node m) es

  holds-none : Holds [] nodes
  holds-none = record { long = refl; list = let e : n + 0 ≡ n = omega arith in rw (e, append-nil) }

  -- an old node is as it was
  old-node : (es : List Edge) (now : List ℤ) (k : ℕ) → k < n → Holds es now → node_at now k ≡ node_at nodes k
  old-node es now k h d =
      let a : k < n + length es = omega arith in
      let b : k < length (items (node_at nodes) 0 n) = rw (length-items (node_at nodes) n) h in
      sym (get_or-items (node_at now) (n + length es) k origin a)
      ∙ ap (λ l. get_or l k origin) d.list
      ∙ get_or-append (items (node_at nodes) 0 n) (map (new_node m) es) origin k b
      ∙ get_or-items (node_at nodes) n k origin h

  holds_more : (es : List Edge) (now : List ℤ) (k x y : ℕ) → x < n → y < n → k ≡ n + length es → 4 * (k + 1) ≤ length nodes → Holds es now →
      Holds (es ++ (edge x y ∷ [])) (set_node now k (between (node_at now x) (node_at now y)))
  holds_more es now k x y a b e r d =
      let p : Node = between (node_at now x) (node_at now y) in
      let f : p ≡ new_node m (edge x y) = rw (old-node es now x a d, old-node es now y b d) (sym (new_is x y a b)) in
      let g : n + length (es ++ (edge x y ∷ [])) ≡ n + length es + 1 = rw length-append (omega arith) in
      let o = d.long in
      record {
        long = nodes-table.long now k p ∙ d.long;
        list =
            rw g
            (items-snoc (node_at (set_node now k p)) 0 (n + length es) (omega arith)
            ∙ rw (
              items-agree (node_at (set_node now k p)) (node_at now) 0 (n + length es) (λ j u v. nodes-table.other now k j p (omega arith)),
              ← e,
              nodes-table.same now k p (omega arith),
            )
            (ap (λ l. l ++ (p ∷ [])) (ap (items (node_at now) 0) e ∙ d.list)
            ∙ rw (f, map-append (new_node m) es (edge x y ∷ [])) (append_assoc (items (node_at nodes) 0 n) (map (new_node m) es) (new_node m (edge x y) ∷ []))));
      }

  -- an edge, whether it is first met or not
  holds-edge : (es : List Edge) (now : List ℤ) (fst k x y : ℕ) → x < n → y < n → k ≡ n + length es → 4 * (k + fst) ≤ length nodes → Holds es now →
      Holds (es ++ cons_if (eqb fst 1) (edge x y) []) (place_edge fst k x y now)
  unfolding place_edge
  holds-edge es now fst k x y a b e r d = go (eqb fst 1) refl
    where
      go : (t : Bool) → eqb fst 1 ≡ t → Holds (es ++ cons_if t (edge x y) []) (cases t (set_node now k (between (node_at now x) (node_at now y))) now)
      go true f = let g = eqb-true fst 1 f in holds_more es now k x y a b e (omega arith) d
      go false f = rw (append-nil es) d

  length-one : (f : ℕ) (e : Edge) → f ≤ 1 → length (cons_if (eqb f 1) e []) ≡ f
  length-one zero e h = refl
  length-one (suc zero) e h = refl
  length-one (suc (suc f)) e h = absurd (omega arith)

  -- a row: its note goes on from the edges met before
  holds_row : (es : List Edge) (now : List ℤ) (w : Tri) (c : Note) → Corners n w → c.fm ≤ 1 → c.fu ≤ 1 → c.before ≡ length es → 4 * after n c ≤ length nodes →
      Holds es now → Holds (es ++ met_of w c) (place_three n w c now)
  unfolding place_three
  holds_row es now w c o x y e r d =
      let A : List Edge = cons_if (eqb c.fm 1) (base w) [] in
      let B : List Edge = cons_if (eqb c.fu 1) (edge w.p w.q) [] in
      let C : List Edge = cons_if (eqb c.fv 1) (edge w.r w.p) [] in
      let a : length A ≡ c.fm = length-one c.fm (base w) x in
      let b : length B ≡ c.fu = length-one c.fu (edge w.p w.q) y in
      let ea : length (es ++ A) ≡ length es + c.fm = rw (length-append, a) in
      let eb : length ((es ++ A) ++ B) ≡ length es + c.fm + c.fu = rw (length-append, ea, b) in
      let d₁ = holds-edge es now c.fm (own_m n c) w.q w.r o.q-in o.r-in (omega arith) (omega arith) d in
      let d₂ = holds-edge (es ++ A) _ c.fu (own_u n c) w.p w.q o.p-in o.q-in (omega arith) (omega arith) d₁ in
      let d₃ = holds-edge ((es ++ A) ++ B) _ c.fv (own_v n c) w.r w.p o.r-in o.p-in (omega arith) (omega arith) d₂ in
      let f : met_of w c ≡ A ++ (B ++ C) =
      cons_if-append (eqb c.fm 1) (base w) [] _ ∙ ap (λ l. A ++ l) (cons_if-append (eqb c.fu 1) (edge w.p w.q) [] C) in
      let g : es ++ met_of w c ≡ ((es ++ A) ++ B) ++ C = rw f (simp append_assoc) in
      rw g d₃

-- ---- all rows

-- l, s: rows and notes; each note counts the edges first met in lower rows
module _ (nodes : List ℤ) (n : ℕ) (m : Mesh) (same : (k : ℕ) → k < n → node_of m k ≡ node_at nodes k) (l s : List ℕ) (t : ℕ)
    (corners : (i : ℕ) → i < t → Corners n (row_at l i)) (counted : (i : ℕ) → i < t → (note_at s i).before ≡ length (met_to l s i))
    (room : 4 * (n + length (met_to l s t)) ≤ length nodes) where
  -- what place_nodes asks
  pub rooms : (i : ℕ) → i < t → 4 * after n (note_at s i) ≤ length nodes
  rooms i h = let a = after_is l s n i (counted i h) in let b = met-le l s (i + 1) t (omega arith) in omega arith

  turn : (i : ℕ) (now : List ℤ) → i < t → Holds nodes n m same (met_to l s i) now → Holds nodes n m same (met_to l s (i + 1)) (place_row n l s i now)
  unfolding place_row met_at
  turn i now h d =
      let b = note-bits s i in
      rw (met-more l s i)
      (holds_row nodes n m same (met_to l s i) now (row_at l i) (note_at s i) (corners i h) b.fm-bit b.fu-bit (counted i h) (rooms i h) d)

  placed-all : Holds nodes n m same (met_to l s t) (iter (place_row n l s) 0 t nodes)
  placed-all =
      iter-carries (place_row n l s) (λ i now. Holds nodes n m same (met_to l s i) now) t nodes turn
      (rw (met-none l s) (holds-none nodes n m same))

-- the nodes of the tables after are those of the refined mesh, where the notes met the split edges es in order
pub placed-mesh : (nodes : List ℤ) (n : ℕ) (m : Mesh) (es : List Edge) (c : Cutting) (l s : List ℕ) (t : ℕ) → m.nodes ≡ items (node_at nodes) 0 n →
    ((i : ℕ) → i < t → Corners n (row_at l i)) → ((i : ℕ) → i < t → (note_at s i).before ≡ length (met_to l s i)) → met_to l s t ≡ es →
    4 * (n + length es) ≤ length nodes →
    items (node_at (iter (place_row n l s) 0 t nodes)) 0 (n + length es) ≡ (split_at c m es).nodes
unfolding split_at
placed-mesh nodes n m es c l s t e corners counted f room =
    let same : (k : ℕ) → k < n → node_of m k ≡ node_at nodes k = λ k h. ap (λ q. get_or q k origin) e ∙ get_or-items (node_at nodes) n k origin h in
    let d = placed-all nodes n m same l s t corners counted (rw f room) in
    rw (← f) (d.list ∙ ap (λ q. q ++ map (new_node m) (met_to l s t)) (sym e))
