-- The steps of refine, in any manner, in the form of their needs. All is read off the notes: whether 8 or 9 applies, the counts after, the nodes and
-- the rows. The notes tell the split edges of document 01 (`SplitNotes`), so what is carried out is its refined mesh. Assumes nothing.
use Rattle.std.specs.Prelude.{◌≡◌, Bool, not, ◌&&◌, ◌||◌, List, ℕ, zero, suc, ◌+◌, ◌*◌, ◌/◌, ◌≤◌, ◌<◌, ltb, leb, ℤ, pos, get_or, replicate, is_some, Result, Ok, Err, IfOk}
use Rattle.std.proofs.Math.Path.{refl, sym, ap, subst}
use Rattle.std.proofs.Common.{◌∙◌, leb-true, leb-false, le-ltb, lt-ltb, get_or-take}
use Rattle.std.proofs.Math.Bool.{true, false}
use native.Mathlib.Omega.{arith}
use Rattle.std.proofs.Math.ListN.{length, length-append}
use Rattle.std.proofs.lemmas.List.{length-map, get_or-replicate}
use Rattle.lists.specs.Lists.{all, cases}
use Rattle.lists.specs.ListsLaw.{and_left, and_right}
use Rattle.lists.specs.Search.{lowest, items, iter}
use Rattle.lists.specs.IterLaw.{length-items, get_or-items}
use Rattle.lists.specs.ItemsLaw.{sum_to}
use Rattle.meaning.specs.declared.Manner.{Manner}
use Rattle.meaning.specs.declared.Quarters.{Quarters}
use Rattle.meaning.specs.declared.Node.{Node}
use Rattle.meaning.specs.declared.Answer.{Answer}
use Rattle.meaning.specs.Fault.{Fault}
use Rattle.meaning.specs.declared.Tinted.{Tinted}
use Rattle.meaning.specs.Mesh.{Mesh, Edge, node_of, origin}
use Rattle.meaning.specs.Lawful.{Named, fault}
use Rattle.meaning.specs.Split.{cutting_of, split_edges, split_at, split, way_of, refined, halves}
use Rattle.meaning.specs.Tables.{Given, given, Outcome, outcome, answer, room_of, mesh_of, row_at, node_at, flat_nodes, flat_rows, filled}
use Rattle.meaning.specs.Calls.{unless, refine_no, refines, refine_out, TintedOut, tinted, if_done, refine_by_out}
use Rattle.refusals.specs.declared.Refusal.{Refusal}
use Rattle.refusals.specs.declared.Refusal.TheVariants.{Odd, Full}
use Rattle.refusals.specs.Refusals.{fault_in, verdict}
use Rattle.neighbours.specs.Sized.{Corners, index_at}
use Rattle.neighbours.specs.Ready.{Ready}
use Rattle.laws.specs.Meshes.{Standing, mesh_at, row-stands}
use Rattle.laws.specs.RedTold.{but-for-the-field}
use Rattle.nodes.specs.Nodes.{odd_at, place_row}
use Rattle.nodes.specs.OddLaw.{odd-found}
use Rattle.nodes.specs.PlacedLaw.{placed-mesh, rooms}
use Rattle.close.specs.Drawn.{closed_notes}
use Rattle.close.specs.EdgeLaw.{lawful-named}
use Rattle.close.specs.CloseLaw.{is_split}
use Rattle.close.specs.DrawLaw.{ready-closed}
use Rattle.number.specs.Numbered.{numbers, number_row}
use Rattle.number.specs.NumberStep.{ready-numbered}
use Rattle.number.specs.SplitLaw.{SplitNotes, split-notes, split-length}
use Rattle.cut.specs.Cutting.{cut_at, cut_all, splits, red_at}
use Rattle.cut.specs.MeshLaw.{cut-mesh, count-rows, count-mesh, red-mesh}
use Rattle.refining.specs.declared.Plan.{Plan}
use Rattle.judging.specs.Judge.{mesh_in, early, Admitted}
use Rattle.judging.specs.Leaving.{late_out, leaves-refused, leaves-refused-late, leaves-done, leaves-same, call-out, numbered}
use Rattle.refining.specs.Refine.{split_in, after_in, red_in, fits_in, plan_of, weighed, Weighty, late_number, Pair, both_tables, carried, Planned, with_red, said_in, left_in}

-- ---- the notes of a lawful mesh: what `close` and `number` ask for, then what their notes tell of 8, 9 and the plan

short-fits : (a b c d : ℕ) → ltb c a || ltb d b ≡ not (leb a c && leb b d)
short-fits a b c d = go (leb a c) refl (leb b d) refl
  where
    go : (x : Bool) → leb a c ≡ x → (y : Bool) → leb b d ≡ y → ltb c a || ltb d b ≡ not (x && y)
    go true e true f = rw (le-ltb c a (leb-true a c e), le-ltb d b (leb-true b d f))
    go true e false f = rw (le-ltb c a (leb-true a c e), lt-ltb d b (leb-false b d f))
    go false e y f = rw (lt-ltb c a (leb-false a c e))

module _ (how : Manner) (nodes : List ℤ) (rows s₀ marks : List ℕ) (n t : ℕ) (R : Admitted nodes rows s₀ marks t n t) where
  abbrev ns : List Node
  ns = items (node_at nodes) 0 n

  abbrev m : Mesh
  m = mesh_in nodes rows n t

  clear : (x : ℕ) → x < t → get_or s₀ x 0 ≡ 0
  clear x h =
      let b : x < index_at (length nodes / 4) (length rows) = (let r = R.rows_fit in omega arith) in
      sym (get_or-take (index_at (length nodes / 4) (length rows)) s₀ x 0 b) ∙ ap (λ (v : List ℕ). get_or v x 0) R.notes
      ∙ get_or-replicate (index_at (length nodes / 4) (length rows)) x 0 0 b

  nodes-in-table : length ns ≡ n
  nodes-in-table = length-items (node_at nodes) n

  pub notes-fit : t ≤ length s₀
  notes-fit = let a = R.sizes in let b = R.rows_fit in omega arith

  few-numbers : 3 * t ≤ 16_777_216
  few-numbers = let a = R.sizes in let b = R.rows_fit in omega arith

  corners : (i : ℕ) → i < t → Corners n (row_at rows i)
  corners i h =
      let a : Named (length ns) (row_at rows i) = lawful-named ns rows t R.law i h in
      let b = nodes-in-table in
      record { p-in = omega arith; q-in = omega arith; r-in = omega arith }

  some-node : (i : ℕ) → i < t → 0 < n
  some-node i h = let a = corners i h in omega arith

  node-same : (k : ℕ) → k < n → node_of m k ≡ node_at nodes k
  node-same k h = get_or-items (node_at nodes) n k origin h

  pub rows-standing : (i : ℕ) → i < t → Standing nodes (row_at rows i)
  unfolding mesh_at
  rows-standing = row-stands nodes rows n t R.law R.nodes-fit

  -- s₁ after close, s₂ and k after number
  module _ (s₁ s₂ : List ℕ) (k : ℕ) (e₁ : s₁ ≡ closed_notes how rows t marks s₀) (e₂ : numbers s₂ k ≡ iter (number_row rows t) 0 t (numbers s₁ 0)) where
    abbrev es : List Edge
    es = split_in how nodes rows marks n t

    N : SplitNotes n rows t es (is_split how rows t marks) s₂ k
    N = split-notes how ns rows t R.law marks s₀ notes-fit clear few-numbers s₁ s₂ n k e₁ e₂ nodes-in-table

    same_length : length s₂ ≡ length s₀
    same_length = split-length how ns rows t R.law marks s₀ notes-fit clear few-numbers s₁ s₂ n k e₁ e₂

    -- 8
    odd-as-said : is_some (lowest (odd_at nodes rows s₂) 0 t) ≡ not (all (halves m) es)
    unfolding split_edges
    odd-as-said = odd-found nodes n m node-same (is_split how rows t marks) rows s₂ t corners N.member-said

    pub weighty : Weighty nodes rows s₂ n t k
    weighty =
        let a = R.sizes in
        let b = R.rows_fit in
        let c = R.nodes-fit in
        let d = same_length in
        let e = notes-fit in
        let f = N.few in
        record { rows_fit = R.rows_fit; notes-fit = omega arith; few-rows = omega arith; few-nodes = omega arith; standing = rows-standing }

    ready-after : Ready s₂ (length nodes / 4) rows t
    ready-after = ready-numbered rows s₁ s₂ (length nodes / 4) t k R.rows_fit (ready-closed rows s₀ s₁ (length nodes / 4) t R.rows_fit R.ready how marks e₁) e₂

    -- however a triangle with all three edges split is cut
    module _ (q : Quarters) where
      -- the counts after
      after-nodes : length (after_in how q nodes rows marks n t).nodes ≡ n + k
      unfolding refined split split_at
      after-nodes = length-append ns _ ∙ rw (length-map, nodes-in-table, ← N.counted)

      after-rows : length (after_in how q nodes rows marks n t).tris ≡ t + sum_to (splits s₂) t
      unfolding refined split
      after-rows = sym (count-mesh q m es n rows s₂ t nodes-in-table refl some-node N.mids N.split-said N.pulled)

      -- 9
      short-is : ltb (length nodes / 4) (n + k) || ltb (length rows / 3) (t + sum_to (splits s₂) t) ≡
          not (fits_in how q nodes rows marks n t)
      short-is = short-fits (n + k) (t + sum_to (splits s₂) t) (length nodes / 4) (length rows / 3) ∙ rw (after-nodes, after-rows)

      chain : (a b : Bool) (x y z : ℕ) → verdict (cases (not a) (Err Odd) (cases (not b) (Err Full) (Ok (plan_of x y z)))) ≡ fault (unless a 8 (unless b 9 0)) 0
      chain true true x y z = refl
      chain true false x y z = refl
      chain false b x y z = refl

      pub late-verdict : (r : Result Plan Refusal) → r ≡ weighed q nodes rows s₂ n t k → verdict r ≡ fault (late_number how q nodes rows marks n t) 0
      unfolding weighed late_number
      late-verdict r e = ap verdict e ∙ rw (odd-as-said, short-is) (chain (all (halves m) es) (fits_in how q nodes rows marks n t) (n + k) (t + sum_to (splits s₂) t) (red_at q s₂ t))

      -- with room for all, the plan can be carried out
      room-both : fits_in how q nodes rows marks n t ≡ true → (n + k ≤ length nodes / 4) × (t + sum_to (splits s₂) t ≤ length rows / 3)
      room-both e =
          let a = leb (length (after_in how q nodes rows marks n t).nodes) (length nodes / 4) in
          let b = leb (length (after_in how q nodes rows marks n t).tris) (length rows / 3) in
          let f : length (after_in how q nodes rows marks n t).nodes ≤ length nodes / 4 = leb-true (length (after_in how q nodes rows marks n t).nodes) (length nodes / 4) (and_left a b e) in
          let g : length (after_in how q nodes rows marks n t).tris ≤ length rows / 3 = leb-true (length (after_in how q nodes rows marks n t).tris) (length rows / 3) (and_right a b e) in
          (rw after-nodes at f, rw after-rows at g)

      room-plan : Ready s₂ (length nodes / 4) rows t → fits_in how q nodes rows marks n t ≡ true →
          Planned how q nodes rows s₂ marks n t (n + k) (t + sum_to (splits s₂) t) (red_at q s₂ t)
      unfolding refined split
      room-plan ready e =
          let both = room-both e in
          let nc = N.counted in
          let z = R.sizes in
          let nf = R.nodes-fit in
          let rf = R.rows_fit in
          let sl = same_length in
          let tf = notes-fit in
          let room : 4 * (n + length es) ≤ length nodes = omega arith in
          record {
            carry = record {
              few-nodes = omega arith;
              rows_fit = R.rows_fit;
              notes-fit = omega arith;
              standing = rows-standing;
              room = rooms nodes n m node-same rows s₂ t corners N.before (rw N.met room);
              ready = ready;
              count = count-rows q m es n rows s₂ t nodes-in-table refl some-node N.mids N.split-said N.pulled;
              rows-room = omega arith;
              nodes-room = omega arith;
            };
            nodes-are = subst (λ (x : ℕ). items (node_at (iter (place_row n rows s₂) 0 t nodes)) 0 (n + x) ≡ (split_at (cutting_of q) m es).nodes) (sym nc)
                (placed-mesh nodes n m es (cutting_of q) rows s₂ t refl corners N.before N.met room);
            rows_are = cut-mesh q m es n rows s₂ t nodes-in-table refl some-node N.mids;
            nodes-after = sym after-nodes;
            rows-after = sym after-rows;
            red-is = red-mesh q es rows s₂ t N.split-said;
          }

      abbrev planned_in : Result Plan Refusal → Type 0
      planned_in r = IfOk r (λ (p : Plan). Planned how q nodes rows s₂ marks n t p.after.n p.after.t p.red)

      pub late-plan : (r : Result Plan Refusal) → r ≡ weighed q nodes rows s₂ n t k → planned_in r
      unfolding weighed
      late-plan r e =
          subst planned_in (sym e)
          (rw (odd-as-said, short-is) (go (all (halves m) es) (fits_in how q nodes rows marks n t) refl))
        where
          go : (a b : Bool) → fits_in how q nodes rows marks n t ≡ b →
              planned_in (cases (not a) (Err Odd) (cases (not b) (Err Full) (Ok (plan_of (n + k) (t + sum_to (splits s₂) t) (red_at q s₂ t)))))
          go true true g = room-plan ready-after g
          go true false g = tt
          go false b g = tt

  pub closed-ready : (s₁ : List ℕ) → s₁ ≡ closed_notes how rows t marks s₀ → Ready s₁ (length nodes / 4) rows t
  closed-ready s₁ e = ready-closed rows s₀ s₁ (length nodes / 4) t R.rows_fit R.ready how marks e

-- ---- the work: a, b after placing and cutting; c, d after the rest is cleared

pub carry-done : (q : Quarters) (nodes a c : List ℤ) (rows b d s : List ℕ) (n t n1 t1 : ℕ) → a ≡ iter (place_row n rows s) 0 t nodes → length a ≡ length nodes →
    items (row_at b) 0 t1 ≡ cut_all (items (cut_at q n rows s) 0 t) → length b ≡ length rows → c ≡ filled (pos 0) (length a) (flat_nodes (items (node_at a) 0 n1)) →
    d ≡ filled 0 (length b) (flat_rows (items (row_at b) 0 t1)) → both_tables c d ≡ carried q nodes rows s n t n1
unfolding carried
carry-done q nodes a c rows b d s n t n1 t1 p la r lb fc fd = rw (fc, fd, r, la, lb, p)

-- ---- what the call leaves

-- an outcome of refine with its field
by_out : (how : Manner) (q : Quarters) (nodes a : List ℤ) (rows b s s₁ marks : List ℕ) (n0 n t : ℕ) (r : Answer) (x : ℕ) →
    outcome r a b s₁ ≡ refine_out (way_of how q) (given nodes rows s n t) n0 marks → x ≡ if_done r.number (red_in how q nodes rows marks n t) →
    tinted (outcome r a b s₁) x ≡ refine_by_out how q (given nodes rows s n t) n0 marks
unfolding refine_by_out mesh_of
by_out how q nodes a rows b s s₁ marks n0 n t r x e f = rw (f, ← e)

refused-field : (j x : ℕ) → (j ≡ 0 → ⊥) → 0 ≡ if_done j x
refused-field zero x o = absurd (o refl)
refused-field (suc j) x o = refl

-- f is what was judged first, k what was judged at last
module _ (how : Manner) (q : Quarters) (nodes : List ℤ) (rows s marks : List ℕ) (n0 n t : ℕ) (z : s ≡ replicate (length s) 0) (f : Fault) (e : f ≡ early (given nodes rows s n t) n0 t marks) where
  pub refine-out : late_out (given nodes rows s n t) n0 t marks (late_number how q nodes rows marks n t) (after_in how q nodes rows marks n t) ≡ refine_out (way_of how q) (given nodes rows s n t) n0 marks
  unfolding refine_out refines refine_no late_number mesh_of
  refine-out = rw (length-items (row_at rows) t)

  pub refused-by : (r : Tinted) (j c : ℕ) → (j ≡ 0 → ⊥) → r ≡ with_red (answer j n t 0 c) 0 → outcome r.answer nodes rows s ≡ refine_out (way_of how q) (given nodes rows s n t) n0 marks →
      tinted (outcome r.answer nodes rows s) r.red ≡ refine_by_out how q (given nodes rows s n t) n0 marks
  refused-by r j c o h g = by_out how q nodes nodes rows rows s s marks n0 n t r.answer r.red g (rw h (refused-field j (red_in how q nodes rows marks n t) o))

  pub work-refused : (x : Refusal) → f ≡ fault_in x → left_in (Err x) nodes rows s n t ≡ refine_by_out how q (given nodes rows s n t) n0 marks
  work-refused x d =
      let r : Tinted = said_in (Err x) n t in
      let o : f.number ≡ 0 → ⊥ = λ z. numbered x (ap (λ (y : Fault). y.number) (sym d) ∙ z) in
      let h : r ≡ with_red (answer f.number n t 0 f.at) 0 = rw d in
      refused-by r f.number f.at o h (leaves-refused nodes rows s marks n0 n t t _ _ z f e r.answer o (ap (λ (y : Tinted). y.answer) h) ∙ refine-out)

  module _ (y : f.number ≡ 0) (v : Fault) (d : v ≡ fault (late_number how q nodes rows marks n t) 0) where
    late-is : v.number ≡ late_number how q nodes rows marks n t
    late-is = ap (λ (x : Fault). x.number) d

    pub work-refused-late : (x : Refusal) → v ≡ fault_in x → left_in (Err x) nodes rows s n t ≡ refine_by_out how q (given nodes rows s n t) n0 marks
    work-refused-late x w =
        let r : Tinted = said_in (Err x) n t in
        let o : v.number ≡ 0 → ⊥ = λ z. numbered x (ap (λ (y : Fault). y.number) (sym w) ∙ z) in
        let g : (fault_in x).at ≡ 0 = ap (λ (y : Fault). y.at) (sym w ∙ d) in
        let h : r ≡ with_red (answer v.number n t 0 0) 0 = rw (w, ← g) in
        refused-by r v.number 0 o h (leaves-refused-late nodes rows s marks n0 n t t _ _ z f e y r.answer v.number late-is o (ap (λ (y : Tinted). y.answer) h) ∙ refine-out)

    pub work-done : (a : List ℤ) (b s' : List ℕ) (p : Plan) → v.number ≡ 0 → Planned how q nodes rows s' marks n t p.after.n p.after.t p.red →
        both_tables a b ≡ carried q nodes rows s' n t p.after.n → left_in (Ok p) a b s n t ≡ refine_by_out how q (given nodes rows s n t) n0 marks
    unfolding carried
    work-done a b s' p o d' g =
        let r : Answer = answer 0 p.after.n p.after.t 0 0 in
        by_out how q nodes a rows b s s marks n0 n t r p.red
        (leaves-done nodes rows s marks n0 n t t _ (after_in how q nodes rows marks n t) z f e y r a b p.after.n p.after.t (sym late-is ∙ o) d'.nodes-after d'.rows-after
        (ap (λ (y : Pair). y.nodes) g ∙ ap (λ v. filled (pos 0) (length nodes) (flat_nodes v)) d'.nodes-are)
        (ap (λ (y : Pair). y.rows) g ∙ ap (λ v. filled 0 (length rows) (flat_rows v)) d'.rows_are) refl
        ∙ refine-out)
        d'.red-is

-- `but-for-the-field`, as calls need it
pub plainly : (how : Manner) (q : Quarters) (g : Given) (n0 : ℕ) (marks : List ℕ) (o : Outcome) (x : ℕ) → tinted o x ≡ refine_by_out how q g n0 marks → o ≡ refine_out (way_of how q) g n0 marks
plainly how q g n0 marks o x = but-for-the-field how q g n0 marks (tinted o x)

-- scratch before the call does not matter, but for its length
module _ (how : Manner) (q : Quarters) (nodes a : List ℤ) (rows b s s₁ s₂ marks : List ℕ) (n0 n t len : ℕ) where
  refined-out : (r : Answer) → s₁ ≡ replicate (length s) 0 → outcome r a b s₁ ≡ refine_out (way_of how q) (given nodes rows s₁ n t) n0 marks →
      s₂ ≡ replicate len 0 → len ≡ length s₁ → outcome r a b s₂ ≡ refine_out (way_of how q) (given nodes rows s n t) n0 marks
  unfolding refine_out mesh_of
  refined-out r p =
      call-out s s₁ p (λ x. refine_out (way_of how q) (given nodes rows x n t) n0 marks)
      (λ x x' e. leaves-same nodes rows x x' n0 n t e (refines (way_of how q) (room_of (given nodes rows s n t)) (mesh_in nodes rows n t) marks)) r a b s₂ len

  pub refined-call : (r : Tinted) → s₁ ≡ replicate (length s) 0 → tinted (outcome r.answer a b s₁) r.red ≡ refine_by_out how q (given nodes rows s₁ n t) n0 marks →
      s₂ ≡ replicate len 0 → len ≡ length s₁ → tinted (outcome r.answer a b s₂) r.red ≡ refine_by_out how q (given nodes rows s n t) n0 marks
  unfolding refine_by_out mesh_of
  refined-call r p e d c =
      let o = plainly how q (given nodes rows s₁ n t) n0 marks (outcome r.answer a b s₁) r.red e in
      by_out how q nodes a rows b s s₂ marks n0 n t r.answer r.red (refined-out r.answer p o d c)
      (ap (λ (y : TintedOut). y.red) e ∙ rw (← o))
