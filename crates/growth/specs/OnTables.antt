-- Calls on tables that hold a mesh grown from a base: they keep that, the tables' lengths, and that the counts fit; and what a full pass
-- and a restore then do. Assumes nothing.
use Rattle.std.specs.Prelude.{Bool, true, false, ◌≡◌, refl, ℕ, ◌+◌, ◌*◌, ◌≤◌, ◌<◌, leb, ℤ, length}
use mathlib.Core.List.{List}
use Rattle.std.proofs.Common.{sym, subst, ap, ◌∙◌, arith, leb-true, leb-false}
use Rattle.std.proofs.Math.Path.{subst₂, ap₂}
use Rattle.std.proofs.Math.ListN.{replicate}
use Rattle.lists.specs.Lists.{cases}
use Rattle.meaning.specs.declared.Correction.{Correction}
use Rattle.meaning.specs.Mesh.{Mesh}
use Rattle.meaning.specs.Lawful.{refusal}
use Rattle.meaning.specs.Split.{Way, bisected, refined}
use Rattle.meaning.specs.Coarsen.{coarsened, pass, restored}
use Rattle.meaning.specs.Setting.{corrected, set_fault}
use Rattle.meaning.specs.Tables.{Given, given, node_form, row_form, mesh_of, room_of}
use Rattle.meaning.specs.Calls.{check_no, sizes_fit, done, check_out, refine_out, coarsen_out, restore_out, set_out}
use Rattle.laws.specs.Lawful.{lawful-refusal}
use Rattle.laws.specs.Marks.{ones-fit}
use Rattle.laws.specs.Cut.{CutLaws}
use Rattle.laws.specs.Bisected.{bisected-laws}
use Rattle.laws.specs.Refine.{refine-done}
use Rattle.laws.specs.Coarsen.{coarsened-gone}
use Rattle.laws.specs.Restore.{ones-mark-all, restored-passes}
use Rattle.laws.specs.CoarsenCalls.{coarsen-0}
use Rattle.growth.specs.GrownFrom.{GrownFrom, from-checked}
use Rattle.growth.specs.Coarsening.{from-coarsened}
use Rattle.growth.specs.Refining.{from-refine}
use Rattle.growth.specs.Correcting.{from-set}
use Rattle.growth.specs.Restoring.{pass-removes, restored-base}
use Rattle.laws.specs.Setting.{corrected-count, corrected-places}
use Rattle.laws.specs.TableMesh.{Fits, nodes-count, rows-count, tables_after, done-mesh, done-nodes, done-rows}
use Rattle.laws.specs.CallLaw.{Sizes, sizes-exact, sizes-unfit, sizes-again, check-leaves, refine-leaves, coarsen-leaves, restore-leaves, set-leaves}

-- What the tables have, whatever calls left them.
pub record GrownTables (g₀ g : Given) : Type 0 where
  pub grown : GrownFrom (mesh_of g₀) (mesh_of g)
  pub fit : Fits g
  pub nodes-length : length g.nodes ≡ length g₀.nodes
  pub rows-kept : length g.rows ≡ length g₀.rows

module _ (g₀ : Given) (ok : (check_out g₀).answer.number ≡ 0) where
  abbrev base : Mesh
  base = mesh_of g₀

  passed : Sizes g₀ 0 × (check_no (mesh_of g₀) ≡ 0)
  passed = go (sizes_fit g₀ 0) refl (sym (check-leaves g₀).check-number ∙ ok)
    where
      go : (b : Bool) → sizes_fit g₀ 0 ≡ b → cases b (check_no (mesh_of g₀)) 1 ≡ 0 → Sizes g₀ 0 × (check_no (mesh_of g₀) ≡ 0)
      go true q e = ((sizes-exact g₀ 0).0 q, e)
      go false q e = absurd (omega arith)

  sizes₀ : Sizes g₀ 0
  sizes₀ = passed.0

  B : GrownFrom base base
  B = from-checked base passed.1

  pub fit₀ : Fits g₀
  fit₀ = let s = sizes₀ in record { nodes-fit = omega (arith, s.n-fits); rows_fit = omega (arith, s.t-fits) }

  -- An accepted call leaves a mesh that is grown from the base, if it fits.
  tables-done : (g : Given) → GrownTables g₀ g → (m : Mesh) (k : ℕ) → GrownFrom base m → node_form.width * length m.nodes ≤ length g.nodes → row_form.width * length m.tris ≤ length g.rows →
      GrownTables g₀ (tables_after (done g m k))
  tables-done g h m k G a b = record {
    grown = subst (GrownFrom base) (sym (done-mesh g m k)) G;
    fit = record { nodes-fit = omega (arith, done-nodes g m k a b); rows_fit = omega (arith, done-rows g m k a b) };
    nodes-length = done-nodes g m k a b ∙ h.nodes-length;
    rows-kept = done-rows g m k a b ∙ h.rows-kept;
  }

  pub tables-begin : GrownTables g₀ g₀
  tables-begin = record { grown = B; fit = fit₀; nodes-length = refl; rows-kept = refl }

  -- Tables as they were, with any scratch.
  pub tables-same : (g : Given) → GrownTables g₀ g → (ns : List ℤ) (rs s : List ℕ) → ns ≡ g.nodes → rs ≡ g.rows → GrownTables g₀ (given ns rs s g.n g.t)
  unfolding mesh_of
  tables-same g h ns rs s e f =
      subst₂ (λ (ns : List ℤ) (rs : List ℕ). GrownTables g₀ (given ns rs s g.n g.t)) (sym e) (sym f)
      (record { grown = h.grown; fit = record { nodes-fit = h.fit.nodes-fit; rows_fit = h.fit.rows_fit }; nodes-length = h.nodes-length; rows-kept = h.rows-kept })

  pub tables-refine : (g : Given) → GrownTables g₀ g → (w : Way) → w.cutting ≡ bisected → (marks : List ℕ) → (refine_out w g g₀.n marks).answer.number ≡ 0 →
      GrownTables g₀ (tables_after (refine_out w g g₀.n marks))
  tables-refine g h w cuts marks e =
      let c = refine-leaves g g₀.n w marks in
      let z = (c.sized-and-0 e).1 in
      let f = (refine-done w (subst CutLaws (sym cuts) bisected-laws) (room_of g) (mesh_of g) marks z).fit in
      rw (c.done-is e)
      (tables-done g h (refined w (mesh_of g) marks) 0 (from-refine base (mesh_of g) h.grown w cuts (room_of g) marks z) (omega (arith, f.nodes-fit)) (omega (arith, f.rows_fit)))

  coarsen-keeps : (m : Mesh) → GrownFrom base m → (marks : List ℕ) → GrownFrom base (coarsened g₀.n m marks)
  coarsen-keeps m G marks = subst (λ (j : ℕ). GrownFrom base (coarsened j m marks)) (nodes-count g₀) (from-coarsened base m G marks)

  coarsen-fits : (g : Given) → GrownTables g₀ g → (marks : List ℕ) →
      (node_form.width * length (coarsened g₀.n (mesh_of g) marks).nodes ≤ length g.nodes) × (row_form.width * length (coarsened g₀.n (mesh_of g) marks).tris ≤ length g.rows)
  coarsen-fits g h marks =
      let c = coarsened-gone g₀.n (mesh_of g) marks h.grown.lawful in
      (omega (arith, c.node-count, nodes-count g, h.fit.nodes-fit), omega (arith, c.row_count, rows-count g, h.fit.rows_fit))

  pub tables-coarsen : (g : Given) → GrownTables g₀ g → (marks : List ℕ) → (coarsen_out g g₀.n marks).answer.number ≡ 0 → GrownTables g₀ (tables_after (coarsen_out g g₀.n marks))
  tables-coarsen g h marks e =
      let (a, b) = coarsen-fits g h marks in
      rw ((coarsen-leaves g g₀.n marks).done-is e) (tables-done g h (coarsened g₀.n (mesh_of g) marks) 0 (coarsen-keeps (mesh_of g) h.grown marks) a b)

  -- W5: "accepted settings made with the base's node count"
  pub tables-set : (g : Given) → GrownTables g₀ g → (z : ℕ) (c : Correction) → (set_out g g₀.n z c).answer.number ≡ 0 → GrownTables g₀ (tables_after (set_out g g₀.n z c))
  tables-set g h z c e =
      let l = set-leaves g g₀.n z c in
      let G = subst (λ (j : ℕ). (set_fault j (mesh_of g) z c).number ≡ 0 → GrownFrom base (corrected (mesh_of g) z c)) (nodes-count g₀) (from-set base (mesh_of g) h.grown z c) in
      let k = corrected-count (mesh_of g) z c in
      let r = ap length (corrected-places (mesh_of g) z c).rows_same in
      rw (l.done-is e)
      (tables-done g h (corrected (mesh_of g) z c) 0 (G (l.sized-and-0 e).1) (omega (arith, k, nodes-count g, h.fit.nodes-fit)) (omega (arith, r, rows-count g, h.fit.rows_fit)))

  pub end-here : (g : Given) → GrownTables g₀ g → (restored g₀.n (mesh_of g)).end ≡ base
  end-here g h = subst (λ (j : ℕ). (restored j (mesh_of g)).end ≡ base) (nodes-count g₀) (restored-base base h.grown)

  pub tables-restore : (g : Given) → GrownTables g₀ g → (restore_out g g₀.n).answer.number ≡ 0 → GrownTables g₀ (tables_after (restore_out g g₀.n))
  tables-restore g h e =
      let f = fit₀ in
      rw ((restore-leaves g g₀.n).done-is e, end-here g h)
      (tables-done g h base (restored g₀.n (mesh_of g)).passes B (omega (arith, nodes-count g₀, f.nodes-fit, h.nodes-length)) (omega (arith, rows-count g₀, f.rows_fit, h.rows-kept)))

  -- ---- what follows of such tables

  module _ (g : Given) (H : GrownTables g₀ g) where
    lawful : refusal (mesh_of g) ≡ 0
    lawful = lawful-refusal (mesh_of g) H.grown.lawful

    -- sizes can only fail by scratch
    pub tables-sizes : sizes_fit g g₀.n ≡ leb (4 * ((room_of g₀).nodes + (room_of g₀).rows)) (length g.scratch)
    tables-sizes = go (leb (4 * ((room_of g₀).nodes + (room_of g₀).rows)) (length g.scratch)) refl
      where
        go : (b : Bool) → leb (4 * ((room_of g₀).nodes + (room_of g₀).rows)) (length g.scratch) ≡ b → sizes_fit g g₀.n ≡ b
        go true q =
            (sizes-exact g g₀.n).1
            (sizes-again sizes₀ H.nodes-length H.rows-kept H.fit.nodes-fit H.fit.rows_fit (omega (arith, H.grown.grown.enough, nodes-count g, nodes-count g₀)) (leb-true _ _ q))
        go false q =
            let short = leb-false (4 * ((room_of g₀).nodes + (room_of g₀).rows)) (length g.scratch) q in
            (sizes-unfit g g₀.n).1 (λ s. let room = rw (H.nodes-length, H.rows-kept) at s.scratch-fits in omega arith)

    -- restore
    pub restore-number : (restore_out g g₀.n).answer.number ≡ cases (sizes_fit g g₀.n) 0 1
    restore-number = (restore-leaves g g₀.n).number-said ∙ rw lawful

    pub restore-leaves-base : sizes_fit g g₀.n ≡ true → restore_out g g₀.n ≡ done g (mesh_of g₀) (restored g₀.n (mesh_of g)).passes
    restore-leaves-base e = (restore-leaves g g₀.n).done-is (restore-number ∙ rw e) ∙ rw (end-here g H)

    pub tables-passes : (restored g₀.n (mesh_of g)).passes + g₀.n ≤ g.n
    tables-passes =
        subst (λ (j : ℕ). (restored j (mesh_of g)).passes + j ≤ g.n) (nodes-count g₀)
        (omega (arith, restored-passes (length base.nodes) (mesh_of g) H.grown.lawful H.grown.grown.enough, nodes-count g))

    -- a full pass
    pub pass-done : sizes_fit g g₀.n ≡ true → coarsen_out g g₀.n (replicate g.n 1) ≡ done g (pass (length (mesh_of g₀).nodes) (mesh_of g)) 0
    unfolding pass
    pass-done e =
        let c = coarsen-leaves g g₀.n (replicate g.n 1) in
        let z = (coarsen-0 (mesh_of g) (replicate g.n 1)).1 (rw (nodes-count g) (ones-fit g.n), H.grown.lawful) in
        c.done-is (c.number-said ∙ rw e z)
        ∙ ap₂ (λ (j : ℕ) (l : List ℕ). done g (coarsened j (mesh_of g) l) 0) (sym (nodes-count g₀)) (ap (λ (n : ℕ). replicate n 1) (sym (nodes-count g)) ∙ ones-mark-all (mesh_of g).nodes)

    pub pass-less : g₀.n < g.n → length (pass (length (mesh_of g₀).nodes) (mesh_of g)).nodes < g.n
    pass-less more = omega (arith, pass-removes base H.grown (omega (arith, nodes-count g, nodes-count g₀)), nodes-count g)
