-- DEMAND 3: from a lawful base with a compatible labelling, whatever refine, coarsen and set calls did, a full pass removes a node while added
-- nodes remain, and restore ends with the base, row for row. Of meshes, and of the tables that a caller lends. Assumes nothing.
use Rattle.std.specs.Prelude.{true, List, ◌≢◌, ◌≡◌, leb, pos, length, take, replicate}
use Rattle.std.proofs.Math.Path.{refl, subst}
use Rattle.std.proofs.Common.{sym, ap, ◌∙◌}
use Prim.Native.Nat.{ℕ, zero, suc, ◌+◌, ◌*◌, ◌≤◌, ◌<◌}
use Rattle.lists.specs.Lists.{cases}
use Rattle.meaning.specs.declared.Correction.{Correction}
use Rattle.meaning.specs.Mesh.{Mesh}
use Rattle.meaning.specs.Lawful.{refusal}
use Rattle.meaning.specs.Split.{Way, bisected, refined}
use Rattle.meaning.specs.Coarsen.{coarsened, pass, Restored, restored}
use Rattle.meaning.specs.Setting.{corrected, set_fault}
use Rattle.meaning.specs.Tables.{Given, Outcome, Room, given, outcome, answer, node_form, row_form, mesh_of, room_of, filled, cleared}
use Rattle.meaning.specs.Calls.{says_of, says, check_no, refine_no, coarsen_no, refines, coarsens, restores, sets, sizes_fit, check_out, refine_out, coarsen_out, restore_out, set_out}
use Rattle.laws.specs.Lawful.{lawful-refusal}
use Rattle.laws.specs.Restore.{Passes, none-good, one-pass, pass-fewer, restored-is, restored-passes}
use Rattle.growth.specs.GrownFrom.{GrownFrom, from-checked}
use Rattle.growth.specs.Coarsening.{from-coarsened}
use Rattle.growth.specs.Refining.{from-refine}
use Rattle.growth.specs.Correcting.{from-set}
use Rattle.growth.specs.Restoring.{pass-removes, restored-base}
use Rattle.laws.specs.TableMesh.{nodes-count, rows-count, written, tables_after, done-mesh}
use Rattle.laws.specs.CallLaw.{AsGiven, check-leaves, refine-leaves, coarsen-leaves, restore-leaves, set-leaves}
use Rattle.growth.specs.OnTables.{GrownTables, fit₀, tables-begin, tables-same, tables-refine, tables-coarsen, tables-set, tables-restore, tables-sizes, restore-number, restore-leaves-base, tables-passes, end-here, pass-done, pass-less}

-- ---- passes

-- From m so many full passes, each of which removes a node, lead to `end`.
pub data Removals (n0 : ℕ) : Mesh → ℕ → Mesh → Type 0 where
  no-pass : {m : Mesh} → Removals n0 m 0 m
  a-pass : {m end : Mesh} {k : ℕ} → length (pass n0 m).nodes < length m.nodes → Removals n0 (pass n0 m) k end → Removals n0 m (suc k) end

removals : {n0 : ℕ} {m : Mesh} {r : Restored} → Passes n0 m r → Removals n0 m r.passes r.end
removals (none-good e) = no-pass
removals {n0} {m} (one-pass z zs e p) = a-pass (pass-fewer n0 m z zs e) (removals p)

-- ---- meshes

-- The meshes that calls with the base's node count leave, one after the other, from a base. A refused call leaves the mesh as it is.
-- Any way to refine that cuts by bisection, any room, any marks.
pub data Reached (base : Mesh) : Mesh → Type 0 where
  begin : Reached base base
  refine : {m : Mesh} → Reached base m → (w : Way) → w.cutting ≡ bisected → (room : Room) (marks : List ℕ) → Reached base (refines w room m marks).after
  coarsen : {m : Mesh} → Reached base m → (marks : List ℕ) → Reached base (coarsens (length base.nodes) m marks).after
  set : {m : Mesh} → Reached base m → (z : ℕ) (c : Correction) → Reached base (sets (length base.nodes) m z c).after
  restore : {m : Mesh} → Reached base m → Reached base (restores (length base.nodes) m).after

pub record Restorable (base m : Mesh) : Type 0 where
  -- while added nodes remain a full pass removes at least one node
  pub pass-takes-one : length base.nodes < length m.nodes → length (pass (length base.nodes) m).nodes < length m.nodes
  -- restore is not refused, and ends with the base
  pub back-to-base : restores (length base.nodes) m ≡ record { number = 0; after = base; passes = (restored (length base.nodes) m).passes; culprit = 0 }
  -- after no more passes than nodes were added
  pub passes-bounded : (restored (length base.nodes) m).passes + length base.nodes ≤ length m.nodes
  -- each of which removed a node
  pub passes-remove : Removals (length base.nodes) m (restored (length base.nodes) m).passes base

-- Every mesh that is reached is grown from the base.
module _ (base : Mesh) where
  reached-grown : GrownFrom base base → {m : Mesh} → Reached base m → GrownFrom base m
  unfolding refines coarsens restores sets
  reached-grown B begin = B
  reached-grown B (refine {m = m} r w cuts room marks) = go (refine_no w room m marks) refl (reached-grown B r)
    where
      go : (k : ℕ) → refine_no w room m marks ≡ k → GrownFrom base m → GrownFrom base (says k m (refined w m marks) 0).after
      go zero e G = from-refine base m G w cuts room marks e
      go (suc k) e G = G
  reached-grown B (coarsen {m = m} r marks) = go (coarsen_no m marks) (reached-grown B r)
    where
      go : (k : ℕ) → GrownFrom base m → GrownFrom base (says k m (coarsened (length base.nodes) m marks) 0).after
      go zero G = from-coarsened base m G marks
      go (suc k) G = G
  reached-grown B (set {m = m} r z c) = go (set_fault (length base.nodes) m z c).number refl (reached-grown B r)
    where
      go : (k : ℕ) → (set_fault (length base.nodes) m z c).number ≡ k → GrownFrom base m → GrownFrom base (says_of k (set_fault (length base.nodes) m z c).at m (corrected m z c) 0).after
      go zero e G = from-set base m G z c e
      go (suc k) e G = G
  reached-grown B (restore {m = m} r) = go (refusal m) (reached-grown B r)
    where
      go : (k : ℕ) → GrownFrom base m → GrownFrom base (says k m (restored (length base.nodes) m).end (restored (length base.nodes) m).passes).after
      go zero G = subst (GrownFrom base) (sym (restored-base base G)) B
      go (suc k) G = G

-- DEMAND 3, of meshes.
pub demand3 : (base : Mesh) → check_no base ≡ 0 → {m : Mesh} → Reached base m → Restorable base m
unfolding restores
demand3 base ok {m} r =
    let G = reached-grown base (from-checked base ok) r in
    let n₀ = length base.nodes in
    record {
      pass-takes-one = pass-removes base G;
      back-to-base = ap (λ (k : ℕ). says k m (restored n₀ m).end (restored n₀ m).passes) (lawful-refusal m G.lawful)
          ∙ (λ i. record { number = 0; after = restored-base base G i; passes = (restored n₀ m).passes; culprit = 0 });
      passes-bounded = restored-passes n₀ m G.lawful G.grown.enough;
      passes-remove = subst (Removals n₀ m (restored n₀ m).passes) (restored-base base G) (removals (restored-is n₀ m));
    }

-- ---- tables

-- A refine, coarsen, set or restore, with whatever it is given, and its outcome.
pub data Call (g : Given) : Outcome → Type 0 where
  a-refine : (w : Way) (n0 : ℕ) (marks : List ℕ) → Call g (refine_out w g n0 marks)
  a-coarsen : (n0 : ℕ) (marks : List ℕ) → Call g (coarsen_out g n0 marks)
  a-set : (n0 z : ℕ) (c : Correction) → Call g (set_out g n0 z c)
  a-restore : (n0 : ℕ) → Call g (restore_out g n0)

-- the tables as a call left them, with the counts held before it
abbrev pub still : Given → Outcome → Given
still g o = given o.nodes o.rows o.scratch g.n g.t

-- What calls on a base's tables leave: the tables, and the counts that the user holds, which are those of the accepted call before.
-- (A refused call on other tables does not concern these.)
pub data TablesReached (g₀ : Given) : Given → Type 0 where
  begin : TablesReached g₀ g₀
  -- scratch may be another table at every call
  lent : {g : Given} → TablesReached g₀ g → (scratch : List ℕ) → TablesReached g₀ (given g.nodes g.rows scratch g.n g.t)
  -- accepted, with the base's node count, on the tables and counts that the accepted call before left
  refined-by : {g : Given} → TablesReached g₀ g → (w : Way) → w.cutting ≡ bisected → (marks : List ℕ) →
      (refine_out w g g₀.n marks).answer.number ≡ 0 → TablesReached g₀ (tables_after (refine_out w g g₀.n marks))
  coarsened-by : {g : Given} → TablesReached g₀ g → (marks : List ℕ) →
      (coarsen_out g g₀.n marks).answer.number ≡ 0 → TablesReached g₀ (tables_after (coarsen_out g g₀.n marks))
  -- W5: "accepted settings made with the base's node count"
  set-by : {g : Given} → TablesReached g₀ g → (z : ℕ) (c : Correction) → (set_out g g₀.n z c).answer.number ≡ 0 → TablesReached g₀ (tables_after (set_out g g₀.n z c))
  restored_by : {g : Given} → TablesReached g₀ g → (restore_out g g₀.n).answer.number ≡ 0 → TablesReached g₀ (tables_after (restore_out g g₀.n))
  -- refused, with whatever counts, n0, marks or correction, and scratch: the counts held stay
  refused-by : {g : Given} → TablesReached g₀ g → (scratch : List ℕ) (n t : ℕ) {o : Outcome} → Call (given g.nodes g.rows scratch n t) o →
      o.answer.number ≢ 0 → TablesReached g₀ (still g o)
  -- a base check, refused or not, with whatever counts and scratch
  checked-by : {g : Given} → TablesReached g₀ g → (scratch : List ℕ) (n t : ℕ) → TablesReached g₀ (still g (check_out (given g.nodes g.rows scratch n t)))

-- "A full pass is coarsen with all nodes marked."
abbrev pub full_pass : Given → ℕ → Outcome
full_pass g n0 = coarsen_out g n0 (replicate g.n 1)

-- the base row for row, its counts, zeros past them, scratch zero, and the passes made
abbrev pub base_again : Given → Given → Outcome
base_again g₀ g =
    outcome (answer 0 g₀.n g₀.t (restored g₀.n (mesh_of g)).passes 0)
    (filled (pos 0) (length g₀.nodes) (take (node_form.width * g₀.n) g₀.nodes))
    (filled 0 (length g₀.rows) (take (row_form.width * g₀.t) g₀.rows))
    (cleared g.scratch)

pub record Restores (g₀ g : Given) : Type 0 where
  -- sizes can only fail by scratch
  pub sizes-are : sizes_fit g g₀.n ≡ leb (4 * ((room_of g₀).nodes + (room_of g₀).rows)) (length g.scratch)
  -- while added nodes remain, a full pass is accepted and removes at least one
  pub pass-takes-one : g₀.n < g.n → sizes_fit g g₀.n ≡ true → ((full_pass g g₀.n).answer.number ≡ 0) × ((full_pass g g₀.n).answer.n < g.n)
  -- restore is refused at most as 1, exactly when the sizes do not fit
  pub restore-says : (restore_out g g₀.n).answer.number ≡ cases (sizes_fit g g₀.n) 0 1
  -- else it leaves the base
  pub back-to-base : sizes_fit g g₀.n ≡ true → restore_out g g₀.n ≡ base_again g₀ g
  pub mesh-back : sizes_fit g g₀.n ≡ true → mesh_of (tables_after (restore_out g g₀.n)) ≡ mesh_of g₀
  -- after no more passes than nodes were added
  pub passes-bounded : (restored g₀.n (mesh_of g)).passes + g₀.n ≤ g.n
  -- each of which removed a node
  pub passes-remove : Removals g₀.n (mesh_of g) (restored g₀.n (mesh_of g)).passes (mesh_of g₀)

-- A refused call leaves the tables as they were.
call-refused : {g : Given} {o : Outcome} → Call g o → o.answer.number ≢ 0 → AsGiven g o
call-refused {g} (a-refine w n0 marks) = (refine-leaves g n0 w marks).refusal-leaves
call-refused {g} (a-coarsen n0 marks) = (coarsen-leaves g n0 marks).refusal-leaves
call-refused {g} (a-set n0 z c) = (set-leaves g n0 z c).refusal-leaves
call-refused {g} (a-restore n0) = (restore-leaves g n0).refusal-leaves

-- Tables that calls left hold a mesh grown from the base.
reached-tables : (g₀ : Given) → (check_out g₀).answer.number ≡ 0 → {g : Given} → TablesReached g₀ g → GrownTables g₀ g
reached-tables g₀ ok begin = tables-begin g₀ ok
reached-tables g₀ ok (lent {g = g} r s) = tables-same g₀ ok g (reached-tables g₀ ok r) g.nodes g.rows s refl refl
reached-tables g₀ ok (refined-by {g = g} r w cuts marks e) = tables-refine g₀ ok g (reached-tables g₀ ok r) w cuts marks e
reached-tables g₀ ok (coarsened-by {g = g} r marks e) = tables-coarsen g₀ ok g (reached-tables g₀ ok r) marks e
reached-tables g₀ ok (set-by {g = g} r z c e) = tables-set g₀ ok g (reached-tables g₀ ok r) z c e
reached-tables g₀ ok (restored_by {g = g} r e) = tables-restore g₀ ok g (reached-tables g₀ ok r) e
reached-tables g₀ ok (refused-by {g = g} r s n t {o = o} c e) = let a = call-refused c e in tables-same g₀ ok g (reached-tables g₀ ok r) o.nodes o.rows o.scratch a.nodes-same a.rows_same
reached-tables g₀ ok (checked-by {g = g} r s n t) = let a = (check-leaves (given g.nodes g.rows s n t)).all-as-given in tables-same g₀ ok g (reached-tables g₀ ok r) _ _ _ a.nodes-same a.rows_same

-- DEMAND 3, of tables.
pub demand3-tables : (g₀ : Given) → (check_out g₀).answer.number ≡ 0 → {g : Given} → TablesReached g₀ g → Restores g₀ g
demand3-tables g₀ ok {g} r =
    let H = reached-tables g₀ ok r in
    let w = written g₀ (fit₀ g₀ ok) in
    record {
      sizes-are = tables-sizes g₀ ok g H;
      pass-takes-one = λ more e. rw (pass-done g₀ ok g H e) (refl, pass-less g₀ ok g H more);
      restore-says = restore-number g₀ ok g H;
      back-to-base = λ e. rw (restore-leaves-base g₀ ok g H e, nodes-count g₀, rows-count g₀, w.0, w.1, H.nodes-length, H.rows-kept);
      mesh-back = λ e. ap (λ o. mesh_of (tables_after o)) (restore-leaves-base g₀ ok g H e) ∙ done-mesh g (mesh_of g₀) (restored g₀.n (mesh_of g)).passes;
      passes-bounded = tables-passes g₀ ok g H;
      passes-remove = subst (Removals g₀.n (mesh_of g) (restored g₀.n (mesh_of g)).passes) (end-here g₀ ok g H) (removals (restored-is g₀.n (mesh_of g)));
    }
