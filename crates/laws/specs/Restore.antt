-- A full pass takes the good nodes, and a pass that takes one makes the mesh smaller; a restore of a lawful mesh meets lawful ones only, ends
-- where no node is good, after no more passes than nodes were added, and leaves a lawful mesh of the same total, with the base nodes.
-- Assumes nothing.
use Rattle.std.specs.Prelude.{true, ◌&&◌, ◌↔◌, ◌≡◌, replicate}
use mathlib.Core.List.{List, [], ◌∷◌, Memᴰ}
use Rattle.std.proofs.Math.Path.{refl, subst, ap}
use Rattle.std.proofs.Common.{sym, ◌∙◌, arith}
use Prim.Native.Nat.{ℕ, zero, suc, ◌+◌, ◌≤◌, ◌<◌}
use Rattle.std.proofs.Math.ListN.{length}
use Rattle.lists.specs.Lists.{up_to}
use Rattle.lists.specs.ListsLaw.{All-imp, All-at}
use Rattle.lists.specs.MembersLaw.{only-in, only-passes, only_keeps, only-cong, up_to-below, up_to-in}
use Rattle.meaning.specs.Mesh.{Mesh}
use Rattle.meaning.specs.Lawful.{Lawful, refusal}
use Rattle.meaning.specs.Good.{good}
use Rattle.meaning.specs.Coarsen.{marked, taken, without, coarsened, good_nodes, all_marked, pass, Restored, more, run, restored}
use Rattle.laws.specs.Lawful.{lawful-refusal}
use Rattle.laws.specs.Coarsen.{Gone, Preserved, coarsened-count, coarsened-rows, coarsened-gone, coarsened-preserved}

-- the good nodes, as a list
pub good_nodes-is : (n0 : ℕ) (m : Mesh) (z : ℕ) → Memᴰ z (good_nodes n0 m) ↔ ((z < length m.nodes) × (good n0 m z ≡ true))
unfolding good_nodes
good_nodes-is n0 m z = (
  λ i. (All-at (only_keeps (good n0 m) (up_to-below (length m.nodes))) i, All-at (only-passes (good n0 m) (up_to (length m.nodes))) i),
  λ h. only-in (good n0 m) (up_to-in (length m.nodes) h.0) h.1,
)

-- ---- a full pass

all-marked : {A : Type 0} (ns : List A) (z : ℕ) → z < length ns → marked (all_marked ns) z ≡ true
all-marked [] z h = absurd (omega arith)
all-marked (a ∷ ns) zero h = refl
all-marked (a ∷ ns) (suc z) h = all-marked ns z (omega arith)

pub ones-mark-all : {A : Type 0} (ns : List A) → replicate (length ns) 1 ≡ all_marked ns
ones-mark-all [] = refl
ones-mark-all (a ∷ ns) = ap (λ l. 1 ∷ l) (ones-mark-all ns)

module _ (n0 : ℕ) (m : Mesh) where
  -- a full pass takes the good nodes
  pub pass-takes : taken n0 m (all_marked m.nodes) ≡ good_nodes n0 m
  unfolding taken good_nodes
  pass-takes =
      only-cong (λ z. marked (all_marked m.nodes) z && good n0 m z) (good n0 m)
      (All-imp (λ z h. rw (all-marked m.nodes z h)) (up_to-below (length m.nodes)))

  pub pass-is : pass n0 m ≡ without m (good_nodes n0 m)
  unfolding pass coarsened
  pass-is = ap (without m) pass-takes

  pub pass-count : length (pass n0 m).nodes + length (good_nodes n0 m) ≡ length m.nodes
  unfolding pass
  pass-count = subst (λ zs. length (pass n0 m).nodes + length zs ≡ length m.nodes) pass-takes (coarsened-count n0 m (all_marked m.nodes))

  pub pass-fewer : (z : ℕ) (zs : List ℕ) → good_nodes n0 m ≡ z ∷ zs → length (pass n0 m).nodes < length m.nodes
  pass-fewer z zs e = let a = pass-count in let b : length (good_nodes n0 m) ≡ suc (length zs) = ap length e in omega arith

  pub pass-gone : Lawful m → Gone m (good_nodes n0 m) (pass n0 m)
  unfolding pass
  pass-gone law = subst (λ zs. Gone m zs (pass n0 m)) pass-takes (coarsened-gone n0 m (all_marked m.nodes) law)

  pub pass-preserved : Lawful m → n0 ≤ length m.nodes → Preserved n0 m (pass n0 m)
  unfolding pass
  pass-preserved law le = coarsened-preserved n0 m (all_marked m.nodes) law le

  no-nodes : length m.nodes ≡ 0 → good_nodes n0 m ≡ []
  unfolding good_nodes
  no-nodes e = rw e

-- ---- restore, pass by pass

abbrev pub ends_at : Mesh → ℕ → Restored
ends_at m k = record { end = m; passes = k }

run-stop : (k n0 : ℕ) (m : Mesh) → good_nodes n0 m ≡ [] → run k n0 m ≡ ends_at m 0
run-stop zero n0 m e = refl
run-stop (suc k) n0 m e = ap (λ l. more l m (run k n0 (pass n0 m))) e

-- more steps than nodes change nothing
run-enough : (j k n0 : ℕ) (m : Mesh) → length m.nodes ≤ j → length m.nodes ≤ k → run j n0 m ≡ run k n0 m
run-enough zero k n0 m h l = sym (run-stop k n0 m (no-nodes n0 m (omega arith)))
run-enough (suc j) zero n0 m h l = run-stop (suc j) n0 m (no-nodes n0 m (omega arith))
run-enough (suc j) (suc k) n0 m h l = go (good_nodes n0 m) refl (run-enough j k n0 (pass n0 m))
  where
    go : (g : List ℕ) → good_nodes n0 m ≡ g → (length (pass n0 m).nodes ≤ j → length (pass n0 m).nodes ≤ k → run j n0 (pass n0 m) ≡ run k n0 (pass n0 m)) →
        more g m (run j n0 (pass n0 m)) ≡ more g m (run k n0 (pass n0 m))
    go [] e below = refl
    go (z ∷ zs) e below = let f = pass-fewer n0 m z zs e in ap (more (z ∷ zs) m) (below (omega arith) (omega arith))

module _ (n0 : ℕ) (m : Mesh) where
  -- no good node: nothing is done
  pub restored-stop : good_nodes n0 m ≡ [] → restored n0 m ≡ ends_at m 0
  unfolding restored
  restored-stop e = run-stop (length m.nodes) n0 m e

  -- a good node: one pass, and on from there
  pub restored-step : (z : ℕ) (zs : List ℕ) → good_nodes n0 m ≡ z ∷ zs → restored n0 m ≡ ends_at (restored n0 (pass n0 m)).end (suc (restored n0 (pass n0 m)).passes)
  unfolding restored
  restored-step z zs e = go (length m.nodes) refl
    where
      go : (k : ℕ) → length m.nodes ≡ k → run k n0 m ≡ ends_at (run (length (pass n0 m).nodes) n0 (pass n0 m)).end (suc (run (length (pass n0 m).nodes) n0 (pass n0 m)).passes)
      go zero w = let f = pass-fewer n0 m z zs e in absurd (omega arith)
      go (suc k) w =
          let f = pass-fewer n0 m z zs e in
          ap (λ l. more l m (run k n0 (pass n0 m))) e ∙ ap (more (z ∷ zs) m) (run-enough k (length (pass n0 m).nodes) n0 (pass n0 m) (omega arith) (omega arith))

-- ---- the whole restore

-- "Restore makes passes while a good node exists. The passes reported are those made; the last look that finds none is not counted."
pub data Passes (n0 : ℕ) : Mesh → Restored → Type 0 where
  none-good : {m : Mesh} → good_nodes n0 m ≡ [] → Passes n0 m (ends_at m 0)
  one-pass : {m : Mesh} {r : Restored} (z : ℕ) (zs : List ℕ) → good_nodes n0 m ≡ z ∷ zs → Passes n0 (pass n0 m) r → Passes n0 m (ends_at r.end (suc r.passes))

run_is : (k n0 : ℕ) (m : Mesh) → length m.nodes ≤ k → Passes n0 m (run k n0 m)
run_is zero n0 m h = none-good (no-nodes n0 m (omega arith))
run_is (suc k) n0 m h = go (good_nodes n0 m) refl (run_is k n0 (pass n0 m))
  where
    go : (g : List ℕ) → good_nodes n0 m ≡ g → (length (pass n0 m).nodes ≤ k → Passes n0 (pass n0 m) (run k n0 (pass n0 m))) → Passes n0 m (more g m (run k n0 (pass n0 m)))
    go [] e below = none-good e
    go (z ∷ zs) e below = let f = pass-fewer n0 m z zs e in one-pass z zs e (below (omega arith))

pub restored-is : (n0 : ℕ) (m : Mesh) → Passes n0 m (restored n0 m)
unfolding restored
restored-is n0 m = run_is (length m.nodes) n0 m (omega arith)

-- what a pass keeps, a restore keeps
pub restored-keeps : (P : Mesh → Type 0) (n0 : ℕ) → ((m : Mesh) → P m → P (pass n0 m)) → (m : Mesh) → P m → P (restored n0 m).end
restored-keeps P n0 kept m h = go (restored-is n0 m) h
  where
    go : {x : Mesh} {r : Restored} → Passes n0 x r → P x → P r.end
    go (none-good e) h = h
    go {x = x} (one-pass z zs e p) h = go p (kept x h)

passes-end : {n0 : ℕ} {m : Mesh} {r : Restored} → Passes n0 m r → good_nodes n0 r.end ≡ []
passes-end (none-good e) = e
passes-end (one-pass z zs e p) = passes-end p

-- each pass removes a node
passes-fewer : {n0 : ℕ} {m : Mesh} {r : Restored} → Passes n0 m r → r.passes + length r.end.nodes ≤ length m.nodes
passes-fewer (none-good e) = omega arith
passes-fewer {n0} {m} (one-pass z zs e p) = let a = passes-fewer p in let f = pass-fewer n0 m z zs e in omega arith

preserved-self : (n0 : ℕ) (m : Mesh) → Lawful m → n0 ≤ length m.nodes → Preserved n0 m m
preserved-self n0 m law le = record { lawful = law; total_kept = refl; base_there = le; base_kept = λ k h. refl }

preserved-on : {n0 : ℕ} {a b c : Mesh} → Preserved n0 a b → Preserved n0 b c → Preserved n0 a c
preserved-on h k = record {
  lawful = k.lawful;
  total_kept = k.total_kept ∙ h.total_kept;
  base_there = k.base_there;
  base_kept = λ j l. k.base_kept j l ∙ h.base_kept j l;
}

-- ---- the meshes in which restore looks for good nodes: the mesh as given, then what each pass left

pub data LooksAt (n0 : ℕ) (m : Mesh) : Mesh → Type 0 where
  as-given : LooksAt n0 m m
  after-pass : {x : Mesh} → LooksAt n0 m x → (z : ℕ) (zs : List ℕ) → good_nodes n0 x ≡ z ∷ zs → LooksAt n0 m (pass n0 x)

looks_on : {n0 : ℕ} {m x : Mesh} {r : Restored} → LooksAt n0 m x → Passes n0 x r → LooksAt n0 m r.end
looks_on s (none-good e) = s
looks_on s (one-pass z zs e p) = looks_on (after-pass s z zs e) p

looks-preserved : {n0 : ℕ} {m x : Mesh} → Lawful m → n0 ≤ length m.nodes → LooksAt n0 m x → Preserved n0 m x
looks-preserved {n0} {m} law le as-given = preserved-self n0 m law le
looks-preserved {n0} law le (after-pass {x = x} s z zs e) = let k = looks-preserved law le s in preserved-on k (pass-preserved n0 x k.lawful k.base_there)

-- NO PASS BUT THE FIRST CAN BE REFUSED: from a lawful mesh restore looks at lawful ones only.
pub looks-lawful : {n0 : ℕ} {m x : Mesh} → Lawful m → n0 ≤ length m.nodes → LooksAt n0 m x → refusal x ≡ 0
looks-lawful {x = x} law le s = lawful-refusal x (looks-preserved law le s).lawful

-- a pass adds no row
pass-rows : (n0 : ℕ) (m : Mesh) → length (pass n0 m).tris ≤ length m.tris
unfolding pass
pass-rows n0 m = coarsened-rows n0 m (all_marked m.nodes)

passes-rows : {n0 : ℕ} {m : Mesh} {r : Restored} → Passes n0 m r → length r.end.tris ≤ length m.tris
passes-rows (none-good e) = omega arith
passes-rows {n0} {m} (one-pass z zs e p) = omega (arith, passes-rows p, pass-rows n0 m)

module _ (n0 : ℕ) (m : Mesh) where
  -- no good node is left
  pub restored-ends : good_nodes n0 (restored n0 m).end ≡ []
  restored-ends = passes-end (restored-is n0 m)

  pub restored-fewer : (restored n0 m).passes + length (restored n0 m).end.nodes ≤ length m.nodes
  restored-fewer = passes-fewer (restored-is n0 m)

  pub restored-rows : length (restored n0 m).end.tris ≤ length m.tris
  restored-rows = passes-rows (restored-is n0 m)

  module _ (law : Lawful m) (le : n0 ≤ length m.nodes) where
    pub restored-preserved : Preserved n0 m (restored n0 m).end
    restored-preserved = looks-preserved law le (looks_on as-given (restored-is n0 m))

    -- no more passes than nodes were added
    pub restored-passes : (restored n0 m).passes + n0 ≤ length m.nodes
    restored-passes = let a = restored-fewer in let b = restored-preserved.base_there in omega arith
