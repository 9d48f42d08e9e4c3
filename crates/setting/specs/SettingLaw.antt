-- What is judged is `set_fault` of the mesh, and the tables after are those of the mesh with node z set. Assumes nothing.
use Rattle.std.specs.Prelude.{Bool, not, List, [], ◌≡◌, ℕ, zero, suc, ◌*◌, ◌≤◌, ◌<◌, eqb, leb, ltb, ℤ, pos, get_or, set, replicate, Option, Some, None, Result, Ok, Err}
use Rattle.std.proofs.Math.Bool.{true, false}
use Rattle.std.proofs.Math.Path.{refl, sym, ap, ap₂}
use Rattle.std.proofs.Common.{◌∙◌, arith, length-set, ext_get_or, get_or-set_same, get_or-set_other}
use Rattle.std.proofs.Math.Decide.{ℕ_discrete}
use Rattle.std.proofs.Math.ListN.{length}
use borrow.Author.Tests.{ne_eqb, lt-ltb, le-ltb, le-leb, lt-leb}
use Rattle.lists.specs.Lists.{cases}
use Rattle.lists.specs.Search.{items}
use Rattle.lists.specs.IterLaw.{length-items, get_or-items}
use Rattle.meaning.specs.declared.Answer.{Answer}
use Rattle.meaning.specs.declared.Correction.{Correction}
use Rattle.meaning.specs.Fault.{Fault}
use Rattle.meaning.specs.declared.Node.{Node}
use Rattle.meaning.specs.declared.Place.{Place}
use Rattle.meaning.specs.Mesh.{Mesh, node, at, origin}
use Rattle.meaning.specs.Lawful.{beyond, fault, fault_of, first_outside, first_misnamed, first_repeat, first_flat, first_unused, or_later}
use Rattle.meaning.specs.Setting.{corrected, found_if, or_found, set_fault}
use Rattle.meaning.specs.Tables.{Given, given, outcome, answer, node_at, place_at, row_at, mesh_of, flat_nodes, flat_rows, filled}
use Rattle.meaning.specs.Calls.{says_of, sets, sizes_fit, untouched, leaves_by, leaves, set_out}
use Rattle.laws.specs.CallLaw.{Sizes, sizes-exact}
use Rattle.laws.specs.Setting.{corrected-count, set-0}
use Rattle.laws.specs.TableMesh.{nodes-count, rows-count}
use Rattle.tables.specs.Put.{set_node}
use Rattle.tables.specs.PutLaw.{nodes-table}
use Rattle.refusals.specs.declared.Refusal.{Refusal}
use Rattle.refusals.specs.Refusals.{fault_in, verdict}
use Rattle.judging.specs.Judge.{mesh_in, early}
use Rattle.judging.specs.Leaving.{numbered, leaves-same, call-out}
use Rattle.setting.specs.Setting.{late_fault, first_in, settled, nodes_set}

-- ---- what stands in the way

late-found : (n0 n z : ℕ) → or_later 13 (found_if (ltb z n0) 0) (or_later 15 (found_if (leb n z) 0) (fault 0 0)) ≡ late_fault n0 n z
unfolding late_fault
late-found n0 n z = go (ltb z n0) (leb n z)
  where
    go : (b d : Bool) → or_later 13 (found_if b 0) (or_later 15 (found_if d 0) (fault 0 0)) ≡ cases b (fault 13 0) (cases d (fault 15 0) (fault 0 0))
    go true d = refl
    go false true = refl
    go false false = refl

-- of any mesh, by what the searches found in it
settled-mesh : (n0 : ℕ) (m : Mesh) (z : ℕ) (c : Correction) → settled (fault_of m) n0 (length m.nodes) z c ≡ set_fault n0 m z c
unfolding settled fault_of set_fault
settled-mesh n0 m z c = rw (late-found n0 (length m.nodes) z) (go (first_outside m) (first_misnamed m) (first_repeat m) (first_flat m) (first_unused m) (beyond c))
  where
    late : Fault
    late = late_fault n0 (length m.nodes) z

    chain : Option ℕ → Option ℕ → Option ℕ → Option ℕ → Fault → Fault
    chain f g h k rest = or_later 4 f (or_later 5 g (or_later 6 h (or_later 7 k rest)))

    by : Fault → Bool → Fault
    by f b = cases (first_in f) f (cases b (fault 3 z) (cases (not (eqb f.number 0)) f late))

    go : (o f g h k : Option ℕ) (b : Bool) → by (or_later 3 o (chain f g h k (fault 0 0))) b ≡ or_later 3 (or_found o (found_if b z)) (chain f g h k late)
    go (Some i) f g h k b = refl
    go None (Some i) g h k true = refl
    go None (Some i) g h k false = refl
    go None None (Some i) h k true = refl
    go None None (Some i) h k false = refl
    go None None None (Some i) k true = refl
    go None None None (Some i) k false = refl
    go None None None None (Some i) true = refl
    go None None None None (Some i) false = refl
    go None None None None None true = refl
    go None None None None None false = refl

-- 1 comes first
unfoldable fault_given : Given → ℕ → ℕ → Correction → Fault
fault_given g n0 z c = cases (sizes_fit g n0) (set_fault n0 (mesh_of g) z c) (fault 1 0)

settled_is : (g : Given) (n0 z : ℕ) (c : Correction) → settled (early g n0 0 []) n0 g.n z c ≡ fault_given g n0 z c
unfolding early fault_given settled
settled_is g n0 z c = go (sizes_fit g n0)
  where
    go : (b : Bool) → settled (cases b (fault_of (mesh_of g)) (fault 1 0)) n0 g.n z c ≡ cases b (set_fault n0 (mesh_of g) z c) (fault 1 0)
    go true = ap (λ (k : ℕ). settled (fault_of (mesh_of g)) n0 k z c) (sym (nodes-count g)) ∙ settled-mesh n0 (mesh_of g) z c
    go false = refl

-- ---- what a call leaves

set-leaves-by : (g : Given) (n0 z : ℕ) (c : Correction) → set_out g n0 z c ≡ leaves_by g (fault_given g n0 z c).number (corrected (mesh_of g) z c) 0 (fault_given g n0 z c).at
unfolding set_out sets fault_given
set-leaves-by g n0 z c = go (sizes_fit g n0) (set_fault n0 (mesh_of g) z c).number refl
  where
    m : Mesh
    m = mesh_of g

    F : Fault
    F = set_fault n0 (mesh_of g) z c

    go : (b : Bool) (k : ℕ) → F.number ≡ k → cases b (leaves g (says_of k F.at m (corrected m z c) 0)) (untouched g 1 0) ≡
        leaves_by g (cases b F (fault 1 0)).number (corrected m z c) 0 (cases b F (fault 1 0)).at
    go true zero e = rw e
    go true (suc k) e = rw e
    go false k e = refl

-- ---- the code's steps, in the form of their needs

pub late-13 : (n0 n z : ℕ) → z < n0 → fault 13 0 ≡ late_fault n0 n z
unfolding late_fault
late-13 n0 n z h = rw (lt-ltb z n0 h)

pub late-15 : (n0 n z : ℕ) → n0 ≤ z → n ≤ z → fault 15 0 ≡ late_fault n0 n z
unfolding late_fault
late-15 n0 n z h k = rw (le-ltb z n0 h, le-leb n z k)

pub late-none : (n0 n z : ℕ) → n0 ≤ z → z < n → fault 0 0 ≡ late_fault n0 n z
unfolding late_fault
late-none n0 n z h k = rw (le-ltb z n0 h, lt-leb n z k)

-- j was judged of the tables
module _ {A : Type 0} (j : Result A Refusal) (n0 n z : ℕ) (c : Correction) where
  pub settled-first : true ≡ first_in (verdict j) → verdict j ≡ settled (verdict j) n0 n z c
  unfolding settled
  settled-first h = rw (sym h)

  module _ (h : false ≡ first_in (verdict j)) where
    pub settled-value : true ≡ beyond c → fault 3 z ≡ settled (verdict j) n0 n z c
    unfolding settled
    settled-value y = rw (sym h, sym y)

    module _ (y : false ≡ beyond c) where
      pub settled-later : (r : Refusal) → j ≡ Err r → fault_in r ≡ settled (verdict j) n0 n z c
      unfolding settled
      settled-later r e = rw (sym h, sym y, e, ne_eqb (fault_in r).number 0 (numbered r))

      pub settled-late : (a : A) → j ≡ Ok a → (f : Fault) → f ≡ late_fault n0 n z → f ≡ settled (verdict j) n0 n z c
      unfolding settled
      settled-late a e f q = rw (sym h, sym y, e) q

-- the table with node z put, read as a list
node-set : (nodes : List ℤ) (n z : ℕ) (a : Node) → 4 * n ≤ length nodes → z < n → items (node_at (set_node nodes z a)) 0 n ≡ set (items (node_at nodes) 0 n) z a
node-set nodes n z a r h =
    ext_get_or origin (items (node_at (set_node nodes z a)) 0 n) (set (items (node_at nodes) 0 n) z a)
    (length-items (node_at (set_node nodes z a)) n ∙ sym (length-set (items (node_at nodes) 0 n) z a ∙ length-items (node_at nodes) n))
    (λ k l. at-k k (rw (length-items (node_at (set_node nodes z a)) n) at l) (ℕ_discrete k z))
  where
    at-k : (k : ℕ) → k < n → Dec (k ≡ z) → get_or (items (node_at (set_node nodes z a)) 0 n) k origin ≡ get_or (set (items (node_at nodes) 0 n) z a) k origin
    at-k k l (yes e) =
        get_or-items (node_at (set_node nodes z a)) n k origin l ∙ ap (node_at (set_node nodes z a)) e ∙ nodes-table.same nodes z a (omega arith)
        ∙ sym (ap (λ (j : ℕ). get_or (set (items (node_at nodes) 0 n) z a) j origin) e ∙ get_or-set_same (items (node_at nodes) 0 n) z a origin (rw (length-items (node_at nodes) n) h))
    at-k k l (no o) =
        get_or-items (node_at (set_node nodes z a)) n k origin l ∙ nodes-table.other nodes z k a o
        ∙ sym (get_or-set_other (items (node_at nodes) 0 n) z k a origin o ∙ get_or-items (node_at nodes) n k origin l)

pub node-put : (nodes nodes₁ nodes₂ : List ℤ) (n z : ℕ) (c : Correction) (p : Place) → (4 * n ≤ length nodes) × (z < n) → p ≡ place_at nodes z → nodes₁ ≡ set_node nodes z (node p c) →
    nodes₂ ≡ filled (pos 0) (length nodes₁) (flat_nodes (items (node_at nodes₁) 0 n)) → nodes₂ ≡ filled (pos 0) (length nodes) (flat_nodes (nodes_set nodes n z c))
unfolding nodes_set
node-put nodes nodes₁ nodes₂ n z c p (r, h) e f g =
    g ∙ ap (λ (l : List ℤ). filled (pos 0) (length l) (flat_nodes (items (node_at l) 0 n))) f
    ∙ ap₂ (λ (k : ℕ) (ns : List Node). filled (pos 0) k (flat_nodes ns)) (nodes-table.long nodes z (node p c)) (node-set nodes n z (node p c) r h)
    ∙ ap (λ (q : Place). filled (pos 0) (length nodes) (flat_nodes (set (items (node_at nodes) 0 n) z (node q c)))) e

-- f is what stands in the way
module _ (nodes : List ℤ) (rows s : List ℕ) (n0 n t z : ℕ) (c : Correction) (zero-before : s ≡ replicate (length s) 0) (j f : Fault)
    (judged : j ≡ early (given nodes rows s n t) n0 0 []) (of : f ≡ settled j n0 n z c) where
  f-is : f ≡ fault_given (given nodes rows s n t) n0 z c
  f-is = of ∙ ap (λ (x : Fault). settled x n0 n z c) judged ∙ settled_is (given nodes rows s n t) n0 z c

  out-is : set_out (given nodes rows s n t) n0 z c ≡ leaves_by (given nodes rows s n t) f.number (corrected (mesh_of (given nodes rows s n t)) z c) 0 f.at
  out-is = let g = given nodes rows s n t in set-leaves-by g n0 z c ∙ ap (λ (x : Fault). leaves_by g x.number (corrected (mesh_of g) z c) 0 x.at) (sym f-is)

  pub set-refused : (r : Answer) → (f.number ≡ 0 → ⊥) → r ≡ answer f.number n t 0 f.at → outcome r nodes rows s ≡ set_out (given nodes rows s n t) n0 z c
  set-refused r o h = rw h (go f.number o) ∙ sym out-is
    where
      go : (k : ℕ) → (k ≡ 0 → ⊥) → outcome (answer k n t 0 f.at) nodes rows s ≡ leaves_by (given nodes rows s n t) k (corrected (mesh_of (given nodes rows s n t)) z c) 0 f.at
      go zero o = absurd (o refl)
      go (suc k) o = ap (outcome (answer (suc k) n t 0 f.at) nodes rows) zero-before

  -- nothing does: the node is there, and the counts fit the tables
  module _ (y : f.number ≡ 0) where
    sized_set : Sizes (given nodes rows s n t) n0 × ((set_fault n0 (mesh_of (given nodes rows s n t)) z c).number ≡ 0)
    unfolding fault_given
    sized_set = go (sizes_fit (given nodes rows s n t) n0) refl (ap (λ (x : Fault). x.number) (sym f-is) ∙ y)
      where
        go : (b : Bool) → sizes_fit (given nodes rows s n t) n0 ≡ b → (cases b (set_fault n0 (mesh_of (given nodes rows s n t)) z c) (fault 1 0)).number ≡ 0 →
            Sizes (given nodes rows s n t) n0 × ((set_fault n0 (mesh_of (given nodes rows s n t)) z c).number ≡ 0)
        go true q e = ((sizes-exact (given nodes rows s n t) n0).0 q, e)
        go false q e = absurd (omega arith)

    pub set-fits : (4 * n ≤ length nodes) × (z < n)
    set-fits =
        let (law, b, a, l) = (set-0 n0 (mesh_of (given nodes rows s n t)) z c).0 sized_set.1 in
        (omega (arith, sized_set.0.n-fits), omega (arith, nodes-count (given nodes rows s n t)))

    pub rows_fit : 3 * t ≤ length rows
    rows_fit = omega (arith, sized_set.0.t-fits)

    pub set-worked : (a : List ℤ) (b : List ℕ) (r : Answer) → a ≡ filled (pos 0) (length nodes) (flat_nodes (nodes_set nodes n z c)) →
        b ≡ filled 0 (length rows) (flat_rows (items (row_at rows) 0 t)) → r ≡ answer 0 n t 0 0 → outcome r a b s ≡ set_out (given nodes rows s n t) n0 z c
    unfolding nodes_set corrected mesh_of
    set-worked a b r p q h =
        let g = given nodes rows s n t in
        let m : Mesh = mesh_of (given nodes rows s n t) in
        let is-n : n ≡ length (corrected m z c).nodes = sym (corrected-count m z c ∙ nodes-count g) in
        let is-t : t ≡ length (corrected m z c).tris = sym (rows-count g) in
        let is-place : place_at nodes z ≡ at m z = ap (λ (x : Node). x.place) (sym (get_or-items (node_at nodes) n z origin set-fits.1)) in
        let said : r ≡ answer 0 (length (corrected m z c).nodes) (length (corrected m z c).tris) 0 0 = h ∙ ap₂ (λ (i j : ℕ). answer 0 i j 0 0) is-n is-t in
        let put : a ≡ filled (pos 0) (length nodes) (flat_nodes (corrected m z c).nodes) =
        p ∙ ap (λ (x : Place). filled (pos 0) (length nodes) (flat_nodes (set (items (node_at nodes) 0 n) z (node x c)))) is-place in
        (λ i. outcome (said i) (put i) (q i) (zero-before i)) ∙ sym (out-is ∙ ap (λ (k : ℕ). leaves_by g k (corrected m z c) 0 f.at) y)

-- scratch is cleared before and after
pub set-called : (nodes a : List ℤ) (rows b s s₁ s₂ : List ℕ) (n0 n t z len : ℕ) (c : Correction) (r : Answer) → s₁ ≡ replicate (length s) 0 →
    outcome r a b s₁ ≡ set_out (given nodes rows s₁ n t) n0 z c → s₂ ≡ replicate len 0 → len ≡ length s₁ →
    outcome r a b s₂ ≡ set_out (given nodes rows s n t) n0 z c
unfolding set_out sets mesh_of
set-called nodes a rows b s s₁ s₂ n0 n t z len c r p =
    call-out s s₁ p (λ x. set_out (given nodes rows x n t) n0 z c) (λ x x' l. leaves-same nodes rows x x' n0 n t l (sets n0 (mesh_in nodes rows n t) z c))
    r a b s₂ len
