-- Coarsening keeps a grown mesh. Assumes nothing.
use Rattle.std.specs.Prelude.{◌≡◌, refl, List, ◌∷◌}
use Rattle.std.proofs.Math.Path.{sym, ap}
use Rattle.std.proofs.Common.{subst, ◌∙◌, inl, inr, arith}
use Rattle.std.proofs.Math.Logic.Dec
use Prim.Native.Nat.{ℕ, ◌≤◌, ◌<◌}
use Rattle.std.proofs.Math.Decide.{dec_le}
use Rattle.meaning.specs.declared.Place.{Place}
use Rattle.growth.specs.Labels.Names.{Name, Halfway, name?}
use Rattle.growth.specs.Labels.Paths.{L}
use Rattle.growth.specs.Labels.Corners.{Corners, Holds, is-p, is-q, is-r}
use Rattle.growth.specs.Labels.Levels.{some-below?}
use Rattle.growth.specs.Labels.Cover.{Label, at, corners-of}
use Rattle.growth.specs.Labels.Forest.{Forest}
use Rattle.growth.specs.Labels.Groups.{close-first, close-new, close-old, keep, owner, total, total_mono}
use Rattle.growth.specs.Labels.ForestCoarsened.{Coarsened, EndsR, Goes, Removal, back, closed-up, forest-coarsened, goes?, lift, lift-joins, lift-keeps, present-stays, removed-gone, stay}
use Rattle.growth.specs.Labels.Named.{Named, NewestOf, holds-name, holds_named, holds-number, name-p, named, newest-named, p-below, row_of}
use Rattle.growth.specs.Labels.Grown.{Grown}
use Rattle.growth.specs.Labels.Around.{Of, RowPair, pair-at}
use Rattle.growth.specs.Labels.GrownRefined.{stays}

-- A row with its nodes renumbered.
abbrev pub renum : (ℕ → ℕ) → Corners ℕ → Corners ℕ
renum new r = record { p = new r.p; q = new r.q; r = new r.r }

-- Nodes to be removed: added nodes that are newest wherever they are corners.
pub record Removing (n₀ n t : ℕ) (rows : ℕ → Corners ℕ) (D : ℕ → Type 0) : Type 0 where
  pub decided : (z : ℕ) → Dec (D z)
  pub added : (z : ℕ) → D z → n₀ ≤ z
  pub below : (z : ℕ) → D z → z < n
  pub newest : (z : ℕ) → D z → NewestOf t rows z

module _ {B : List (Corners ℕ)} {n₀ n t : ℕ} {rows : ℕ → Corners ℕ} {place : ℕ → Place} (G : Grown B n₀ n t rows place)
    {D : ℕ → Type 0} (Y : Removing n₀ n t rows D) where
  abbrev N : Named B t G.lab n G.name rows
  N = G.by_names

  -- The removed nodes, by names.
  pub record Gone (x : Name) : Type 0 where
    pub node : ℕ
    pub node-below : node < n
    pub is_name : x ≡ G.name node
    pub removed : D node

  gone? : (x : Name) → Dec (Gone x)
  gone? x = go (some-below? (λ z. Dec.and (name? x (G.name z)) (Y.decided z)) n)
    where
      go : Dec ((z : ℕ) × (z < n) × ((x ≡ G.name z) × D z)) → Dec (Gone x)
      go (yes (z, l, (e, h))) = yes (record { node = z; node-below = l; is_name = e; removed = h })
      go (no m) = no (λ g. m (g.node, g.node-below, (g.is_name, g.removed)))

  -- A node is removed exactly if its name is.
  pub gone-node : (z : ℕ) → z < n → Gone (G.name z) → D z
  gone-node z l g = rw (N.differ z g.node l g.node-below g.is_name) g.removed

  pub gone : Removal B t G.lab Gone
  gone = record {
    decided = gone?;
    is-mid = λ x g. subst Halfway (sym g.is_name) (G.added-name g.node (Y.added g.node g.removed) g.node-below);
    newest = λ x g. rw g.is_name (newest-named N g.node g.node-below (Y.newest g.node g.removed));
  }

  -- New numbers of nodes, and the nodes and rows that had the new numbers.
  abbrev pub new : ℕ → ℕ
  new = total (keep D Y.decided)

  abbrev pub old-node : ℕ → ℕ
  old-node = owner (keep D Y.decided) n

  abbrev pub old_row : ℕ → ℕ
  old_row = owner (stay gone) t

  -- The mesh after removing the nodes of D: nodes and rows that stay close up; a left row at a removed node becomes the father.
  pub record Merging (n' t' : ℕ) (rows' : ℕ → Corners ℕ) (place' : ℕ → Place) : Type 0 where
    pub node-count : n' ≡ total (keep D Y.decided) n
    pub row_count : t' ≡ total (stay gone) t
    pub row_kept : (k : ℕ) → k < t' → ¬ D (rows (old_row k)).p → rows' k ≡ renum new (rows (old_row k))
    pub row-joined : (k : ℕ) → k < t' → (z a b c : ℕ) → D z → (P : RowPair G z a b c) → P.left ≡ old_row k → rows' k ≡ renum new (row_of a b c)
    pub place_kept : (k : ℕ) → k < n' → place' k ≡ place (old-node k)

  -- No node of the base is removed, so the base's nodes keep their numbers.
  base_kept : (m : ℕ) → m ≤ n₀ → new m ≡ m
  base_kept m h = close-first D Y.decided m (λ k l d. omega (arith, Y.added k d))

  module _ {n' t' : ℕ} {rows' : ℕ → Corners ℕ} {place' : ℕ → Place} (M : Merging n' t' rows' place') where
    node-old : (k : ℕ) → k < n' → (old-node k < n) × ¬ D (old-node k) × (new (old-node k) ≡ k)
    node-old k l = close-old D Y.decided n k (omega (arith, M.node-count))

    node-new : (x : ℕ) → x < n → ¬ D x → (new x < n') × (old-node (new x) ≡ x)
    node-new x l m = let p = close-new D Y.decided n x l m in (omega (arith, p.0, M.node-count), p.1)

    lab-after : ℕ → Label
    lab-after k = lift gone (G.lab (old_row k))

    rows_stay : Coarsened gone t' lab-after
    unfolding lab-after
    rows_stay = closed-up gone M.row_count

    old-row-below : (k : ℕ) → k < t' → old_row k < t
    old-row-below k l = (close-old (Goes gone) (goes? gone) t k (omega (arith, M.row_count))).0

    -- A new row is a renumbered row of old nodes with the corners that its label says.
    record Source (k : ℕ) : Type 0 where
      was : Corners ℕ
      was-named : named G.name was ≡ corners-of B (lab-after k)
      was-below : (x : ℕ) → Holds x was → x < n
      now : rows' k ≡ renum new was

    source : (k : ℕ) → k < t' → Source k
    unfolding lab-after
    source k l = go (Y.decided (rows (old_row k)).p)
      where
        o : ℕ
        o = old_row k

        lo : o < t
        lo = old-row-below k l

        top : (rows o).p < n
        top = p-below N o lo

        here : G.name (rows o).p ≡ (corners-of B (G.lab o)).p
        here = name-p N o lo

        joined : D (rows o).p → Gone (corners-of B (G.lab o)).p → (a : ℕ) × (b : ℕ) × (c : ℕ) × (Q : RowPair G (rows o).p a b c) × Of G o Q → Source k
        joined d g (a, b, c, Q, inl e) =
            let lab-o : G.lab o ≡ at Q.from (L ∷ Q.up) = ap G.lab e ∙ Q.left-label in
            let lift-o : lift gone (G.lab o) ≡ at Q.from Q.up = lift-joins gone (G.lab o) g ∙ ap (λ (m : Label). at m.from (back m.path)) lab-o in
            record {
              was = row_of a b c;
              was-named = Q.father-names ∙ ap (corners-of B) (sym lift-o);
              was-below = λ x h. elim h [ is-p f ↦ rw f Q.a-below | is-q f ↦ rw f Q.b-below | is-r f ↦ rw f Q.c-below ];
              now = M.row-joined k l (rows o).p a b c d Q (sym e);
            }
        joined d g (a, b, c, Q, inr e) =
            absurd ((close-old (Goes gone) (goes? gone) t k (omega (arith, M.row_count))).1 (g, subst (λ (m : Label). EndsR m.path) (sym (ap G.lab e ∙ Q.right-label)) tt))

        go : Dec (D (rows o).p) → Source k
        go (no m) = record {
          was = rows o;
          was-named = N.names o lo ∙ ap (corners-of B) (sym (lift-keeps gone (G.lab o) (λ g. m (gone-node (rows o).p top (subst Gone (sym here) g)))));
          was-below = N.nodes o lo;
          now = M.row_kept k l m;
        }
        go (yes d) =
            joined d (subst Gone here (record { node = (rows o).p; node-below = top; is_name = refl; removed = d }))
            (pair-at G (rows o).p top (Y.added _ d) (Y.newest _ d) o lo (is-p refl))

    coarser-forest : Forest B t' lab-after
    coarser-forest = forest-coarsened G.compatible G.forest gone rows_stay

    -- No node of a new row was removed.
    source_stays : (k : ℕ) → k < t' → (S : Source k) → (x : ℕ) → Holds x S.was → ¬ D x
    source_stays k l S x h d =
        removed-gone G.compatible G.forest gone rows_stay (G.name x)
        (record { node = x; node-below = S.was-below x h; is_name = refl; removed = d })
        (record { index = k; below = l; holds = rw S.was-named at (holds_named G.name h) })

    name-coarsened : ℕ → Name
    name-coarsened k = G.name (old-node k)

    -- New rows have the names that their labels say.
    names-coarsened : (k : ℕ) → k < t' → named name-coarsened (rows' k) ≡ corners-of B (lab-after k)
    unfolding name-coarsened
    names-coarsened k l =
        let S = source k l in
        let same : (x : ℕ) → Holds x S.was → G.name (old-node (new x)) ≡ G.name x = λ x h. ap G.name (node-new x (S.was-below x h) (source_stays k l S x h)).1 in
        ap (named name-coarsened) S.now
        ∙ (λ i. record { p = same _ (is-p refl) i; q = same _ (is-q refl) i; r = same _ (is-r refl) i })
        ∙ S.was-named

    nodes-coarsened : (k : ℕ) → k < t' → (x : ℕ) → Holds x (rows' k) → x < n'
    nodes-coarsened k l x h = go (source k l)
      where
        go : Source k → x < n'
        go S = elim (rw S.now at h) [ is-p e ↦ rw e (low _ (is-p refl)) | is-q e ↦ rw e (low _ (is-q refl)) | is-r e ↦ rw e (low _ (is-r refl)) ]
          where
            low : (y : ℕ) → Holds y S.was → new y < n'
            low y m = (node-new y (S.was-below y m) (source_stays k l S y m)).0

    differ-coarsened : (x y : ℕ) → x < n' → y < n' → name-coarsened x ≡ name-coarsened y → x ≡ y
    unfolding name-coarsened
    differ-coarsened x y lx ly e = sym (node-old x lx).2 ∙ ap new (N.differ _ _ (node-old x lx).0 (node-old y ly).0 e) ∙ (node-old y ly).2

    by-names-after : Named B t' lab-after n' name-coarsened rows'
    by-names-after = record { names = names-coarsened; nodes = nodes-coarsened; differ = differ-coarsened }

    -- A node that stays is in a row afterwards.
    used-after : (k : ℕ) → k < n' → (j : ℕ) × (j < t') × Holds k (rows' j)
    unfolding name-coarsened
    used-after k l =
        let (lx, stays, _) = node-old k l in
        let (j, lj, h) = G.used (old-node k) lx in
        let P = present-stays G.compatible G.forest gone rows_stay (G.name (old-node k)) (λ g. stays (gone-node (old-node k) lx g))
        (record { index = j; below = lj; holds = holds-name N j lj h }) in
        (P.index, P.below, holds-number by-names-after k l P.index P.below P.holds)

    -- An added node was one before.
    added-before : (k : ℕ) → n₀ ≤ k → k < n' → Dec (n₀ ≤ old-node k) → n₀ ≤ old-node k
    added-before k h l (yes m) = m
    added-before k h l (no m) = absurd (omega (arith, (node-old k l).2, base_kept (old-node k) (omega arith)))

    -- COARSENING KEEPS A GROWN MESH.
    pub grown-coarsened : Grown B n₀ n' t' rows' place'
    unfolding name-coarsened
    grown-coarsened = record {
      compatible = G.compatible;
      name = name-coarsened;
      lab = lab-after;
      forest = coarser-forest;
      by_names = by-names-after;
      enough = omega (arith, M.node-count, base_kept n₀ (omega arith), total_mono (keep D Y.decided) n₀ n G.enough);
      base-name = λ k l. ap G.name (base_stays k l) ∙ G.base-name k l;
      added-name = λ k h l. G.added-name (old-node k) (added-before k h l (dec_le n₀ (old-node k))) (node-old k l).0;
      used = used-after;
      placed = λ k a b lk la lb e. rw (M.place_kept k lk, M.place_kept a la, M.place_kept b lb)
          (G.placed (old-node k) (old-node a) (old-node b) (node-old k lk).0 (node-old a la).0 (node-old b lb).0 e);
    }
      where
        base_stays : (k : ℕ) → k < n₀ → old-node k ≡ k
        base_stays k l = ap old-node (sym (base_kept k (omega arith))) ∙ (node-new k (omega (arith, G.enough)) (λ d. omega (arith, Y.added k d))).1
