-- Coarsening keeps a mesh grown from a base. Assumes nothing.
use Rattle.std.specs.Prelude.{Bool, true, false, not, ◌⊎◌, ◌≡◌, ℕ, zero, suc, ◌+◌, ◌≤◌, ◌<◌, eqb, length, get_or}
use mathlib.Core.List.Memᴰ
use mathlib.Core.List.{List, [], ◌∷◌, map, Memᴰ}
use Rattle.std.proofs.Common.{inl, inr, sym, subst, ap₂, ◌∙◌, zero-add, arith, eqb-true, eq-eqb}
use Rattle.std.proofs.Math.Path.{refl, ap}
use Rattle.std.proofs.lemmas.List.{length-map}
use Rattle.std.proofs.Math.ListN.{get_or-map}
use Rattle.lists.specs.Lists.{any, joined}
use Rattle.lists.specs.ListsLaw.{clash, All-at, any_at, any-row}
use Rattle.lists.specs.MembersLaw.{mem-at, at_mem}
use Rattle.lists.specs.Tally.{bit}
use Rattle.meaning.specs.declared.Tri.{Tri}
use Rattle.meaning.specs.Mesh.{Mesh, tri, edge, at}
use Rattle.meaning.specs.Lawful.{row_of}
use Rattle.meaning.specs.Good.{Brothers, span}
use Rattle.meaning.specs.Coarsen.{fate, taken, stays, renumber, renamed, without, coarsened}
use Rattle.laws.specs.Edges.{edge-comm, same_tri-eq}
use Rattle.laws.specs.Stay.{stayed-more, staying-length}
use Rattle.laws.specs.Star.{Pair, good-added}
use Rattle.laws.specs.CoarsenRows.{Takeable, touched, brood, Fate, to-father, to_none, to-self, fate-is, touched-is, broods}
use Rattle.laws.specs.Coarsen.{taken_is, takeable, coarsened-lawful, coarsened-gone, coarsened-preserved}
use Rattle.growth.specs.Labels.Names.{mid-injective, Same, straight, crossed}
use Rattle.growth.specs.Labels.Corners.{Corners, is-p, arrow-rp}
use Rattle.growth.specs.Labels.Cover.{Label, corners-of}
use Rattle.growth.specs.Labels.Groups.{total, total-same, owner, keep, keep-cases, close-old, joined_length, joined_at, sizes}
use Rattle.growth.specs.Labels.ForestCoarsened.{Goes, EndsR, goes?, stay}
use Rattle.growth.specs.Labels.Named.{p-below, name-p, same_number}
use Rattle.growth.specs.Labels.Around.{Of, pair-at}
use Rattle.growth.specs.Labels.GrownCoarsened.{renum, Removing, Gone, gone, gone-node, Merging, grown-coarsened}
use Rattle.growth.specs.Rows.{three, rows, all-rows, same-of-edge, arrow-in-one-row, corners-named}
use Rattle.growth.specs.GrownFrom.{GrownFrom}
use Rattle.growth.specs.Goodness.{Newest, Rows, Told, newest-told, good-newest}

module _ (base m : Mesh) (G : GrownFrom base m) (marks : List ℕ) where
  -- The nodes that go.
  abbrev zs : List ℕ
  zs = taken (length base.nodes) m marks

  abbrev D : ℕ → Type 0
  D z = any (eqb z) (taken (length base.nodes) m marks) ≡ true

  goes : (z : ℕ) → D z → (z < length m.nodes) × (length base.nodes ≤ z) × Newest base m G z
  goes z h =
      let r = any-row (eqb z) zs h in
      let t = (taken_is (length base.nodes) m marks z).0 (Memᴰ.cast (eqb-true z r.0 r.2) r.1) in
      (t.0, good-added (length base.nodes) m z t.2, good-newest base m G z t.2)

  taken-D : (z : ℕ) → Memᴰ z zs → D z
  taken-D z i = any_at (eqb z) (eq-eqb z z refl) i

  D? : (z : ℕ) → Dec (any (eqb z) (taken (length base.nodes) m marks) ≡ true)
  D? z = go (any (eqb z) zs) refl
    where
      go : (b : Bool) → any (eqb z) (taken (length base.nodes) m marks) ≡ b → Dec (any (eqb z) (taken (length base.nodes) m marks) ≡ true)
      go true e = yes e
      go false e = no (λ h. clash (sym h ∙ e))

  unfoldable Y : Removing (length base.nodes) (length m.nodes) (length m.tris) (rows m) (λ z. any (eqb z) (taken (length base.nodes) m marks) ≡ true)
  Y = record { decided = D?; below = λ z d. (goes z d).0; added = λ z d. (goes z d).1; newest = λ z d. (goes z d).2 }

  ok : Takeable m (taken (length base.nodes) m marks)
  ok = takeable (length base.nodes) m marks G.lawful

  -- ---- numbers

  renumber-is : (k : ℕ) → renumber zs k ≡ total (keep D D?) k
  renumber-is zero = refl
  renumber-is (suc k) =
      let a = stayed-more zs 0 k in
      let b : bit (stays zs (0 + k)) ≡ keep D D? k = rw zero-add (go (any (eqb k) zs) refl (keep-cases D D? k)) in
      omega (arith, renumber-is k)
    where
      go : (b : Bool) → any (eqb k) zs ≡ b → (D k × (keep D D? k ≡ 0)) ⊎ (¬ D k × (keep D D? k ≡ 1)) → bit (not b) ≡ keep D D? k
      go true e (inl (_, f)) = sym f
      go true e (inr (n, _)) = absurd (n e)
      go false e (inl (d, _)) = clash (sym d ∙ e)
      go false e (inr (_, f)) = sym f

  -- ---- the pair of a row pair

  module _ (z a b c : ℕ) (d : D z) (P : Rows base m G z a b c) where
    span-pair : span m z ≡ edge b c
    span-pair =
        let (lz, added, newest) = goes z d in
        let T : Told base m G z = newest-told base m G z lz added newest in
        T.span-told ∙ go T.b T.c
        (same_number G.grown.by_names T.b-below T.c-below P.b-below P.c-below (mid-injective _ _ _ _ (sym T.halves ∙ P.halves)))
      where
        go : (x y : ℕ) → Same x y b c → edge x y ≡ edge b c
        go x y (straight e f) = ap₂ edge e f
        go x y (crossed e f) = ap₂ edge e f ∙ edge-comm c b

    -- a is neither b nor c
    not_end : (x : ℕ) → edge a x ≡ span m z → ⊥
    not_end x e = go (same-of-edge a x b c (e ∙ span-pair))
      where
        go : Same a x b c → ⊥
        go (straight u v) =
            (corners-named m G.lawful P.left P.left_below).q≢r
            (ap (λ (s : Corners ℕ). s.q) P.left_is ∙ u ∙ sym (ap (λ (s : Corners ℕ). s.r) P.left_is))
        go (crossed u v) =
            (corners-named m G.lawful P.right P.right-below).q≢r
            (ap (λ (s : Corners ℕ). s.q) P.right_is ∙ sym u ∙ sym (ap (λ (s : Corners ℕ). s.r) P.right_is))

  -- ---- what becomes of a row

  abbrev row_at : ℕ → Tri
  row_at j = row_of m.tris j

  abbrev g : Tri → List Tri
  g u = fate (brood m (taken (length base.nodes) m marks)) u

  view : (j : ℕ) → j < length m.tris → Fate (brood m zs) zs (row_at j) (g (row_at j))
  view j l = fate-is m zs G.lawful ok (at_mem m.tris j (tri 0 0 0) l)

  touched-at : (j : ℕ) → j < length m.tris → touched zs (row_at j) ≡ any (eqb (row_at j).p) zs
  touched-at j l = touched-is m zs G.lawful ok (at_mem m.tris j (tri 0 0 0) l)

  -- A brother is a pair at the newest vertex of its rows.
  brother : {x : Brothers} → Memᴰ x (brood m zs) → (z : ℕ) × D z × Pair m z x
  brother {x} i = let (z, k, p) = All-at (broods m zs G.lawful ok) i in (z, taken-D z k, p)

  kept-fate : (j : ℕ) → j < length m.tris → ¬ D (rows m j).p → g (row_at j) ≡ row_at j ∷ []
  kept-fate j l n = go (view j l)
    where
      go : {us : List Tri} → Fate (brood m zs) zs (row_at j) us → us ≡ row_at j ∷ []
      go (to-father {b = x} i e) =
          let (z, d, p) = brother i in
          absurd (n (subst D (sym p.left-p ∙ ap (λ (u : Tri). u.p) (same_tri-eq x.left (row_at j) e)) d))
      go (to_none _ _ k y) = absurd (n (sym (touched-at j l) ∙ y))
      go (to-self k y) = refl

  module _ (z a b c : ℕ) (d : D z) (P : Rows base m G z a b c) where
    here : row_at P.left ≡ tri z a b
    here = λ i. tri (P.left_is i).p (P.left_is i).q (P.left_is i).r

    there : row_at P.right ≡ tri z c a
    there = λ i. tri (P.right_is i).p (P.right_is i).q (P.right_is i).r

    left-fate : g (row_at P.left) ≡ tri a b c ∷ []
    left-fate = go (view P.left P.left_below)
      where
        go : {us : List Tri} → Fate (brood m zs) zs (row_at P.left) us → us ≡ tri a b c ∷ []
        go (to-father {b = x} i e) =
            let (z', d', p) = brother i in
            let f : x.left ≡ tri z a b = same_tri-eq x.left (row_at P.left) e ∙ here in
            let ez : z' ≡ z = sym p.left-p ∙ ap (λ (u : Tri). u.p) f in
            let (k, lk, ek) = mem-at (tri 0 0 0) p.right-row in
            let same : k ≡ P.right = arrow-in-one-row m G.lawful k P.right lk P.right-below a z
            (arrow-rp (sym (ap (λ (u : Tri). u.r) ek ∙ p.joint ∙ ap (λ (u : Tri). u.q) f)) (sym (ap (λ (u : Tri). u.p) ek ∙ p.right-p ∙ ez)))
            (arrow-rp (sym (ap (λ (u : Tri). u.r) there)) (sym (ap (λ (u : Tri). u.p) there))) in
            let r : x.right ≡ tri z c a = sym ek ∙ ap row_at same ∙ there in
            ap₂ (λ (u v : Tri). tri u.q u.r v.q ∷ []) f r
        go (to_none {b = x} i e _ _) =
            let (z', d', p) = brother i in
            let f : x.right ≡ tri z a b = same_tri-eq x.right (row_at P.left) e ∙ here in
            let ez : z' ≡ z = sym p.right-p ∙ ap (λ (u : Tri). u.p) f in
            absurd (not_end z a b c d P x.left.r (edge-comm a x.left.r ∙ ap (edge x.left.r) (sym (ap (λ (u : Tri). u.q) f)) ∙ p.ends ∙ ap (span m) ez))
        go (to-self _ y) = clash (sym d ∙ ap (λ (k : ℕ). any (eqb k) zs) (sym (ap (λ (u : Tri). u.p) here)) ∙ sym (touched-at P.left P.left_below) ∙ y)

    right-fate : g (row_at P.right) ≡ []
    right-fate = go (view P.right P.right-below)
      where
        go : {us : List Tri} → Fate (brood m zs) zs (row_at P.right) us → us ≡ []
        go (to-father {b = x} i e) =
            let (z', d', p) = brother i in
            let f : x.left ≡ tri z c a = same_tri-eq x.left (row_at P.right) e ∙ there in
            let ez : z' ≡ z = sym p.left-p ∙ ap (λ (u : Tri). u.p) f in
            absurd (not_end z a b c d P x.right.q (ap (λ (k : ℕ). edge k x.right.q) (sym (ap (λ (u : Tri). u.r) f)) ∙ p.ends ∙ ap (span m) ez))
        go (to_none _ _ _ _) = refl
        go (to-self _ y) = clash (sym d ∙ ap (λ (k : ℕ). any (eqb k) zs) (sym (ap (λ (u : Tri). u.p) there)) ∙ sym (touched-at P.right P.right-below) ∙ y)

  -- ---- the rows close up

  abbrev Going : ℕ → Type 0
  Going = Goes (gone G.grown Y)

  abbrev going? : (j : ℕ) → Dec (Goes (gone G.grown Y) j)
  going? = goes? (gone G.grown Y)

  -- How many rows row j leaves.
  abbrev st : ℕ → ℕ
  st = stay (gone G.grown Y)

  size_is : (j : ℕ) → j < length m.tris → length (g (row_at j)) ≡ st j
  size_is j l = go (D? (rows m j).p) (keep-cases Going going? j)
    where
      z : ℕ
      z = (rows m j).p

      name-here : G.grown.name z ≡ (corners-of (all-rows base) (G.grown.lab j)).p
      name-here = name-p G.grown.by_names j l

      lz : z < length m.nodes
      lz = p-below G.grown.by_names j l

      one_of : D z → (Going j × (st j ≡ 0)) ⊎ (¬ Going j × (st j ≡ 1))
          → (a : ℕ) × (b : ℕ) × (c : ℕ) × (Q : Rows base m G z a b c) × Of G.grown j Q → length (g (row_at j)) ≡ st j
      one_of d (inl (w, _)) (a, b, c, Q, inl u) = absurd (subst (λ (x : Label). EndsR x.path) (ap G.grown.lab u ∙ Q.left-label) w.1)
      one_of d (inr (_, e)) (a, b, c, Q, inl u) = ap (λ (k : ℕ). length (g (row_at k))) u ∙ ap length (left-fate z a b c d Q) ∙ sym e
      one_of d (inl (_, e)) (a, b, c, Q, inr u) = ap (λ (k : ℕ). length (g (row_at k))) u ∙ ap length (right-fate z a b c d Q) ∙ sym e
      one_of d (inr (n, _)) (a, b, c, Q, inr u) =
          absurd (n (
            record { node = z; node-below = lz; is_name = sym name-here; removed = d },
            subst (λ (x : Label). EndsR x.path) (sym (ap G.grown.lab u ∙ Q.right-label)) tt,
          ))

      go : Dec (D z) → (Going j × (st j ≡ 0)) ⊎ (¬ Going j × (st j ≡ 1)) → length (g (row_at j)) ≡ st j
      go (yes d) k = let (lz', added, newest) = goes z d in one_of d k (pair-at G.grown z lz added newest j l (is-p refl))
      go (no n) (inl (w, _)) = absurd (n (gone-node G.grown Y z lz (subst (Gone G.grown Y) (sym name-here) w.0)))
      go (no n) (inr (_, e)) = ap length (kept-fate j l n) ∙ sym e

  abbrev after : Mesh
  after = coarsened (length base.nodes) m marks

  tris-are : after.tris ≡ map (renamed zs) (joined g m.tris)
  unfolding coarsened without
  tris-are = refl

  size-total : (k : ℕ) → k ≤ length m.tris → total (sizes g (tri 0 0 0) (tri 0 0 0) m.tris) k ≡ total st k
  size-total k l = total-same _ _ k (λ j lj. size_is j (omega arith))

  rows-coarser : length after.tris ≡ total st (length m.tris)
  rows-coarser =
      ap length tris-are ∙ length-map (joined g m.tris) (renamed zs) ∙ joined_length g (tri 0 0 0) (tri 0 0 0) m.tris ∙ size-total (length m.tris) (omega arith)

  -- A row afterwards.
  new-number-at : (k : ℕ) → k < length after.tris → (u : Tri) → g (row_at (owner st (length m.tris) k)) ≡ u ∷ [] → row_of after.tris k ≡ renamed zs u
  new-number-at k l u e =
      let o = owner st (length m.tris) k in
      let (lo, _, f) = close-old Going going? (length m.tris) k (omega (arith, rows-coarser)) in
      let now : k ≡ total (sizes g (tri 0 0 0) (tri 0 0 0) m.tris) o + 0 = omega (arith, size-total o (omega arith)) in
      ap (λ (ts : List Tri). get_or ts k (tri 0 0 0)) tris-are
      ∙ get_or-map (renamed zs) (joined g m.tris) k (tri 0 0 0)
      ∙ ap (renamed zs)
      (ap (λ (i : ℕ). get_or (joined g m.tris) i (tri 0 0 0)) now
      ∙ joined_at g (tri 0 0 0) (tri 0 0 0) m.tris o 0 lo (rw e (omega arith))
      ∙ ap (λ (ts : List Tri). get_or ts 0 (tri 0 0 0)) e)

  renum-is : (u : Tri) → three (renamed zs u) ≡ renum (total (keep D D?)) (three u)
  renum-is u = λ i. record { p = renumber-is u.p i; q = renumber-is u.q i; r = renumber-is u.r i }

  off : (x : ℕ) → ¬ D x → stays zs x ≡ true
  off x n = go (any (eqb x) zs) refl
    where
      go : (b : Bool) → any (eqb x) zs ≡ b → not b ≡ true
      go true e = absurd (n e)
      go false e = refl

  merging : Merging G.grown Y (length after.nodes) (length after.tris) (rows after) (at after)
  unfolding coarsened without Y
  merging = record {
    node-count = staying-length zs 0 m.nodes ∙ renumber-is (length m.nodes);
    row_count = rows-coarser;
    row_kept = λ k l n. let o = owner st (length m.tris) k in
        ap three (new-number-at k l (row_at o) (kept-fate o (close-old Going going? (length m.tris) k (omega (arith, rows-coarser))).0 n)) ∙ renum-is (row_at o);
    row-joined = λ k l z a b c d P e. ap three (new-number-at k l (tri a b c) (ap (λ (j : ℕ). g (row_at j)) (sym e) ∙ left-fate z a b c d P)) ∙ renum-is (tri a b c);
    place_kept = λ k l. let (lx, n, e) = close-old D D? (length m.nodes) k (omega (arith, staying-length zs 0 m.nodes, renumber-is (length m.nodes))) in
        ap (at after) (sym (renumber-is (owner (keep D D?) (length m.nodes) k) ∙ e))
        ∙ ap (λ a. a.place) ((coarsened-gone (length base.nodes) m marks G.lawful).node_kept (owner (keep D D?) (length m.nodes) k) lx (off _ n));
  }

  -- COARSENING KEEPS THE INVARIANT.
  pub from-coarsened : GrownFrom base (coarsened (length base.nodes) m marks)
  from-coarsened = record {
    lawful = coarsened-lawful (length base.nodes) m marks G.lawful;
    grown = grown-coarsened G.grown Y merging;
    base-node = λ k l. (coarsened-preserved (length base.nodes) m marks G.lawful G.grown.enough).base_kept k l ∙ G.base-node k l;
  }
