-- Halving along any closed set of edges keeps a forest. Assumes nothing.
use Rattle.std.specs.Prelude.{◌≡◌, refl, ◌⊎◌, ◌≢◌}
use Rattle.std.proofs.Common.{sym, ap, ap₂, subst, ◌∙◌, arith}
use Rattle.std.proofs.Math.Logic.{inl, inr}
use mathlib.Core.List.{List, [], ◌∷◌, cons≢nil, tail-eq_of_cons-eq}
use Prim.Native.Nat.{ℕ, suc, ◌≤◌, ◌<◌}
use Rattle.std.proofs.Math.Decide.{dec_lt}
use Rattle.std.proofs.Math.ListN.{length}
use Rattle.growth.specs.Labels.Names.{Name, mid, mid-sym, mid-injective, Same, straight, crossed, same-sym}
use Rattle.growth.specs.Labels.Paths.{Path, Stream, Side, L, R, AllL-anchor, anchor, anchor-⊑, On, On-⊑, ◌⊑◌, ⊑_refl, ⊑-step, ⊑_trans, ⊑-length}
use Rattle.growth.specs.Labels.Corners.{Corners, corners, half-newest, half-holds, Holds, Edge, edge-holds, edge-pq, edge-qr, edge-rp}
use Rattle.growth.specs.Labels.Cover.{Label, at, corners-of, Meets, Covers, Present, no-shorter-row, same-label, ends-present}
use Rattle.growth.specs.Labels.Forest.{Forest}

-- w' is one of the paths that w is cut into, where `cut v` says that T(v) is halved: w itself, a half, or a half of a half.
pub data Piece (cut : Path → Type 0) (w w' : Path) : Type 0 where
  whole : ¬ cut w → w' ≡ w → Piece cut w w'
  one : (x : Side) → cut w → ¬ cut (x ∷ w) → w' ≡ x ∷ w → Piece cut w w'
  both : (x y : Side) → cut w → cut (x ∷ w) → w' ≡ y ∷ x ∷ w → Piece cut w w'

-- A piece goes on from w.
pub piece-⊑ : {cut : Path → Type 0} {w w' : Path} → Piece cut w w' → w ⊑ w'
piece-⊑ {w = w} (whole _ e) = rw e (⊑_refl w)
piece-⊑ {w = w} (one x _ _ e) = rw e (⊑-step x (⊑_refl w))
piece-⊑ {w = w} (both x y _ _ e) = rw e (⊑-step y (⊑-step x (⊑_refl w)))

module _ (cut : Path → Type 0) (w : Path) (s : Stream) (o : On w s) where
  -- On every stream through w there is a piece.
  pub piece-on : ((v : Path) → Dec (cut v)) → (w' : Path) × Piece cut w w' × On w' s
  piece-on cut? = go (cut? w) (cut? (s (length w) ∷ w))
    where
      x : Side
      x = s (length w)

      go : Dec (cut w) → Dec (cut (x ∷ w)) → (w' : Path) × Piece cut w w' × On w' s
      go (no n) _ = (w, whole n refl, o)
      go (yes c) (no n) = (x ∷ w, one x c n refl, (refl, o))
      go (yes c) (yes d) = (s (suc (length w)) ∷ x ∷ w, both x (s (suc (length w))) c d refl, (refl, (refl, o)))

  -- Two pieces on one stream are one.
  pub piece-once : (u v : Path) → Piece cut w u → Piece cut w v → On u s → On v s → u ≡ v
  piece-once u v (whole n e) (whole m f) hu hv = e ∙ sym f
  piece-once u v (whole n e) (one x c _ f) hu hv = absurd (n c)
  piece-once u v (whole n e) (both x y c _ f) hu hv = absurd (n c)
  piece-once u v (one x c _ e) (whole m f) hu hv = absurd (m c)
  piece-once u v (one x c n e) (one x' d m f) hu hv = e ∙ ap (◌∷ w) (sym (rw e at hu).0 ∙ (rw f at hv).0) ∙ sym f
  piece-once u v (one x c n e) (both x' y' d k f) hu hv = absurd (n (subst (λ (a : Side). cut (a ∷ w)) (sym (rw f at hv).1.0 ∙ (rw e at hu).0) k))
  piece-once u v (both x y c _ e) (whole m f) hu hv = absurd (m c)
  piece-once u v (both x y c k e) (one x' d m f) hu hv = absurd (m (subst (λ (a : Side). cut (a ∷ w)) (sym (rw e at hu).1.0 ∙ (rw f at hv).0) k))
  piece-once u v (both x y c k e) (both x' y' d m f) hu hv =
      e ∙ ap₂ (λ (a b : Side). a ∷ b ∷ w) (sym (rw e at hu).0 ∙ (rw f at hv).0) (sym (rw e at hu).1.0 ∙ (rw f at hv).1.0) ∙ sym f

-- A set of edges along which the rows may be halved: edges of rows, and with an edge of a row its refinement edge.
pub record Closed (B : List (Corners ℕ)) (t : ℕ) (lab : ℕ → Label) (S : Name → Name → Type 0) : Type 0 where
  pub decided : (x y : Name) → Dec (S x y)
  pub either_way : (x y : Name) → S x y → S y x
  pub of-rows : (x y : Name) → S x y → (j : ℕ) × (j < t) × Edge (corners-of B (lab j)) x y
  pub closed : (j : ℕ) → j < t → (x y : Name) → Edge (corners-of B (lab j)) x y → S x y → S (corners-of B (lab j)).q (corners-of B (lab j)).r

-- T(i, v) is halved: its refinement edge is in S.
abbrev pub Cut : List (Corners ℕ) → (Name → Name → Type 0) → ℕ → Path → Type 0
Cut B S i v = S (corners B i v).q (corners B i v).r

-- The family after halving along S: the pieces of every row, each once; the leftmost piece keeps the father's row, the others come
-- after all of these, and of one father's the right half's left part before its right part.
pub record Refined (B : List (Corners ℕ)) (S : Name → Name → Type 0) (t : ℕ) (lab : ℕ → Label) (t' : ℕ) (lab' : ℕ → Label) : Type 0 where
  pub father : ℕ → ℕ
  pub father-below : (k : ℕ) → k < t' → father k < t
  pub from-kept : (k : ℕ) → k < t' → (lab' k).from ≡ (lab (father k)).from
  pub piece : (k : ℕ) → k < t' → Piece (Cut B S (lab (father k)).from) (lab (father k)).path (lab' k).path
  pub all : (j : ℕ) → j < t → (w' : Path) → Piece (Cut B S (lab j).from) (lab j).path w' → (k : ℕ) × (k < t') × (lab' k ≡ at (lab j).from w')
  pub apart : (j k : ℕ) → j < t' → k < t' → father j ≡ father k → (lab' j).path ≡ (lab' k).path → j ≡ k
  pub more : t ≤ t'
  pub kept_row : (k : ℕ) → k < t → father k ≡ k
  pub kept-anchor : (k : ℕ) → k < t → anchor (lab' k).path ≡ anchor (lab k).path
  pub new-anchor : (k : ℕ) → t ≤ k → k < t' → anchor (lab' k).path ≢ anchor (lab (father k)).path
  pub right-last : (j k : ℕ) → j < t' → k < t' → father j ≡ father k
      → anchor (lab' j).path ≡ R ∷ (lab (father j)).path → (lab' k).path ≡ R ∷ R ∷ (lab (father k)).path → j < k

module _ {B : List (Corners ℕ)} {S : Name → Name → Type 0} {t : ℕ} {lab : ℕ → Label} (F : Forest B t lab) (K : Closed B t lab S) where
  -- A new node: the midpoint of an edge of S.
  New : Name → Type 0
  New z = (a : Name) × (b : Name) × S a b × (z ≡ mid a b)

  -- S holds of the same pair.
  S-same : {a b c d : Name} → Same a b c d → S c d → S a b
  S-same (straight e f) h = rw (e, f) h
  S-same (crossed e f) h = rw (e, f) (K.either_way _ _ h)

  -- An end of an edge of S is a node.
  S-present : (x y : Name) → S x y → Present B t lab x
  S-present x y h = let (j, l, e) = K.of-rows x y h in record { index = j; below = l; holds = edge-holds e }

  -- The midpoint of an edge of S is no node before.
  new-absent : (z : Name) → New z → ¬ Present B t lab z
  unfolding New
  new-absent z (a, b, h, e) P = let (j, l, E) = K.of-rows a b h in F.no_hang j l a b E (rw e at P)

  -- The midpoint of a pair with a new end is no node before,
  new-end : (x y : Name) → New x → ¬ Present B t lab (mid x y)
  new-end x y n P = new-absent x n (ends-present F.covers x y P)

  -- and no new node.
  new-end-new : (x y : Name) → New x → ¬ New (mid x y)
  unfolding New
  new-end-new x y n (c, d, h, e) = go (mid-injective x y c d e)
    where
      go : Same x y c d → ⊥
      go (straight u v) = new-absent x n (rw u (S-present c d h))
      go (crossed u v) = new-absent x n (rw u (S-present d c (K.either_way c d h)))

  -- An edge of a piece of row j is an edge of row j that is not in S, or has a new end.
  OldEdge : ℕ → Name → Name → Type 0
  OldEdge j x y = Edge (corners-of B (lab j)) x y × ¬ S x y

  -- The same pair as one with a new first end has a new end,
  first-new : {x y a b : Name} → Same x y a b → New a → New x ⊎ New y
  unfolding New
  first-new (straight e f) n = inl (rw e n)
  first-new (crossed e f) n = inr (rw f n)

  -- and so for the second end.
  second-new : {x y a b : Name} → Same x y a b → New b → New x ⊎ New y
  unfolding New
  second-new (straight e f) n = inr (rw f n)
  second-new (crossed e f) n = inl (rw e n)

  -- The edges of a piece.
  piece-edges : (j : ℕ) → j < t → (w' : Path) → Piece (Cut B S (lab j).from) (lab j).path w' → (x y : Name)
      → Edge (corners B (lab j).from w') x y → OldEdge j x y ⊎ (New x ⊎ New y)
  unfolding OldEdge New
  piece-edges j l w' p x y E = go p
    where
      i : ℕ
      i = (lab j).from

      w : Path
      w = (lab j).path

      half-edge : (s : Side) → Cut B S i w → ¬ Cut B S i (s ∷ w) → Edge (corners B i (s ∷ w)) x y → OldEdge j x y ⊎ (New x ⊎ New y)
      half-edge L c n (edge-qr e) = inl (edge-pq e, λ h. n (S-same (same-sym e) h))
      half-edge R c n (edge-qr e) = inl (edge-rp e, λ h. n (S-same (same-sym e) h))
      half-edge L c n (edge-pq e) = inr (first-new e (_, _, c, refl))
      half-edge R c n (edge-pq e) = inr (first-new e (_, _, c, refl))
      half-edge L c n (edge-rp e) = inr (second-new e (_, _, c, refl))
      half-edge R c n (edge-rp e) = inr (second-new e (_, _, c, refl))

      quarter-edge : (s r : Side) → Cut B S i w → Cut B S i (s ∷ w) → Edge (corners B i (r ∷ s ∷ w)) x y → New x ⊎ New y
      quarter-edge s L c d (edge-qr e) = first-new e (_, _, c, half-newest s (corners B i w))
      quarter-edge s R c d (edge-qr e) = second-new e (_, _, c, half-newest s (corners B i w))
      quarter-edge s r c d (edge-pq e) = first-new e (_, _, d, half-newest r (corners B i (s ∷ w)))
      quarter-edge s r c d (edge-rp e) = second-new e (_, _, d, half-newest r (corners B i (s ∷ w)))

      go : Piece (Cut B S i) w w' → OldEdge j x y ⊎ (New x ⊎ New y)
      go (whole n e) = let E' = rw e at E in inl (E', λ h. n (K.closed j l x y E' h))
      go (one s c n e) = half-edge s c n (rw e at E)
      go (both s r c d e) = inr (quarter-edge s r c d (rw e at E))

  -- A corner of a piece of row j is a corner of row j, or new.
  piece-holds : (j : ℕ) → j < t → (w' : Path) → Piece (Cut B S (lab j).from) (lab j).path w' → (z : Name)
      → Holds z (corners B (lab j).from w') → Present B t lab z ⊎ New z
  unfolding New
  piece-holds j l w' p z h = go p
    where
      i : ℕ
      i = (lab j).from

      w : Path
      w = (lab j).path

      row : Holds z (corners B i w) → Present B t lab z ⊎ New z
      row k = inl (record { index = j; below = l; holds = k })

      step : (s : Side) → Cut B S i w → Holds z (corners B i (s ∷ w)) → Present B t lab z ⊎ New z
      step s c k = elim (half-holds s (corners B i w) z k) [ inl e ↦ inr (_, _, c, e) | inr m ↦ row m ]

      go : Piece (Cut B S i) w w' → Present B t lab z ⊎ New z
      go (whole n e) = row (rw e at h)
      go (one s c n e) = step s c (rw e at h)
      go (both s r c d e) = elim (half-holds r (corners B i (s ∷ w)) z (rw e at h)) [ inl f ↦ inr (_, _, d, f) | inr m ↦ step s c m ]

  -- No row's path is a part of what another row's path has below its anchor.
  no_inner : (a b : ℕ) → a < t → b < t → (lab a).from ≡ (lab b).from → (v : Path) → anchor (lab b).path ≡ R ∷ v → (lab a).path ⊑ v → ⊥
  no_inner a b la lb e v f h =
      let up : R ∷ v ⊑ (lab b).path = rw f at (anchor-⊑ (lab b).path) in
      let s = ap length (no-shorter-row F.covers (lab a).from (lab a).path (lab b).path a b la lb refl (λ i. record { from = sym e i; path = (lab b).path })
      (⊑_trans h (⊑_trans (⊑-step R (⊑_refl v)) up))) in
      omega (arith, ⊑-length h, ⊑-length up)

  module _ {t' : ℕ} {lab' : ℕ → Label} (D : Refined B S t lab t' lab') where
    -- The father of a new row on a stream is on the stream.
    father-meets : (i : ℕ) (s : Stream) → Meets t' lab' i s → Meets t lab i s
    father-meets i s n =
        let k = n.index in
        let f = D.father k in
        record {
          index = f;
          below = D.father-below k n.below;
          by = (lab f).path;
          label = λ a. record { from = (sym (D.from-kept k n.below) ∙ ap (λ (l : Label). l.from) n.label) a; path = (lab f).path };
          begins = On-⊑ s (piece-⊑ (D.piece k n.below)) (rw n.label n.begins);
        }

    -- Every stream meets one new row.
    covers-after : Covers B t' lab'
    unfolding father-meets
    covers-after = record { known = known; meets = meets; once = once }
      where
        known : (k : ℕ) → k < t' → (lab' k).from < length B
        known k l = rw (D.from-kept k l) (F.covers.known (D.father k) (D.father-below k l))

        meets : (i : ℕ) → i < length B → (s : Stream) → Meets t' lab' i s
        meets i l s =
            let m = F.covers.meets i l s in
            let j = m.index in
            let (w', p, o) = piece-on (Cut B S (lab j).from) (lab j).path s (rw m.label m.begins) (λ v. K.decided _ _) in
            let (k, lk, e) = D.all j m.below w' p in
            record { index = k; below = lk; by = w'; label = e ∙ ap (λ (a : Label). at a.from w') m.label; begins = o }

        once : (i : ℕ) (s : Stream) (m n : Meets t' lab' i s) → m.index ≡ n.index
        once i s m n =
            let j = m.index in
            let k = n.index in
            let e : D.father j ≡ D.father k = F.covers.once i s (father-meets i s m) (father-meets i s n) in
            let pk : Piece (Cut B S (lab (D.father j)).from) (lab (D.father j)).path (lab' k).path
            = subst (λ (f : ℕ). Piece (Cut B S (lab f).from) (lab f).path (lab' k).path) (sym e) (D.piece k n.below) in
            let same = piece-once (Cut B S (lab (D.father j)).from) (lab (D.father j)).path s (father-meets i s m).begins (lab' j).path (lab' k).path
            (D.piece j m.below) pk (rw m.label m.begins) (rw n.label n.begins) in
            D.apart j k m.below n.below e same

    -- A corner of a new row is an old node or a new one.
    present-after : (z : Name) → Present B t' lab' z → Present B t lab z ⊎ New z
    present-after z P =
        let k = P.index in
        piece-holds (D.father k) (D.father-below k P.below) (lab' k).path (D.piece k P.below) z (rw (D.from-kept k P.below) at P.holds)

    -- Nothing hangs afterwards.
    no-hang-after : (k : ℕ) → k < t' → (x y : Name) → Edge (corners-of B (lab' k)) x y → ¬ Present B t' lab' (mid x y)
    unfolding New OldEdge
    no-hang-after k l x y E P = go (piece-edges (D.father k) (D.father-below k l) (lab' k).path (D.piece k l) x y (rw (D.from-kept k l) at E)) (present-after (mid x y) P)
      where
        go : OldEdge (D.father k) x y ⊎ (New x ⊎ New y) → Present B t lab (mid x y) ⊎ New (mid x y) → ⊥
        go (inl (e, n)) (inl p) = F.no_hang (D.father k) (D.father-below k l) x y e p
        go (inl (e, n)) (inr (a, b, h, f)) = n (S-same (mid-injective x y a b f) h)
        go (inr (inl n)) (inl p) = new-end x y n p
        go (inr (inl n)) (inr m) = new-end-new x y n m
        go (inr (inr n)) (inl p) = new-end y x n (rw (mid-sym y x) p)
        go (inr (inr n)) (inr m) = new-end-new y x n (rw (mid-sym y x) m)

    -- A row past the old ones was cut off to the right of its father's path, or of a part below it.
    new-right : (k : ℕ) → t ≤ k → k < t' → (v : Path) × (anchor (lab' k).path ≡ R ∷ v) × ((lab (D.father k)).path ⊑ v)
    new-right k h l = go (D.piece k l)
      where
        w : Path
        w = (lab (D.father k)).path

        other-anchor : anchor (lab' k).path ≢ anchor w
        other-anchor = D.new-anchor k h l

        go : Piece (Cut B S (lab (D.father k)).from) w (lab' k).path → (v : Path) × (anchor (lab' k).path ≡ R ∷ v) × (w ⊑ v)
        go (whole _ e) = absurd (other-anchor (ap anchor e))
        go (one L _ _ e) = absurd (other-anchor (ap anchor e))
        go (one R _ _ e) = (w, ap anchor e, ⊑_refl w)
        go (both L L _ _ e) = absurd (other-anchor (ap anchor e))
        go (both L R _ _ e) = (L ∷ w, ap anchor e, ⊑-step L (⊑_refl w))
        go (both R L _ _ e) = (w, ap anchor e, ⊑_refl w)
        go (both R R _ _ e) = (R ∷ w, ap anchor e, ⊑-step R (⊑_refl w))

    -- The order of the rows is kept.
    ordered-after : (j k : ℕ) → j < t' → k < t' → (lab' j).from ≡ (lab' k).from
        → (w : Path) → anchor (lab' k).path ≡ R ∷ w → anchor (lab' j).path ≡ anchor w → j < k
    ordered-after j k lj lk e w a b = go (dec_lt j t) (dec_lt k t)
      where
        fj : ℕ
        fj = D.father j

        fk : ℕ
        fk = D.father k

        bj : fj < t
        bj = D.father-below j lj

        bk : fk < t
        bk = D.father-below k lk

        from : (lab fj).from ≡ (lab fk).from
        from = sym (D.from-kept j lj) ∙ e ∙ D.from-kept k lk

        -- both new: k is the right half of a right half, and j is the row of that right half
        new : t ≤ k → (v : Path) → anchor (lab' j).path ≡ R ∷ v → (lab fj).path ⊑ v → Piece (Cut B S (lab fk).from) (lab fk).path (lab' k).path → j < k
        new h v f u (whole _ g) = absurd (D.new-anchor k h lk (ap anchor g))
        new h v f u (one L _ _ g) = absurd (D.new-anchor k h lk (ap anchor g))
        new h v f u (one R _ _ g) = absurd (no_inner fj fk bj bk from v (ap anchor (tail-eq_of_cons-eq (sym (ap anchor g) ∙ a)) ∙ sym b ∙ f) u)
        new h v f u (both L L _ _ g) = absurd (D.new-anchor k h lk (ap anchor g))
        new h v f u (both L R _ _ g) = absurd (no_inner fj fk bj bk from v (ap anchor (tail-eq_of_cons-eq (sym (ap anchor g) ∙ a)) ∙ sym b ∙ f) u)
        new h v f u (both R L _ _ g) = absurd (no_inner fj fk bj bk from v (ap anchor (tail-eq_of_cons-eq (sym (ap anchor g) ∙ a)) ∙ sym b ∙ f) u)
        new h v f u (both R R _ _ g) =
            let here : (lab fk).path ≡ v = tail-eq_of_cons-eq (ap anchor (tail-eq_of_cons-eq (sym (ap anchor g) ∙ a)) ∙ sym b ∙ f) in
            let up : lab fk ≡ at (lab fj).from (lab fk).path = λ i. record { from = sym from i; path = (lab fk).path } in
            let same = no-shorter-row F.covers (lab fj).from (lab fj).path (lab fk).path fj fk bj bk refl up (subst (λ (x : Path). (lab fj).path ⊑ x) (sym here) u) in
            D.right-last j k lj lk (same-label F.covers fj fk bj bk (λ i. record { from = from i; path = same i }))
            (f ∙ ap (R ∷◌) (sym here ∙ sym same)) g

        go : Dec (j < t) → Dec (k < t) → j < k
        go (yes hj) (yes hk) = F.ordered j k hj hk
            (ap (λ (m : ℕ). (lab m).from) (sym (D.kept_row j hj)) ∙ from ∙ ap (λ (m : ℕ). (lab m).from) (D.kept_row k hk))
            w (sym (D.kept-anchor k hk) ∙ a) (sym (D.kept-anchor j hj) ∙ b)
        go (yes hj) (no hk) = omega arith
        go (no hj) (yes hk) =
            let (v, f, u) = new-right j (omega arith) lj in
            let low : R ∷ v ⊑ w = rw (sym b ∙ f) at (anchor-⊑ w) in
            absurd (no_inner fj fk bj bk from w (ap (λ (m : ℕ). anchor (lab m).path) (D.kept_row k hk) ∙ sym (D.kept-anchor k hk) ∙ a)
            (⊑_trans u (⊑_trans (⊑-step R (⊑_refl v)) low)))
        go (no hj) (no hk) = let (v, f, u) = new-right j (omega arith) lj in new (omega arith) v f u (D.piece k lk)

    -- REFINING KEEPS A FOREST.
    pub forest-refined : Forest B t' lab'
    forest-refined = record {
      covers = covers-after;
      no_hang = no-hang-after;
      enough = omega (arith, F.enough, D.more);
      first-from = λ j l. let h : j < t = omega (arith, F.enough) in
          D.from-kept j (omega (arith, D.more)) ∙ ap (λ (m : ℕ). (lab m).from) (D.kept_row j h) ∙ F.first-from j l;
      first-left = λ j l. let h : j < t = omega (arith, F.enough) in
          (AllL-anchor (lab' j).path).1 (D.kept-anchor j h ∙ (AllL-anchor (lab j).path).0 (F.first-left j l));
      later-right = λ k l h a. later k l h ((AllL-anchor (lab' k).path).0 a) (dec_lt k t);
      ordered = ordered-after;
    }
      where
        later : (k : ℕ) → k < t' → length B ≤ k → anchor (lab' k).path ≡ [] → Dec (k < t) → ⊥
        later k l h a (yes m) = F.later-right k m h ((AllL-anchor (lab k).path).1 (sym (D.kept-anchor k m) ∙ a))
        later k l h a (no m) = let (v, f, _) = new-right k (omega arith) l in cons≢nil (sym f ∙ a)
