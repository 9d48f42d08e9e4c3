-- Coarsening any set of midpoints that are newest everywhere keeps a forest. Assumes nothing.
use Rattle.std.specs.Prelude.{◌≡◌, ◌⊎◌, List, [], ◌∷◌, ℕ, zero, suc, ◌≤◌, ◌<◌, length}
use Rattle.std.proofs.Math.Path.{refl}
use Rattle.std.proofs.Common.{sym, ap, subst, ◌∙◌, inl, inr, arith}
use Rattle.std.proofs.Math.Logic.Dec
use Rattle.std.proofs.Math.Decide.{dec_le, dec_lt, ℕ_discrete}
use Rattle.growth.specs.Labels.Names.{Name, mid, mid-same, Halfway, base-not-halfway}
use Rattle.growth.specs.Labels.Paths.{Path, Stream, Side, L, R, AllL, anchor, AllL-anchor, On, ⊑_refl, ⊑-step}
use Rattle.growth.specs.Labels.Corners.{Corners, corners, half-newest, half-holds, half_keeps, base-corner, Holds, is-p, Edge, edge-pq, edge-qr, edge-rp}
use Rattle.growth.specs.Labels.Levels.{Compatible, static}
use Rattle.growth.specs.Labels.Cover.{Label, at, corners-of, Meets, Covers, Present, no-shorter-row, same-label}
use Rattle.growth.specs.Labels.Newest.{NewestEverywhere, brother, newest-birth, birth-le-gen}
use Rattle.growth.specs.Labels.Forest.{Forest}
use Rattle.growth.specs.Labels.Groups.{total, owner, keep, close-old, close-new, close-increasing}

-- The last step is R.
abbrev pub EndsR : Path → Type 0
EndsR [] = ⊥
EndsR (L ∷ w) = ⊥
EndsR (R ∷ w) = Unit {0}

-- One step back.
abbrev pub back : Path → Path
back [] = []
back (x ∷ w) = w

-- Whether the last step is R is decided.
ends_r? : (w : Path) → Dec (EndsR w)
ends_r? [] = no (λ h. h)
ends_r? (L ∷ w) = no (λ h. h)
ends_r? (R ∷ w) = yes tt

-- Nodes to be removed: midpoints that are newest everywhere.
pub record Removal (B : List (Corners ℕ)) (t : ℕ) (lab : ℕ → Label) (Z : Name → Type 0) : Type 0 where
  pub decided : (z : Name) → Dec (Z z)
  pub is-mid : (z : Name) → Z z → Halfway z
  pub newest : (z : Name) → Z z → NewestEverywhere B t lab z

module _ {B : List (Corners ℕ)} {t : ℕ} {lab : ℕ → Label} {Z : Name → Type 0} (X : Removal B t lab Z) where
  -- A row at a removed node becomes its father,
  pub lift : Label → Label
  lift l = elim (X.decided (corners-of B l).p) [ yes _ ↦ at l.from (back l.path) | no _ ↦ l ]

  -- and a right row there goes.
  abbrev pub Goes : ℕ → Type 0
  Goes j = Z (corners-of B (lab j)).p × EndsR (lab j).path

  pub goes? : (j : ℕ) → Dec (Z (corners-of B (lab j)).p × EndsR (lab j).path)
  goes? j = Dec.and (X.decided (corners-of B (lab j)).p) (ends_r? (lab j).path)

  -- The family that is left: the rows that do not go, in order, lifted.
  pub record Coarsened (t' : ℕ) (lab' : ℕ → Label) : Type 0 where
    pub old : ℕ → ℕ
    pub old_below : (k : ℕ) → k < t' → old k < t
    pub increasing : (j k : ℕ) → j < k → k < t' → old j < old k
    pub label : (k : ℕ) → k < t' → lab' k ≡ lift (lab (old k))
    pub stays : (k : ℕ) → k < t' → ¬ Goes (old k)
    pub all : (j : ℕ) → j < t → ¬ Goes j → (k : ℕ) × (k < t') × (old k ≡ j)

  -- How many rows row j leaves: none if it goes, and else one.
  abbrev pub stay : ℕ → ℕ
  stay = keep (λ j. Z (corners-of B (lab j)).p × EndsR (lab j).path) goes?

  -- The rows that stay, closed up and lifted, are such a family.
  unfoldable pub closed-up : {t' : ℕ} → t' ≡ total stay t → Coarsened t' (λ k. lift (lab (owner stay t k)))
  closed-up e = record {
    old = owner stay t;
    old_below = λ k l. (close-old Goes goes? t k (omega arith)).0;
    increasing = λ j k h l. close-increasing Goes goes? t j k h (omega arith);
    label = λ k l. refl;
    stays = λ k l. (close-old Goes goes? t k (omega arith)).1;
    all = λ j l m. let p = close-new Goes goes? t j l m in (total stay j, omega (arith, p.0), p.1);
  }

  -- What lifting does, by cases.
  pub lift-keeps : (l : Label) → ¬ Z (corners-of B l).p → lift l ≡ l
  unfolding lift
  lift-keeps l n = go (X.decided (corners-of B l).p)
    where
      go : (d : Dec (Z (corners-of B l).p)) → (elim d as (λ _. Label) [ yes _ ↦ at l.from (back l.path) | no _ ↦ l ]) ≡ l
      go (yes z) = absurd (n z)
      go (no _) = refl

  -- A row at a removed node is lifted one step.
  pub lift-joins : (l : Label) → Z (corners-of B l).p → lift l ≡ at l.from (back l.path)
  unfolding lift
  lift-joins l n = go (X.decided (corners-of B l).p)
    where
      go : (d : Dec (Z (corners-of B l).p)) → (elim d as (λ _. Label) [ yes _ ↦ at l.from (back l.path) | no _ ↦ l ]) ≡ at l.from (back l.path)
      go (yes z) = refl
      go (no m) = absurd (m n)

module _ {B : List (Corners ℕ)} (C : Compatible B) {t : ℕ} {lab : ℕ → Label} (F : Forest B t lab) {Z : Name → Type 0} (X : Removal B t lab Z) where
  -- What becomes of row j: it is kept, or it joins its brother as a half of T(i, w).
  data Fate (j : ℕ) : Type 0 where
    keeps : ¬ Z (corners-of B (lab j)).p → Fate j
    joins : (x : Side) (i : ℕ) (w : Path) → lab j ≡ at i (x ∷ w) → Z (corners-of B (lab j)).p → Fate j

  -- Every row has a fate.
  fate : (j : ℕ) → Fate j
  fate j = go (X.decided (corners-of B (lab j)).p)
    where
      halved : (i : ℕ) (w : Path) → lab j ≡ at i w → Z (corners-of B (lab j)).p → Fate j
      halved i [] e z =
          absurd (base-not-halfway _ (base-corner B i _ (is-p refl)).1 (X.is-mid _ (rw e at z)))
      halved i (x ∷ w) e z = joins x i w e z

      go : Dec (Z (corners-of B (lab j)).p) → Fate j
      go (yes z) = halved (lab j).from (lab j).path refl z
      go (no n) = keeps n

  -- Both halves of T(i, w) are rows if one of them is a row at a removed node.
  both-rows : (j : ℕ) → j < t → (x : Side) (i : ℕ) (w : Path) → lab j ≡ at i (x ∷ w) → Z (corners-of B (lab j)).p
      → (y : Side) → (k : ℕ) × (k < t) × (lab k ≡ at i (y ∷ w))
  both-rows j l L i w e z L = (j, l, e)
  both-rows j l R i w e z R = (j, l, e)
  both-rows j l L i w e z R = brother C F.covers _ (X.newest _ z) j l i L w e (rw e (is-p refl))
  both-rows j l R i w e z L = brother C F.covers _ (X.newest _ z) j l i R w e (rw e (is-p refl))

  -- A joined row's label is lifted to its father's.
  lift-half : (j : ℕ) (x : Side) (i : ℕ) (w : Path) → lab j ≡ at i (x ∷ w) → Z (corners-of B (lab j)).p → lift X (lab j) ≡ at i w
  lift-half j x i w e z = lift-joins X (lab j) z ∙ ap (λ (l : Label). at l.from (back l.path)) e

  -- The halves of one triangle have one newest corner.
  brother-removed : (j k : ℕ) (x y : Side) (i : ℕ) (w : Path) → lab j ≡ at i (x ∷ w) → lab k ≡ at i (y ∷ w) → Z (corners-of B (lab j)).p → Z (corners-of B (lab k)).p
  brother-removed j k x y i w e f z =
      subst Z (ap (λ (l : Label). (corners-of B l).p) e ∙ half-newest x (corners B i w) ∙ sym (half-newest y (corners B i w)) ∙ sym (ap (λ (l : Label). (corners-of B l).p) f)) z

  -- Rows that do not go have different lifted labels.
  stay-injective : (j k : ℕ) → j < t → k < t → ¬ Goes X j → ¬ Goes X k → lift X (lab j) ≡ lift X (lab k) → j ≡ k
  stay-injective j k lj lk gj gk e = go (fate j) (fate k)
    where
      longer : (i : ℕ) (x : Side) (w : Path) (a b : ℕ) → a < t → b < t → lab a ≡ at i w → lab b ≡ at i (x ∷ w) → ⊥
      longer i x w a b la lb ea eb =
          let s = ap length (no-shorter-row F.covers i w (x ∷ w) a b la lb ea eb (⊑-step x (⊑_refl w))) in
          omega arith

      left : (a : ℕ) (x : Side) (i : ℕ) (w : Path) → ¬ Goes X a → lab a ≡ at i (x ∷ w) → Z (corners-of B (lab a)).p → x ≡ L
      left a L i w g f z = refl
      left a R i w g f z = absurd (g (z, rw f tt))

      go : Fate j → Fate k → j ≡ k
      go (keeps m) (keeps n) = same-label F.covers j k lj lk (sym (lift-keeps X (lab j) m) ∙ e ∙ lift-keeps X (lab k) n)
      go (keeps m) (joins y i w f z) = absurd (longer i y w j k lj lk (sym (lift-keeps X (lab j) m) ∙ e ∙ lift-half k y i w f z) f)
      go (joins x i w f z) (keeps n) = absurd (longer i x w k j lk lj (sym (lift-keeps X (lab k) n) ∙ sym e ∙ lift-half j x i w f z) f)
      go (joins x i w f z) (joins y i' w' f' z') =
          let a = left j x i w gj f z in
          let b = left k y i' w' gk f' z' in
          let c = sym (lift-half j x i w f z) ∙ e ∙ lift-half k y i' w' f' z' in
          same-label F.covers j k lj lk (f ∙ ap (λ (s : Side). at i (s ∷ w)) (a ∙ sym b) ∙ ap (λ (l : Label). at l.from (y ∷ l.path)) c ∙ sym f')

  module _ {t' : ℕ} {lab' : ℕ → Label} (D : Coarsened X t' lab') where
    -- Every old row has an heir, with its lifted label.
    heir : (j : ℕ) → j < t → (k : ℕ) × (k < t') × (lab' k ≡ lift X (lab j))
    heir j l = go (fate j)
      where
        direct : (a : ℕ) → a < t → ¬ Goes X a → (k : ℕ) × (k < t') × (lab' k ≡ lift X (lab a))
        direct a la g = let (k, lk, e) = D.all a la g in (k, lk, D.label k lk ∙ ap (λ (m : ℕ). lift X (lab m)) e)

        go : Fate j → (k : ℕ) × (k < t') × (lab' k ≡ lift X (lab j))
        go (keeps n) = direct j l (λ g. n g.0)
        go (joins L i w e z) = direct j l (λ g. rw e at g.1)
        go (joins R i w e z) =
            let (a, la, f) = both-rows j l R i w e z L in
            let (k, lk, g) = direct a la (λ g. rw f at g.1) in
            (k, lk, g ∙ lift-half a L i w f (brother-removed j a R L i w e f z) ∙ sym (lift-half j R i w e z))

    -- A lifted row is on the streams of the row.
    lift-on : (j i : ℕ) (v : Path) (s : Stream) → lab j ≡ at i v → On v s → (u : Path) × (lift X (lab j) ≡ at i u) × On u s
    lift-on j i v s e o = go (fate j)
      where
        go : Fate j → (u : Path) × (lift X (lab j) ≡ at i u) × On u s
        go (keeps n) = (v, lift-keeps X (lab j) n ∙ e, o)
        go (joins x i' w f z) =
            let c = sym e ∙ f in
            (w, lift-half j x i' w f z ∙ ap (λ (a : ℕ). at a w) (sym (ap (λ (l : Label). l.from) c)), (rw (ap (λ (l : Label). l.path) c) at o).1)

    -- On every stream of a new row there is an old row that it is the lifted row of.
    back_on : (i : ℕ) (s : Stream) (n : Meets t' lab' i s) → (m : Meets t lab i s) × (lab' n.index ≡ lift X (lab m.index))
    back_on i s n = go (fate (D.old n.index))
      where
        o : ℕ
        o = D.old n.index

        lo : o < t
        lo = D.old_below n.index n.below

        lb : lab' n.index ≡ lift X (lab o)
        lb = D.label n.index n.below

        go : Fate o → (m : Meets t lab i s) × (lab' n.index ≡ lift X (lab m.index))
        go (keeps k) = (record { index = o; below = lo; by = n.by; label = sym (lift-keeps X (lab o) k) ∙ sym lb ∙ n.label; begins = n.begins }, lb)
        go (joins x i' w e z) =
            let c : at i' w ≡ at i n.by = sym (lift-half o x i' w e z) ∙ sym lb ∙ n.label in
            let y = s (length n.by) in
            let (a, la, f) = both-rows o lo x i' w e z y in (
              record { index = a; below = la; by = y ∷ n.by; label = f ∙ ap (λ (l : Label). at l.from (y ∷ l.path)) c; begins = (refl, n.begins) },
              lb ∙ lift-half o x i' w e z ∙ sym (lift-half a y i' w f (brother-removed o a x y i' w e f z)),
            )

    -- The closing up of the rows: a row's new number is no higher, and numbers keep their order.
    old-order : (j k : ℕ) → j < t' → k < t' → D.old j < D.old k → j < k
    old-order j k lj lk h = go (dec_lt j k) (ℕ_discrete j k)
      where
        go : Dec (j < k) → Dec (j ≡ k) → j < k
        go (yes l) _ = l
        go (no l) (yes e) = let e' = ap D.old e in absurd (omega arith)
        go (no l) (no n) = let h' = D.increasing k j (omega arith) lj in absurd (omega arith)

    -- Two new rows come from two old ones.
    old-same : (j k : ℕ) → j < t' → k < t' → D.old j ≡ D.old k → j ≡ k
    old-same j k lj lk e = go (dec_lt j k) (dec_lt k j)
      where
        go : Dec (j < k) → Dec (k < j) → j ≡ k
        go (yes l) _ = let h' = D.increasing j k l lk in absurd (omega arith)
        go (no l) (yes m) = let h' = D.increasing k j m lj in absurd (omega arith)
        go (no l) (no m) = omega arith

    -- Rows move down, never up.
    old-above : (k : ℕ) → k < t' → k ≤ D.old k
    old-above zero l = omega arith
    old-above (suc k) l = omega (arith, old-above k (omega arith), D.increasing k (suc k) (omega arith) l)

    -- Every stream meets one new row.
    covers-coarsened : Covers B t' lab'
    covers-coarsened = record { known = known; meets = meets; once = once }
      where
        known : (k : ℕ) → k < t' → (lab' k).from < length B
        known k l = rw (D.label k l) (go (fate (D.old k)))
          where
            go : Fate (D.old k) → (lift X (lab (D.old k))).from < length B
            go (keeps n) = rw (lift-keeps X (lab (D.old k)) n) (F.covers.known (D.old k) (D.old_below k l))
            go (joins x i w e z) = rw (lift-joins X (lab (D.old k)) z) (F.covers.known (D.old k) (D.old_below k l))

        meets : (i : ℕ) → i < length B → (s : Stream) → Meets t' lab' i s
        meets i l s =
            let m = F.covers.meets i l s in
            let (k, lk, e) = heir m.index m.below in
            let (u, f, o) = lift-on m.index i m.by s m.label m.begins in
            record { index = k; below = lk; by = u; label = e ∙ f; begins = o }

        once : (i : ℕ) (s : Stream) (m n : Meets t' lab' i s) → m.index ≡ n.index
        once i s m n =
            let (a, ea) = back_on i s m in
            let (b, eb) = back_on i s n in
            let c = ap (λ (j : ℕ). lift X (lab j)) (F.covers.once i s a b) in
            old-same m.index n.index m.below n.below
            (stay-injective (D.old m.index) (D.old n.index) (D.old_below m.index m.below) (D.old_below n.index n.below)
            (D.stays m.index m.below) (D.stays n.index n.below)
            (sym (D.label m.index m.below) ∙ ea ∙ c ∙ sym eb ∙ D.label n.index n.below))

    -- A corner of a new row was a corner of an old one: of a half, if the new row is a father.
    present-before : (z : Name) → Present B t' lab' z → Present B t lab z
    present-before z P = go (fate o)
      where
        o : ℕ
        o = D.old P.index

        lo : o < t
        lo = D.old_below P.index P.below

        go : Fate o → Present B t lab z
        go (keeps n) = record { index = o; below = lo; holds = rw (D.label P.index P.below ∙ lift-keeps X (lab o) n) at P.holds }
        go (joins x i w e z') =
            let h : Holds z (corners B i w) = rw (D.label P.index P.below ∙ lift-half o x i w e z') at P.holds in
            let (y, k) = half_keeps z (corners B i w) h in
            let (a, la, f) = both-rows o lo x i w e z' y in
            record { index = a; below = la; holds = rw f k }

    -- A corner of an old row that is not removed is a corner of a new one.
    pub present-stays : (z : Name) → ¬ Z z → Present B t lab z → Present B t' lab' z
    present-stays z nz P = go (fate P.index) (heir P.index P.below)
      where
        go : Fate P.index → (k : ℕ) × (k < t') × (lab' k ≡ lift X (lab P.index)) → Present B t' lab' z
        go (keeps n) (k, l, e) = record { index = k; below = l; holds = rw (e ∙ lift-keeps X (lab P.index) n) P.holds }
        go (joins s i w f z') (k, l, e) = record { index = k; below = l; holds = rw (e ∙ lift-half P.index s i w f z') (older (half-holds s (corners B i w) z (rw f at P.holds))) }
          where
            older : (z ≡ mid (corners B i w).q (corners B i w).r) ⊎ Holds z (corners B i w) → Holds z (corners B i w)
            older (inl g) = absurd (nz (subst Z (ap (λ (m : Label). (corners-of B m).p) f ∙ half-newest s (corners B i w) ∙ sym g) z'))
            older (inr h) = h

    -- The removed nodes are gone.
    pub removed-gone : (z : Name) → Z z → ¬ Present B t' lab' z
    removed-gone z zz P = go (fate o)
      where
        o : ℕ
        o = D.old P.index

        lo : o < t
        lo = D.old_below P.index P.below

        go : Fate o → ⊥
        go (keeps n) =
            let h = rw (D.label P.index P.below ∙ lift-keeps X (lab o) n) at P.holds in
            n (subst Z (X.newest z zz o lo h) zz)
        go (joins x i w e z') =
            let h : Holds z (corners B i w) = rw (D.label P.index P.below ∙ lift-half o x i w e z') at P.holds in
            let (y, k) = half_keeps z (corners B i w) h in
            let (a, la, f) = both-rows o lo x i w e z' y in
            let b = newest-birth C F.covers z (X.newest z zz) i (y ∷ w) a la f k in
            omega (arith, birth-le-gen (static B C i (rw e at (F.covers.known o lo)) w) h)

    -- Nothing hangs afterwards.
    no-hang-coarsened : (k : ℕ) → k < t' → (x y : Name) → Edge (corners-of B (lab' k)) x y → ¬ Present B t' lab' (mid x y)
    no-hang-coarsened k l x y E P = go (fate o)
      where
        o : ℕ
        o = D.old k

        lo : o < t
        lo = D.old_below k l

        -- the edges of a father: two were edges of its halves, the third had the removed node for its midpoint
        outer : (s : Side) (i : ℕ) (w : Path) → lab o ≡ at i (s ∷ w) → Z (corners-of B (lab o)).p → Edge (corners B i w) x y → ⊥
        outer s i w e z (edge-pq S) =
            let (a, la, f) = both-rows o lo s i w e z L in
            F.no_hang a la x y (rw f (edge-qr S)) (present-before (mid x y) P)
        outer s i w e z (edge-rp S) =
            let (a, la, f) = both-rows o lo s i w e z R in
            F.no_hang a la x y (rw f (edge-qr S)) (present-before (mid x y) P)
        outer s i w e z (edge-qr S) =
            removed-gone (mid x y) (subst Z (ap (λ (l : Label). (corners-of B l).p) e ∙ half-newest s (corners B i w) ∙ sym (mid-same S)) z) P

        go : Fate o → ⊥
        go (keeps n) = F.no_hang o lo x y (rw (D.label k l ∙ lift-keeps X (lab o) n) at E) (present-before (mid x y) P)
        go (joins s i w e z) = outer s i w e z (rw (D.label k l ∙ lift-half o s i w e z) at E)

    -- The rows of the base stay where they are.
    first-stay : (j : ℕ) → j < length B → ¬ Goes X j
    first-stay j l g = left (lab j).path (F.first-left j l) g.1
      where
        left : (w : Path) → AllL w → EndsR w → ⊥
        left [] a b = b
        left (L ∷ w) a b = b
        left (R ∷ w) a b = a

    -- A row of the base keeps its number.
    first-old : (n j : ℕ) → j < n → j < length B → (j < t') × (D.old j ≡ j)
    first-old zero j h l = absurd (omega arith)
    first-old (suc n) j h l = go (D.all j (omega (arith, F.enough)) (first-stay j l)) (λ k m. (first-old n k (omega arith) (omega arith)).1)
      where
        settle : (k : ℕ) → k < t' → D.old k ≡ j → Dec (k < j) → ((k : ℕ) → k < j → D.old k ≡ k) → (j < t') × (D.old j ≡ j)
        settle k lk e (yes m) ih = absurd (omega (arith, ih k m))
        settle k lk e (no m) ih = let s : k ≡ j = omega (arith, old-above k lk) in (omega arith, rw s at e)

        go : (k : ℕ) × (k < t') × (D.old k ≡ j) → ((k : ℕ) → k < j → D.old k ≡ k) → (j < t') × (D.old j ≡ j)
        go (k, lk, e) ih = settle k lk e (dec_lt k j) ih

    -- A row that stays keeps its anchor and its base row, and so whether it is a left part.
    anchor-kept : (k : ℕ) → k < t' → anchor (lab' k).path ≡ anchor (lab (D.old k)).path
    anchor-kept k l = go (fate (D.old k))
      where
        end : Label → Path
        end m = anchor m.path

        go : Fate (D.old k) → end (lab' k) ≡ end (lab (D.old k))
        go (keeps n) = ap end (D.label k l ∙ lift-keeps X (lab (D.old k)) n)
        go (joins L i w e z) = ap end (D.label k l ∙ lift-half (D.old k) L i w e z) ∙ sym (ap end e)
        go (joins R i w e z) = absurd (D.stays k l (z, rw e tt))

    -- A row that stays keeps its base row.
    from-kept : (k : ℕ) → k < t' → (lab' k).from ≡ (lab (D.old k)).from
    from-kept k l = go (fate (D.old k))
      where
        go : Fate (D.old k) → (lab' k).from ≡ (lab (D.old k)).from
        go (keeps n) = ap (λ (m : Label). m.from) (D.label k l ∙ lift-keeps X (lab (D.old k)) n)
        go (joins x i w e z) = ap (λ (m : Label). m.from) (D.label k l ∙ lift-joins X (lab (D.old k)) z)

    -- So all rows of the base are there.
    enough-after : Dec (length B ≤ t') → length B ≤ t'
    enough-after (yes h) = h
    enough-after (no h) = absurd (omega (arith, (first-old (suc t') t' (omega arith) (omega arith)).0))

    -- COARSENING KEEPS A FOREST.
    pub forest-coarsened : Forest B t' lab'
    forest-coarsened = record {
      covers = covers-coarsened;
      no_hang = no-hang-coarsened;
      enough = enough-after (dec_le (length B) t');
      first-from = λ j l. let (lj, e) = first-old (suc j) j (omega arith) l in from-kept j lj ∙ ap (λ (m : ℕ). (lab m).from) e ∙ F.first-from j l;
      first-left = λ j l. let (lj, e) = first-old (suc j) j (omega arith) l in (AllL-anchor (lab' j).path).1 (anchor-kept j lj ∙ ap (λ (m : ℕ). anchor (lab m).path) e ∙ (AllL-anchor (lab j).path).0 (F.first-left j l));
      later-right = λ k l h a. F.later-right (D.old k) (D.old_below k l) (omega (arith, old-above k l)) ((AllL-anchor (lab (D.old k)).path).1 (sym (anchor-kept k l) ∙ (AllL-anchor (lab' k).path).0 a));
      ordered = λ j k lj lk e w a b. old-order j k lj lk
          (F.ordered (D.old j) (D.old k) (D.old_below j lj) (D.old_below k lk) (sym (from-kept j lj) ∙ e ∙ from-kept k lk) w (sym (anchor-kept k lk) ∙ a) (sym (anchor-kept j lj) ∙ b));
    }
