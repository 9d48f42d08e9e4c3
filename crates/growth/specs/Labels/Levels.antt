-- The level of a pair of names, the birth of a name, and the static lemma: in a compatibly labelled base the corners of T(i, w)
-- know the generation, the length of w. Assumes nothing.
use Rattle.std.specs.Prelude.{◌≡◌, ◌⊎◌, ◌≢◌, List, [], ◌∷◌, length}
use Rattle.std.proofs.Math.Path.{refl}
use Rattle.std.proofs.Common.{sym, ap, subst, ◌∙◌, inl, inr, arith}
use Rattle.std.proofs.Math.Logic.Dec
use Prim.Native.Nat.{ℕ, zero, suc, pred, ◌≤◌, ◌<◌, max}
use Rattle.std.proofs.Math.Decide.{ℕ_discrete}
use Rattle.growth.specs.Labels.Names.{Name, base, node, mid, mid-cases, base≢mid, name?, Same, straight, crossed, same-sym, same_turn, same-trans, same_base}
use Rattle.growth.specs.Labels.Paths.{Side, L, R, Path}
use Rattle.growth.specs.Labels.Corners.{Corners, row, half, corners, Distinct, Edge, edge-pq, edge-qr, edge-rp}

-- Two pairs are decided to be the same or not.
pub same? : {A : Type 0} → Discrete A → (a b c d : A) → Dec (Same a b c d)
same? D a b c d = go (Dec.and (D a c) (D b d)) (Dec.and (D a d) (D b c))
  where
    go : Dec ((a ≡ c) × (b ≡ d)) → Dec ((a ≡ d) × (b ≡ c)) → Dec (Same a b c d)
    go (yes h) _ = yes (straight h.0 h.1)
    go (no h) (yes k) = yes (crossed k.0 k.1)
    go (no h) (no k) = no (λ s. elim s [ straight e f ↦ h (e, f) | crossed e f ↦ k (e, f) ])

-- A property of numbers that is decided for each is decided for some number below n.
pub some-below? : {P : ℕ → Type 0} → ((j : ℕ) → Dec (P j)) → (n : ℕ) → Dec ((j : ℕ) × (j < n) × P j)
some-below? d zero = no (λ h. let l = h.1 in omega arith)
some-below? {P} d (suc n) = go (d n) (some-below? d n)
  where
    go : Dec (P n) → Dec ((j : ℕ) × (j < n) × P j) → Dec ((j : ℕ) × (j < suc n) × P j)
    go (yes h) _ = yes (n, omega arith, h)
    go (no h) (yes k) = yes (k.0, omega arith, k.2)
    go (no h) (no k) = no (λ (j, l, e). older j l e (ℕ_discrete j n))
      where
        older : (j : ℕ) → j < suc n → P j → Dec (j ≡ n) → ⊥
        older j l e (yes same) = h (subst P same e)
        older j l e (no differs) = k (j, omega arith, e)

-- A base whose labelling is compatible: wherever row i holds row j's refinement edge, it is row i's refinement edge too.
pub record Compatible (B : List (Corners ℕ)) : Type 0 where
  pub distinct : (i : ℕ) → i < length B → Distinct (row B i)
  pub agrees : (i j : ℕ) → i < length B → j < length B
      → Edge (row B i) (row B j).q (row B j).r → Same (row B j).q (row B j).r (row B i).q (row B i).r

-- The level of a pair with these births: 0 if it is a refinement edge of the base.
level : {D : Type 0} → Dec D → ℕ → ℕ → ℕ
level (yes _) m n = 0
level (no _) m n = suc (max m n)

module _ (B : List (Corners ℕ)) where
  -- {x, y} is the refinement edge of some base row.
  abbrev pub RefEdge : Name → Name → Type 0
  RefEdge x y = (j : ℕ) × (j < length B) × Same x y (base (row B j).q) (base (row B j).r)

  -- It is decided.
  pub ref_edge? : (x y : Name) → Dec (RefEdge x y)
  ref_edge? x y = some-below? (λ j. same? name? x y (base (row B j).q) (base (row B j).r)) (length B)

  -- The birth of a name: 0, or one more than the level of the pair that it halves.
  pub birth : Name → ℕ
  birth (base k) = 0
  birth (node x y) = suc (level (ref_edge? x y) (birth x) (birth y))

  -- The level of a pair: 0 for a base refinement edge, and else one more than the later birth.
  pub lev : Name → Name → ℕ
  lev x y = level (ref_edge? x y) (birth x) (birth y)

  -- A base refinement edge has level 0.
  pub lev-ref : (x y : Name) → RefEdge x y → lev x y ≡ 0
  unfolding lev level
  lev-ref x y h = go (ref_edge? x y)
    where
      go : (d : Dec (RefEdge x y)) → level d (birth x) (birth y) ≡ 0
      go (yes _) = refl
      go (no k) = absurd (k h)

  -- Any other pair has one more than the later birth.
  pub lev-other : (x y : Name) → ¬ RefEdge x y → lev x y ≡ suc (max (birth x) (birth y))
  unfolding lev level
  lev-other x y h = go (ref_edge? x y)
    where
      go : (d : Dec (RefEdge x y)) → level d (birth x) (birth y) ≡ suc (max (birth x) (birth y))
      go (yes k) = absurd (h k)
      go (no _) = refl

  -- A base name was born in 0.
  pub birth-base : (k : ℕ) → birth (base k) ≡ 0
  unfolding birth
  birth-base k = refl

  -- Turned round it is one too.
  ref_edge-sym : (x y : Name) → RefEdge x y → RefEdge y x
  ref_edge-sym x y h = (h.0, h.1, same_turn h.2)

  -- The level of a pair is that of the pair turned round.
  pub lev-sym : (x y : Name) → lev x y ≡ lev y x
  lev-sym x y = go (ref_edge? x y)
    where
      go : Dec (RefEdge x y) → lev x y ≡ lev y x
      go (yes h) = lev-ref x y h ∙ sym (lev-ref y x (ref_edge-sym x y h))
      go (no h) = rw (lev-other x y h, lev-other y x (λ k. h (ref_edge-sym y x k))) (omega arith)

  -- A midpoint is born one above the level of its pair.
  pub birth-mid : (x y : Name) → birth (mid x y) ≡ suc (lev x y)
  unfolding birth lev
  birth-mid x y = go (mid-cases x y)
    where
      go : (mid x y ≡ node x y) ⊎ (mid x y ≡ node y x) → birth (mid x y) ≡ suc (lev x y)
      go (inl e) = rw e
      go (inr e) = rw (e, lev-sym x y)

  -- The static facts of a triangle of generation g: its corners differ, the refinement edge has level g and the other two g + 1,
  -- the newest corner was born in g, the others before (at g = 0: all in 0).
  pub record Static (g : ℕ) (t : Corners Name) : Type 0 where
    pub distinct : Distinct t
    pub lev-qr : lev t.q t.r ≡ g
    pub lev-pq : lev t.p t.q ≡ suc g
    pub lev-rp : lev t.r t.p ≡ suc g
    pub birth-p : birth t.p ≡ g
    pub birth-q : birth t.q ≤ pred g
    pub birth-r : birth t.r ≤ pred g

  -- A midpoint is on no base refinement edge, so its levels are made of births.
  mid-no-ref : (x y z : Name) → ¬ RefEdge (mid x y) z
  mid-no-ref x y z h = elim h.2 [ straight e f ↦ base≢mid _ x y (sym e) | crossed e f ↦ base≢mid _ x y (sym e) ]

  -- The level of a pair with a midpoint.
  pub lev-mid : (x y z : Name) → lev (mid x y) z ≡ suc (max (birth (mid x y)) (birth z))
  lev-mid x y z = lev-other (mid x y) z (mid-no-ref x y z)

  -- A triangle whose newest corner halves an edge of level g, and whose other two corners are older and span level g + 1.
  static-fresh : (g : ℕ) (x y a b : Name) → lev x y ≡ g → birth a ≤ g → birth b ≤ g → a ≢ b → lev a b ≡ suc g
      → Static (suc g) (record { p = mid x y; q = a; r = b })
  static-fresh g x y a b e u v d l =
      let m : birth (mid x y) ≡ suc g = birth-mid x y ∙ ap suc e in
      record {
        distinct = record { p≢q = λ k. let k' = ap birth k in omega arith; q≢r = d; r≢p = λ k. let k' = ap birth k in omega arith };
        lev-qr = l;
        lev-pq = rw lev-mid (omega arith);
        lev-rp = rw (lev-sym b (mid x y), lev-mid) (omega arith);
        birth-p = m;
        birth-q = omega arith;
        birth-r = omega arith;
      }

  -- Halving goes one generation on.
  pub static-half : (x : Side) (g : ℕ) (t : Corners Name) → Static g t → Static (suc g) (half x t)
  static-half L g t h = static-fresh g t.q t.r t.p t.q h.lev-qr (omega arith) (omega arith) (h.distinct).p≢q h.lev-pq
  static-half R g t h = static-fresh g t.q t.r t.r t.p h.lev-qr (omega arith) (omega arith) (h.distinct).r≢p h.lev-rp

  module _ (C : Compatible B) (i : ℕ) (l : i < length B) where
    -- In a compatible base a refinement edge that row i holds is row i's own.
    own-ref : (x y : ℕ) → RefEdge (base x) (base y) → Edge (row B i) x y → Same x y (row B i).q (row B i).r
    own-ref x y h (edge-qr s) = s
    own-ref x y h (edge-pq s) = same-trans (same_base h.2) (C.agrees i h.0 l h.1 (edge-pq (same-trans (same-sym (same_base h.2)) s)))
    own-ref x y h (edge-rp s) = same-trans (same_base h.2) (C.agrees i h.0 l h.1 (edge-rp (same-trans (same-sym (same_base h.2)) s)))

    -- So the edges p–q and r–p of row i are the refinement edge of no base row.
    pq-no-ref : ¬ RefEdge (base (row B i).p) (base (row B i).q)
    pq-no-ref h = elim (own-ref _ _ h (edge-pq (straight refl refl))) [ straight e f ↦ (C.distinct i l).p≢q e | crossed e f ↦ (C.distinct i l).r≢p (sym e) ]

    -- Nor is r–p.
    rp-no-ref : ¬ RefEdge (base (row B i).r) (base (row B i).p)
    rp-no-ref h = elim (own-ref _ _ h (edge-rp (straight refl refl))) [ straight e f ↦ (C.distinct i l).q≢r (sym e) | crossed e f ↦ (C.distinct i l).p≢q f ]

    -- THE STATIC LEMMA: T(i, w) has the static facts of generation length w.
    pub static : (w : Path) → Static (length w) (corners B i w)
    static [] = record {
      distinct = record {
        p≢q = λ e. (C.distinct i l).p≢q (cc);
        q≢r = λ e. (C.distinct i l).q≢r (cc);
        r≢p = λ e. (C.distinct i l).r≢p (cc);
      };
      lev-qr = lev-ref _ _ (i, l, straight refl refl);
      lev-pq = lev-other _ _ pq-no-ref ∙ simp birth-base;
      lev-rp = lev-other _ _ rp-no-ref ∙ simp birth-base;
      birth-p = birth-base _;
      birth-q = rw birth-base (omega arith);
      birth-r = rw birth-base (omega arith);
    }
    static (x ∷ w) = static-half x (length w) (corners B i w) (static w)
