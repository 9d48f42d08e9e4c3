-- The chain of rows round a node is the list of these rows; G1 by it. Assumes nothing.
use Rattle.std.specs.Prelude.{◌≡◌, ◌≢◌, Bool, true, ◌&&◌, ◌||◌, eqb, Option}
use Rattle.std.proofs.Math.Path.{refl, ap}
use Rattle.std.proofs.Common.{sym, ◌∙◌, eqb-true, ne_eqb}
use Rattle.std.proofs.Math.Bool.{false}
use mathlib.Core.List.{List, [], ◌∷◌, Memᴰ}
use Prim.Native.Nat.{ℕ, suc, ◌+◌, ◌*◌, ◌≤◌, ◌<◌}
use native.Mathlib.Omega.{arith}
use Rattle.std.proofs.Math.ListN.{length, get_or}
use Rattle.lists.specs.Lists.{all, any, only}
use Rattle.lists.specs.ListsLaw.{clash, or_no, All-at, All-imp, all_yes, yes-all, any-row, any_none}
use Rattle.lists.specs.MembersLaw.{only-in, only-passes, only-cong}
use Rattle.lists.specs.PartsLaw.{not_so}
use Rattle.lists.specs.Tally.{bit}
use Rattle.lists.specs.Search.{lowest, items}
use Rattle.lists.specs.ByNumberLaw.{items_of}
use Rattle.lists.specs.Loops.{code}
use Rattle.lists.specs.ChainLaw.{From, nowhere, there, search_is, only-there, only-nowhere}
use Rattle.meaning.specs.declared.Tri.{Tri}
use Rattle.meaning.specs.Mesh.{holds_node}
use Rattle.meaning.specs.Lawful.{Named}
use Rattle.meaning.specs.Good.{rows_of, G1}
use Rattle.meaning.specs.Tables.{row_at}
use Rattle.laws.specs.Meshes.{rows_alone, Fair}
use Rattle.round.specs.Round.{newest, newest_at, older, rows_round, Around, next_of, Numbers, round, round_from, round_by, two_or_four}

some : (k : ℕ) → eqb (suc k) 0 ≡ false
some k = ne_eqb (suc k) 0 (omega arith)

-- what five steps along the chain show
pub data Shape (rows : List ℕ) (t z : ℕ) : Numbers → Type 0 where
  two : (i j : ℕ) → i < t → j < t → rows_round rows t z ≡ row_at rows i ∷ row_at rows j ∷ [] → Shape rows t z (round (suc i) (suc j) 0 0 0)
  four : (i j k l : ℕ) → i < t → j < t → k < t → l < t → rows_round rows t z ≡ row_at rows i ∷ row_at rows j ∷ row_at rows k ∷ row_at rows l ∷ [] →
      Shape rows t z (round (suc i) (suc j) (suc k) (suc l) 0)
  other : {r : Numbers} → length (rows_round rows t z) ≢ 2 → length (rows_round rows t z) ≢ 4 → two_or_four r ≡ false → Shape rows t z r

module _ (rows : List ℕ) (t z : ℕ) where
  rest : ℕ → List Tri
  rest i = only (newest z) (items (row_at rows) i t)

  -- one step
  data Peel (i : ℕ) : ℕ → Type 0 where
    no_more : rest i ≡ [] → Peel i 0
    more : (j : ℕ) → j < t → (row_at rows j).p ≡ z → rest i ≡ row_at rows j ∷ rest (j + 1) → Peel i (suc j)

  peel : (i : ℕ) → i ≤ t → Peel i (code (lowest (newest_at rows z) i t))
  unfolding rest
  peel i h = go (lowest (newest_at rows z) i t) refl (search_is (newest_at rows z) i t h)
    where
      go : (r : Option ℕ) → lowest (newest_at rows z) i t ≡ r → From (newest_at rows z) i t r → Peel i (code r)
      go r e (nowhere n) = no_more (only-nowhere (newest z) (row_at rows) t i h e)
      go r e (there j a b y n) =
          let q : suc j ≡ j + 1 = omega arith in
          rw (← q) (more j b (eqb-true (row_at rows j).p z y) (only-there (newest z) (row_at rows) t i j h e))

  module _ (s : List ℕ) (nc : ℕ) (w : Around s nc rows t z) where
    step : (j : ℕ) → j < t → (row_at rows j).p ≡ z → Peel (j + 1) (next_of s nc (suc j))
    unfolding next_of
    step j h e =
        let q : get_or s (2 * nc + j) 0 ≡ code (lowest (newest_at rows z) (j + 1) t) = rw e at (w.nexts j h) in
        rw q (peel (j + 1) (omega arith))

    none_after : next_of s nc 0 ≡ 0
    unfolding next_of
    none_after = refl

    fifth : (i j k l : ℕ) → i < t → j < t → k < t → l < t → rows_round rows t z ≡ row_at rows i ∷ row_at rows j ∷ row_at rows k ∷ row_at rows l ∷ rest (l + 1) →
        {e : ℕ} → Peel (l + 1) e → Shape rows t z (round (suc i) (suc j) (suc k) (suc l) e)
    unfolding two_or_four
    fifth i j k l hi hj hk hl q (no_more p) = four i j k l hi hj hk hl (rw p at q)
    fifth i j k l hi hj hk hl q (more m hm e p) =
        let n = ap length (rw p at q) in
        other (λ f. omega arith) (λ f. omega arith) refused
      where
        refused : two_or_four (round (suc i) (suc j) (suc k) (suc l) (suc m)) ≡ false
        refused = rw (some j, some k, some l, some m)

    fourth : (i j k : ℕ) → i < t → j < t → k < t → rows_round rows t z ≡ row_at rows i ∷ row_at rows j ∷ row_at rows k ∷ rest (k + 1) →
        {d : ℕ} → Peel (k + 1) d → Shape rows t z (round (suc i) (suc j) (suc k) d (next_of s nc d))
    unfolding two_or_four
    fourth i j k hi hj hk q (no_more p) =
        let n = ap length (rw p at q) in
        rw none_after (other (λ f. omega arith) (λ f. omega arith) refused)
      where
        refused : two_or_four (round (suc i) (suc j) (suc k) 0 0) ≡ false
        refused = rw (some j, some k)
    fourth i j k hi hj hk q (more l hl e p) = fifth i j k l hi hj hk hl (rw p at q) (step l hl e)

    third : (i j : ℕ) → i < t → j < t → rows_round rows t z ≡ row_at rows i ∷ row_at rows j ∷ rest (j + 1) →
        {c : ℕ} → Peel (j + 1) c → Shape rows t z (round (suc i) (suc j) c (next_of s nc c) (next_of s nc (next_of s nc c)))
    third i j hi hj q (no_more p) = rw (none_after, none_after) (two i j hi hj (rw p at q))
    third i j hi hj q (more k hk e p) = fourth i j k hi hj hk (rw p at q) (step k hk e)

    second : (i : ℕ) → i < t → rows_round rows t z ≡ row_at rows i ∷ rest (i + 1) →
        {b : ℕ} → Peel (i + 1) b → Shape rows t z (round (suc i) b (next_of s nc b) (next_of s nc (next_of s nc b)) (next_of s nc (next_of s nc (next_of s nc b))))
    unfolding two_or_four
    second i hi q (no_more p) =
        let n = ap length (rw p at q) in
        rw (none_after, none_after, none_after) (other (λ f. omega arith) (λ f. omega arith) refused)
      where
        refused : two_or_four (round (suc i) 0 0 0 0) ≡ false
        refused = refl
    second i hi q (more j hj e p) = third i j hi hj (rw p at q) (step j hj e)

    first : {a : ℕ} → Peel 0 a → Shape rows t z (round_from s nc a)
    unfolding rest two_or_four
    first (no_more p) =
        let n = ap length p in
        rw (none_after, none_after, none_after, none_after) (other (λ f. omega arith) (λ f. omega arith) refused)
      where
        refused : two_or_four (round 0 0 0 0 0) ≡ false
        refused = refl
    first (more i hi e p) = second i hi p (step i hi e)

    pub shape_is : Shape rows t z (round_by s nc z)
    unfolding round_by
    shape_is = rw w.head (first (peel 0 (omega arith)))

-- ---- G1

pub shape-test : (rows : List ℕ) (t z : ℕ) {r : Numbers} → Shape rows t z r → two_or_four r ≡ eqb (length (rows_round rows t z)) 2 || eqb (length (rows_round rows t z)) 4
unfolding two_or_four
shape-test rows t z (two i j hi hj e) = rw (e, some j)
shape-test rows t z (four i j k l hi hj hk hl e) = rw (e, some j, some k, some l)
shape-test rows t z (other a b e) = e ∙ sym (rw (ne_eqb (length (rows_round rows t z)) 2 a, ne_eqb (length (rows_round rows t z)) 4 b))

module _ (rows : List ℕ) (n t z : ℕ) (f : Fair rows n t) where
  -- where no row holds z otherwise, the rows that hold z are those
  pub round-rows : any (older z) (items (row_at rows) 0 t) ≡ false → rows_of (rows_alone rows t) z ≡ rows_round rows t z
  round-rows e = only-cong (holds_node z) (newest z) (All-imp (λ w h. same w h) (any_none (older z) (items (row_at rows) 0 t) e))
    where
      same : (w : Tri) → older z w ≡ false → holds_node z w ≡ newest z w
      same w h =
          let k = or_no (eqb w.q z) (eqb w.r z) h in
          rw (k.0, k.1) (end (eqb w.p z))
        where
          end : (b : Bool) → b || false || false ≡ b
          end true = refl
          end false = refl

  G1-yes : any (older z) (items (row_at rows) 0 t) ≡ false → G1 (rows_alone rows t) z ≡ eqb (length (rows_round rows t z)) 2 || eqb (length (rows_round rows t z)) 4
  G1-yes e = rw (round-rows e, yes-all (only-passes (newest z) (items (row_at rows) 0 t)))

  G1-no : any (older z) (items (row_at rows) 0 t) ≡ true → G1 (rows_alone rows t) z ≡ false
  G1-no e = go (all (λ w. eqb w.p z) (rows_of (rows_alone rows t) z)) refl
    where
      row : (w : Tri) × Memᴰ w (items (row_at rows) 0 t) × (older z w ≡ true)
      row = any-row (older z) (items (row_at rows) 0 t) e

      holds : holds_node z row.0 ≡ true
      holds = three (eqb row.0.p z) (eqb row.0.q z) (eqb row.0.r z) row.2
        where
          three : (a b c : Bool) → b || c ≡ true → a || b || c ≡ true
          three true true c e = refl
          three true false c e = refl
          three false b c e = e

      go : (b : Bool) → all (λ w. eqb w.p z) (rows_of (rows_alone rows t) z) ≡ b →
          b && (eqb (length (rows_of (rows_alone rows t) z)) 2 || eqb (length (rows_of (rows_alone rows t) z)) 4) ≡ false
      go true q =
          let w = row.0 in
          let r = items_of (row_at rows) t row.1 in
          let nm : Named n w = rw r.2 (f.named r.0 r.1) in
          let p = eqb-true w.p z (All-at {P = λ w. eqb w.p z ≡ true} (all_yes (λ w. eqb w.p z) (rows_of (rows_alone rows t) z) q) (only-in (holds_node z) row.1 holds)) in
          not-q (eqb w.q z) refl nm p row.2
        where
          not-q : (b : Bool) → eqb row.0.q z ≡ b → Named n row.0 → row.0.p ≡ z → b || eqb row.0.r z ≡ true →
              eqb (length (rows_of (rows_alone rows t) z)) 2 || eqb (length (rows_of (rows_alone rows t) z)) 4 ≡ false
          not-q true x nm p o = absurd (nm.p≢q (p ∙ sym (eqb-true row.0.q z x)))
          not-q false x nm p o = absurd (nm.r≢p (eqb-true row.0.r z o ∙ sym p))
      go false q = refl

  pub older-none : G1 (rows_alone rows t) z ≡ true → any (older z) (items (row_at rows) 0 t) ≡ false
  older-none e = not_so (any (older z) (items (row_at rows) 0 t)) (λ q. clash (sym e ∙ G1-no q))

  -- G1, as the code asks it
  G1-is : (s : List ℕ) (nc a : ℕ) (k : Numbers) (c : Bool) → Around s nc rows t z → a ≡ get_or s (nc + z) 0 → k ≡ round_by s nc z → c ≡ two_or_four k → eqb a 0 && c ≡ G1 (rows_alone rows t) z
  G1-is s nc a k c w e g h = rw (h, e, w.elder, g) (go (any (older z) (items (row_at rows) 0 t)) refl)
    where
      go : (b : Bool) → any (older z) (items (row_at rows) 0 t) ≡ b → eqb (bit b) 0 && two_or_four (round_by s nc z) ≡ G1 (rows_alone rows t) z
      go true q = sym (G1-no q)
      go false q = shape-test rows t z (shape_is rows t z s nc w) ∙ sym (G1-yes q)

  module _ (s : List ℕ) (nc a : ℕ) (w : Around s nc rows t z) (e : a ≡ get_or s (nc + z) 0) where
    pub G1-round : (k : Numbers) (c : Bool) → a ≡ 0 → k ≡ round_by s nc z → c ≡ two_or_four k → c ≡ G1 (rows_alone rows t) z
    G1-round k c h g f = rw h at (G1-is s nc a k c w e g f)

    pub G1-held : (a ≡ 0 → ⊥) → eqb a 0 ≡ G1 (rows_alone rows t) z
    G1-held o = ne_eqb a 0 o ∙ rw (ne_eqb a 0 o) at (G1-is s nc a (round_by s nc z) (two_or_four (round_by s nc z)) w e refl refl)
