-- Nodes that are the newest corner wherever they are a corner: brothers, and where to find one. Assumes nothing.
use Rattle.std.specs.Prelude.{◌≡◌, List, ◌∷◌, ℕ, zero, suc, ◌≤◌, ◌<◌, length}
use Rattle.std.proofs.Common.{sym, ap, ◌∙◌, arith}
use Rattle.std.proofs.Math.Decide.{dec_le, ℕ_discrete}
use Rattle.growth.specs.Labels.Names.{Name}
use Rattle.growth.specs.Labels.Paths.{Side, other, Path, ⊑_refl, ⊑-whole}
use Rattle.growth.specs.Labels.Corners.{Corners, half-newest, corners, Holds, is-p, is-q, is-r}
use Rattle.growth.specs.Labels.Levels.{Compatible, birth, Static, static}
use Rattle.growth.specs.Labels.Cover.{Label, at, corners-of, gen, Covers, Halved, kept_row}

-- z is the newest corner of every row that holds it.
abbrev pub NewestEverywhere : List (Corners ℕ) → ℕ → (ℕ → Label) → Name → Type 0
NewestEverywhere B t lab z = (j : ℕ) → j < t → Holds z (corners-of B (lab j)) → z ≡ (corners-of B (lab j)).p

-- A corner was born no later than its triangle.
pub birth-le-gen : {B : List (Corners ℕ)} {g : ℕ} {t : Corners Name} {z : Name} → Static B g t → Holds z t → birth B z ≤ g
birth-le-gen h (is-p e) = rw e (omega arith)
birth-le-gen h (is-q e) = rw e (omega arith)
birth-le-gen h (is-r e) = rw e (omega arith)

-- From generation 1 on a corner as young as its triangle is the newest.
pub newest-if-young : {B : List (Corners ℕ)} {g : ℕ} {t : Corners Name} {z : Name} → Static B g t → Holds z t → 1 ≤ g → g ≤ birth B z → z ≡ t.p
newest-if-young h (is-p e) l k = e
newest-if-young h (is-q e) l k = let k' = rw e at k in absurd (omega arith)
newest-if-young h (is-r e) l k = let k' = rw e at k in absurd (omega arith)

-- Among finitely many numbers, at least one, there is a greatest.
pub greatest : (f : ℕ → ℕ) (t : ℕ) → 1 ≤ t → (j : ℕ) × (j < t) × ((k : ℕ) → k < t → f k ≤ f j)
greatest f zero h = absurd (omega arith)
greatest f (suc zero) h = (0, omega arith, λ k l. let e : k ≡ 0 = omega arith in rw e (omega arith))
greatest f (suc (suc t)) h = go (greatest f (suc t) (omega arith))
  where
    go : (j : ℕ) × (j < suc t) × ((k : ℕ) → k < suc t → f k ≤ f j) → (j : ℕ) × (j < suc (suc t)) × ((k : ℕ) → k < suc (suc t) → f k ≤ f j)
    go (j, l, top) = pick (dec_le (f j) (f (suc t)))
      where
        over : (m : ℕ) → f j ≤ m → f (suc t) ≤ m → (k : ℕ) → k < suc (suc t) → Dec (k ≡ suc t) → f k ≤ m
        over m u v k lk (yes e) = rw e v
        over m u v k lk (no d) = omega (arith, top k (omega arith))

        pick : Dec (f j ≤ f (suc t)) → (j : ℕ) × (j < suc (suc t)) × ((k : ℕ) → k < suc (suc t) → f k ≤ f j)
        pick (yes u) = (suc t, omega arith, λ k lk. over (f (suc t)) u (omega arith) k lk (ℕ_discrete k (suc t)))
        pick (no u) = (j, omega arith, λ k lk. over (f j) (omega arith) (omega arith) k lk (ℕ_discrete k (suc t)))

module _ {B : List (Corners ℕ)} (C : Compatible B) {t : ℕ} {lab : ℕ → Label} (cov : Covers B t lab) where
  -- The static facts of a row.
  pub row-static : (j : ℕ) → j < t → Static B (gen (lab j)) (corners-of B (lab j))
  row-static j l = static B C (lab j).from (cov.known j l) (lab j).path

  -- A corner of a row that is newest in every row is as old as the row.
  pub newest-birth : (z : Name) → NewestEverywhere B t lab z → (i : ℕ) (w : Path) (j : ℕ) → j < t → lab j ≡ at i w → Holds z (corners B i w) → birth B z ≡ length w
  newest-birth z N i w j l e h =
      let top : z ≡ (corners B i w).p = rw e at (N j l (rw e h)) in
      ap (birth B) top ∙ (static B C i (rw e at (cov.known j l)) w).birth-p

  -- BROTHERS: a row of generation 1 or more that holds a node newest everywhere has its brother among the rows.
  pub brother : (z : Name) → NewestEverywhere B t lab z → (j : ℕ) → j < t → (i : ℕ) (x : Side) (w : Path) → lab j ≡ at i (x ∷ w)
      → Holds z (corners B i (x ∷ w)) → (k : ℕ) × (k < t) × (lab k ≡ at i (other x ∷ w))
  brother z N j l i x w e h =
      let known : i < length B = rw e at (cov.known j l) in
      let newest : z ≡ (corners B i (x ∷ w)).p = rw e at (N j l (rw e h)) in
      let H : Halved t lab i w = record { index = j; below = l; by = x ∷ w; label = e; side = x; part = ⊑_refl (x ∷ w) } in
      let K = kept_row cov i known w H (other x) z (is-p (newest ∙ half-newest x (corners B i w) ∙ sym (half-newest (other x) (corners B i w)))) in
      let b₁ = newest-birth z N i (x ∷ w) j l e h in
      let b₂ = newest-birth z N i K.by K.index K.below K.label K.holds in
      (K.index, K.below, K.label ∙ ap (at i) (sym (⊑-whole K.part (omega arith))))

  -- THE TOP: the newest corner of a row of greatest generation is newest everywhere.
  pub greatest-newest : (j : ℕ) → j < t → 1 ≤ gen (lab j) → ((k : ℕ) → k < t → gen (lab k) ≤ gen (lab j)) → NewestEverywhere B t lab (corners-of B (lab j)).p
  greatest-newest j l pos top k lk h =
      let b = (row-static j l).birth-p in
      let le = birth-le-gen (row-static k lk) h in
      newest-if-young (row-static k lk) h (omega arith) (omega (arith, top k lk))

  -- So while some row has been made by halving, some added node is newest everywhere.
  pub some-newest : (j : ℕ) → j < t → 1 ≤ gen (lab j) → (k : ℕ) × (k < t) × (1 ≤ gen (lab k)) × NewestEverywhere B t lab (corners-of B (lab k)).p
  some-newest j l pos =
      let (k, lk, top) = greatest (λ m. gen (lab m)) t (omega arith) in
      let pos' : 1 ≤ gen (lab k) = omega (arith, top j l) in
      (k, lk, pos', greatest-newest k lk pos' top)
