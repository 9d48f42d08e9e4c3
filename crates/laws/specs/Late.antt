-- Calls that judge more of a lawful mesh, one thing after the other, each with a number past 7: the base check's 11, 12 and 10, W6's 14. Each number is
-- given exactly when its line says. Assumes nothing.
use Rattle.std.specs.Prelude.{Bool, true, false, ◌↔◌, ◌⊎◌, ◌≡◌, refl, ℕ, zero, suc, ◌≤◌, ◌<◌}
use Rattle.std.proofs.Common.{inl, inr, sym, subst, arith}
use Rattle.meaning.specs.Mesh.{Mesh}
use Rattle.meaning.specs.Lawful.{Lawful, Lowest, refusal}
use Rattle.meaning.specs.Calls.{unless, or_else}
use Rattle.laws.specs.Exact.{or_else-first}
use Rattle.laws.specs.Lawful.{refusal-lawful, lawful-refusal, refusal-exact, applies-from-3, applies-to-7}

-- a number is given exactly when its line says
abbrev pub Exactly : ℕ → (ℕ → Type 0) → Type 0
Exactly number Lines = (k : ℕ) → (number ≡ k) ↔ Lines k

-- ---- one thing after the other

-- nothing more is judged: 0 "done"
pub data Done : ℕ → Type 0 where
  all_sound : Done 0

-- one thing is judged, then the rest
pub data Unless (Sound Fault : Type 0) (late : ℕ) (Rest : ℕ → Type 0) : ℕ → Type 0 where
  at-fault : Fault → Unless Sound Fault late Rest late
  else-rest : Sound → (k : ℕ) → Rest k → Unless Sound Fault late Rest k

-- a test says yes where a thing is sound, and no where it is at fault
pub record Judges (b : Bool) (Sound Fault : Type 0) : Type 0 where
  pub sound : (b ≡ true) ↔ Sound
  pub fault : (b ≡ false) ↔ Fault

pub done-0 : {k : ℕ} → Done k → k ≡ 0
done-0 all_sound = refl

pub done-exact : Exactly 0 Done
done-exact k = (λ e. subst Done e all_sound, back)
  where
    back : {k : ℕ} → Done k → 0 ≡ k
    back d = sym (done-0 d)

module _ {b : Bool} {Sound Fault : Type 0} (judges : Judges b Sound Fault) (late : ℕ) where
  module _ {rest : ℕ} {Rest : ℕ → Type 0} (exact : Exactly rest Rest) where
    pub unless-exact : Exactly (unless b late rest) (Unless Sound Fault late Rest)
    unless-exact k = (λ e. subst (Unless Sound Fault late Rest) e (there b refl), back)
      where
        there : (c : Bool) → b ≡ c → Unless Sound Fault late Rest (unless c late rest)
        there true q = else-rest (judges.sound.0 q) rest ((exact rest).0 refl)
        there false q = at-fault (judges.fault.0 q)

        back : {k : ℕ} → Unless Sound Fault late Rest k → unless b late rest ≡ k
        back (at-fault f) = rw (judges.fault.1 f)
        back (else-rest s k r) = rw (judges.sound.1 s) ((exact k).1 r)

-- every number but 0 is past 7
abbrev pub PastSeven : (ℕ → Type 0) → Type 0
PastSeven Lines = (k : ℕ) → Lines k → (k ≡ 0) ⊎ (7 < k)

pub done-past : PastSeven Done
done-past k all_sound = inl refl

module _ {Sound Fault : Type 0} {late : ℕ} {Rest : ℕ → Type 0} where
  pub unless-past : 7 < late → PastSeven Rest → PastSeven (Unless Sound Fault late Rest)
  unless-past h p k (at-fault f) = inr h
  unless-past h p k (else-rest s j r) = p k r

  -- the number of its own: at fault, if the rest does not give it too
  pub own_line : ¬ Rest late → Unless Sound Fault late Rest late ↔ Fault
  own_line n = (λ u. go late refl u, at-fault)
    where
      go : (k : ℕ) → k ≡ late → Unless Sound Fault late Rest k → Fault
      go k e (at-fault f) = f
      go k e (else-rest s j r) = absurd (n (subst Rest e r))

  -- another number: sound, and what the rest says
  pub other-line : (k : ℕ) → ¬ (k ≡ late) → Unless Sound Fault late Rest k ↔ (Sound × Rest k)
  other-line k n = (λ u. go k n u, λ h. else-rest h.0 k h.1)
    where
      go : (j : ℕ) → ¬ (j ≡ late) → Unless Sound Fault late Rest j → Sound × Rest j
      go j m (at-fault f) = absurd (m refl)
      go j m (else-rest s i r) = (s, r)

-- ---- after 3 to 7

-- when each number is given, line by line
pub data LateSays (m : Mesh) (Lines : ℕ → Type 0) : ℕ → Type 0 where
  -- 3 to 7
  unlawful-mesh : (k : ℕ) → 0 < k → Lowest m k → LateSays m Lines k
  -- what is judged of a lawful mesh
  lawful-mesh : Lawful m → (k : ℕ) → Lines k → LateSays m Lines k

-- 1 is about tables alone
pub late-not-1 : {m : Mesh} {Lines : ℕ → Type 0} → PastSeven Lines → ¬ LateSays m Lines 1
late-not-1 {m} {Lines} past = go
  where
    out : (◌≡◌ {A = ℕ} 1 0) ⊎ (7 < 1) → ⊥
    out (inl z) = omega arith
    out (inr p) = omega arith

    go : LateSays m Lines 1 → ⊥
    go (unlawful-mesh k above l) = omega (arith, applies-from-3 m 1 ((refusal-exact m 1).1 l) (omega arith))
    go (lawful-mesh law k h) = out (past 1 h)

module _ (m : Mesh) {later : ℕ} {Lines : ℕ → Type 0} (exact : Lawful m → Exactly later Lines) where
  abbrev number : ℕ
  number = or_else (refusal m) later

  says-late : LateSays m Lines number
  says-late = go (refusal m) refl
    where
      go : (k : ℕ) → refusal m ≡ k → LateSays m Lines (or_else k later)
      go zero q = let law = refusal-lawful m q in lawful-mesh law later ((exact law later).0 refl)
      go (suc k) q = unlawful-mesh (suc k) (omega arith) ((refusal-exact m (suc k)).0 q)

  late-says : {k : ℕ} → LateSays m Lines k → number ≡ k
  late-says (unlawful-mesh k above l) = rw ((refusal-exact m k).1 l) (or_else-first k later above)
  late-says (lawful-mesh law k h) = rw (lawful-refusal m law) ((exact law k).1 h)

  -- EACH NUMBER IS GIVEN EXACTLY WHEN ITS LINE SAYS, AND NO OTHER IS.
  pub late-exact : Exactly number (LateSays m Lines)
  late-exact k = (λ e. subst (LateSays m Lines) e says-late, late-says)

  -- 0, and the numbers past 7
  pub late-past : (k : ℕ) → (k ≡ 0) ⊎ (7 < k) → (number ≡ k) ↔ (Lawful m × Lines k)
  late-past k o = (λ e. go o ((late-exact k).0 e), λ h. late-says (lawful-mesh h.0 k h.1))
    where
      to-7 : {k : ℕ} → Lowest m k → k ≤ 7
      to-7 {k} l = applies-to-7 m k ((refusal-exact m k).1 l)

      go : {k : ℕ} → (k ≡ 0) ⊎ (7 < k) → LateSays m Lines k → Lawful m × Lines k
      go (inl z) (unlawful-mesh k above l) = absurd (omega arith)
      go (inr p) (unlawful-mesh k above l) = absurd (omega (arith, to-7 l))
      go o (lawful-mesh law k h) = (law, h)

  pub late-lowest : PastSeven Lines → (k : ℕ) → 0 < k → k ≤ 7 → (number ≡ k) ↔ Lowest m k
  late-lowest past k above below = (λ e. go above below ((late-exact k).0 e), λ l. late-says (unlawful-mesh k above l))
    where
      go : {k : ℕ} → 0 < k → k ≤ 7 → LateSays m Lines k → Lowest m k
      go a b (unlawful-mesh k above l) = l
      go a b (lawful-mesh law k h) = absurd (out (past k h))
        where
          out : (k ≡ 0) ⊎ (7 < k) → ⊥
          out (inl z) = omega arith
          out (inr p) = omega arith
