-- A test that says yes exactly if P says no exactly if not P; two such tests in one, and one of each member of a list; the first number of a chain
-- that is not 0 is the chain's. Assumes nothing.
use Rattle.std.specs.Prelude.{Bool, true, false, ◌||◌, ◌↔◌, ◌⊎◌, ◌≡◌, refl, ℕ, zero, suc, ◌<◌}
use mathlib.Core.List.{List, Memᴰ}
use Rattle.std.proofs.Common.{inl, inr, sym, ◌∙◌, arith}
use Rattle.lists.specs.Lists.{any}
use Rattle.lists.specs.ListsLaw.{clash, any_at, any-row}
use Rattle.lists.specs.PartsLaw.{not_so}
use Rattle.meaning.specs.Calls.{or_else}

pub refuted : (b : Bool) → (b ≡ true → ⊥) → b ≡ false
refuted = not_so

pub unfit : (b : Bool) {P : Type 0} → (b ≡ true) ↔ P → (b ≡ false) ↔ (¬ P)
unfit b e = (λ q h. clash (sym (e.1 h) ∙ q), λ n. refuted b (λ q. n (e.0 q)))

pub either-exact : (a b : Bool) {P Q : Type 0} → (a ≡ true) ↔ P → (b ≡ true) ↔ Q → (a || b ≡ true) ↔ (P ⊎ Q)
either-exact true b p q = (λ e. inl (p.0 refl), λ h. refl)
either-exact false b {P} {Q} p q = (λ e. inr (q.0 e), back)
  where
    back : P ⊎ Q → b ≡ true
    back (inl h) = clash (sym (p.1 h))
    back (inr h) = q.1 h

pub any-exact : {A : Type 0} {P : A → Type 0} (f : A → Bool) (l : List A) → ((x : A) → Memᴰ x l → (f x ≡ true) ↔ P x) → (any f l ≡ true) ↔ ((x : A) × Memᴰ x l × P x)
any-exact f l e = (
  λ t. (let r = any-row f l t in (r.0, r.1, (e r.0 r.1).0 r.2)),
  λ r. any_at f ((e r.0 r.1).1 r.2) r.1,
)

pub or_else-first : (k later : ℕ) → 0 < k → or_else k later ≡ k
or_else-first zero later h = absurd (omega arith)
or_else-first (suc k) later h = refl
