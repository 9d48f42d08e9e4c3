-- A signed test, as a branch leaves it (`lt_z a b ≡ true`), as a fact and as what `omega` reads; and a test from a fact.
use Rattle.std.specs.Prelude.{◌≡◌, refl, Bool, true, false, not, ◌+◌, ◌<◌, ◌≤◌, T, ltb, ℤ, pos, negsuc, ◌≤ℤ◌, ◌<ℤ◌}
use Rattle.std.proofs.Common.{sym, ap, subst, ◌∙◌, arith, leb-false, lt-ltb, SFits, to_z, of_z, to_z-of_z}
use Rattle.std.specs.Int.Signed.{lt_z, le_z, lt_z_yes, le_z_yes, lt_z_no}
use Rattle.std.specs.Int.{Width}
use Rattle.whole.specs.Diff.{up, dn, onℤ, leℤ-out, ltℤ-out}

holds : (b : Bool) → b ≡ true → T b
holds b e = subst T (sym e) tt

fails : (b : Bool) → b ≡ false → T (not b)
fails b e = subst (λ x. T (not x)) (sym e) tt

is_true : (b : Bool) → T b → b ≡ true
is_true true t = refl
is_true false t = absurd t

pub lt_z-true : (a b : ℤ) → lt_z a b ≡ true → a <ℤ b
lt_z-true a b e = lt_z_yes (holds (lt_z a b) e)

pub lt_z-false : (a b : ℤ) → lt_z a b ≡ false → b ≤ℤ a
lt_z-false a b e = lt_z_no (fails (lt_z a b) e)

pub le_z-true : (a b : ℤ) → le_z a b ≡ true → a ≤ℤ b
le_z-true a b e = le_z_yes (holds (le_z a b) e)

pub le_z-false : (a b : ℤ) → le_z a b ≡ false → b <ℤ a
le_z-false (pos a) (pos b) e = record { lt = holds (ltb b a) (lt-ltb b a (leb-false a b e)) }
le_z-false (pos a) (negsuc b) e = record { lt = tt }
le_z-false (negsuc a) (pos b) e = absurd (fails true e)
le_z-false (negsuc a) (negsuc b) e = record { lt = holds (ltb a b) (lt-ltb a b (leb-false b a e)) }

-- a test from a fact
not-both : (b : Bool) → (b ≡ true → ⊥) → b ≡ false
not-both true h = absurd (h refl)
not-both false h = refl

pub lt-lt_z : (a b : ℤ) → a <ℤ b → lt_z a b ≡ true
lt-lt_z a b h = is_true (lt_z a b) h.lt

pub le-le_z : (a b : ℤ) → a ≤ℤ b → le_z a b ≡ true
le-le_z a b h = is_true (le_z a b) h.le

pub le-lt_z : (a b : ℤ) → b ≤ℤ a → lt_z a b ≡ false
le-lt_z a b h = not-both (lt_z a b) (λ e. omega (arith, onℤ, ltℤ-out (lt_z-true a b e)))

pub lt-le_z : (a b : ℤ) → b <ℤ a → le_z a b ≡ false
lt-le_z a b h = not-both (le_z a b) (λ e. omega (arith, onℤ, leℤ-out (le_z-true a b e)))

-- rules for `omega`, both ways
pub lt_z-true-ud : (a b : ℤ) → lt_z a b ≡ true → up a + dn b < up b + dn a
lt_z-true-ud a b e = ltℤ-out (lt_z-true a b e)

pub lt_z-false-ud : (a b : ℤ) → lt_z a b ≡ false → up b + dn a ≤ up a + dn b
lt_z-false-ud a b e = leℤ-out (lt_z-false a b e)

pub le_z-true-ud : (a b : ℤ) → le_z a b ≡ true → up a + dn b ≤ up b + dn a
le_z-true-ud a b e = leℤ-out (le_z-true a b e)

pub le_z-false-ud : (a b : ℤ) → le_z a b ≡ false → up b + dn a < up a + dn b
le_z-false-ud a b e = ltℤ-out (le_z-false a b e)

pub ud-lt-lt_z : (a b : ℤ) → up a + dn b < up b + dn a → lt_z a b ≡ true
ud-lt-lt_z a b h = lt-lt_z a b (omega (arith, onℤ))

pub ud-le-lt_z : (a b : ℤ) → up b + dn a ≤ up a + dn b → lt_z a b ≡ false
ud-le-lt_z a b h = le-lt_z a b (omega (arith, onℤ))

pub ud-le-le_z : (a b : ℤ) → up a + dn b ≤ up b + dn a → le_z a b ≡ true
ud-le-le_z a b h = le-le_z a b (omega (arith, onℤ))

pub ud-lt-le_z : (a b : ℤ) → up b + dn a < up a + dn b → le_z a b ≡ false
ud-lt-le_z a b h = lt-le_z a b (omega (arith, onℤ))

pub ruleset tests = (lt_z-true-ud, lt_z-false-ud, le_z-true-ud, le_z-false-ud, ud-lt-lt_z, ud-le-lt_z, ud-le-le_z, ud-lt-le_z)

-- a test `x == y` of two signed numbers is a fact of their bits
pub of_z-inj : {w : Width} {x y : ℤ} → SFits w x → SFits w y → of_z w x ≡ of_z w y → x ≡ y
of_z-inj {w} f g e = sym (to_z-of_z f) ∙ ap (to_z w) e ∙ to_z-of_z g
