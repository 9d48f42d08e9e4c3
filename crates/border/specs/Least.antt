-- The member of a list with the least quotient, among those that pass a test. Assumes nothing.
use Rattle.std.specs.Prelude.{Bool, true, false, ◌≡◌, refl, ℤ, pos, ◌*ℤ◌, ◌≤ℤ◌, ◌<ℤ◌}
use mathlib.Core.List.{List, ◌∷◌, Memᴰ}
use Rattle.std.proofs.Common.{sym, ◌∙◌, arith}
use Rattle.std.specs.Int.Signed.{le_z}
use Rattle.whole.specs.Diff.{onℤ}
use Rattle.whole.specs.Ring.{◌:*◌, ring3}
use Rattle.whole.specs.Tests.{le_z-true, le_z-false}
use Rattle.whole.specs.Order.{scale-le, unscale-le}
use Rattle.lists.specs.Lists.{All, nil, cons}
use Rattle.lists.specs.ListsLaw.{clash, All-both, All-imp, All-at}
use Rattle.border.specs.Signs.{lt-le}

module _ {A : Type 0} (num den : A → ℤ) (passes : A → Bool) where
  -- num x over den x is at most num y over den y
  abbrev pub AtMost : A → A → Type 0
  AtMost x y = (num x *ℤ den y) ≤ℤ (num y *ℤ den x)

  pub data Least (l : List A) : Type 0 where
    none_passes : All (λ y. passes y ≡ false) l → Least l
    least : (x : A) → Memᴰ x l → passes x ≡ true → All (λ y. passes y ≡ true → AtMost x y) l → Least l

  at-most-trans : (x y z : A) → pos 0 <ℤ den x → pos 0 <ℤ den y → pos 0 <ℤ den z → AtMost x y → AtMost y z → AtMost x z
  at-most-trans x y z hx hy hz p q =
      unscale-le (den y) (num x *ℤ den z) (num z *ℤ den x) hy
      (chain _ _ _ _ _ (swap (num x) (den z) (den y)) (scale-le (den z) (num x *ℤ den y) (num y *ℤ den x) (lt-le hz) p) (swap (num y) (den x) (den z))
      (scale-le (den x) (num y *ℤ den z) (num z *ℤ den y) (lt-le hx) q) (swap (num z) (den y) (den x)))
    where
      swap : (a b c : ℤ) → a *ℤ b *ℤ c ≡ a *ℤ c *ℤ b
      swap a b c = ring3 (λ a b c. (a :* b :* c, a :* c :* b)) a b c tt

      chain : (a b c d e : ℤ) {g : ℤ} → a ≡ b → b ≤ℤ c → c ≡ d → d ≤ℤ e → e ≡ g → a ≤ℤ g
      chain a b c d e h i j k l = omega (arith, onℤ)

  at-most-own : (x : A) → AtMost x x
  at-most-own x = own (num x *ℤ den x)
    where
      own : (k : ℤ) → k ≤ℤ k
      own k = omega (arith, onℤ)

  pub find-least : {l : List A} → All (λ x. pos 0 <ℤ den x) l → Least l
  find-least nil = none_passes nil
  find-least (cons {x = x} {xs = xs} hx hs) = go (passes x) refl (find-least hs)
    where
      choose : (y : A) → Memᴰ y xs → passes y ≡ true → All (λ z. passes z ≡ true → AtMost y z) xs → passes x ≡ true → (b : Bool) → le_z (num y *ℤ den x) (num x *ℤ den y) ≡ b → Least (x ∷ xs)
      choose y i p h q true e = least y (Memᴰ.tail i) p (cons (λ _. le_z-true (num y *ℤ den x) (num x *ℤ den y) e) h)
      choose y i p h q false e =
          let l : AtMost x y = lt-le (le_z-false (num y *ℤ den x) (num x *ℤ den y) e) in
          least x (Memᴰ.head refl) q (cons (λ _. at-most-own x) (All-imp (λ z (k, g) r. at-most-trans x y z hx (All-at hs i) g l (k r)) (All-both h hs)))

      go : (b : Bool) → passes x ≡ b → Least xs → Least (x ∷ xs)
      go false e (none_passes h) = none_passes (cons e h)
      go false e (least y i p h) = least y (Memᴰ.tail i) p (cons (λ q. clash (sym q ∙ e)) h)
      go true e (none_passes h) = least x (Memᴰ.head refl) e (cons (λ _. at-most-own x) (All-imp (λ z k q. clash (sym q ∙ k)) h))
      go true e (least y i p h) = choose y i p h e (le_z (num y *ℤ den x) (num x *ℤ den y)) refl
