-- Laws of a list that is filled from the front, in the form of needs. Assumes nothing.
use Rattle.std.specs.Prelude.{◌≡◌, refl, List, [], ◌∷◌, ◌++◌, ℕ, zero, suc, ◌+◌, ◌≤◌, ◌<◌, length, set, drop, replicate}
use Rattle.std.proofs.Common.{ap, ◌∙◌, append-nil, arith, add-one, drop_of_length-le}

module _ {A : Type 0} where
  more : (n : ℕ) (v : A) (d : List A) → n < length d → set (replicate n v ++ drop n d) n v ≡ replicate (suc n) v ++ drop (suc n) d
  more n v [] h = absurd (omega arith)
  more zero v (x ∷ d) h = refl
  more (suc n) v (x ∷ d) h = ap (λ (l : List A). v ∷ l) (more n v d (omega arith))

  -- s is d with v for its first n
  module _ (s d : List A) (n : ℕ) (v : A) (len : length s ≡ length d) (inv : s ≡ replicate n v ++ drop n d) where
    pub fill-turn : n < length s → set s n v ≡ replicate (n + 1) v ++ drop (n + 1) d
    fill-turn h =
        let h' : n < length d = omega arith in
        rw (inv, add-one) (more n v d h')

    pub fill_end : n ≤ length d → length s ≤ n → s ≡ replicate (length d) v
    fill_end a b =
        let e : n ≡ length d = omega arith in
        let f : length d ≤ n = omega arith in
        inv ∙ ap (λ (l : List A). replicate n v ++ l) (drop_of_length-le d f) ∙ append-nil (replicate n v) ∙ ap (λ (k : ℕ). replicate k v) e

    pub front-turn : (m : ℕ) → n < m → m ≤ length d → set s n v ≡ replicate (n + 1) v ++ drop (n + 1) d
    front-turn m a b = fill-turn (omega arith)

    pub front-end : (m : ℕ) → n ≤ m → m ≤ n → s ≡ replicate m v ++ drop m d
    front-end m a b = let e : n ≡ m = omega arith in rw (← e) inv
