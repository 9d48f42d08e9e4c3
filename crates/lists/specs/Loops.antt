-- What loops leave: notes put one after the other, a count downwards, a table that closes up; and a search's answer as one number.
-- Assumes nothing.
use Rattle.std.specs.Prelude.{Bool, List, [], ◌∷◌, ℕ, zero, suc, ◌+◌, ◌-◌, set, Option, Some, None}
use Rattle.lists.specs.Lists.{cases}

-- a loop that counts down: step (t - 1), .., step 0
unfoldable pub down : {S : Type 0} → (ℕ → S → S) → ℕ → S → S
down f zero s = s
down f (suc i) s = down f i (f i s)

-- s with g 0, g 1, .. below n put at o and on
unfoldable pub noted : {A : Type 0} → ℕ → (ℕ → A) → ℕ → List A → List A
noted o g zero s = s
noted o g (suc n) s = set (noted o g n s) (o + n) (g n)

unfoldable pub remaining_from : {R : Type 0} → (ℕ → Bool) → (ℕ → R) → ℕ → ℕ → List R
remaining_from f a i zero = []
remaining_from f a i (suc k) = cases (f i) (remaining_from f a (i + 1) k) (a i ∷ remaining_from f a (i + 1) k)

-- a i, a (i + 1), .. below t, without those of which a test says yes
unfoldable pub remaining : {R : Type 0} → (ℕ → Bool) → (ℕ → R) → ℕ → ℕ → List R
remaining f a i t = remaining_from f a i (t - i)

-- where a search ended, as one number: 0 nowhere
abbrev pub code : Option ℕ → ℕ
code None = 0
code (Some i) = i + 1
