-- Functions on lists: tests of all members, the members that pass, where the first of them stands. Nothing here knows of meshes.
-- Assumes nothing.
use Rattle.std.specs.Prelude.{Bool, true, false, not, ◌&&◌, ◌||◌, List, [], ◌∷◌, ◌++◌, ℕ, zero, suc, Option, Some, None}

-- the first if the test says yes, else the second
abbrev pub cases : {A : Type 0} → Bool → A → A → A
cases true a b = a
cases false a b = b

abbrev pub is_some : Option ℕ → Bool
is_some (Some i) = true
is_some None = false

-- what is said of what was found, or else
abbrev pub on_found : {A : Type 0} → Option ℕ → (ℕ → A) → A → A
on_found (Some i) f a = f i
on_found None f a = a

abbrev pub suc_if : Bool → ℕ → ℕ
suc_if true k = suc k
suc_if false k = k

-- the place in a list that begins one member earlier, of which a test said b
abbrev pub next : Bool → Option ℕ → Option ℕ
next true o = Some zero
next false None = None
next false (Some k) = Some (suc k)

-- 0, 1, .. below n
abbrev pub up_to : ℕ → List ℕ
up_to zero = []
up_to (suc n) = up_to n ++ (n ∷ [])

module _ {A : Type 0} where
  abbrev pub all : (A → Bool) → List A → Bool
  all f [] = true
  all f (x ∷ xs) = f x && all f xs

  abbrev pub any : (A → Bool) → List A → Bool
  any f [] = false
  any f (x ∷ xs) = f x || any f xs

  abbrev pub cons_if : Bool → A → List A → List A
  cons_if true x xs = x ∷ xs
  cons_if false x xs = xs

  -- each member has the property
  pub data All (P : A → Type 0) : List A → Type 0 where
    nil : All P []
    cons : {x : A} {xs : List A} → P x → All P xs → All P (x ∷ xs)

  -- the members that pass, in order
  abbrev pub only : (A → Bool) → List A → List A
  only f [] = []
  only f (x ∷ xs) = cons_if (f x) x (only f xs)

  -- each member once, where it is first met
  abbrev pub once : (A → A → Bool) → List A → List A
  once same [] = []
  once same (x ∷ xs) = x ∷ only (λ y. not (same x y)) (once same xs)

  -- how many members pass
  abbrev pub count : (A → Bool) → List A → ℕ
  count f [] = zero
  count f (x ∷ xs) = suc_if (f x) (count f xs)

  abbrev pub first_or : Bool → A → Option A → Option A
  first_or true x o = Some x
  first_or false x o = o

  -- the first member that passes
  abbrev pub first : (A → Bool) → List A → Option A
  first f [] = None
  first f (x ∷ xs) = first_or (f x) x (first f xs)

  -- the place of the first member that passes, counted from 0
  abbrev pub where_first : (A → Bool) → List A → Option ℕ
  where_first f [] = None
  where_first f (x ∷ xs) = next (f x) (where_first f xs)

module _ {A B : Type 0} where
  -- the lists of all members, one after the other
  abbrev pub joined : (A → List B) → List A → List B
  joined f [] = []
  joined f (x ∷ xs) = f x ++ joined f xs
