-- Whether any member passes: of joined lists, of the members that pass another test, of each member once. Assumes nothing.
use Rattle.std.specs.Prelude.{ℕ, ◌≡◌, refl, Bool, true, false, not, ◌&&◌, ◌||◌, List, [], ◌∷◌, ◌++◌, Option, Some, None, is_some}
use Rattle.std.proofs.Common.{sym, ap, ◌∙◌}
use Rattle.lists.specs.Lists.{all, any, only, cons_if, once, joined, where_first, next}

or_assoc : (a b c : Bool) → (a || b) || c ≡ a || (b || c)
or_assoc true b c = refl
or_assoc false b c = refl

module _ {A : Type 0} where
  pub any_append : (f : A → Bool) (xs ys : List A) → any f (xs ++ ys) ≡ any f xs || any f ys
  any_append f [] ys = refl
  any_append f (x ∷ xs) ys = rw (any_append f xs ys) (sym (or_assoc (f x) (any f xs) (any f ys)))

  pub any-cong : (f g : A → Bool) → ((x : A) → f x ≡ g x) → (l : List A) → any f l ≡ any g l
  any-cong f g h [] = refl
  any-cong f g h (x ∷ xs) = rw (h x, any-cong f g h xs)

  pub any-only : (f g : A → Bool) (l : List A) → any g (only f l) ≡ any (λ x. f x && g x) l
  any-only f g [] = refl
  any-only f g (x ∷ xs) = go (f x) (any-only f g xs)
    where
      go : (b : Bool) → any g (only f xs) ≡ any (λ x. f x && g x) xs → any g (cons_if b x (only f xs)) ≡ (b && g x) || any (λ x. f x && g x) xs
      go true e = ap (λ k. g x || k) e
      go false e = e

  pub any-not : (f : A → Bool) (l : List A) → any (λ x. not (f x)) l ≡ not (all f l)
  any-not f [] = refl
  any-not f (x ∷ xs) = go (f x) (any-not f xs)
    where
      go : (b : Bool) → any (λ x. not (f x)) xs ≡ not (all f xs) → not b || any (λ x. not (f x)) xs ≡ not (b && all f xs)
      go true e = e
      go false e = refl

  -- g says the same of members that are the same
  module _ (same : A → A → Bool) (g : A → Bool) (like : (x y : A) → same x y ≡ true → g x ≡ g y) where
    skipped : (x : A) (l : List A) → g x ≡ false → any g (only (λ y. not (same x y)) l) ≡ any g l
    skipped x [] e = refl
    skipped x (y ∷ ys) e = go (same x y) refl (skipped x ys e)
      where
        go : (b : Bool) → same x y ≡ b → any g (only (λ z. not (same x z)) ys) ≡ any g ys → any g (cons_if (not b) y (only (λ z. not (same x z)) ys)) ≡ g y || any g ys
        go true f ih = ih ∙ sym (ap (λ k. k || any g ys) (sym (like x y f) ∙ e))
        go false f ih = ap (λ k. g y || k) ih

    pub any-once : (l : List A) → any g (once same l) ≡ any g l
    any-once [] = refl
    any-once (x ∷ xs) = go (g x) refl (any-once xs)
      where
        go : (b : Bool) → g x ≡ b → any g (once same xs) ≡ any g xs → b || any g (only (λ y. not (same x y)) (once same xs)) ≡ b || any g xs
        go true e ih = refl
        go false e ih = skipped x (once same xs) e ∙ ih

  pub any_where : (f : A → Bool) (l : List A) → any f l ≡ is_some (where_first f l)
  any_where f [] = refl
  any_where f (x ∷ xs) = go (f x) (where_first f xs) (any_where f xs)
    where
      go : (b : Bool) (o : Option ℕ) → any f xs ≡ is_some o → b || any f xs ≡ is_some (next b o)
      go true o e = refl
      go false (Some k) e = e
      go false None e = e

module _ {A B : Type 0} where
  pub any-joined : (f : B → Bool) (k : A → List B) (l : List A) → any f (joined k l) ≡ any (λ x. any f (k x)) l
  any-joined f k [] = refl
  any-joined f k (x ∷ xs) = any_append f (k x) (joined k xs) ∙ ap (λ b. any f (k x) || b) (any-joined f k xs)
