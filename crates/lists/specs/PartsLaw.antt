-- Lists in two parts: filtered, searched, joined; members of lists that are filtered or joined. Assumes nothing.
use Rattle.std.specs.Prelude.{Bool, true, false, ◌≡◌, refl, length, Some, None}
use mathlib.Core.List.{List, [], ◌∷◌, ◌++◌, Memᴰ}
use Rattle.std.proofs.Common.{sym, subst, ap, ◌∙◌}
use Rattle.lists.specs.Lists.{any, only, cons_if, where_first, joined}
use Rattle.lists.specs.ListsLaw.{or_no}

pub not_so : (b : Bool) → (b ≡ true → ⊥) → b ≡ false
not_so true h = absurd (h refl)
not_so false h = refl

pub cons_if-append : {A : Type 0} (b : Bool) (x : A) (xs ys : List A) → cons_if b x (xs ++ ys) ≡ cons_if b x xs ++ ys
cons_if-append true x xs ys = refl
cons_if-append false x xs ys = refl

module _ {A : Type 0} (f : A → Bool) where
  pub only-append : (xs ys : List A) → only f (xs ++ ys) ≡ only f xs ++ only f ys
  only-append [] ys = refl
  only-append (x ∷ xs) ys = ap (cons_if (f x) x) (only-append xs ys) ∙ cons_if-append (f x) x (only f xs) (only f ys)

  pub in-only : {x : A} (l : List A) → Memᴰ x (only f l) → Memᴰ x l × (f x ≡ true)
  in-only {x = x} [] i = elim i [ ]
  in-only {x} (y ∷ ys) i = go (f y) refl i (in-only ys)
    where
      go : (b : Bool) → f y ≡ b → Memᴰ x (cons_if b y (only f ys)) → (Memᴰ x (only f ys) → Memᴰ x ys × (f x ≡ true)) → Memᴰ x (y ∷ ys) × (f x ≡ true)
      go true q (Memᴰ.head e) below = (Memᴰ.head e, ap f e ∙ q)
      go true q (Memᴰ.tail j) below = let r = below j in (Memᴰ.tail r.0, r.1)
      go false q j below = let r = below j in (Memᴰ.tail r.0, r.1)

  -- the place of the first that passes, where those before do not
  pub where-here : (xs : List A) (y : A) (ys : List A) → any f xs ≡ false → f y ≡ true → where_first f (xs ++ (y ∷ ys)) ≡ Some (length xs)
  where-here [] y ys n t = rw t
  where-here (x ∷ xs) y ys n t =
      let h = or_no (f x) (any f xs) n in
      rw (h.0, where-here xs y ys h.1 t)

  pub where-nowhere : (xs : List A) → any f xs ≡ false → where_first f xs ≡ None
  where-nowhere [] n = refl
  where-nowhere (x ∷ xs) n = let h = or_no (f x) (any f xs) n in rw (h.0, where-nowhere xs h.1)

module _ {A B : Type 0} (f : A → List B) where
  pub in-joined : {y : B} (l : List A) → Memᴰ y (joined f l) → (x : A) × Memᴰ x l × Memᴰ y (f x)
  in-joined {y = y} [] i = elim i [ ]
  in-joined {y} (z ∷ zs) i = go (f z) refl i (in-joined zs)
    where
      go : (xs : List B) → f z ≡ xs → Memᴰ y (xs ++ joined f zs) → (Memᴰ y (joined f zs) → (x : A) × Memᴰ x zs × Memᴰ y (f x)) → (x : A) × Memᴰ x (z ∷ zs) × Memᴰ y (f x)
      go xs q i below = part xs i (λ j. (z, Memᴰ.head refl, subst (λ (l : List B). Memᴰ y l) (sym q) j))
        where
          part : (us : List B) → Memᴰ y (us ++ joined f zs) → (Memᴰ y us → (x : A) × Memᴰ x (z ∷ zs) × Memᴰ y (f x)) → (x : A) × Memᴰ x (z ∷ zs) × Memᴰ y (f x)
          part [] i here = let r = below i in (r.0, Memᴰ.tail r.1, r.2)
          part (u ∷ us) (Memᴰ.head e) here = here (Memᴰ.head e)
          part (u ∷ us) (Memᴰ.tail j) here = part us j (λ k. here (Memᴰ.tail k))
