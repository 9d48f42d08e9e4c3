-- The chain of tests, in the form of its needs, and scratch along it. Assumes nothing.
use Rattle.std.specs.Prelude.{◌≡◌, refl, List, ◌∷◌, ℕ, zero, suc, ◌≤◌, ◌<◌, length, take, replicate, Option, Some, None}
use Rattle.std.proofs.Common.{sym, ap, ◌∙◌, arith, take-take}
use Rattle.meaning.specs.Fault.{Fault}
use Rattle.meaning.specs.Lawful.{fault, or_later}
use Rattle.neighbours.specs.Sized.{Sized, index_at}
use Rattle.neighbours.specs.Ready.{Ready}

-- what is known of scratch after the judge: no note is left, and after number 0 the index holds the first t rows
pub record Judged (f : Fault) (s : List ℕ) (nc : ℕ) (rows : List ℕ) (t : ℕ) : Type 0 where
  pub notes : take (index_at nc (length rows)) s ≡ replicate (index_at nc (length rows)) 0
  pub ready : f.number ≡ 0 → Ready s nc rows t

-- ---- a is what a search gave, f what it is by its contract

module _ (r : Fault) (k : ℕ) (a f : Option ℕ) (rest : Fault) (e : a ≡ f) where
  pub or_at : (i : ℕ) → a ≡ Some i → r ≡ fault k i → r ≡ or_later k f rest
  or_at i g h = h ∙ ap (λ (o : Option ℕ). or_later k o rest) (sym g ∙ e)

  pub or-on : a ≡ None → r ≡ rest → r ≡ or_later k f rest
  or-on g h = h ∙ ap (λ (o : Option ℕ). or_later k o rest) (sym g ∙ e)

pub nothing_is : (a f : Option ℕ) → a ≡ f → a ≡ None → f ≡ None
nothing_is a f e g = sym e ∙ g

pub ruleset chain = (or_at, or-on, nothing_is)

-- ---- scratch

take-zeros : (k m : ℕ) → k ≤ m → take k (replicate {A = ℕ} m 0) ≡ replicate k 0
take-zeros zero m h = refl
take-zeros (suc k) zero h = absurd (omega arith)
take-zeros (suc k) (suc m) h = ap (λ (l : List ℕ). 0 ∷ l) (take-zeros k m (omega arith))

zero-notes : (s : List ℕ) (nc tl : ℕ) → Sized nc tl (length s) → s ≡ replicate (length s) 0 → take (index_at nc tl) s ≡ replicate (index_at nc tl) 0
zero-notes s nc tl z e = ap (take (index_at nc tl)) e ∙ take-zeros (index_at nc tl) (length s) (omega (arith, z))

module _ (s rows : List ℕ) (nc t : ℕ) (z : Sized nc (length rows) (length s)) (e : s ≡ replicate (length s) 0) where
  -- nothing was written
  pub judged-early : (f : Fault) → 0 < f.number → Judged f s nc rows t
  judged-early f h = record { notes = zero-notes s nc (length rows) z e; ready = λ q. absurd (omega arith) }

  -- rows joined the index
  pub judged-late : (f : Fault) (s' : List ℕ) → take (index_at nc (length rows)) s' ≡ take (index_at nc (length rows)) s → 0 < f.number → Judged f s' nc rows t
  judged-late f s' g h = record { notes = g ∙ zero-notes s nc (length rows) z e; ready = λ q. absurd (omega arith) }

  -- and marks came and went
  pub judged-last : (f : Fault) (s' s'' : List ℕ) → take (index_at nc (length rows)) s' ≡ take (index_at nc (length rows)) s → s'' ≡ s' → 0 < f.number → Judged f s'' nc rows t
  judged-last f s' s'' g q h = judged-late f s'' (rw q g) h

  -- no number applies
  pub judged-right : (f : Fault) (s' s'' : List ℕ) (c : Option ℕ) → take (index_at nc (length rows)) s' ≡ take (index_at nc (length rows)) s →
      (c ≡ None → Ready s' nc rows t) → c ≡ None → s'' ≡ s' → Judged f s'' nc rows t
  judged-right f s' s'' c g r h q = record { notes = rw q (g ∙ zero-notes s nc (length rows) z e); ready = λ k. rw q (r h) }

  -- the marks have room
  pub front-zero : (s' : List ℕ) (n : ℕ) → take (index_at nc (length rows)) s' ≡ take (index_at nc (length rows)) s → n ≤ nc → take n s' ≡ replicate n 0
  front-zero s' n g b =
      let h : n ≤ index_at nc (length rows) = omega arith in
      sym (take-take n (index_at nc (length rows)) s' h)
      ∙ ap (take n) (g ∙ zero-notes s nc (length rows) z e)
      ∙ take-zeros n (index_at nc (length rows)) h
