-- The marks of what is listed: the loop that sets them. Assumes nothing.
use Rattle.std.proofs.Math.Path.{◌≡◌, refl, sym, ap}
use Rattle.std.proofs.Common.{◌∙◌, eqb-true, length-take-le, get_or-set_same, get_or-set_other}
use Rattle.std.specs.Prelude.{Bool, ◌||◌, eqb, set, take, replicate}
use Rattle.std.proofs.Math.Bool.{true, false}
use mathlib.Core.List.{List}
use Prim.Native.Nat.{ℕ, zero, suc, ◌+◌, ◌-◌, ◌/◌, ◌≤◌, ◌<◌}
use native.Mathlib.Omega.{arith}
use Rattle.std.proofs.lemmas.Bool.{eqb-false}
use Rattle.std.proofs.Math.ListN.{length, get_or, length-set}
use Rattle.std.proofs.lemmas.List.{length-replicate, get_or-replicate}
use Rattle.std.proofs.Math.Seq.{get_or-take, set_out, ext_get_or}
use Rattle.lists.specs.Lists.{any, cases}
use Rattle.lists.specs.Search.{items, items_from, iter, iter_from}
use Rattle.lists.specs.IterLaw.{iter-keeps, length-items, get_or-items}
use Rattle.text.specs.Digits.{field, listed}
use Rattle.protocol.specs.Frames.{marks_of}

-- number i of those listed, marked
unfoldable pub mark_one : List ℕ → ℕ → List ℕ → List ℕ
mark_one f i m = set m (field 4 f i) 1

module _ (f : List ℕ) (i : ℕ) (m : List ℕ) (k : ℕ) (e : k ≡ field 4 f i) where
  pub mark-in : k < length m → set m k 1 ≡ mark_one f i m
  unfolding mark_one
  mark-in h = rw e

  pub mark-out : length m ≤ k → m ≡ mark_one f i m
  unfolding mark_one
  mark-out h = sym (rw e at (set_out m k 1 h))

module _ (f : List ℕ) where
  marked_from : (i k j : ℕ) (m : List ℕ) → j < length m → get_or (iter_from (mark_one f) i k m) j 0 ≡ cases (any (eqb j) (items_from (field 4 f) i k)) 1 (get_or m j 0)
  unfolding iter_from items_from mark_one
  marked_from i zero j m h = refl
  marked_from i (suc k) j m h = marked_from (i + 1) k j (set m (field 4 f i) 1) (rw (length-set m (field 4 f i) 1) h) ∙ go (eqb j (field 4 f i)) refl (any (eqb j) (items_from (field 4 f) (i + 1) k))
    where
      both : (b : Bool) → ◌≡◌ {A = ℕ} (cases b 1 1) 1
      both true = refl
      both false = refl

      go : (b : Bool) → eqb j (field 4 f i) ≡ b → (y : Bool) → cases y 1 (get_or (set m (field 4 f i) 1) j 0) ≡ cases (b || y) 1 (get_or m j 0)
      go true e y = let q : j ≡ field 4 f i = eqb-true j (field 4 f i) e in rw (← q, get_or-set_same m j 1 0 h) (both y)
      go false e y = rw (get_or-set_other m (field 4 f i) j 1 0 (eqb-false j (field 4 f i) e))

  -- of c marks, all the same length as before, the first t
  module _ (t c : ℕ) (m : List ℕ) (h : t ≤ c) (e : m ≡ iter (mark_one f) 0 (length f / 4) (replicate c 0)) where
    marked-length : length m ≡ c
    unfolding mark_one
    marked-length =
        ap length e ∙
        iter-keeps (mark_one f) (λ r. length r ≡ c) (length f / 4) (replicate c 0) (λ j r b q. length-set r (field 4 f j) 1 ∙ q) (length-replicate {A = ℕ} c 0)

    pub marked-count : t ≡ length (take t m)
    marked-count = let l = marked-length in sym (length-take-le t m (omega arith))

    pub marked-are : take t m ≡ marks_of t (listed f)
    unfolding marks_of listed iter items
    marked-are =
        let test : ℕ → ℕ = λ i. cases (any (eqb i) (items (field 4 f) 0 (length f / 4))) 1 0 in
        let l = marked-count in
        ext_get_or 0 (take t m) (items test 0 t) (sym l ∙ sym (length-items test t))
        (λ j b.
        let b' : j < t = omega arith in
        get_or-take t m j 0 b' ∙
        ap (λ (q : List ℕ). get_or q j 0) e ∙
        marked_from 0 (length f / 4 - 0) j (replicate c 0) (rw (length-replicate {A = ℕ} c 0) (omega arith)) ∙
        ap (cases (any (eqb j) (items_from (field 4 f) 0 (length f / 4 - 0))) 1) (get_or-replicate c j 0 0 (omega arith)) ∙
        sym (get_or-items test t j 0 b'))
