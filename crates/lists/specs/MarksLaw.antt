-- Marks: what is read of a list of numbers after a loop whose turns store 1. Assumes nothing.
use Rattle.std.specs.Prelude.{◌≡◌, Bool, true, false, ◌||◌, List, eqb, length, get_or, set, take, replicate}
use Rattle.std.proofs.Math.Path.{refl, ap}
use Rattle.std.proofs.Common.{sym, ◌∙◌, eq-eqb, ne_eqb, get_or-set_same, get_or-set_other, get_or-take}
use Prim.Native.Nat.{ℕ, zero, suc, ◌+◌, ◌-◌, ◌<◌}
use Rattle.std.proofs.Math.Decide.{ℕ_discrete}
use Rattle.std.proofs.lemmas.List.{get_or-replicate}
use Rattle.lists.specs.Lists.{cases, any}
use Rattle.lists.specs.Search.{items, items_from, iter, iter_from}

-- one mark, read again
pub mark-read : (s : List ℕ) (k z : ℕ) → z < length s → get_or (set s k 1) z 0 ≡ cases (eqb k z) 1 (get_or s z 0)
mark-read s k z h = go (ℕ_discrete k z)
  where
    go : Dec (k ≡ z) → get_or (set s k 1) z 0 ≡ cases (eqb k z) 1 (get_or s z 0)
    go (yes e) = rw (eq-eqb k z e, e) (get_or-set_same s z 1 0 h)
    go (no o) = rw (ne_eqb k z o) (get_or-set_other s k z 1 0 (λ e. o (sym e)))

-- a mark over a mark
pub marks-or : (a b : Bool) (d : ℕ) → cases b 1 (cases a 1 d) ≡ cases (a || b) 1 d
marks-or true true d = refl
marks-or true false d = refl
marks-or false b d = refl

-- where turn i marks p just if its item passes, all turns mark p just if some item passes
module _ {R : Type 0} (step : ℕ → List ℕ → List ℕ) (test : R → Bool) (item : ℕ → R) (p : ℕ) (long : (i : ℕ) (s : List ℕ) → length (step i s) ≡ length s)
    (turn : (i : ℕ) (s : List ℕ) → p < length s → get_or (step i s) p 0 ≡ cases (test (item i)) 1 (get_or s p 0)) where
  from-marks : (i k : ℕ) (s : List ℕ) → p < length s → get_or (iter_from step i k s) p 0 ≡ cases (any test (items_from item i k)) 1 (get_or s p 0)
  unfolding iter_from items_from
  from-marks i zero s h = refl
  from-marks i (suc k) s h =
      from-marks (i + 1) k (step i s) (rw (long i s) h)
      ∙ ap (cases (any test (items_from item (i + 1) k)) 1) (turn i s h)
      ∙ marks-or (test (item i)) (any test (items_from item (i + 1) k)) (get_or s p 0)

  pub marks-read : (t : ℕ) (s : List ℕ) → p < length s → get_or (iter step 0 t s) p 0 ≡ cases (any test (items item 0 t)) 1 (get_or s p 0)
  unfolding iter items
  marks-read t s h = from-marks 0 (t - 0) s h

-- a list that begins with zeros
pub zeros-at : (k : ℕ) (s : List ℕ) (p : ℕ) → take k s ≡ replicate k 0 → p < k → get_or s p 0 ≡ 0
zeros-at k s p e h = sym (get_or-take k s p 0 h) ∙ ap (λ (r : List ℕ). get_or r p 0) e ∙ get_or-replicate k p 0 0 h
