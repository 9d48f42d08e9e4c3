-- Laws of single steps, which the check finds alone today. Assumes nothing.
use Rattle.std.specs.Prelude.{◌≡◌, true, false, ◌&&◌, ℕ, eqb}
use Rattle.meaning.specs.declared.Tri.{Tri}
use Rattle.notes.specs.Notes.{Note, own_m, own_u, own_v, on_arrow, own_on}

-- the parts of the code, by its tests
module _ (w : Tri) (x y a b c : ℕ) where
  pub on-m : eqb w.q x && eqb w.r y ≡ true → a ≡ on_arrow w x y a b c
  unfolding on_arrow
  on-m e = rw e

  pub on-u : eqb w.q x && eqb w.r y ≡ false → eqb w.p x && eqb w.q y ≡ true → b ≡ on_arrow w x y a b c
  unfolding on_arrow
  on-u e f = rw (e, f)

  pub on-v : eqb w.q x && eqb w.r y ≡ false → eqb w.p x && eqb w.q y ≡ false → c ≡ on_arrow w x y a b c
  unfolding on_arrow
  on-v e f = rw (e, f)

pub own-on-is : (n : ℕ) (w : Tri) (c : Note) (x y a b d r : ℕ) → a ≡ own_m n c → b ≡ own_u n c → d ≡ own_v n c → r ≡ on_arrow w x y a b d → r ≡ own_on n w c x y
own-on-is n w c x y a b d r e f g h = rw (← g, ← f, ← e) h
