-- Laws in the form of needs. Assumes nothing.
use Rattle.std.specs.Prelude.{◌≡◌, refl, Bool, List, Some, None}
use Rattle.std.proofs.Common.{◌∙◌}
use Rattle.std.proofs.Math.Path.{ap}
use Rattle.std.proofs.Math.Bool.{true, false}
use Prim.Native.Nat.{ℕ, suc, ◌+◌, ◌-◌, ◌*◌, ◌/◌, ◌%◌, ◌≤◌, ◌<◌}
use native.Mathlib.Omega.{arith}
use borrow.Author.Tests.{le-ltb, eq-eqb, ne_eqb}
use Rattle.std.proofs.Math.Dec.{eqb}
use Rattle.std.proofs.Math.ListN.{get_or, set}
use Rattle.lists.specs.Loops.{noted}
use Rattle.lists.specs.LoopsLaw.{noted-turn, noted-below, noted-above}
use Rattle.meaning.specs.declared.Tri.{Tri}
use Rattle.meaning.specs.Mesh.{tri}
use Rattle.meaning.specs.Coarsen.{marked}
use Rattle.meaning.specs.Tables.{row_at}
use Rattle.laws.specs.Meshes.{Fair}
use Rattle.gather.specs.Closing.{renewed, row_renewing}
use Rattle.gather.specs.Goes.{Small, take_at, fate_no, fate_at, gone_node, gone_row, next_number, number_below, father_by, renamed_by}

-- ---- which nodes go

module _ (marks s : List ℕ) (nc z v : ℕ) (b : Bool) (e : v ≡ get_or s (nc + z) 0) (f : b ≡ marked marks z) where
  pub take-yes : b ≡ true → v % 2 ≡ 1 → v / 2 ≡ take_at marks s nc z
  unfolding take_at
  take-yes g h = rw (← e, ← f, g, eq-eqb (v % 2) 1 h)

  pub take-unmarked : b ≡ false → 0 ≡ take_at marks s nc z
  unfolding take_at
  take-unmarked g = rw (← f, g)

  pub take-bad : b ≡ true → (v % 2 ≡ 1 → ⊥) → 0 ≡ take_at marks s nc z
  unfolding take_at
  take-bad g h = rw (← e, ← f, g, ne_eqb (v % 2) 1 h)

-- node z is read before it is written
pub take-turn : (marks s₀ s s' : List ℕ) (nc z v : ℕ) → s ≡ noted nc (take_at marks s₀ nc) z s₀ → v ≡ take_at marks s nc z → s' ≡ set s (nc + z) v →
    s' ≡ noted nc (take_at marks s₀ nc) (z + 1) s₀
unfolding take_at
take-turn marks s₀ s s' nc z v e f g =
    let q : get_or s (nc + z) 0 ≡ get_or s₀ (nc + z) 0 = rw e (noted-above nc (take_at marks s₀ nc) z s₀ (nc + z) 0 (omega arith)) in
    let w : v ≡ take_at marks s₀ nc z = rw q at f in
    noted-turn nc (take_at marks s₀ nc) z s₀ s s' e (g ∙ ap (λ (x : ℕ). set s (nc + z) x) w)

-- ---- fates

pub fate-none : (v : ℕ) (w : Tri) → v ≡ 0 → 0 ≡ fate_no v w
unfolding fate_no
fate-none v w e = rw (eq-eqb v 0 e)

-- k is the number of a pair, 1 less
module _ (v k : ℕ) (w : Tri) (h : (1 ≤ v) × (k ≡ v - 1)) where
  some : eqb v 0 ≡ false
  some = let a = h.0 in ne_eqb v 0 (omega arith)

  pub fate-lo : w.r ≡ k / 32_768 → k % 32_768 + 2 ≡ fate_no v w
  unfolding fate_no
  fate-lo e = rw (some, ← h.1, eq-eqb w.r (k / 32_768) e)

  pub fate-hi : (w.r ≡ k / 32_768 → ⊥) → w.r ≡ k % 32_768 → k / 32_768 + 2 ≡ fate_no v w
  unfolding fate_no
  fate-hi n e = rw (some, ← h.1, ne_eqb w.r (k / 32_768) n, eq-eqb w.r (k % 32_768) e)

  pub fate_goes : (w.r ≡ k / 32_768 → ⊥) → (w.r ≡ k % 32_768 → ⊥) → 1 ≡ fate_no v w
  unfolding fate_no
  fate_goes n e = rw (some, ← h.1, ne_eqb w.r (k / 32_768) n, ne_eqb w.r (k % 32_768) e)

pub fate-made : (w : Tri) (l s : List ℕ) (i nc v r : ℕ) → w ≡ row_at l i → v ≡ get_or s (nc + w.p) 0 → r ≡ fate_no v w → r ≡ fate_at l s nc i
unfolding fate_at
fate-made w l s i nc v r e g k = k ∙ rw (g, e)

module _ (l s₀ s : List ℕ) (nc n t i : ℕ) (f : Fair l n t) (room : n ≤ nc) (h : i < t) (e : s ≡ noted (2 * nc) (fate_at l s₀ nc) i s₀) where
  pub pairs-still : Small s₀ nc n → Small s nc n
  pairs-still k = record {
    small = λ z l'.
        (let q : get_or s (nc + z) 0 ≡ get_or s₀ (nc + z) 0 = rw e (noted-below (2 * nc) (fate_at l s₀ nc) i s₀ (nc + z) 0 (omega arith)) in
        rw q (k.small z l'));
  }

  pub fate-turn : (s' : List ℕ) (v : ℕ) → v ≡ fate_at l s nc i → s' ≡ set s (2 * nc + i) v → s' ≡ noted (2 * nc) (fate_at l s₀ nc) (i + 1) s₀
  unfolding fate_at
  fate-turn s' v g k =
      let d = f.named i h in
      let q : get_or s (nc + (row_at l i).p) 0 ≡ get_or s₀ (nc + (row_at l i).p) 0 = rw e (noted-below (2 * nc) (fate_at l s₀ nc) i s₀ (nc + (row_at l i).p) 0 (omega (arith, d.p-below))) in
      let w : v ≡ fate_at l s₀ nc i = rw q at g in
      noted-turn (2 * nc) (fate_at l s₀ nc) i s₀ s s' e (k ∙ ap (λ (x : ℕ). set s (2 * nc + i) x) w)

-- ---- new numbers

module _ (s₀ s s' : List ℕ) (nc n z k : ℕ) (e : s ≡ noted 0 (number_below (gone_node s₀ nc)) z s₀) (g : k ≡ number_below (gone_node s₀ nc) z)
    (room : n ≤ nc) (h : z < n) where
  pub number-turn : s' ≡ set s z k → s' ≡ noted 0 (number_below (gone_node s₀ nc)) (z + 1) s₀
  number-turn p =
      let q : 0 + z ≡ z = omega arith in
      noted-turn 0 (number_below (gone_node s₀ nc)) z s₀ s s' e (rw q (p ∙ ap (λ (x : ℕ). set s z x) g))

  same_flag : gone_node s nc z ≡ gone_node s₀ nc z
  unfolding gone_node
  same_flag =
      let q : get_or s (nc + z) 0 ≡ get_or s₀ (nc + z) 0 = rw e (noted-above 0 (number_below (gone_node s₀ nc)) z s₀ (nc + z) 0 (omega arith)) in
      rw q

  pub number-next : (k' : ℕ) → k' ≡ next_number (gone_node s nc z) k → k' ≡ number_below (gone_node s₀ nc) (z + 1)
  unfolding number_below
  number-next k' f =
      let w : z + 1 ≡ suc z = omega arith in
      rw w (rw (same_flag, g) at f)

  pub number-few : (k' : ℕ) → k ≤ z → k' ≡ next_number (gone_node s nc z) k → k' ≤ z + 1
  number-few k' l f = rw f (go (gone_node s nc z))
    where
      go : (b : Bool) → next_number b k ≤ z + 1
      go true = omega arith
      go false = omega arith

pub number-start : (gone : ℕ → Bool) → 0 ≡ number_below gone 0
unfolding number_below
number-start gone = refl

-- ---- rows

pub renamed-made : (s : List ℕ) (w : Tri) (p q r : ℕ) → p ≡ get_or s w.p 0 → q ≡ get_or s w.q 0 → r ≡ get_or s w.r 0 → tri p q r ≡ renamed_by s w
unfolding renamed_by
renamed-made s w p q r a b c = rw (a, b, c)

-- f is what is noted of row i, which is w
module _ (s : List ℕ) (nc i f : ℕ) (w r : Tri) (e : f ≡ get_or s (2 * nc + i) 0) where
  pub row-stays : 0 ≡ f → r ≡ renamed_by s w → Some r ≡ renewed (row_renewing s nc) i w
  unfolding gone_row father_by
  row-stays h g = rw (← e, ← h) (ap Some g)

  pub row_goes : 1 ≡ f → None ≡ renewed (row_renewing s nc) i w
  unfolding gone_row
  row_goes h = rw (← e, ← h)

  pub row-becomes : (c : ℕ) → c + 2 ≡ f → r ≡ renamed_by s (tri w.q w.r c) → Some r ≡ renewed (row_renewing s nc) i w
  unfolding gone_row father_by
  row-becomes c h g =
      let q : c + 2 - 2 ≡ c = omega arith in
      rw (← e, ← h, ne_eqb (c + 2) 1 (omega arith), le-ltb (c + 2) 2 (omega arith), q) (ap Some g)
