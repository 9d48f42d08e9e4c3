-- Laws in the form of needs: notes that are put and read, row by row. Assumes nothing.
use Rattle.std.specs.Prelude.{◌≡◌, refl, Bool, true, false, List, ℕ, ◌+◌, ◌*◌, ◌≤◌, ◌<◌, length, get_or, set, Option, Some, None, is_some, not, eqb}
use Rattle.std.proofs.Common.{sym, ap, ◌∙◌, arith, length-set, add-one, eqb-true, ne_eqb}
use Rattle.lists.specs.Lists.{cases}
use Rattle.lists.specs.Search.{lowest}
use Rattle.lists.specs.Loops.{code}
use Rattle.lists.specs.ChainLaw.{From, nowhere, there, search_is, linked}
use Rattle.meaning.specs.declared.Tri.{Tri}
use Rattle.meaning.specs.Mesh.{tri}
use Rattle.meaning.specs.Tables.{row_at}
use Rattle.laws.specs.Meshes.{Fair}
use Rattle.round.specs.Round.{newest_at, Around, older_step, link_step, next_of, round, round_by, row_in, Within}

-- a test b that came out, which is x by its contract, picks the case
module _ {A : Type 0} (b x : Bool) (r a k : A) where
  pub case-yes : b ≡ x → b ≡ true → r ≡ a → r ≡ cases x a k
  case-yes e f g = g ∙ ap (λ (z : Bool). cases z a k) (sym f ∙ e)

  pub case-no : b ≡ x → b ≡ false → r ≡ k → r ≡ cases x a k
  case-no e f g = g ∙ ap (λ (z : Bool). cases z a k) (sym f ∙ e)

pub ruleset casing = (case-yes, case-no)

-- ---- the corners of row i

module _ (w : Tri) (rows : List ℕ) (n t i : ℕ) (e : w ≡ row_at rows i) (f : Fair rows n t) (l : i < t) where
  pub p-note : (s : List ℕ) (nc : ℕ) → n ≤ nc → 2 * nc + t ≤ length s → w.p < length s
  p-note s nc h k = rw e (omega (arith, f.named i l))

  pub q-note : (s : List ℕ) (nc : ℕ) → nc + n ≤ length s → nc + w.q < length s
  q-note s nc h = rw e (omega (arith, f.named i l))

  pub r-note : (s s₁ : List ℕ) (nc k : ℕ) → nc + n ≤ length s → s₁ ≡ set s k 1 → nc + w.r < length s₁
  r-note s s₁ nc k h g =
      let z : length s₁ ≡ length s = ap length g ∙ length-set s k 1 in
      rw e (omega (arith, f.named i l))

pub older-put : (w : Tri) (rows s s₁ s₂ : List ℕ) (nc i : ℕ) → w ≡ row_at rows i → s₁ ≡ set s (nc + w.q) 1 → s₂ ≡ set s₁ (nc + w.r) 1 → s₂ ≡ older_step rows nc i s
unfolding older_step
older-put w rows s s₁ s₂ nc i e a b = rw (← e, ← a) b

pub link-put : (g y i v : ℕ) (s s₁ s₂ : List ℕ) → v ≡ get_or s g 0 → s₁ ≡ set s y v → s₂ ≡ set s₁ g (i + 1) → s₂ ≡ linked g y i s
unfolding linked
link-put g y i v s s₁ s₂ a b c = rw (← a, ← b) c

pub link-row-put : (w : Tri) (rows s s' : List ℕ) (nc i : ℕ) → w ≡ row_at rows i → s' ≡ linked w.p (2 * nc + i) i s → s' ≡ link_step rows nc i s
unfolding link_step
link-row-put w rows s s' nc i e g = rw (← e) g

-- ---- along a chain

pub next-none : (s : List ℕ) (nc : ℕ) (o k : Option ℕ) → o ≡ None → k ≡ None → code o ≡ next_of s nc (code k)
unfolding next_of
next-none s nc o k e f = rw (e, f)

pub next-some : (s : List ℕ) (nc : ℕ) (o k : Option ℕ) (i r : ℕ) → code o ≡ r → k ≡ Some i → r ≡ get_or s (2 * nc + i) 0 → code o ≡ next_of s nc (code k)
unfolding next_of
next-some s nc o k i r e f g = rw (e, f, g) (rw add-one)

pub row-none : (l : List ℕ) (k : Option ℕ) → k ≡ None → tri 0 0 0 ≡ row_in l (code k)
unfolding row_in
row-none l k e = rw e

pub row-some : (l : List ℕ) (k : Option ℕ) (i : ℕ) (w : Tri) → k ≡ Some i → w ≡ row_at l i → w ≡ row_in l (code k)
unfolding row_in
row-some l k i w e f = rw (e, f) (rw add-one)

-- a test for none, by number
pub none_zero : (o : Option ℕ) (b : Bool) → is_some o ≡ not b → b ≡ eqb (code o) 0
none_zero None true e = refl
none_zero None false e = cc
none_zero (Some i) true e = cc
none_zero (Some i) false e = sym (ne_eqb (i + 1) 0 (omega arith))

pub some_not : (o : Option ℕ) (b : Bool) → b ≡ is_some o → b ≡ not (eqb (code o) 0)
some_not None b e = e
some_not (Some i) b e = e ∙ sym (rw (ne_eqb (i + 1) 0 (omega arith)))

pub ruleset by_number = (some_not, none_zero)

pub is-zero : (o : Option ℕ) (b : Bool) → is_some o ≡ not b → b ≡ true → code o ≡ 0
is-zero o b e f = eqb-true (code o) 0 (sym (none_zero o b e) ∙ f)

pub is-above : (o : Option ℕ) (b : Bool) → is_some o ≡ not b → b ≡ false → code o ≡ 0 → ⊥
is-above None b e f h = let g : not b ≡ true = rw f in cc
is-above (Some i) b e f h = omega arith

code-le : (f : ℕ → Bool) (i t : ℕ) → i ≤ t → code (lowest f i t) ≤ t
code-le f i t h = go (search_is f i t h)
  where
    go : {r : Option ℕ} → From f i t r → code r ≤ t
    go (nowhere n) = omega arith
    go (there j a b y n) = omega arith

-- the number of a row is t at most
module _ (s : List ℕ) (nc : ℕ) (l : List ℕ) (t z : ℕ) (a : Around s nc l t z) where
  pub head-le : (k : ℕ) → k ≡ get_or s z 0 → k ≤ t
  head-le k e = rw (e, a.head) (code-le (newest_at l z) 0 t (omega arith))

  pub next_le : (o k : Option ℕ) (i r : ℕ) → code k ≤ t → k ≡ Some i → r ≡ get_or s (2 * nc + i) 0 → code o ≡ r → code o ≤ t
  next_le o k i r h e f g =
      let q : i + 1 ≤ t = rw e at h in
      rw (g, f, a.nexts i (omega arith)) (code-le (newest_at l (row_at l i).p) (i + 1) t q)

pub round-within : (l : List ℕ) (t h i j k m : ℕ) → 3 * t ≤ length l → h ≤ t → i ≤ t → j ≤ t → k ≤ t → Within l (round h i j k m)
round-within l t h i j k m f a b c d = record { first-in = omega arith; second-in = omega arith; third-in = omega arith; fourth-in = omega arith }

pub round-made : (s : List ℕ) (nc z i j k l m : ℕ) → i ≡ get_or s z 0 → j ≡ next_of s nc i → k ≡ next_of s nc j → l ≡ next_of s nc k → m ≡ next_of s nc l → round i j k l m ≡ round_by s nc z
unfolding round_by
round-made s nc z i j k l m a b c d e = rw (e, d, c, b, a)
