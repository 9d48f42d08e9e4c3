-- Laws of single steps by number, which the check finds alone today, or by newer laws. Assumes nothing.
use Rattle.std.specs.Prelude.{◌≡◌, refl, Bool, true, false, ◌&&◌, List, ℕ, zero, suc, ◌+◌, ◌-◌, ◌*◌, ◌≤◌, eqb, length, get_or, Option}
use Rattle.std.proofs.Common.{sym, ◌∙◌, arith, eqb-true, eq-eqb}
use Rattle.lists.specs.ListsLaw.{clash}
use Rattle.lists.specs.Search.{lowest}
use Rattle.lists.specs.Loops.{code}
use Rattle.lists.specs.ChainLaw.{From, nowhere, there, search_is}
use Rattle.meaning.specs.declared.Tri.{Tri}
use Rattle.meaning.specs.Mesh.{tri}
use Rattle.meaning.specs.Good.{G1}
use Rattle.meaning.specs.Tables.{row_at}
use Rattle.laws.specs.Meshes.{rows_alone, Fair}
use Rattle.round.specs.Round.{newest_at, Around, next_of, Numbers, round, round_by, two_or_four, row_in, Within}
use Rattle.round.specs.RoundLaw.{G1-round, G1-held}
use Rattle.round.specs.Needs as Needs

-- ---- along a chain

pub next-none : (s : List ℕ) (nc k : ℕ) → k ≡ 0 → 0 ≡ next_of s nc k
unfolding next_of
next-none s nc k e = rw e

pub next-some : (s : List ℕ) (nc k r : ℕ) → (k ≡ 0 → ⊥) → r ≡ get_or s (2 * nc + k - 1) 0 → r ≡ next_of s nc k
unfolding next_of
next-some s nc zero r o e = absurd (o refl)
next-some s nc (suc j) r o e = let q : 2 * nc + suc j - 1 ≡ 2 * nc + j = omega arith in rw q at e

pub row-none : (l : List ℕ) (k : ℕ) → k ≡ 0 → tri 0 0 0 ≡ row_in l k
unfolding row_in
row-none l k e = rw e

pub row-some : (l : List ℕ) (k : ℕ) (w : Tri) → (k ≡ 0 → ⊥) → w ≡ row_at l (k - 1) → w ≡ row_in l k
unfolding row_in
row-some l zero w o e = absurd (o refl)
row-some l (suc j) w o e = let q : suc j - 1 ≡ j = omega arith in rw q at e

code-le : (f : ℕ → Bool) (i t : ℕ) → i ≤ t → code (lowest f i t) ≤ t
code-le f i t h = go (search_is f i t h)
  where
    go : {r : Option ℕ} → From f i t r → code r ≤ t
    go (nowhere n) = omega arith
    go (there j a b y n) = omega arith

-- the number of a row is t at most
module _ (s : List ℕ) (nc : ℕ) (l : List ℕ) (t z : ℕ) (a : Around s nc l t z) where
  pub next_le : (k r : ℕ) → k ≤ t → (k ≡ 0 → ⊥) → r ≡ get_or s (2 * nc + k - 1) 0 → r ≤ t
  next_le zero r h o e = absurd (o refl)
  next_le (suc j) r h o e =
      let q : 2 * nc + suc j - 1 ≡ 2 * nc + j = omega arith in
      rw (e, q, a.nexts j (omega arith)) (code-le (newest_at l (row_at l j).p) (j + 1) t (omega arith))

  pub round-within : (h i j k m : ℕ) → 3 * t ≤ length l → h ≡ get_or s z 0 → i ≤ t → j ≤ t → k ≤ t → Within l (round h i j k m)
  round-within h i j k m f e x y w = Needs.round-within l t h i j k m f (Needs.head-le s nc l t z a h e) x y w

-- ---- G1, as the code asks it

module _ (rows : List ℕ) (n t z : ℕ) (f : Fair rows n t) where
  pub G1-is : (s : List ℕ) (nc a : ℕ) (k : Numbers) (c : Bool) → Around s nc rows t z → a ≡ get_or s (nc + z) 0 → k ≡ round_by s nc z → c ≡ two_or_four k → eqb a 0 && c ≡ G1 (rows_alone rows t) z
  G1-is s nc a k c w e g h = go (eqb a 0) refl
    where
      go : (b : Bool) → eqb a 0 ≡ b → eqb a 0 && c ≡ G1 (rows_alone rows t) z
      go true q = rw q (G1-round rows n t z f s nc a w e k c (eqb-true a 0 q) g h)
      go false q = rw q (sym q ∙ G1-held rows n t z f s nc a w e (λ p. clash (sym (eq-eqb a 0 p) ∙ q)))
