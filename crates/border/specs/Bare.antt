-- Where no two rows share an interior point, no row lies just right of a border arrow that no other meets. Assumes nothing.
use Rattle.std.specs.Prelude.{Bool, true, false, not, ◌≢◌, ◌≡◌, refl, ℕ, suc, ◌≤◌, ◌<◌, ℤ, pos, neg_ℤ, ◌+ℤ◌, ◌<ℤ◌, length, get_or}
use mathlib.Core.List.{List, [], ◌∷◌, Memᴰ}
use Rattle.std.proofs.Common.{arith}
use Rattle.std.proofs.Math.Decide.{dec_lt}
use Rattle.whole.specs.Diff.{onℤ, sumℤ}
use Rattle.lists.specs.Lists.{count, suc_if, All}
use Rattle.lists.specs.ListsLaw.{All-imp, All-of, All-at}
use Rattle.meaning.specs.Mesh.{Mesh, Arrow, tri}
use Rattle.meaning.specs.Lawful.{row_of}
use Rattle.meaning.specs.Proper.{Point, Share, area, shape}
use Rattle.border.specs.Sums.{one}
use Rattle.border.specs.Under.{Form, inside, inside-yes}
use Rattle.border.specs.Cancel.{Once, arrows_of, border}
use Rattle.border.specs.Count.{depth}
use Rattle.border.specs.Nearest.{upward, Lone, Bare, others_at}
use Rattle.border.specs.Sides.{right-depth, left-depth}

-- two members that pass, if more than one does
count-two : {A : Type 0} (p : A → Bool) (z : A) (l : List A) → 2 ≤ count p l → (i : ℕ) × (j : ℕ) × (i < j) × (j < length l) × (p (get_or l i z) ≡ true) × (p (get_or l j z) ≡ true)
count-two p z [] h = absurd (omega arith)
count-two {A} p z (x ∷ xs) h = go (p x) refl h (count-two p z xs)
  where
    one_place : (l : List A) → 1 ≤ count p l → (j : ℕ) × (j < length l) × (p (get_or l j z) ≡ true)
    one_place [] h = absurd (omega arith)
    one_place (y ∷ ys) h = step (p y) refl h (one_place ys)
      where
        step : (b : Bool) → p y ≡ b → 1 ≤ suc_if b (count p ys) → (1 ≤ count p ys → (j : ℕ) × (j < length ys) × (p (get_or ys j z) ≡ true)) → (j : ℕ) × (j < suc (length ys)) × (p (get_or (y ∷ ys) j z) ≡ true)
        step true e h below = (0, omega arith, e)
        step false e h below = let (j, l, q) = below h in (suc j, omega arith, q)

    go : (b : Bool) → p x ≡ b → 2 ≤ suc_if b (count p xs) → (2 ≤ count p xs → (i : ℕ) × (j : ℕ) × (i < j) × (j < length xs) × (p (get_or xs i z) ≡ true) × (p (get_or xs j z) ≡ true)) →
        (i : ℕ) × (j : ℕ) × (i < j) × (j < suc (length xs)) × (p (get_or (x ∷ xs) i z) ≡ true) × (p (get_or (x ∷ xs) j z) ≡ true)
    go true e h below = let (j, l, q) = one_place xs (omega arith) in (0, suc j, omega arith, omega arith, e, q)
    go false e h below = let (i, j, k, l, q, r) = below h in (suc i, suc j, omega arith, omega arith, q, r)

-- no two rows share an interior point (not 12)
abbrev pub NoneShared : Mesh → Type 0
NoneShared m = (i j : ℕ) → i < j → j < length m.tris → ¬ Share (shape m (row_of m.tris i)) (shape m (row_of m.tris j))

pub depth-one : (m : Mesh) → NoneShared m → (s : Point) → pos 0 <ℤ s.W → depth m s ≤ 1
depth-one m n s w = go (dec_lt 1 (depth m s))
  where
    go : Dec (1 < depth m s) → depth m s ≤ 1
    go (yes h) =
        let (i, j, k, l, q, r) = count-two (λ t. inside (shape m t) s) (tri 0 0 0) m.tris (omega arith) in
        absurd (n i j k l (record { point = s; weight = w; in-first = inside-yes (shape m (row_of m.tris i)) s q; in-second = inside-yes (shape m (row_of m.tris j)) s r }))
    go (no h) = omega arith

module _ (f : Form) (across : f.across ≢ pos 0) (m : Mesh) (positive : All (λ t. pos 0 <ℤ area (shape m t)) m.tris) (no-twice : Once (arrows_of m.tris))
    (lone : All (Lone f m m.tris) (border m.tris)) (disjoint : NoneShared m) where
  -- left of e there is one row more than right of it, and at most one
  nothing_right : (e : Arrow) → Memᴰ e (border m.tris) → others_at f m m.tris e ≡ one (not (upward f m e))
  nothing_right e i =
      let slanted = All-imp (λ e l. l.slanted) lone in
      let l = left-depth f across m positive no-twice slanted e i (All-at lone i) in
      let r = right-depth f across m positive no-twice slanted e i (All-at lone i) in
      counted (upward f m e) (depth m l.point) (depth m r.point) (others_at f m m.tris e) l.is r.is (depth-one m disjoint l.point l.weight)
    where
      counted : (b : Bool) (k n : ℕ) (z : ℤ) → pos k ≡ one b +ℤ z → pos n ≡ neg_ℤ (one (not b)) +ℤ z → k ≤ 1 → z ≡ one (not b)
      counted true k n z e g h = omega (arith, onℤ, sumℤ (pos 1) z, sumℤ (neg_ℤ (pos 0)) z)
      counted false k n z e g h = omega (arith, onℤ, sumℤ (pos 0) z, sumℤ (neg_ℤ (pos 1)) z)

  pub all-bare : All (Bare f m m.tris) (border m.tris)
  all-bare = All-of (border m.tris) (λ e i. record { lone = All-at lone i; nothing = nothing_right e i })
