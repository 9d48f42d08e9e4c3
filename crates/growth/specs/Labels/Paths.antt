-- Paths through a tree of halves, the last step first; endless streams of steps; anchors. Assumes nothing.
use Rattle.std.specs.Prelude.{◌≡◌, refl, ◌≢◌, ◌↔◌, ℕ, zero, suc, ◌+◌, ◌≤◌, length}
use Rattle.std.proofs.Common.{sym, ap, ap₂, ◌∙◌, zero-add, arith, length-append}
use mathlib.Core.List.{List, [], ◌∷◌, ◌++◌, append_assoc, cons≢nil}
use Rattle.std.proofs.Math.Decide.{le_ind}
use Rattle.std.proofs.Math.Numerals.{unary_clauses}

-- The two halves of a triangle.
pub data Side : Type 0 where
  L R : Side
  deriving Discrete as Side-discrete

-- The other half.
abbrev pub other : Side → Side
other L = R
other R = L

-- A path down from a base triangle, the LAST step first, so that all recursion is structural.
abbrev pub Path : Type 0
Path = List Side

-- A path that ends in L is none that ends in R.
pub L≢R : {u w : Path} → L ∷ u ≢ R ∷ w
L≢R e = let z : ◌≡◌ {A = ℕ} 0 1 = cc in omega arith

-- An endless stream of steps, the first at 0.
abbrev pub Stream : Type 0
Stream = ℕ → Side

-- The path w begins the stream s.
abbrev pub On : Path → Stream → Type 0
On [] s = Unit {0}
On (x ∷ w) s = (s (length w) ≡ x) × On w s

-- The first n steps of a stream, as a path.
abbrev pub start : Stream → ℕ → Path
start s zero = []
start s (suc n) = s n ∷ start s n

-- u is an earlier part of w (a suffix, since the last step stands first).
pub record ◌⊑◌ (u w : Path) : Type 0 where
  pub rest : Path
  pub joins : rest ++ u ≡ w

infix 4 ◌⊑◌
-- A path is an earlier part of itself,
pub ⊑_refl : (w : Path) → w ⊑ w
⊑_refl w = record { rest = []; joins = refl }

-- and of what goes on from it by a step.
pub ⊑-step : (x : Side) {u w : Path} → u ⊑ w → u ⊑ x ∷ w
⊑-step x h = record { rest = x ∷ h.rest; joins = ap (x ∷◌) h.joins }

-- An earlier part of an earlier part is an earlier part.
pub ⊑_trans : {u v w : Path} → u ⊑ v → v ⊑ w → u ⊑ w
⊑_trans {u} h k = record { rest = k.rest ++ h.rest; joins = append_assoc k.rest h.rest u ∙ ap (k.rest ++◌) h.joins ∙ k.joins }

-- An earlier part is no longer than the whole.
pub ⊑-length : {u w : Path} → u ⊑ w → length u ≤ length w
⊑-length {u} h = omega (arith, simp length-append at (ap length h.joins))

-- A stream has a start of every length.
pub length-start : (s : Stream) (n : ℕ) → length (start s n) ≡ n
length-start s zero = refl
length-start s (suc n) = ap suc (length-start s n)

-- A stream's starts are on it.
pub on-start-of : (s : Stream) (n : ℕ) → On (start s n) s
on-start-of s zero = tt
on-start-of s (suc n) = (ap s (length-start s n), on-start-of s n)

-- A path on a stream is the stream's start of that length: so there is one of each length.
pub is-start : (w : Path) (s : Stream) → On w s → start s (length w) ≡ w
is-start [] s h = refl
is-start (x ∷ w) s h = ap₂ ◌∷◌ h.0 (is-start w s h.1)

-- Two paths on one stream and of one length are one.
pub on-same-length : (u w : Path) (s : Stream) → On u s → On w s → length u ≡ length w → u ≡ w
on-same-length u w s hu hw e = sym (is-start u s hu) ∙ ap (start s) e ∙ is-start w s hw

-- The shorter of two starts is an earlier part of the longer.
pub start-⊑ : (s : Stream) (m n : ℕ) → m ≤ n → start s m ⊑ start s n
start-⊑ s m = le_ind (λ n. start s m ⊑ start s n) (⊑_refl (start s m)) (λ n _. ⊑-step (s n))

-- Two paths on one stream: the shorter is an earlier part of the longer.
pub On-shorter : (u w : Path) (s : Stream) → On u s → On w s → length u ≤ length w → u ⊑ w
On-shorter u w s hu hw h = rw (is-start u s hu, is-start w s hw) at (start-⊑ s (length u) (length w) h)

-- An earlier part of a path on a stream is on the stream.
pub On-⊑ : {u w : Path} (s : Stream) → u ⊑ w → On w s → On u s
On-⊑ {u} {w} s h o = go h.rest (rw (← h.joins) at o)
  where
    go : (v : Path) → On (v ++ u) s → On u s
    go [] o' = o'
    go (x ∷ v) o' = go v o'.1

-- The stream that begins with x, and then is s.
abbrev pub before : Side → Stream → Stream
before x s zero = x
before x s (suc n) = s n

-- The stream that begins with the path w, and then is s.
abbrev pub along : Path → Stream → Stream
along [] s = s
along (x ∷ w) s = along w (before x s)

-- Past w, `along w s` is s.
pub along-past : (w : Path) (s : Stream) (n : ℕ) → along w s (n + length w) ≡ s n
along-past [] s n = simp unary_clauses
along-past (x ∷ w) s n =
    let e : n + suc (length w) ≡ suc n + length w = omega arith in
    rw e (along-past w (before x s) (suc n))

-- w begins `along w s`.
pub On-along : (w : Path) (s : Stream) → On w (along w s)
On-along [] s = tt
On-along (x ∷ w) s = (rw zero-add at (along-past w (before x s) 0), On-along w (before x s))

-- An earlier part as long as the whole is the whole.
pub ⊑-whole : {u w : Path} → u ⊑ w → length w ≤ length u → u ≡ w
⊑-whole {u} {w} h l =
    let s = along w (λ _. L) in
    on-same-length u w s (On-⊑ s h (On-along w (λ _. L))) (On-along w (λ _. L)) (omega (arith, ⊑-length h))

-- What is left of a path after its latest L's.
abbrev pub anchor : Path → Path
anchor [] = []
anchor (L ∷ w) = anchor w
anchor (R ∷ w) = R ∷ w

-- A path of L's only.
abbrev pub AllL : Path → Type 0
AllL [] = Unit {0}
AllL (L ∷ w) = AllL w
AllL (R ∷ w) = ⊥

-- A path is of L's only exactly if its anchor is empty.
pub AllL-anchor : (w : Path) → AllL w ↔ (anchor w ≡ [])
AllL-anchor [] = (λ _. refl, λ _. tt)
AllL-anchor (L ∷ w) = AllL-anchor w
AllL-anchor (R ∷ w) = (λ h. absurd h, λ e. cons≢nil e)

-- An anchor is an earlier part of its path.
pub anchor-⊑ : (w : Path) → anchor w ⊑ w
anchor-⊑ [] = ⊑_refl []
anchor-⊑ (L ∷ w) = ⊑-step L (anchor-⊑ w)
anchor-⊑ (R ∷ w) = ⊑_refl (R ∷ w)
