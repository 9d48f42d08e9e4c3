-- Bytes put into a buffer, one after the other. Assumes nothing.
use Rattle.std.specs.Prelude.{◌≡◌, refl, List, [], ◌∷◌, ◌++◌, length, set, drop}
use Rattle.std.proofs.Common.{sym, ◌∙◌, length-set, drop-drop, append_assoc}
use Prim.Native.Nat.{ℕ, suc, ◌+◌, ◌-◌, ◌≤◌, ◌<◌}
use native.Mathlib.Omega.{arith}
use Rattle.std.proofs.Math.Numerals.{add-one}
use Rattle.std.proofs.lemmas.List.Edits.{sets, sets-eq}
use borrow.Rule.Slice.PartMut.{put_mid}
use Rattle.lists.specs.Lists.{joined}
use Rattle.lists.specs.Search.{items, items_from}

-- a buffer, and the place of the next byte
pub record Wrote : Type 0 where
  pub at : ℕ
  pub out : List ℕ

abbrev pub wrote : ℕ → List ℕ → Wrote
wrote k out = record { at = k; out = out }

unfoldable pub writes : Wrote → List ℕ → Wrote
writes w [] = w
writes w (b ∷ bs) = writes (wrote (w.at + 1) (set w.out w.at b)) bs

pub writes-append : (w : Wrote) (s t : List ℕ) → writes w (s ++ t) ≡ writes (writes w s) t
unfolding writes
writes-append w [] t = refl
writes-append w (b ∷ s) t = writes-append (wrote (w.at + 1) (set w.out w.at b)) s t

-- ---- what a text leaves: the place after it, and the text in front of what else the buffer holds

pub writes_at : (w : Wrote) (s : List ℕ) → (writes w s).at ≡ w.at + length s
unfolding writes
writes_at w [] = omega arith
writes_at w (b ∷ s) = writes_at (wrote (w.at + 1) (set w.out w.at b)) s ∙ omega arith

pub writes-length : (w : Wrote) (s : List ℕ) → length (writes w s).out ≡ length w.out
unfolding writes
writes-length w [] = refl
writes-length w (b ∷ s) = writes-length (wrote (w.at + 1) (set w.out w.at b)) s ∙ length-set w.out w.at b

writes-sets : (k : ℕ) (out s : List ℕ) → writes (wrote k out) s ≡ wrote (k + length s) (sets out k s)
unfolding writes
writes-sets k out [] = let e : k + 0 ≡ k = omega arith in rw e
writes-sets k out (b ∷ s) =
    let e : k + 1 + length s ≡ k + suc (length s) = omega arith in
    writes-sets (k + 1) (set out k b) s ∙ rw (e, add-one)

pub writes-front : (out s : List ℕ) → length s ≤ length out → writes (wrote 0 out) s ≡ wrote (length s) (s ++ drop (length s) out)
writes-front out s h =
    let e : 0 + length s ≡ length s = omega arith in
    writes-sets 0 out s ∙ rw (e, sets-eq s out 0 (omega arith), e)

-- ---- in the form of needs

-- one text, then another
pub then : (w x y : Wrote) (s t : List ℕ) → x ≡ writes w s → y ≡ writes x t → y ≡ writes w (s ++ t)
then w x y s t a b = b ∙ rw (a, writes-append)

-- and a third
pub then-last : (w x y z : Wrote) (s t u : List ℕ) → x ≡ writes w s → y ≡ writes x t → z ≡ writes y u → z ≡ writes w (s ++ t ++ u)
then-last w x y z s t u a b c = then w y z (s ++ t) u (then w x y s t a b) c

pub put_one : (k b : ℕ) (out : List ℕ) → wrote (k + 1) (set out k b) ≡ writes (wrote k out) (b ∷ [])
unfolding writes
put_one k b out = refl

-- a text copied into its place: ys stands there then
pub text-copied : (k : ℕ) (out text ys : List ℕ) → ys ≡ text → k + length text ≤ length out →
    wrote (k + length text) (put_mid k (k + length text - k) out ys) ≡ writes (wrote k out) text
text-copied k out text ys e h =
    let n : k + length text - k ≡ length text = omega arith in
    rw (n, e, writes-sets k out text, sets-eq text out k h, ← drop-drop, append_assoc)

-- a loop over numbered items, each with its text
module _ {A : Type 0} (f : A → List ℕ) (g : ℕ → A) (k i n : ℕ) (out : List ℕ) (w : Wrote) (inv : writes (wrote k out) (joined f (items g i n)) ≡ w) where
  pub line-turn : (y : Wrote) (a : A) → i < n → a ≡ g i → y ≡ writes (wrote k out) (f a) → writes y (joined f (items g (i + 1) n)) ≡ w
  unfolding items items_from
  line-turn y a h o e =
      let q : n - i ≡ suc (n - (i + 1)) = omega arith in
      rw (e, o) (sym (writes-append (wrote k out) (f (g i)) (joined f (items g (i + 1) n))) ∙ (rw q at inv))

  pub line-end : n ≤ i → wrote k out ≡ w
  unfolding items items_from writes
  line-end h = let q : n - i ≡ 0 = omega arith in rw q at inv
