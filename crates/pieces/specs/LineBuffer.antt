-- The line buffer holds the unfinished line: its first 255 bytes, then zeros; and these tell what is answered to it. Assumes nothing.
use Rattle.std.specs.Prelude.{◌≡◌, refl, Bool, true, false, ◌&&◌, List, [], ◌∷◌, ◌++◌, ℕ, suc, ◌+◌, ◌-◌, ◌<◌, min, leb, length, set, take, replicate}
use Rattle.std.proofs.Common.{sym, ap, ◌∙◌, arith, lt-ltb, leb-true, leb-false, length-append, length-take, take_all, take_at, drop_at}
use Rattle.std.proofs.lemmas.Bool.{lt-leb}
use Rattle.std.proofs.lemmas.List.{length-replicate, replicate-append-replicate, take-append-le}
use Rattle.std.proofs.Math.Seq.{append_snoc, set-append_seam}
use Rattle.lists.specs.Lists.{all}
use Rattle.meaning.specs.Tables.{filled}
use Rattle.text.specs.Digits.{is_digit}
use Rattle.protocol.specs.Frames.{Held, well_formed, takes, line_step}
use Rattle.pieces.specs.Reader.{unfinished, longer, wiped}
use Rattle.pieces.specs.Turns.{kept}

-- ---- an over-long line is malformed however much of it is read

long-malformed : (l : List ℕ) → 254 < length l → well_formed l ≡ false
unfolding well_formed
long-malformed l h = rw (lt-leb (length l) 254 h) (no (leb 2 (length l)) (all is_digit l))
  where
    no : (a b : Bool) → a && false && b ≡ false
    no true b = refl
    no false b = refl

-- "A line over 254 digits is one malformed frame": the first 255 bytes of a line tell what is answered to it
pub line-cut : (h : Held) (l : List ℕ) → line_step h (take 255 l) ≡ line_step h l
unfolding line_step takes
line-cut h l = go (leb (length l) 255) refl
  where
    go : (b : Bool) → leb (length l) 255 ≡ b → line_step h (take 255 l) ≡ line_step h l
    go true e = rw (take_all 255 l (leb-true (length l) 255 e))
    go false e =
        let g = leb-false (length l) 255 e in
        let c : 254 < length (take 255 l) = omega (arith, length-take 255 l) in
        rw (long-malformed l (omega arith), long-malformed (take 255 l) c)

-- ---- the line buffer

pub kept-length : (l : List ℕ) → length (kept l).buffer ≡ 255
kept-length l = omega (arith, length-take 255 l, length-append (take 255 l) (replicate (255 - length (take 255 l)) 0), length-replicate {A = ℕ} (255 - length (take 255 l)) 0)

pub kept_line : (l : List ℕ) → take (kept l).used (kept l).buffer ≡ take 255 l
kept_line l = take_at (take 255 l) (replicate (255 - length (take 255 l)) 0) (min 255 (length l)) (length-take 255 l)

-- one more byte into a list that is filled up
set-filled : (l : List ℕ) (b n : ℕ) → length l < n → set (filled 0 n l) (length l) b ≡ filled 0 n (l ++ (b ∷ []))
set-filled l b n h =
    let e : n - length l ≡ suc (n - length (l ++ (b ∷ []))) = omega (arith, length-append l (b ∷ [])) in
    rw e (set-append_seam l 0 (replicate (n - length (l ++ (b ∷ []))) 0) b ∙ sym (append_snoc l b (replicate (n - length (l ++ (b ∷ []))) 0)))

pub kept-longer : (l : List ℕ) (b : ℕ) → longer (kept l) b ≡ kept (l ++ (b ∷ []))
unfolding longer
kept-longer l b = go (leb 255 (length l)) refl
  where
    len : length (l ++ (b ∷ [])) ≡ length l + 1
    len = length-append l (b ∷ [])

    go : (x : Bool) → leb 255 (length l) ≡ x → longer (kept l) b ≡ kept (l ++ (b ∷ []))
    go true e =
        let g = leb-true 255 (length l) e in
        let u : min 255 (length l) ≡ 255 = omega arith in
        let v : min 255 (length (l ++ (b ∷ []))) ≡ 255 = omega (arith, len) in
        rw (u, v, take-append-le 255 l (b ∷ []) g)
    go false e =
        let g = leb-false 255 (length l) e in
        let u : min 255 (length l) ≡ length l = omega arith in
        let v : min 255 (length (l ++ (b ∷ []))) ≡ length l + 1 = omega (arith, len) in
        rw (u, v, lt-ltb (length l) 255 g, take_all 255 l (omega arith), take_all 255 (l ++ (b ∷ [])) (omega (arith, len)))
        (ap (unfinished (length l + 1)) (set-filled l b 255 g))

pub kept-wiped : (l : List ℕ) → wiped (kept l) ≡ unfinished 0 (replicate 255 0)
unfolding wiped
kept-wiped l =
    let k = min 255 (length l) in
    let e : length (take 255 l) ≡ k = length-take 255 l in
    let s : k + (255 - k) ≡ 255 = omega arith in
    rw (drop_at (take 255 l) (replicate (255 - length (take 255 l)) 0) k e, e, replicate-append-replicate {A = ℕ} k (255 - k) 0, s)
