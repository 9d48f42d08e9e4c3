-- A caller hands a piece over, and what is left of it again: the whole piece is taken, as if it had come at once. Assumes nothing.
use Rattle.std.specs.Prelude.{◌≡◌, Bool, true, false, ℕ, zero, suc, ◌+◌, ◌≤◌, ◌<◌, ltb, take, drop}
use Rattle.std.proofs.Math.Path.{refl, ap}
use Rattle.std.proofs.Common.{sym, ◌∙◌, arith, ltb-true, ltb-false, drop_of_length-le, drop_at}
use mathlib.Core.List.{List, [], ◌∷◌, ◌++◌, append-nil, append_assoc}
use Rattle.std.proofs.Math.ListN.{length, length-append}
use Rattle.std.proofs.Math.Seq.{take-append_seam}
use Rattle.text.specs.Writing.{Wrote, wrote, writes, writes-front, writes-length}
use Rattle.protocol.specs.Frames.{Held}
use Rattle.protocol.specs.Program.{closing, Stands}
use Rattle.fitting.specs.Lent.{WholeHeld}
use Rattle.pieces.specs.Reader.{Taken, unchanged, take_out}
use Rattle.pieces.proofs.Parts.{take-some}
use Rattle.pieces.specs.Turns.{Caller, goes_on, handed, waiting, over}
use Rattle.pieces.specs.WholeText.{gone_on, gone-cut, torn}
use Rattle.pieces.proofs.Taking.{Comes, take-comes}

-- ---- what a caller has after a call

front-is : (out text : List ℕ) → length text ≤ length out → take (writes (wrote 0 out) text).at (writes (wrote 0 out) text).out ≡ text
front-is out text h = ap (λ (w : Wrote). take w.at w.out) (writes-front out text h) ∙ take-append_seam text (drop (length text) out)

-- a caller of a reader that waits where a text stands; `base` was said before the text
pub record At (s : Stands) (base : List ℕ) (ol : ℕ) (c : Caller) : Type 0 where
  pub carried : c.carried ≡ waiting s.held s.waits
  pub said : c.said ≡ base ++ s.said
  pub out : length c.out ≡ ol
  pub lent : WholeHeld s.held ol

-- a caller after the end
pub record Over (h : Held) (said : List ℕ) (c : Caller) : Type 0 where
  pub carried : c.carried ≡ over h
  pub told : c.said ≡ said
  pub lent : WholeHeld h (length c.out)

-- after a call that says `text`
pub goes-said : (said out text : List ℕ) (x : Taken) → x.text ≡ writes (wrote 0 out) text → length text ≤ length out → (goes_on said x).said ≡ said ++ text
goes-said said out text x e h = ap (λ (t : List ℕ). said ++ t) (ap (λ (w : Wrote). take w.at w.out) e ∙ front-is out text h)

pub goes-out : (said out text : List ℕ) (x : Taken) → x.text ≡ writes (wrote 0 out) text → length (goes_on said x).out ≡ length out
goes-out said out text x e = ap (λ (w : Wrote). length w.out) e ∙ writes-length (wrote 0 out) text

-- a call that is refused or has nothing to do leaves a caller as it was
pub goes-unchanged : (c : Caller) (number : ℕ) → goes_on c.said (unchanged number c.carried c.out) ≡ c
goes-unchanged c number = rw (append-nil c.said)

pub torn-short : (l : List ℕ) → length (torn l ++ closing) ≤ 32
torn-short [] = omega arith
torn-short (b ∷ l) = omega arith

pub joins : (a b c d : List ℕ) → a ++ b ++ (c ++ d) ≡ a ++ (b ++ c) ++ d
joins a b c d = sym (append_assoc (a ++ b) c d) ∙ ap (λ (x : List ℕ). x ++ d) (append_assoc a b c)

-- ---- a piece is handed over

-- a call took `front` of a piece, and the caller stands after it
record Once (s : Stands) (base : List ℕ) (ol : ℕ) (p said : List ℕ) (x : Taken) : Type 0 where
  front : List ℕ
  rest : List ℕ
  both : p ≡ front ++ rest
  number : x.number ≡ 0
  taken : x.taken ≡ length front
  goes : At (gone_on s front) base ol (goes_on said x)

module _ (base : List ℕ) (ol : ℕ) where
  hand_once : (s : Stands) (c : Caller) (p : List ℕ) → At s base ol c → length p ≤ 512 → Once s base ol p c.said (take_out c.carried p c.out)
  hand_once s c p a h =
      let x : Taken = take_out c.carried p c.out in
      let w : WholeHeld s.held (length c.out) = rw a.out a.lent in
      let m : Comes s.held s.waits c.out p 0 x = rw a.carried (take-comes s.held s.waits p c.out w h) in
      let few : length m.stand.said ≤ length c.out = omega (arith, m.few, w.out) in
      record {
        front = m.front;
        rest = m.rest;
        both = m.both;
        number = m.number;
        taken = omega (arith, m.taken);
        goes = record {
          carried = rw m.stands-there m.next;
          said = rw m.stands-there (goes-said c.said c.out m.stand.said x m.text few ∙ rw a.said (append_assoc base s.said m.stand.said));
          out = goes-out c.said c.out m.stand.said x m.text ∙ a.out;
          lent = rw (m.stands-there, ← a.out) m.lent;
        };
      }

  -- k calls are enough for a piece of fewer bytes
  Hands : ℕ → Type 0
  Hands k = (s : Stands) (c : Caller) (p : List ℕ) → At s base ol c → length p ≤ 512 → length p < k → At (gone_on s p) base ol (handed k c p)

  module _ (k : ℕ) (s : Stands) (c : Caller) (p : List ℕ) (h : length p ≤ 512) (x : Taken) (t : Once s base ol p c.said x) where
    rest-is : drop x.taken p ≡ t.rest
    rest-is = rw t.both (drop_at t.front t.rest x.taken (sym t.taken))

    -- all is taken
    hand-last : length p ≤ x.taken → At (gone_on s p) base ol (goes_on c.said x)
    hand-last g =
        let e : t.rest ≡ [] = sym rest-is ∙ drop_of_length-le p g in
        let f : p ≡ t.front = t.both ∙ rw (e, append-nil t.front) in
        rw f t.goes

    -- what is left is handed over
    hand_on : Hands k → 0 < x.taken → length p < suc k → At (gone_on s p) base ol (handed k (goes_on c.said x) (drop x.taken p))
    unfolding Hands
    hand_on more some g =
        let len : length p ≡ length t.front + length t.rest = ap (λ (l : List ℕ). length l) t.both ∙ length-append t.front t.rest in
        let i = more (gone_on s t.front) (goes_on c.said x) t.rest t.goes (omega arith) (omega (arith, len, t.taken)) in
        let e : gone_on (gone_on s t.front) t.rest ≡ gone_on s p = gone-cut s t.front t.rest ∙ ap (gone_on s) (sym t.both) in
        rw (← e, rest-is) i

  hands_none : Hands zero
  unfolding Hands
  hands_none s c p a h g = absurd (omega arith)

  hands_more : (k : ℕ) → Hands k → Hands (suc k)
  unfolding Hands
  hands_more k more s c p a h g = go (ltb x.taken (length p)) refl
    where
      x : Taken
      x = take_out c.carried p c.out

      t : Once s base ol p c.said x
      t = hand_once s c p a h

      go : (b : Bool) → ltb x.taken (length p) ≡ b → At (gone_on s p) base ol (handed (suc k) c p)
      go true e =
          let l = ltb-true x.taken (length p) e in
          rw (t.number, e) (hand_on k s c p h x t more (take-some c.carried p c.out t.number (omega arith)) g)
      go false e = rw (t.number, e) (hand-last k s c p h x t (ltb-false x.taken (length p) e))

  hands-all : (k : ℕ) → Hands k
  hands-all zero = hands_none
  hands-all (suc k) = hands_more k (hands-all k)

  pub hands : (k : ℕ) (s : Stands) (c : Caller) (p : List ℕ) → At s base ol c → length p ≤ 512 → length p < k → At (gone_on s p) base ol (handed k c p)
  unfolding Hands
  hands = hands-all
