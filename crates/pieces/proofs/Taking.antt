-- What a call makes of a reader that waits: of a byte, of a piece, of the end. Assumes nothing.
use Rattle.std.specs.Prelude.{◌≡◌, true, false, ◌≢◌, ℕ, ◌+◌, ◌≤◌, ◌<◌, min, eqb, length, take}
use Rattle.std.proofs.Math.Path.{refl}
use Rattle.std.proofs.Common.{ap, ◌∙◌, arith}
use mathlib.Core.List.{List, [], ◌∷◌, ◌++◌, append-nil}
use borrow.Author.Tests.{eq-eqb, ne_eqb, le-leb, le-ltb}
use Rattle.lists.specs.Lists.{cases}
use Rattle.lists.specs.ListsLaw.{and_both}
use Rattle.text.specs.Lines.{ff_line}
use Rattle.text.specs.Writing.{wrote, writes, writes_at}
use Rattle.protocol.specs.Frames.{Held, line_step}
use Rattle.protocol.specs.Program.{closing, Stands, stands}
use Rattle.fitting.specs.Lent.{writing, WholeHeld, is_whole, line_lent}
use Rattle.fitting.specs.Stays.{line-fine}
use Rattle.pieces.specs.Reader.{Taken, tells, unchanged, fits, fitting, line_read, byte_read, further, untimely, take_out, end_out}
use Rattle.pieces.proofs.Parts.{further-stops}
use Rattle.pieces.specs.Refused.{take_long, take_ended, end-ended}
use Rattle.pieces.specs.Turns.{kept, waiting, over}
use Rattle.pieces.specs.WholeText.{stands_from, stands-none, stands-end, stands-more, Byte, ending, other, byte, torn}
use Rattle.pieces.specs.LineBuffer.{line-cut, kept-length, kept_line, kept-longer, kept-wiped}

-- ---- what is lent fits

waiting-fits : (h : Held) (l out : List ℕ) → WholeHeld h (length out) → fitting (waiting h l) out ≡ true
unfolding fits
waiting-fits h l out w =
    and_both (and_both (eq-eqb (length (kept l).buffer) 255 (kept-length l)) (le-leb (min 255 (length l)) 255 (omega arith)))
    (is_whole (length h.nodes) (length h.rows) (length h.scratch) (length out) h.session w)

over-fits : (h : Held) (out : List ℕ) → WholeHeld h (length out) → fitting (over h) out ≡ true
unfolding fits
over-fits h out w = and_both refl (is_whole (length h.nodes) (length h.rows) (length h.scratch) (length out) h.session w)

-- ---- a byte

module _ (h : Held) (l out : List ℕ) (w : WholeHeld h (length out)) where
  line-lent : (m : List ℕ) → line_lent h m out ≡ writing out (line_step h m)
  unfolding line_lent
  line-lent m = rw (is_whole (length h.nodes) (length h.rows) (length h.scratch) (length out) h.session w)

  byte-end : byte_read (waiting h l) 10 out ≡ tells 0 1 (writes (wrote 0 out) (line_step h l).text) (waiting (line_step h l).next [])
  unfolding byte_read line_read
  byte-end = rw (kept_line l, line-lent (take 255 l), line-cut h l, kept-wiped l)

  byte_more : (b : ℕ) → eqb b 10 ≡ false → byte_read (waiting h l) b out ≡ tells 0 1 (wrote 0 out) (waiting h (l ++ (b ∷ [])))
  unfolding byte_read
  byte_more b e = rw (e, kept-longer l b)

-- ---- the bytes of a piece

-- What a call makes of a piece: where the bytes `front` that it took leave a text, there the reader waits, and what is said to them stands at the
-- buffer's start.
pub record Comes (h : Held) (l out piece : List ℕ) (k : ℕ) (x : Taken) : Type 0 where
  pub front : List ℕ
  pub rest : List ℕ
  pub both : piece ≡ front ++ rest
  pub stand : Stands
  pub stands-there : stands_from h l front ≡ stand
  pub number : x.number ≡ 0
  pub taken : x.taken ≡ k + length front
  pub next : x.next ≡ waiting stand.held stand.waits
  pub text : x.text ≡ writes (wrote 0 out) stand.said
  pub lent : WholeHeld stand.held (length out)
  pub few : length stand.said ≤ 32768

-- of bytes that are to be taken, whatever came before
Come : List ℕ → Type 0
Come bs = (h : Held) (l out : List ℕ) (k : ℕ) → WholeHeld h (length out) → Comes h l out bs k (further (tells 0 k (wrote 0 out) (waiting h l)) bs)

come-none : Come []
unfolding Come further writes
come-none h l out k w = record {
  front = [];
  rest = [];
  both = refl;
  stand = stands h [] l;
  stands-there = stands-none h l;
  number = refl;
  taken = omega arith;
  next = refl;
  text = refl;
  lent = w;
  few = omega arith;
}

-- a byte to which nothing is said, then what comes
come-first : (b : ℕ) (bs : List ℕ) (h h' : Held) (l l' out : List ℕ) (k : ℕ) (x : Taken) → ((f : List ℕ) → stands_from h l (b ∷ f) ≡ stands_from h' l' f) → Comes h' l' out bs (k + 1) x → Comes h l out (b ∷ bs) k x
come-first b bs h h' l l' out k x e c = record {
  front = b ∷ c.front;
  rest = c.rest;
  both = ap (λ (x : List ℕ). b ∷ x) c.both;
  stand = c.stand;
  stands-there = e c.front ∙ c.stands-there;
  number = c.number;
  taken = omega (arith, c.taken);
  next = c.next;
  text = c.text;
  lent = c.lent;
  few = c.few;
}

come-other : (b : ℕ) (bs : List ℕ) → eqb b 10 ≡ false → Come bs → Come (b ∷ bs)
unfolding Come further
come-other b bs e more h l out k w =
    let l' : List ℕ = l ++ (b ∷ []) in
    rw (byte_more h l out w b e) (come-first b bs h h l l' out k _ (λ f. stands-more h l b f e) (more h l' out (k + 1) w))

-- the end byte of a line
module _ (bs : List ℕ) (h : Held) (l out : List ℕ) (k : ℕ) (w : WholeHeld h (length out)) where
  abbrev line_after : List ℕ → Taken
  line_after text = further (tells 0 (k + 1) (writes (wrote 0 out) text) (waiting (line_step h l).next [])) bs

  -- it has no answer, and the bytes after it are taken
  come-quiet : (line_step h l).text ≡ [] → Come bs → Comes h l out (10 ∷ bs) k (line_after [])
  unfolding Come writes
  come-quiet e more =
      let n : Held = (line_step h l).next in
      come-first 10 bs h n l [] out k _ (λ f. stands-end h l f ∙ rw e) (more n [] out (k + 1) (line-fine h (length out) l w).next)

  -- it has an answer, and they are left
  come-answered : (a : ℕ) (t : List ℕ) → (line_step h l).text ≡ a ∷ t → Comes h l out (10 ∷ bs) k (line_after (a ∷ t))
  come-answered a t e =
      let n : Held = (line_step h l).next in
      let f = line-fine h (length out) l w in
      let written : (writes (wrote 0 out) (a ∷ t)).at ≢ 0 = λ z. omega (arith, writes_at (wrote 0 out) (a ∷ t)) in
      rw (further-stops (tells 0 (k + 1) (writes (wrote 0 out) (a ∷ t)) (waiting n [])) bs (ne_eqb (writes (wrote 0 out) (a ∷ t)).at 0 written))
      (record {
        front = 10 ∷ [];
        rest = bs;
        both = refl;
        stand = stands n (a ∷ t) [];
        stands-there = stands-end h l [] ∙ rw (e, append-nil t);
        number = refl;
        taken = omega arith;
        next = refl;
        text = refl;
        lent = f.next;
        few = (rw e at f).few;
      })

come-ending : (bs : List ℕ) → Come bs → Come (10 ∷ bs)
unfolding Come further
come-ending bs more h l out k w = rw (byte-end h l out w) (go (line_step h l).text refl)
  where
    go : (t : List ℕ) → (line_step h l).text ≡ t → Comes h l out (10 ∷ bs) k (line_after bs h l out k w t)
    go [] e = come-quiet bs h l out k w e more
    go (a ∷ t) e = come-answered bs h l out k w a t e

come-more : (b : ℕ) (bs : List ℕ) → Byte b → Come bs → Come (b ∷ bs)
come-more b bs ending more = come-ending bs more
come-more b bs (other e) more = come-other b bs e more

come-all : (bs : List ℕ) → Come bs
come-all [] = come-none
come-all (b ∷ bs) = come-more b bs (byte b) (come-all bs)

-- ---- a call

module _ (h : Held) (l piece out : List ℕ) (w : WholeHeld h (length out)) where
  take-is : length piece ≤ 512 → take_out (waiting h l) piece out ≡ further (unchanged 0 (waiting h l) out) piece
  unfolding take_out untimely
  take-is s = rw (waiting-fits h l out w, le-ltb 512 (length piece) s)

  pub take-comes : length piece ≤ 512 → Comes h l out piece 0 (take_out (waiting h l) piece out)
  unfolding Come
  take-comes s = rw (take-is s) (come-all piece h l out 0 w)

  -- "A piece over 512 bytes .. is refused as 17 and changes nothing."
  pub take-over-long : 512 < length piece → take_out (waiting h l) piece out ≡ unchanged 17 (waiting h l) out
  take-over-long = take_long (waiting h l) piece out (waiting-fits h l out w)

module _ (h : Held) (out : List ℕ) (w : WholeHeld h (length out)) where
  -- the end is announced: `ff` for a line without its end byte, then the closing line
  pub end-closes : (l : List ℕ) → end_out (waiting h l) out ≡ tells 0 0 (writes (wrote 0 out) (torn l ++ closing)) (over h)
  unfolding end_out
  end-closes l = rw (waiting-fits h l out w, kept-wiped l) (go l)
    where
      go : (l : List ℕ) → tells 0 0 (writes (wrote 0 out) (cases (eqb (min 255 (length l)) 0) [] ff_line ++ closing)) (over h) ≡ tells 0 0 (writes (wrote 0 out) (torn l ++ closing)) (over h)
      go [] = refl
      go (b ∷ l) = rw (ne_eqb (min 255 (length (b ∷ l))) 0 (λ z. omega arith))

  -- after it any piece is refused, and announced once more nothing changes
  pub take-after-end : (piece : List ℕ) → take_out (over h) piece out ≡ unchanged 17 (over h) out
  take-after-end piece = take_ended (over h) piece out (over-fits h out w) refl

  pub end-again : end_out (over h) out ≡ unchanged 0 (over h) out
  end-again = end-ended (over h) out (over-fits h out w) refl
