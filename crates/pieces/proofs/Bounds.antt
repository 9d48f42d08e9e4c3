-- What a call of the reader says it wrote stands in the buffer that was lent, and is at most one answer, 32,768 bytes. Assumes nothing.
use Rattle.std.specs.Prelude.{◌≡◌, refl, Bool, true, false, List, [], ◌∷◌, ◌++◌, ℕ, ◌≤◌, eqb, ℤ, length, take}
use Rattle.std.proofs.Common.{arith}
use Rattle.lists.specs.Lists.{cases}
use Rattle.text.specs.Lines.{ff_line}
use Rattle.text.specs.Writing.{Wrote, wrote, writes, writes_at, writes-length}
use Rattle.protocol.specs.Frames.{Held, held, session, line_step}
use Rattle.protocol.specs.Program.{opening, closing}
use Rattle.fitting.specs.Lent.{Lent, whole, whole_is, line_lent}
use Rattle.fitting.specs.Stays.{line-fine}
use Rattle.pieces.specs.Reader.{Reader, reader, unfinished, Taken, unchanged, fitting, line_read, byte_read, one_more, further, untimely, take_out, begin_out, end_out}
use Rattle.pieces.specs.Fits.{fits-is}

roomy : (r : Reader) (out : List ℕ) → fitting r out ≡ true → 32768 ≤ length out
roomy r out e =
    (fits-is (length r.line.buffer) (length r.held.nodes) (length r.held.rows) (length r.held.scratch) (length out) r.line.used r.held.session e).lent.out

-- ---- what is written

record In (w : Wrote) : Type 0 where
  low : w.at ≤ length w.out
  few : w.at ≤ 32768

pick-in : {A : Type 0} (f : A → Wrote) (b : Bool) {x y : A} → (b ≡ true → In (f x)) → In (f y) → In (f (cases b x y))
pick-in f true p q = p refl
pick-in f false p q = q

in-text : (out text : List ℕ) → length text ≤ length out → length text ≤ 32768 → In (writes (wrote 0 out) text)
in-text out text h f = record {
  low = omega (arith, writes_at (wrote 0 out) text, writes-length (wrote 0 out) text);
  few = omega (arith, writes_at (wrote 0 out) text);
}

in-none : (out : List ℕ) → In (wrote 0 out)
in-none out = record { low = omega arith; few = omega arith }

in-line : (h : Held) (line out : List ℕ) → In (line_lent h line out).text
unfolding line_lent
in-line h line out =
    let wh = whole (length h.nodes) (length h.rows) (length h.scratch) (length out) h.session in
    pick-in (λ (x : Lent). x.text) wh
    (λ e.
    let w = whole_is (length h.nodes) (length h.rows) (length h.scratch) (length out) h.session e in
    let f = (line-fine h (length out) line w).few in
    in-text out (line_step h line).text (omega (arith, w.out)) f)
    (in-text out [] (omega arith) (omega arith))

abbrev text_out : Taken → Wrote
text_out x = x.text

in-byte : (r : Reader) (b : ℕ) (out : List ℕ) → In (byte_read r b out).text
unfolding byte_read line_read
in-byte r b out = pick-in text_out (eqb b 0x0a) (λ q. in-line r.held (take r.line.used r.line.buffer) out) (in-none out)

in-further : (x : Taken) (bs : List ℕ) → In x.text → In (further x bs).text
unfolding further
in-further x [] i = i
in-further x (b ∷ bs) i = pick-in text_out (eqb x.text.at 0) (λ q. in-further (one_more x b) bs (in-byte x.next b x.text.out)) i

in_take : (r : Reader) (piece out : List ℕ) → In (take_out r piece out).text
unfolding take_out
in_take r piece out =
    pick-in text_out (fitting r out)
    (λ e. pick-in text_out (untimely r.ended (length piece)) (λ q. in-none out) (in-further (unchanged 0 r out) piece (in-none out)))
    (in-none out)

in-begin : (line : List ℕ) (ns : List ℤ) (rs sc out : List ℕ) → In (begin_out line ns rs sc out).text
unfolding begin_out
in-begin line ns rs sc out =
    let r : Reader = reader (unfinished 0 line) false (held ns rs sc (session 0 0 0 false)) in
    pick-in text_out (fitting r out) (λ e. in-text out opening (omega (arith, roomy r out e)) (omega arith)) (in-none out)

last-short : (b : Bool) → length (cases b [] ff_line ++ closing) ≤ 32
last-short true = omega arith
last-short false = omega arith

in_end : (r : Reader) (out : List ℕ) → In (end_out r out).text
unfolding end_out
in_end r out =
    let last = cases (eqb r.line.used 0) [] ff_line ++ closing in
    pick-in text_out (fitting r out)
    (λ e.
    pick-in text_out r.ended (λ q. in-none out)
    (in-text out last (omega (arith, last-short (eqb r.line.used 0), roomy r out e)) (omega (arith, last-short (eqb r.line.used 0)))))
    (in-none out)

-- a call writes one answer at most, into the buffer that was lent
module _ (r : Reader) (piece out : List ℕ) where
  pub take-written : (take_out r piece out).text.at ≤ 32768
  take-written = (in_take r piece out).few

  pub take_within : (take_out r piece out).text.at ≤ length (take_out r piece out).text.out
  take_within = (in_take r piece out).low

module _ (line : List ℕ) (ns : List ℤ) (rs sc out : List ℕ) where
  pub begin-written : (begin_out line ns rs sc out).text.at ≤ 32768
  begin-written = (in-begin line ns rs sc out).few

  pub begin-within : (begin_out line ns rs sc out).text.at ≤ length (begin_out line ns rs sc out).text.out
  begin-within = (in-begin line ns rs sc out).low

module _ (r : Reader) (out : List ℕ) where
  pub end-written : (end_out r out).text.at ≤ 32768
  end-written = (in_end r out).few

  pub end-within : (end_out r out).text.at ≤ length (end_out r out).text.out
  end-within = (in_end r out).low
