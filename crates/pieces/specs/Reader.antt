-- Request W4, "lines that arrive in pieces": what each call of the reader answers, and what stands after it. Assumes nothing.
use Rattle.std.specs.Prelude.{Bool, true, false, ◌&&◌, ◌||◌, List, [], ◌∷◌, ◌++◌, ℕ, ◌+◌, eqb, leb, ltb, ℤ, length, set, take, drop, replicate}
use Rattle.lists.specs.Lists.{cases}
use Rattle.text.specs.Lines.{ff_line}
use Rattle.text.specs.Writing.{Wrote, wrote, writes}
use Rattle.protocol.specs.declared.Session.{Session}
use Rattle.protocol.specs.Frames.{Held, held, session}
use Rattle.protocol.specs.Program.{start, opening, closing}
use Rattle.fitting.specs.Lent.{Lent, whole, line_lent}

-- ---- what is carried from piece to piece, and what a call answers

-- "holding at most the unfinished line": how many bytes of it there are, and the buffer in which they stand
pub record Unfinished : Type 0 where
  pub used : ℕ
  pub buffer : List ℕ

abbrev pub unfinished : ℕ → List ℕ → Unfinished
unfinished k buffer = record { used = k; buffer = buffer }

-- "carries its state from one to the next": the unfinished line, whether the end was announced, the tables and the session
pub record Reader : Type 0 where
  pub line : Unfinished
  pub ended : Bool
  pub held : Held

abbrev pub reader : Unfinished → Bool → Held → Reader
reader u ended h = record { line = u; ended = ended; held = h }

-- the number, how many bytes of the piece were taken, the buffer with what was written from its start on, and what is carried on
pub record Taken : Type 0 where
  pub number : ℕ
  pub taken : ℕ
  pub text : Wrote
  pub next : Reader

abbrev pub tells : ℕ → ℕ → Wrote → Reader → Taken
tells number k w r = record { number = number; taken = k; text = w; next = r }

-- "is refused .. and changes nothing"; with 0, a call that has nothing to do
abbrev pub unchanged : ℕ → Reader → List ℕ → Taken
unchanged number r out = tells number 0 (wrote 0 out) r

-- a buffer for 255 bytes and no more used, and tables, counts and a buffer for answers as `line` of frames asks for them; else 1
unfoldable pub fits : ℕ → ℕ → ℕ → ℕ → ℕ → ℕ → Session → Bool
fits ll nl rl sl ol used s = eqb ll 255 && leb used 255 && whole nl rl sl ol s

abbrev pub fitting : Reader → List ℕ → Bool
fitting r out = fits (length r.line.buffer) (length r.held.nodes) (length r.held.rows) (length r.held.scratch) (length out) r.line.used r.held.session

-- ---- a byte

-- one more byte of the line. Of a line it has the first 255, enough to know that "a line over 254 digits is one malformed frame"
unfoldable pub longer : Unfinished → ℕ → Unfinished
longer u b = cases (ltb u.used 255) (unfinished (u.used + 1) (set u.buffer u.used b)) u

-- nothing of a line is kept once it is answered
unfoldable pub wiped : Unfinished → Unfinished
wiped u = unfinished 0 (replicate u.used 0 ++ drop u.used u.buffer)

-- the line is answered, and the next begins
unfoldable pub line_read : Reader → List ℕ → Taken
line_read r out =
    let x : Lent = line_lent r.held (take r.line.used r.line.buffer) out in
    tells 0 1 x.text (reader (wiped r.line) r.ended x.next)

unfoldable pub byte_read : Reader → ℕ → List ℕ → Taken
byte_read r b out = cases (eqb b 0x0a) (line_read r out) (tells 0 1 (wrote 0 out) (reader (longer r.line b) r.ended r.held))

-- ---- a piece

abbrev pub one_more : Taken → ℕ → Taken
one_more x b = let y : Taken = byte_read x.next b x.text.out in tells 0 (x.taken + 1) y.text y.next

-- bytes are taken while nothing is written: a call ends with the first line that has an answer
unfoldable pub further : Taken → List ℕ → Taken
further x [] = x
further x (b ∷ bs) = cases (eqb x.text.at 0) (further (one_more x b) bs) x

-- "A piece over 512 bytes, or any after the end"
unfoldable pub untimely : Bool → ℕ → Bool
untimely ended length = ended || ltb 512 length

-- "takes pieces of 0 to 512 bytes"; any other "is refused as 17 and changes nothing"
abbrev pub piece_read : Reader → List ℕ → List ℕ → Taken
piece_read r piece out =
    cases (untimely r.ended (length piece))
    (unchanged 17 r out)
    (further (unchanged 0 r out) piece)

unfoldable pub take_out : Reader → List ℕ → List ℕ → Taken
take_out r piece out = cases (fitting r out) (piece_read r piece out) (unchanged 1 r out)

-- ---- the start and the end

-- the opening line, on tables that are all zero after, whatever they held
unfoldable pub begin_out : List ℕ → List ℤ → List ℕ → List ℕ → List ℕ → Taken
begin_out line ns rs sc out =
    let r : Reader = reader (unfinished 0 line) false (held ns rs sc (session 0 0 0 false)) in
    cases (fitting r out)
    (tells 0 0 (writes (wrote 0 out) opening) (reader (unfinished 0 (replicate 255 0)) false start))
    (unchanged 1 r out)

-- "a last line without its end byte is malformed only once the end is announced": `ff` for it, then the closing line. Announced once more,
-- nothing changes
unfoldable pub end_out : Reader → List ℕ → Taken
end_out r out =
    cases (fitting r out)
    (cases r.ended
    (unchanged 0 r out)
    (tells 0 0 (writes (wrote 0 out) (cases (eqb r.line.used 0) [] ff_line ++ closing)) (reader (wiped r.line) true r.held)))
    (unchanged 1 r out)
