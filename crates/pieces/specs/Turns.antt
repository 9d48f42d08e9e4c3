-- What a caller of the reader does, turn by turn; what it has then; and what document 01 and request W4 say that it has. Assumes nothing.
use Rattle.std.specs.Prelude.{Bool, true, false, ◌&&◌, List, [], ◌∷◌, ◌++◌, ℕ, zero, suc, ◌+◌, min, eqb, leb, ltb, ℤ, length, take, drop, replicate}
use Rattle.lists.specs.Lists.{cases}
use Rattle.meaning.specs.Tables.{filled}
use Rattle.protocol.specs.Frames.{Held}
use Rattle.protocol.specs.Program.{lines_of, start, opening, program, Stands, stands_after}
use Rattle.pieces.specs.Reader.{Unfinished, unfinished, Reader, reader, Taken, take_out, begin_out, end_out}

-- a piece of any length is handed over, or the end is announced
pub data Turn : Type 0 where
  piece : List ℕ → Turn
  announce : Turn

-- ---- the caller

-- what it carries, the buffer that it lends, and all the bytes that were written to it
pub record Caller : Type 0 where
  pub carried : Reader
  pub out : List ℕ
  pub said : List ℕ

-- after a call: the bytes that it wrote stand at the buffer's start
abbrev pub goes_on : List ℕ → Taken → Caller
goes_on said x = record { carried = x.next; out = x.text.out; said = said ++ take x.text.at x.text.out }

-- A piece is handed over, and then what is left of it, until all is taken or it is refused; k calls at most.
abbrev pub handed : ℕ → Caller → List ℕ → Caller
handed zero c p = c
handed (suc k) c p =
    let x : Taken = take_out c.carried p c.out in
    let c' : Caller = goes_on c.said x in
    cases (eqb x.number 0 && ltb x.taken (length p)) (handed k c' (drop x.taken p)) c'

-- a call takes a byte at least, and the piece may be empty
abbrev pub turned : Caller → Turn → Caller
turned c (piece p) = handed (length p + 1) c p
turned c announce = goes_on c.said (end_out c.carried c.out)

abbrev pub turns : Caller → List Turn → Caller
turns c [] = c
turns c (t ∷ ts) = turns (turned c t) ts

-- ---- what the turns say

-- the text: the pieces of at most 512 bytes that came before the end was announced
abbrev pub text_of : List Turn → List ℕ
text_of [] = []
text_of (announce ∷ ts) = []
text_of (piece p ∷ ts) = cases (leb (length p) 512) p [] ++ text_of ts

abbrev pub announced : List Turn → Bool
announced [] = false
announced (announce ∷ ts) = true
announced (piece p ∷ ts) = announced ts

-- ---- what is had of it

pub record Had : Type 0 where
  pub carried : Reader
  pub said : List ℕ

abbrev pub had : Reader → List ℕ → Had
had r said = record { carried = r; said = said }

-- all that is carried and all that was written, after the turns that follow a begin
unfoldable pub had_of : List ℕ → List ℤ → List ℕ → List ℕ → List ℕ → List Turn → Had
had_of line nodes rows scratch out ts =
    let c : Caller = turns (goes_on [] (begin_out line nodes rows scratch out)) ts in
    had c.carried c.said

-- "holding at most the unfinished line": its first 255 bytes, then zeros
abbrev pub kept : List ℕ → Unfinished
kept l = unfinished (min 255 (length l)) (filled 0 255 (take 255 l))

abbrev pub waiting : Held → List ℕ → Reader
waiting h l = reader (kept l) false h

abbrev pub over : Held → Reader
over h = reader (unfinished 0 (replicate 255 0)) true h

-- "The frames, the `ff` answers and the state at the end must be those of the whole text": before the end is announced, and after
unfoldable pub of_text : List ℕ → Bool → Had
of_text text e =
    let s : Stands = stands_after start (lines_of text) in
    cases e
    (had (over s.held) (program text))
    (had (waiting s.held s.waits) (opening ++ s.said))
