-- Document 01, 'The line program': all that is written for a whole input; and request W4: what stands after a text that may go on.
-- Assumes nothing.
use Rattle.std.specs.Prelude.{Bool, true, false, List, [], ◌∷◌, ◌++◌, ℕ, eqb, pos, replicate}
use Rattle.text.specs.Digits.{bytes}
use Rattle.protocol.specs.Frames.{Held, held, session, Step, ff, line_step}

-- "one frame a line, .. ended by byte 0x0A": a line without that byte; or the last one, if it has none
pub data Line : Type 0 where
  whole : List ℕ → Line
  endless : List ℕ → Line

abbrev pub before : ℕ → List Line → List Line
before b [] = endless (b ∷ []) ∷ []
before b (whole l ∷ ls) = whole (b ∷ l) ∷ ls
before b (endless l ∷ ls) = endless (b ∷ l) ∷ ls

abbrev pub add_byte : Bool → ℕ → List Line → List Line
add_byte true b ls = whole [] ∷ ls
add_byte false b ls = before b ls

abbrev pub lines_of : List ℕ → List Line
lines_of [] = []
lines_of (b ∷ bs) = add_byte (eqb b 0x0a) b (lines_of bs)

-- "Anything malformed (a line .. without its end byte included) .. answers `ff`"
abbrev pub step_of : Held → Line → Step
step_of h (whole l) = line_step h l
step_of h (endless l) = ff h

-- "The program holds each table whole, 1,024 rows of triangles included.", and 512 nodes; W5: "a node row has four numbers"
abbrev pub start : Held
start = held (replicate 2048 (pos 0)) (replicate 3072 0) (replicate 6144 0) (session 0 0 0 false)

abbrev pub answers : Held → List Line → List ℕ
answers h [] = []
answers h (l ∷ ls) = (step_of h l).text ++ answers (step_of h l).next ls

-- "Output opens with the line `mesh lines 1` and closes with `end`, every line ended by 0x0A."
abbrev pub opening : List ℕ
opening = bytes "mesh lines 1\n"

abbrev pub closing : List ℕ
closing = bytes "end\n"

unfoldable pub program : List ℕ → List ℕ
program input = opening ++ answers start (lines_of input) ++ closing

-- W4: "The frames, the `ff` answers and the state at the end must be those of the whole text": what is held after it, all that was said to
-- its lines, and the bytes after the last end byte, which wait. "a last line without its end byte is malformed only once the end is
-- announced"
pub record Stands : Type 0 where
  pub held : Held
  pub said : List ℕ
  pub waits : List ℕ

abbrev pub stands : Held → List ℕ → List ℕ → Stands
stands h said l = record { held = h; said = said; waits = l }

abbrev pub said_before : List ℕ → Stands → Stands
said_before text s = stands s.held (text ++ s.said) s.waits

abbrev pub stands_after : Held → List Line → Stands
stands_after h [] = stands h [] []
stands_after h (whole l ∷ ls) = said_before (line_step h l).text (stands_after (line_step h l).next ls)
stands_after h (endless l ∷ ls) = stands h [] l
