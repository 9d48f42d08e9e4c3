-- Laws of single steps, which the check finds alone today. Assumes nothing.
use Rattle.std.specs.Prelude.{◌≡◌, Bool, true, not, ◌&&◌, ℕ, ◌+◌, ◌-◌, ◌^◌, ◌≤◌, ◌<◌, eqb, leb, ltb, ℤ, pos, get_or, drop, replicate}
use Rattle.std.proofs.Math.Path.{refl}
use Rattle.std.proofs.Common.{sym, ap, ◌∙◌, arith, add-one, drop_of_length-le, drop-cons}
use Rattle.std.proofs.Math.Bool.{false}
use mathlib.Core.List.{List, ◌++◌, append-nil}
use borrow.Author.Tests.{ltb-true, ltb-false, not-false}
use Rattle.std.proofs.Math.ListN.{length}
use Rattle.lists.specs.ListsLaw.{clash, and_left, and_right}
use Rattle.lists.specs.Search.{items, items_from}
use Rattle.meaning.specs.Tables.{node_at, row_at, flat_nodes, flat_rows, filled}
use Rattle.text.specs.Writing.{wrote, writes}
use Rattle.protocol.specs.declared.Session.{Session}
use Rattle.protocol.specs.Frames.{held, session}
use Rattle.protocol.specs.Program.{opening}
use Rattle.fitting.specs.Lent.{whole}
use Rattle.reader.specs.declared.Heard.{Heard}
use Rattle.pieces.specs.Reader.{unfinished, wiped, reader, Taken, tells, fits, byte_read, further, begin_out}
use Rattle.reader.specs.Values.{carries, heard, fresh}
use Rattle.pieces.specs.Fits.{Fits, fits-is}
use Rattle.pieces.proofs.Parts.{further-stops}
use Rattle.reader.specs.Within.{begun-few}

-- ---- the line buffer

pub wiped-is : (used : ℕ) (buffer line : List ℕ) → line ≡ replicate used 0 ++ drop used buffer → unfinished 0 line ≡ wiped (unfinished used buffer)
unfolding wiped
wiped-is used buffer line e = ap (unfinished 0) e

-- ---- the bytes of a piece

-- "while there is a byte and nothing is written"
pub still-below : (i n k : ℕ) → ltb i n && eqb k 0 ≡ true → i < n
still-below i n k h = ltb-true i n (and_left (ltb i n) (eqb k 0) h)

pub still-counts : (i n k : ℕ) → ltb i n && eqb k 0 ≡ true → n ≤ 512 → i + 1 < 2 ^ 64
still-counts i n k h f = omega (arith, still-below i n k h)

pub still-less : (i n k : ℕ) → ltb i n && eqb k 0 ≡ true → n - (i + 1) < n - i
still-less i n k h = omega (arith, still-below i n k h)

-- total is what the whole loop leaves
module _ (piece : List ℕ) (i : ℕ) (h : Heard) (line : List ℕ) (ns : List ℤ) (rs sc out : List ℕ) (total : Taken)
    (inv : further (tells 0 i (wrote h.written out) (carries h.carried line ns rs sc)) (drop i piece) ≡ total) where
  pub bytes-turn : (h' : Heard) (line' : List ℕ) (ns' : List ℤ) (rs' sc' out' : List ℕ) → ltb i (length piece) && eqb h.written 0 ≡ true →
      heard h' line' ns' rs' sc' out' ≡ byte_read (carries h.carried line ns rs sc) (get_or piece i 0) out →
      further (tells 0 (i + 1) (wrote h'.written out') (carries h'.carried line' ns' rs' sc')) (drop (i + 1) piece) ≡ total
  unfolding further
  bytes-turn h' line' ns' rs' sc' out' g e =
      (λ j. further (tells 0 (i + 1) (e j).text (e j).next) (drop (add-one i j) piece)) ∙
      (rw (drop-cons piece i 0 (still-below i (length piece) h.written g), and_right (ltb i (length piece)) (eqb h.written 0) g) at inv)

  pub bytes-end : ltb i (length piece) && eqb h.written 0 ≡ false → tells 0 i (wrote h.written out) (carries h.carried line ns rs sc) ≡ total
  unfolding further
  bytes-end g = go (eqb h.written 0) refl
    where
      x : Taken
      x = tells 0 i (wrote h.written out) (carries h.carried line ns rs sc)

      short : (b : Bool) → ltb i (length piece) ≡ b → b && true ≡ false → x ≡ total
      short true e z = clash z
      short false e z = rw (drop_of_length-le piece (ltb-false i (length piece) e)) at inv

      go : (b : Bool) → eqb h.written 0 ≡ b → x ≡ total
      go true e = short (ltb i (length piece)) refl (rw e at g)
      go false e = sym (further-stops x (drop i piece) e) ∙ inv

-- ---- what is lent

pub fits-are : (ll nl rl sl ol used : ℕ) (s : Session) (k : Bool) → k ≡ whole nl rl sl ol s → eqb ll 255 && leb used 255 && k ≡ fits ll nl rl sl ol used s
unfolding fits
fits-are ll nl rl sl ol used s k e = rw e

-- ---- the calls

-- y is what the code found
module _ (line : List ℕ) (ns : List ℤ) (rs sc out : List ℕ) (y : Bool) (q : y ≡ fits (length line) (length ns) (length rs) (length sc) (length out) 0 (session 0 0 0 false)) where
  module _ (k : ℕ) (o line₁ : List ℕ) (ns₁ : List ℤ) (rs₁ sc₁ : List ℕ) (n : not y ≡ false) (l : unfinished 0 line₁ ≡ wiped (unfinished 255 line))
      (a : ns₁ ≡ filled (pos 0) (length ns) (flat_nodes (items (node_at ns) 0 0))) (b : rs₁ ≡ filled 0 (length rs) (flat_rows (items (row_at rs) 0 0))) (c : sc₁ ≡ replicate (length sc) 0)
      (t : wrote k o ≡ writes (wrote 0 out) opening) where
    pub begin-begins : tells 0 0 (wrote k o) (reader (unfinished 0 line₁) false (held ns₁ rs₁ sc₁ (session 0 0 0 false))) ≡ begin_out line ns rs sc out
    unfolding begin_out wiped items items_from
    begin-begins =
        let f : Fits (length line) (length ns) (length rs) (length sc) (length out) 0 (session 0 0 0 false) =
        fits-is (length line) (length ns) (length rs) (length sc) (length out) 0 (session 0 0 0 false) (sym q ∙ not-false y n) in
        let g : length line ≤ 255 = omega (arith, f.line) in
        let l' : unfinished 0 line₁ ≡ unfinished 0 (replicate 255 0) = l ∙ rw (drop_of_length-le line g, append-nil {A = ℕ} (replicate 255 0)) in
        rw (← q, not-false y n, l', a, b, c, t, f.lent.nodes, f.lent.rows, f.lent.scratch)

    pub begin-few : k ≤ 32768
    begin-few = begun-few (record { number = 0; taken = 0; written = k; carried = fresh }) line₁ rs₁ sc₁ o ns₁ line ns rs sc out begin-begins
