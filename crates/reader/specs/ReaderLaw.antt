-- The reader in the form in which the code reads. Assumes nothing.
use Rattle.std.specs.Prelude.{◌≡◌, Bool, true, not, ◌||◌, ℕ, ◌+◌, ◌≤◌, ◌<◌, eqb, ltb, ℤ, pos, get_or, set, take, drop, replicate}
use Rattle.std.proofs.Math.Path.{refl}
use Rattle.std.proofs.Common.{sym, ap, ◌∙◌, arith, add-one, drop_of_length-le, drop-cons, length-take-le}
use Rattle.std.proofs.Math.Bool.{false}
use mathlib.Core.List.{List, [], ◌++◌}
use borrow.Author.Tests.{lt-ltb, le-ltb, eq-eqb, ne_eqb, ltb-true, ltb-false, not-true, not-false}
use Rattle.std.proofs.Math.ListN.{length}
use Rattle.lists.specs.Lists.{cases}
use Rattle.lists.specs.ListsLaw.{clash}
use Rattle.text.specs.Lines.{ff_line}
use Rattle.text.specs.Writing.{Wrote, wrote, writes, then}
use Rattle.protocol.specs.declared.Session.{Session}
use Rattle.protocol.specs.Frames.{held, session}
use Rattle.protocol.specs.Program.{opening, closing}
use Rattle.frames.specs.declared.Answered.{Answered}
use Rattle.frames.specs.Answered.{lent}
use Rattle.fitting.specs.Lent.{line_lent}
use Rattle.reader.specs.declared.Carried.{Carried}
use Rattle.reader.specs.declared.Heard.{Heard}
use Rattle.reader.specs.declared.Took.{Took}
use Rattle.pieces.specs.Reader.{Unfinished, unfinished, longer, wiped, Reader, reader, Taken, tells, unchanged, fits, line_read, byte_read, further, untimely, piece_read, take_out, begin_out, end_out}
use Rattle.reader.specs.Values.{carries, heard, took, nothing}
use Rattle.pieces.specs.Fits.{Fits, fits-is}
use Rattle.pieces.proofs.Parts.{further-stops}
use Rattle.reader.specs.Within.{took-few, took-taken, begun-few, ended-few}
use Rattle.pieces.specs.Refused.{take-unfit, end-unfit, end-ended}

-- ---- the line buffer

pub longer-more : (used b : ℕ) (buffer : List ℕ) → used < 255 → unfinished (used + 1) (set buffer used b) ≡ longer (unfinished used buffer) b
unfolding longer
longer-more used b buffer h = rw (lt-ltb used 255 h)

pub longer-full : (used b : ℕ) (buffer : List ℕ) → 255 ≤ used → unfinished used buffer ≡ longer (unfinished used buffer) b
unfolding longer
longer-full used b buffer h = rw (le-ltb used 255 h)

pub longer-fits : (used b k : ℕ) (buffer line : List ℕ) → used ≤ 255 → unfinished k line ≡ longer (unfinished used buffer) b → k ≤ 255
unfolding longer
longer-fits used b k buffer line h e = go (ltb used 255) refl e
  where
    go : (x : Bool) → ltb used 255 ≡ x → unfinished k line ≡ cases x (unfinished (used + 1) (set buffer used b)) (unfinished used buffer) → k ≤ 255
    go true q e = omega (arith, ltb-true used 255 q, ap (λ (u : Unfinished). u.used) e)
    go false q e = omega (arith, ap (λ (u : Unfinished). u.used) e)

pub wiped-is : (used : ℕ) (buffer ys : List ℕ) → used ≤ length buffer → ys ≡ replicate (length (take used buffer)) 0 →
    unfinished 0 (ys ++ drop used buffer) ≡ wiped (unfinished used buffer)
unfolding wiped
wiped-is used buffer ys h e = let n = length-take-le used buffer h in rw (e, n)

-- the part of the buffer that is the line
pub used-count : (used : ℕ) (buffer : List ℕ) → used ≤ 255 → length buffer ≡ 255 → used ≡ length (take used buffer)
used-count used buffer a b = sym (length-take-le used buffer (omega arith))

-- ---- a byte

abbrev carried : ℕ → Bool → Session → Carried
carried used ended s = record { used = used; ended = ended; session = s }

module _ (c : Carried) (ns : List ℤ) (rs sc out buffer : List ℕ) (b : ℕ) where
  pub byte-end : (d : Answered) (ns₁ : List ℤ) (rs₁ sc₁ o line : List ℕ) → b ≡ 10 → lent d ns₁ rs₁ sc₁ o ≡ line_lent (held ns rs sc c.session) (take c.used buffer) out →
      unfinished 0 line ≡ wiped (unfinished c.used buffer) →
      tells 0 1 (wrote d.written o) (carries (carried 0 c.ended d.session) line ns₁ rs₁ sc₁) ≡ byte_read (carries c buffer ns rs sc) b out
  unfolding byte_read line_read
  byte-end d ns₁ rs₁ sc₁ o line h e w =
      rw (eq-eqb b 10 h) ((λ i. tells 0 1 (e i).text (reader (w i) c.ended (e i).next)))

  pub byte-joins : (k : ℕ) (line : List ℕ) → (b ≡ 10 → ⊥) → unfinished k line ≡ longer (unfinished c.used buffer) b →
      tells 0 1 (wrote 0 out) (carries (carried k c.ended c.session) line ns rs sc) ≡ byte_read (carries c buffer ns rs sc) b out
  unfolding byte_read
  byte-joins k line h e = rw (ne_eqb b 10 h) (ap (λ (u : Unfinished). tells 0 1 (wrote 0 out) (reader u c.ended (held ns rs sc c.session))) e)

-- ---- the bytes of a piece

-- of a loop in which nothing was written yet: total is what the whole loop leaves
module _ (piece : List ℕ) (i : ℕ) (c : Carried) (line : List ℕ) (ns : List ℤ) (rs sc out : List ℕ) (total : Taken)
    (inv : further (tells 0 i (wrote 0 out) (carries c line ns rs sc)) (drop i piece) ≡ total) where
  module _ (h : Heard) (line' : List ℕ) (ns' : List ℤ) (rs' sc' out' : List ℕ) (b : i < length piece)
      (e : heard h line' ns' rs' sc' out' ≡ byte_read (carries c line ns rs sc) (get_or piece i 0) out) where
    after : further (tells 0 (i + 1) (wrote h.written out') (carries h.carried line' ns' rs' sc')) (drop (i + 1) piece) ≡ total
    unfolding further
    after =
        (λ j. further (tells 0 (i + 1) (e j).text (e j).next) (drop (add-one i j) piece)) ∙
        (rw (drop-cons piece i 0 b) at inv)

    pub bytes-turn : h.written ≡ 0 → further (tells 0 (i + 1) (wrote 0 out') (carries h.carried line' ns' rs' sc')) (drop (i + 1) piece) ≡ total
    bytes-turn z = rw z at after

    pub bytes-stop : (h.written ≡ 0 → ⊥) → tells 0 (i + 1) (wrote h.written out') (carries h.carried line' ns' rs' sc') ≡ total
    bytes-stop z =
        let x : Taken = tells 0 (i + 1) (wrote h.written out') (carries h.carried line' ns' rs' sc') in
        sym (further-stops x (drop (i + 1) piece) (ne_eqb h.written 0 z)) ∙ after

  pub bytes-end : i ≡ length piece → tells 0 (length piece) (wrote 0 out) (carries c line ns rs sc) ≡ total
  unfolding further
  bytes-end h = let k : length piece ≤ i = omega arith in rw (← h) (rw (drop_of_length-le piece k) at inv)

-- ---- what is lent

-- y is what the code found
module _ (ll nl rl sl ol used : ℕ) (s : Session) (y : Bool) (q : y ≡ fits ll nl rl sl ol used s) (n : not y ≡ false) where
  all_fit : Fits ll nl rl sl ol used s
  all_fit = fits-is ll nl rl sl ol used s (sym q ∙ not-false y n)

  pub fits_line : ll ≡ 255
  fits_line = all_fit.line

  pub fits-used : used ≤ 255
  fits-used = all_fit.used

  pub fits-long : 255 ≤ ll
  fits-long = omega (arith, all_fit.line)

  pub fits-room : used ≤ ll
  fits-room = omega (arith, all_fit.line, all_fit.used)

  pub fits_out : 32 ≤ ol
  fits_out = omega (arith, all_fit.lent.out)

-- ---- the calls

pub not-long : (ended : Bool) (length : ℕ) (y : Bool) → y ≡ untimely ended length → y ≡ false → length ≤ 512
unfolding untimely
not-long ended length y q e = go ended (sym q ∙ e)
  where
    go : (b : Bool) → b || ltb 512 length ≡ false → length ≤ 512
    go true z = clash z
    go false z = ltb-false 512 length z

-- of a call that changes nothing
module _ (k : Took) (number : ℕ) (c : Carried) (e : k ≡ nothing number c) where
  nothing-took : (line : List ℕ) (ns : List ℤ) (rs sc out : List ℕ) → took k line ns rs sc out ≡ unchanged number (carries c line ns rs sc) out
  nothing-took line ns rs sc out = ap (λ (x : Took). took x line ns rs sc out) e

  pub nothing-taken : (n : ℕ) → k.taken ≤ n
  nothing-taken n = omega (arith, ap (λ (x : Took). x.taken) e)

  pub nothing_written : k.written ≤ 32768
  nothing_written = omega (arith, ap (λ (x : Took). x.written) e)

pub piece-refused : (k : Took) (c : Carried) (line : List ℕ) (ns : List ℤ) (rs sc out piece : List ℕ) (y : Bool) → y ≡ untimely c.ended (length piece) → y ≡ true → k ≡ nothing 17 c →
    took k line ns rs sc out ≡ piece_read (carries c line ns rs sc) piece out
piece-refused k c line ns rs sc out piece y q e n = nothing-took k 17 c n line ns rs sc out ∙ rw (← q, e)

module _ (r : Reader) (piece out : List ℕ) (y : Bool) (q : y ≡ untimely r.ended (length piece)) where
  pub piece-taken : (x : Taken) → y ≡ false → x ≡ further (unchanged 0 r out) piece → x ≡ piece_read r piece out
  piece-taken x e t = rw (← q, e) t

module _ (c : Carried) (line : List ℕ) (ns : List ℤ) (rs sc out : List ℕ) (y : Bool) (q : y ≡ fits (length line) (length ns) (length rs) (length sc) (length out) c.used c.session) where
  module _ (piece : List ℕ) where
    pub take-misfit : (k : Took) → not y ≡ true → k ≡ nothing 1 c → took k line ns rs sc out ≡ take_out (carries c line ns rs sc) piece out
    take-misfit k n e = nothing-took k 1 c e line ns rs sc out ∙ sym (take-unfit (carries c line ns rs sc) piece out (sym q ∙ not-true y n))

    module _ (k : Took) (line₁ : List ℕ) (ns₁ : List ℤ) (rs₁ sc₁ o : List ℕ) (n : not y ≡ false) (t : took k line₁ ns₁ rs₁ sc₁ o ≡ piece_read (carries c line ns rs sc) piece out) where
      pub take-takes : took k line₁ ns₁ rs₁ sc₁ o ≡ take_out (carries c line ns rs sc) piece out
      unfolding take_out
      take-takes = rw (← q, not-false y n) t

      pub take_part : k.taken ≤ length piece
      take_part = took-taken k line₁ rs₁ sc₁ o ns₁ (carries c line ns rs sc) piece out take-takes

      pub take-few : k.written ≤ 32768
      take-few = took-few k line₁ rs₁ sc₁ o ns₁ (carries c line ns rs sc) piece out take-takes

  pub end-misfit : (k : Took) → not y ≡ true → k ≡ nothing 1 c → took k line ns rs sc out ≡ end_out (carries c line ns rs sc) out
  end-misfit k n e = nothing-took k 1 c e line ns rs sc out ∙ sym (end-unfit (carries c line ns rs sc) out (sym q ∙ not-true y n))

  pub end-again : (k : Took) → not y ≡ false → c.ended ≡ true → k ≡ nothing 0 c → took k line ns rs sc out ≡ end_out (carries c line ns rs sc) out
  end-again k n d e = nothing-took k 0 c e line ns rs sc out ∙ sym (end-ended (carries c line ns rs sc) out (sym q ∙ not-false y n) d)

  module _ (k : ℕ) (o line₁ : List ℕ) (n : not y ≡ false) (e : c.ended ≡ false) (t : wrote k o ≡ writes (wrote 0 out) (cases (eqb c.used 0) [] ff_line ++ closing)) (l : unfinished 0 line₁ ≡ wiped (unfinished c.used line)) where
    pub end-first : tells 0 0 (wrote k o) (carries (carried 0 true c.session) line₁ ns rs sc) ≡ end_out (carries c line ns rs sc) out
    unfolding end_out
    end-first = rw (← q, not-false y n, e, t, l)

    pub end-few : k ≤ 32768
    end-few = ended-few (record { number = 0; taken = 0; written = k; carried = carried 0 true c.session }) line₁ rs sc o ns (carries c line ns rs sc) out end-first

module _ (line : List ℕ) (ns : List ℤ) (rs sc out : List ℕ) (y : Bool) (q : y ≡ fits (length line) (length ns) (length rs) (length sc) (length out) 0 (session 0 0 0 false)) where
  pub begin-misfit : (k : Took) → not y ≡ true → k ≡ nothing 1 (carried 0 false (session 0 0 0 false)) → took k line ns rs sc out ≡ begin_out line ns rs sc out
  unfolding begin_out
  begin-misfit k n e = nothing-took k 1 (carried 0 false (session 0 0 0 false)) e line ns rs sc out ∙ rw (← q, not-true y n)

  module _ (k : ℕ) (o line₁ : List ℕ) (ns₁ : List ℤ) (rs₁ sc₁ : List ℕ) (n : not y ≡ false) (l : line₁ ≡ replicate (length line) 0)
      (a : ns₁ ≡ replicate (length ns) (pos 0)) (b : rs₁ ≡ replicate (length rs) 0) (c : sc₁ ≡ replicate (length sc) 0)
      (t : wrote k o ≡ writes (wrote 0 out) opening) where
    pub begin-begins : tells 0 0 (wrote k o) (reader (unfinished 0 line₁) false (held ns₁ rs₁ sc₁ (session 0 0 0 false))) ≡ begin_out line ns rs sc out
    unfolding begin_out
    begin-begins =
        let f : Fits (length line) (length ns) (length rs) (length sc) (length out) 0 (session 0 0 0 false) = all_fit (length line) (length ns) (length rs) (length sc) (length out) 0 (session 0 0 0 false) y q n in
        rw (← q, not-false y n, l, a, b, c, t, f.line, f.lent.nodes, f.lent.rows, f.lent.scratch)

    pub begin-few : k ≤ 32768
    begin-few = begun-few (record { number = 0; taken = 0; written = k; carried = carried 0 false (session 0 0 0 false) }) line₁ rs₁ sc₁ o ns₁ line ns rs sc out begin-begins

-- ---- the last lines

module _ (used : ℕ) (out : List ℕ) (w x : Wrote) where
  pub last-plain : used ≡ 0 → w ≡ writes (wrote 0 out) closing → w ≡ writes (wrote 0 out) (cases (eqb used 0) [] ff_line ++ closing)
  last-plain z e = rw (eq-eqb used 0 z) e

  pub last-torn : (used ≡ 0 → ⊥) → w ≡ writes (wrote 0 out) ff_line → x ≡ writes w closing → x ≡ writes (wrote 0 out) (cases (eqb used 0) [] ff_line ++ closing)
  last-torn z e f = rw (ne_eqb used 0 z) (then (wrote 0 out) w x ff_line closing e f)
