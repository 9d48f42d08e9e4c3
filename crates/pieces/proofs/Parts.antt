-- How much of a piece a call of the reader takes. Assumes nothing.
use Rattle.std.specs.Prelude.{◌≡◌, refl, Bool, true, false, List, [], ◌∷◌, ℕ, ◌+◌, ◌≤◌, ◌<◌, eqb, ℤ, length}
use Rattle.std.proofs.Common.{sym, ◌∙◌, arith, eq-eqb}
use Rattle.lists.specs.Lists.{cases}
use Rattle.lists.specs.ListsLaw.{clash}
use Rattle.protocol.specs.Frames.{held, session}
use Rattle.pieces.specs.Reader.{Reader, reader, unfinished, Taken, unchanged, fitting, one_more, further, untimely, take_out, begin_out, end_out}

-- nothing more is taken once something is written
pub further-stops : (x : Taken) (bs : List ℕ) → eqb x.text.at 0 ≡ false → further x bs ≡ x
unfolding further
further-stops x [] e = refl
further-stops x (b ∷ bs) e = rw e

further-taken : (x : Taken) (bs : List ℕ) → (further x bs).taken ≤ x.taken + length bs
unfolding further
further-taken x [] = omega arith
further-taken x (b ∷ bs) = go (eqb x.text.at 0) (further-taken (one_more x b) bs)
  where
    go : (c : Bool) → (further (one_more x b) bs).taken ≤ x.taken + 1 + length bs → (cases c (further (one_more x b) bs) x).taken ≤ x.taken + length (b ∷ bs)
    go true h = omega arith
    go false h = omega arith

-- no more than the piece has
pub take-taken : (r : Reader) (piece out : List ℕ) → (take_out r piece out).taken ≤ length piece
unfolding take_out
take-taken r piece out = go (fitting r out) (untimely r.ended (length piece))
  where
    go : (a b : Bool) → (cases a (cases b (unchanged 17 r out) (further (unchanged 0 r out) piece)) (unchanged 1 r out)).taken ≤ length piece
    go true true = omega arith
    go true false = omega (arith, further-taken (unchanged 0 r out) piece)
    go false b = omega arith

-- begin and end take none
either-none : (b : Bool) (x y : Taken) → x.taken ≡ 0 → y.taken ≡ 0 → (cases b x y).taken ≡ 0
either-none true x y p q = p
either-none false x y p q = q

pub begin-taken : (line : List ℕ) (ns : List ℤ) (rs sc out : List ℕ) → (begin_out line ns rs sc out).taken ≡ 0
unfolding begin_out
begin-taken line ns rs sc out = either-none (fitting (reader (unfinished 0 line) false (held ns rs sc (session 0 0 0 false))) out) _ _ refl refl

pub end-taken : (r : Reader) (out : List ℕ) → (end_out r out).taken ≡ 0
unfolding end_out
end-taken r out = either-none (fitting r out) _ (unchanged 1 r out) (either-none r.ended (unchanged 0 r out) _ refl refl) refl

further-grows : (x : Taken) (bs : List ℕ) → x.taken ≤ (further x bs).taken
unfolding further
further-grows x [] = omega arith
further-grows x (b ∷ bs) = go (eqb x.text.at 0) (further-grows (one_more x b) bs)
  where
    go : (c : Bool) → x.taken + 1 ≤ (further (one_more x b) bs).taken → x.taken ≤ (cases c (further (one_more x b) bs) x).taken
    go true h = omega arith
    go false h = omega arith

further-quiet : (x : Taken) (bs : List ℕ) → (further x bs).text.at ≡ 0 → (further x bs).taken ≡ x.taken + length bs
unfolding further
further-quiet x [] h = omega arith
further-quiet x (b ∷ bs) h = go (eqb x.text.at 0) refl (further-quiet (one_more x b) bs) h
  where
    go : (c : Bool) → eqb x.text.at 0 ≡ c → ((further (one_more x b) bs).text.at ≡ 0 → (further (one_more x b) bs).taken ≡ x.taken + 1 + length bs) →
        (cases c (further (one_more x b) bs) x).text.at ≡ 0 → (cases c (further (one_more x b) bs) x).taken ≡ x.taken + length (b ∷ bs)
    go true e more h = omega (arith, more h)
    go false e more h = clash (sym (eq-eqb x.text.at 0 h) ∙ e)

further-some : (r : Reader) (out bs : List ℕ) → 0 < length bs → 0 < (further (unchanged 0 r out) bs).taken
unfolding further
further-some r out [] h = absurd (omega arith)
further-some r out (b ∷ bs) h = omega (arith, further-grows (one_more (unchanged 0 r out) b) bs)

-- Of a piece that is not refused a byte is taken, if it has one; and all are, if nothing is written.
module _ (r : Reader) (piece out : List ℕ) where
  took-on : (take_out r piece out).number ≡ 0 → take_out r piece out ≡ further (unchanged 0 r out) piece
  unfolding take_out
  took-on = go (fitting r out) (untimely r.ended (length piece))
    where
      x : Taken
      x = further (unchanged 0 r out) piece

      go : (a b : Bool) → (cases a (cases b (unchanged 17 r out) x) (unchanged 1 r out)).number ≡ 0 → cases a (cases b (unchanged 17 r out) x) (unchanged 1 r out) ≡ x
      go true true e = absurd (omega arith)
      go true false e = refl
      go false b e = absurd (omega arith)

  pub take-some : (take_out r piece out).number ≡ 0 → 0 < length piece → 0 < (take_out r piece out).taken
  take-some e h = rw (took-on e) (further-some r out piece h)

  pub take-quiet : (take_out r piece out).number ≡ 0 → (take_out r piece out).text.at ≡ 0 → (take_out r piece out).taken ≡ length piece
  take-quiet e h =
      let q : (further (unchanged 0 r out) piece).text.at ≡ 0 = rw (took-on e) at h in
      rw (took-on e) (further-quiet (unchanged 0 r out) piece q ∙ omega arith)
