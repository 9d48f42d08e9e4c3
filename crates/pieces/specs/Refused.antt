-- Request W4: a call that "is refused .. changes nothing", on any reader and whatever is lent. Assumes nothing.
use Rattle.std.specs.Prelude.{◌≡◌, ◌≢◌, true, false, List, [], ◌∷◌, ℕ, ◌<◌, eqb, ltb, ℤ, length}
use Rattle.std.proofs.Math.Path.{refl}
use Rattle.std.proofs.Math.Bool.{Bool}
use Rattle.std.proofs.Common.{lt-ltb}
use Rattle.lists.specs.Lists.{cases}
use Rattle.lists.specs.ListsLaw.{or_left, or_right}
use Rattle.protocol.specs.Frames.{held, session}
use Rattle.pieces.specs.Reader.{Reader, reader, unfinished, Taken, unchanged, fitting, one_more, further, untimely, take_out, begin_out, end_out}

-- ---- a test decides between two outcomes

done-either : (b : Bool) (x y : Taken) → x.number ≡ 0 → y.number ≡ 0 → (cases b x y).number ≡ 0
done-either true x y p q = p
done-either false x y p q = q

refused-second : (b : Bool) (x y : Taken) → x.number ≡ 0 → (cases b x y).number ≢ 0 → cases b x y ≡ y
refused-second true x y p h = absurd (h p)
refused-second false x y p h = refl

further-number : (x : Taken) (bs : List ℕ) → x.number ≡ 0 → (further x bs).number ≡ 0
unfolding further
further-number x [] e = e
further-number x (b ∷ bs) e = done-either (eqb x.text.at 0) (further (one_more x b) bs) x (further-number (one_more x b) bs refl) e

-- ---- the calls

module _ (r : Reader) (piece out : List ℕ) where
  pub take-refused : (take_out r piece out).number ≢ 0 → take_out r piece out ≡ unchanged (take_out r piece out).number r out
  unfolding take_out
  take-refused = go (fitting r out) (untimely r.ended (length piece))
    where
      x : Bool → Bool → Taken
      x a b = cases a (cases b (unchanged 17 r out) (further (unchanged 0 r out) piece)) (unchanged 1 r out)

      go : (a b : Bool) → (x a b).number ≢ 0 → x a b ≡ unchanged (x a b).number r out
      go true true h = refl
      go true false h = absurd (h (further-number (unchanged 0 r out) piece refl))
      go false b h = refl

  -- what is lent in another size
  pub take-unfit : fitting r out ≡ false → take_out r piece out ≡ unchanged 1 r out
  unfolding take_out
  take-unfit e = rw e

  -- "A piece over 512 bytes, or any after the end, is refused as 17 and changes nothing."
  module _ (f : fitting r out ≡ true) where
    pub take_long : 512 < length piece → take_out r piece out ≡ unchanged 17 r out
    unfolding take_out untimely
    take_long h = rw (f, or_right r.ended (lt-ltb 512 (length piece) h))

    pub take_ended : r.ended ≡ true → take_out r piece out ≡ unchanged 17 r out
    unfolding take_out untimely
    take_ended e = rw (f, or_left (ltb 512 (length piece)) e)

module _ (r : Reader) (out : List ℕ) where
  pub end-unfit : fitting r out ≡ false → end_out r out ≡ unchanged 1 r out
  unfolding end_out
  end-unfit e = rw e

  pub end_refused : (end_out r out).number ≢ 0 → end_out r out ≡ unchanged 1 r out
  unfolding end_out
  end_refused = refused-second (fitting r out) _ (unchanged 1 r out) (done-either r.ended (unchanged 0 r out) _ refl refl)

  -- announced once more
  pub end-ended : fitting r out ≡ true → r.ended ≡ true → end_out r out ≡ unchanged 0 r out
  unfolding end_out
  end-ended f e = rw (f, e)

pub begin-refused : (line : List ℕ) (ns : List ℤ) (rs sc out : List ℕ) → (begin_out line ns rs sc out).number ≢ 0 →
    begin_out line ns rs sc out ≡ unchanged 1 (reader (unfinished 0 line) false (held ns rs sc (session 0 0 0 false))) out
unfolding begin_out
begin-refused line ns rs sc out = refused-second (fitting (reader (unfinished 0 line) false (held ns rs sc (session 0 0 0 false))) out) _ _ refl
