-- What a caller learns from the contract of a call: how much was written, and how much of the piece was taken. Assumes nothing.
use Rattle.std.specs.Prelude.{◌≡◌, List, ℕ, ◌≤◌, ◌<◌, ℤ, length, take}
use Rattle.std.proofs.Common.{sym, ap, ◌∙◌, arith, length-take-le}
use Rattle.pieces.specs.Reader.{Reader, Taken, take_out, begin_out, end_out}
use Rattle.pieces.proofs.Bounds.{take-written, take_within, begin-written, begin-within, end-written, end-within}
use Rattle.pieces.proofs.Parts.{take-taken, take-some, take-quiet}
use Rattle.reader.specs.declared.Took.{Took}
use Rattle.reader.specs.Values.{took}

-- the part of a buffer that was written
pub front-count : (k : ℕ) (o : List ℕ) → k ≤ length o → k ≡ length (take k o)
front-count k o h = sym (length-take-le k o h)

module _ (k : Took) (line rs sc o : List ℕ) (ns : List ℤ) where
  -- x is what the call answers
  module _ (x : Taken) (e : took k line ns rs sc o ≡ x) where
    as-few : x.text.at ≤ 32768 → k.written ≤ 32768
    as-few h = omega (arith, ap (λ (y : Taken). y.text.at) e)

    as-within : x.text.at ≤ length x.text.out → k.written ≤ length o
    as-within h = omega (arith, ap (λ (y : Taken). y.text.at) e, ap (λ (y : Taken). length y.text.out) e)

  module _ (r : Reader) (piece out : List ℕ) (e : took k line ns rs sc o ≡ take_out r piece out) where
    pub took-few : k.written ≤ 32768
    took-few = as-few (take_out r piece out) e (take-written r piece out)

    pub took-within : k.written ≤ length o
    took-within = as-within (take_out r piece out) e (take_within r piece out)

    pub took-taken : k.taken ≤ length piece
    took-taken = omega (arith, take-taken r piece out, ap (λ (y : Taken). y.taken) e)

    pub took-some : k.number ≡ 0 → 0 < length piece → 0 < k.taken
    took-some z h = rw (ap (λ (y : Taken). y.taken) e) (take-some r piece out (sym (ap (λ (y : Taken). y.number) e) ∙ z) h)

    pub took-quiet : k.number ≡ 0 → k.written ≡ 0 → k.taken ≡ length piece
    took-quiet z q =
        ap (λ (y : Taken). y.taken) e ∙
        take-quiet r piece out (sym (ap (λ (y : Taken). y.number) e) ∙ z) (sym (ap (λ (y : Taken). y.text.at) e) ∙ q)

  module _ (line₀ : List ℕ) (ns₀ : List ℤ) (rs₀ sc₀ out : List ℕ) (e : took k line ns rs sc o ≡ begin_out line₀ ns₀ rs₀ sc₀ out) where
    pub begun-few : k.written ≤ 32768
    begun-few = as-few (begin_out line₀ ns₀ rs₀ sc₀ out) e (begin-written line₀ ns₀ rs₀ sc₀ out)

    pub begun-within : k.written ≤ length o
    begun-within = as-within (begin_out line₀ ns₀ rs₀ sc₀ out) e (begin-within line₀ ns₀ rs₀ sc₀ out)

  module _ (r : Reader) (out : List ℕ) (e : took k line ns rs sc o ≡ end_out r out) where
    pub ended-few : k.written ≤ 32768
    ended-few = as-few (end_out r out) e (end-written r out)

    pub ended-within : k.written ≤ length o
    ended-within = as-within (end_out r out) e (end-within r out)
