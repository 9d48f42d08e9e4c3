-- What stands in the tables and the buffer that are lent, after a line, by the answer of the call. Assumes nothing.
use Rattle.std.specs.Prelude.{◌≡◌, List, ℕ, ℤ}
use Rattle.std.proofs.Common.{sym, ap, ◌∙◌}
use Rattle.text.specs.Writing.{wrote}
use Rattle.frames.specs.declared.Answered.{Answered}
use Rattle.protocol.specs.Frames.{Held, held}
use Rattle.fitting.specs.Lent.{Lent, line_lent}

abbrev pub lent : Answered → List ℤ → List ℕ → List ℕ → List ℕ → Lent
lent r ns rs sc out = record { next = held ns rs sc r.session; text = wrote r.written out }

-- two calls of `line` that were given the same, and meet the contract
pub line-one : (h : Held) (line out : List ℕ) (a b : Answered) (ns ns' : List ℤ) (rs rs' sc sc' o o' : List ℕ) →
    lent a ns rs sc o ≡ line_lent h line out → lent b ns' rs' sc' o' ≡ line_lent h line out →
    (a.session ≡ b.session) × (a.written ≡ b.written) × (ns ≡ ns') × (rs ≡ rs') × (sc ≡ sc') × (o ≡ o')
line-one h line out a b ns ns' rs rs' sc sc' o o' p q =
    let e : lent a ns rs sc o ≡ lent b ns' rs' sc' o' = p ∙ sym q in (
      ap (λ (x : Lent). x.next.session) e,
      ap (λ (x : Lent). x.text.at) e,
      ap (λ (x : Lent). x.next.nodes) e,
      ap (λ (x : Lent). x.next.rows) e,
      ap (λ (x : Lent). x.next.scratch) e,
      ap (λ (x : Lent). x.text.out) e,
    )
