-- Laws of what stands after a text: what a byte adds to it, and that a text may be cut anywhere. Assumes nothing.
use Rattle.std.specs.Prelude.{◌≡◌, refl, Bool, true, false, List, [], ◌∷◌, ◌++◌, ℕ, eqb}
use Rattle.std.proofs.Common.{sym, ap, ◌∙◌, append-nil, append_assoc, eqb-true}
use Rattle.text.specs.Lines.{ff_line}
use Rattle.protocol.specs.Frames.{Held, line_step}
use Rattle.protocol.specs.Program.{Line, whole, endless, before, lines_of, answers, Stands, stands, said_before, stands_after}

-- ---- the lines, where some bytes of the first are read already

abbrev ends : List ℕ → List Line
ends [] = []
ends (b ∷ l) = endless (b ∷ l) ∷ []

abbrev after : List ℕ → List Line → List Line
after l [] = ends l
after l (whole m ∷ ls) = whole (l ++ m) ∷ ls
after l (endless m ∷ ls) = endless (l ++ m) ∷ ls

after_none : (ls : List Line) → after [] ls ≡ ls
after_none [] = refl
after_none (whole m ∷ ls) = refl
after_none (endless m ∷ ls) = refl

ends_more : (l : List ℕ) (b : ℕ) → ends (l ++ (b ∷ [])) ≡ endless (l ++ (b ∷ [])) ∷ []
ends_more [] b = refl
ends_more (a ∷ l) b = refl

after_more : (l : List ℕ) (b : ℕ) (ls : List Line) → after l (before b ls) ≡ after (l ++ (b ∷ [])) ls
after_more l b [] = sym (ends_more l b)
after_more l b (whole m ∷ ls) = ap (λ (r : List ℕ). whole r ∷ ls) (sym (append_assoc l (b ∷ []) m))
after_more l b (endless m ∷ ls) = ap (λ (r : List ℕ). endless r ∷ ls) (sym (append_assoc l (b ∷ []) m))

-- ---- what stands after more bytes, where those of a line are read already

abbrev pub stands_from : Held → List ℕ → List ℕ → Stands
stands_from h l bs = stands_after h (after l (lines_of bs))

pub stands-start : (h : Held) (bs : List ℕ) → stands_from h [] bs ≡ stands_after h (lines_of bs)
stands-start h bs = ap (stands_after h) (after_none (lines_of bs))

pub stands-none : (h : Held) (l : List ℕ) → stands_from h l [] ≡ stands h [] l
stands-none h [] = refl
stands-none h (b ∷ l) = refl

pub stands-end : (h : Held) (l bs : List ℕ) → stands_from h l (10 ∷ bs) ≡ said_before (line_step h l).text (stands_from (line_step h l).next [] bs)
stands-end h l bs = rw (append-nil l, after_none (lines_of bs))

pub stands-more : (h : Held) (l : List ℕ) (b : ℕ) (bs : List ℕ) → eqb b 10 ≡ false → stands_from h l (b ∷ bs) ≡ stands_from h (l ++ (b ∷ [])) bs
stands-more h l b bs e = rw (e, after_more l b (lines_of bs))

-- a fact of a text's first byte: it ends a line, or it is one more byte of it
pub data Byte : ℕ → Type 0 where
  ending : Byte 10
  other : {b : ℕ} → eqb b 10 ≡ false → Byte b

pub byte : (b : ℕ) → Byte b
byte b = go (eqb b 10) refl
  where
    go : (x : Bool) → eqb b 10 ≡ x → Byte b
    go true e = let q : b ≡ 10 = eqb-true b 10 e in rw q ending
    go false e = other e

-- ---- a text may be cut anywhere

-- what stands after more bytes of a text
abbrev pub gone_on : Stands → List ℕ → Stands
gone_on s bs = said_before s.said (stands_from s.held s.waits bs)

pub gone-none : (s : Stands) → gone_on s [] ≡ s
gone-none s = rw (stands-none s.held s.waits, append-nil s.said)

pub said-twice : (s t : List ℕ) (x : Stands) → said_before s (said_before t x) ≡ said_before (s ++ t) x
said-twice s t x = rw (append_assoc s t x.said)

Cut : List ℕ → List ℕ → Type 0
Cut p q = (h : Held) (l : List ℕ) → stands_from h l (p ++ q) ≡ gone_on (stands_from h l p) q

cut-none : (q : List ℕ) → Cut [] q
unfolding Cut
cut-none q h l = rw (stands-none h l)

cut-more : (b : ℕ) (p q : List ℕ) → Byte b → Cut p q → Cut (b ∷ p) q
unfolding Cut
cut-more b p q ending more h l =
    let t = (line_step h l).text in
    let n = (line_step h l).next in
    let s : Stands = stands_from n [] p in
    let told : stands_from h l (10 ∷ (p ++ q)) ≡ gone_on (said_before t s) q = stands-end h l (p ++ q) ∙ ap (said_before t) (more n []) ∙ said-twice t s.said (stands_from s.held s.waits q) in
    told ∙ sym (ap (λ (x : Stands). gone_on x q) (stands-end h l p))
cut-more b p q (other e) more h l = rw (stands-more h l b (p ++ q) e, stands-more h l b p e) (more h (l ++ (b ∷ [])))

cut_all : (p q : List ℕ) → Cut p q
cut_all [] q = cut-none q
cut_all (b ∷ p) q = cut-more b p q (byte b) (cut_all p q)

pub stands-cut : (h : Held) (l p q : List ℕ) → stands_from h l (p ++ q) ≡ gone_on (stands_from h l p) q
unfolding Cut
stands-cut h l p q = cut_all p q h l

pub gone-cut : (s : Stands) (p q : List ℕ) → gone_on (gone_on s p) q ≡ gone_on s (p ++ q)
gone-cut s p q = rw (stands-cut s.held s.waits p q) (sym (said-twice s.said (stands_from s.held s.waits p).said _))

-- ---- and the end is announced

-- what is said to a line that has no end byte, if there is one
abbrev pub torn : List ℕ → List ℕ
torn [] = []
torn (b ∷ l) = ff_line

abbrev pub said_whole : Stands → List ℕ
said_whole s = s.said ++ torn s.waits

Answered : List ℕ → Type 0
Answered bs = (h : Held) (l : List ℕ) → answers h (after l (lines_of bs)) ≡ said_whole (stands_from h l bs)

answered-none : Answered []
unfolding Answered
answered-none h [] = refl
answered-none h (b ∷ l) = refl

answered-more : (b : ℕ) (bs : List ℕ) → Byte b → Answered bs → Answered (b ∷ bs)
unfolding Answered
answered-more b bs ending more h l =
    let t = (line_step h l).text in
    let s : Stands = stands_from (line_step h l).next [] bs in
    let told : answers (line_step h l).next (lines_of bs) ≡ said_whole s = ap (answers (line_step h l).next) (sym (after_none (lines_of bs))) ∙ more (line_step h l).next [] in
    let all : t ++ answers (line_step h l).next (lines_of bs) ≡ said_whole (said_before t s) = ap (λ (x : List ℕ). t ++ x) told ∙ sym (append_assoc t s.said (torn s.waits)) in
    rw (append-nil l) all ∙ sym (ap said_whole (stands-end h l bs))
answered-more b bs (other e) more h l = rw (e, after_more l b (lines_of bs)) (more h (l ++ (b ∷ [])))

answered-all : (bs : List ℕ) → Answered bs
answered-all [] = answered-none
answered-all (b ∷ bs) = answered-more b bs (byte b) (answered-all bs)

pub answers-are : (h : Held) (bs : List ℕ) → answers h (lines_of bs) ≡ said_whole (stands_from h [] bs)
unfolding Answered
answers-are h bs = ap (answers h) (sym (after_none (lines_of bs))) ∙ answered-all bs h []
