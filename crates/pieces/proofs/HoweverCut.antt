-- Request W4: "The frames, the `ff` answers and the state at the end must be those of the whole text, however it was cut." Assumes nothing.
use Rattle.std.specs.Prelude.{◌≡◌, refl, Bool, true, false, List, [], ◌∷◌, ◌++◌, ℕ, ◌+◌, ◌≤◌, leb, ℤ, pos, length}
use Rattle.std.proofs.Common.{sym, ap, ◌∙◌, arith, add-one, leb-true, leb-false}
use Rattle.std.proofs.lemmas.List.{length-replicate}
use Rattle.lists.specs.Lists.{cases}
use Rattle.text.specs.Writing.{wrote, writes}
use Rattle.protocol.specs.Frames.{Held, session}
use Rattle.protocol.specs.Program.{start, opening, closing, program, Stands, stands}
use Rattle.fitting.specs.Lent.{WholeHeld}
use Rattle.pieces.specs.Reader.{Taken, tells, unchanged, fits, take_out, begin_out, end_out}
use Rattle.pieces.specs.Fits.{fits-is}
use Rattle.pieces.specs.Turns.{Turn, piece, announce, Caller, goes_on, turned, turns, text_of, announced, Had, had, had_of, waiting, over, of_text}
use Rattle.pieces.specs.WholeText.{stands-start, gone_on, gone-none, gone-cut, torn, said_whole, answers-are}
use Rattle.pieces.proofs.Taking.{take-over-long, take-after-end, end-closes, end-again}
use Rattle.pieces.proofs.Handing.{At, Over, goes-said, goes-out, goes-unchanged, torn-short, joins, hands}

-- ---- a turn

module _ (base : List ℕ) (ol : ℕ) where
  -- of a caller whose reader waits, a piece
  turn-piece : (s : Stands) (c : Caller) (p : List ℕ) → At s base ol c → At (gone_on s (cases (leb (length p) 512) p [])) base ol (turned c (piece p))
  turn-piece s c p a = go (leb (length p) 512) refl
    where
      go : (b : Bool) → leb (length p) 512 ≡ b → At (gone_on s (cases b p [])) base ol (turned c (piece p))
      go true e = hands base ol (length p + 1) s c p a (leb-true (length p) 512 e) (omega arith)
      go false e =
          let w : WholeHeld s.held (length c.out) = rw a.out a.lent in
          let q : take_out c.carried p c.out ≡ unchanged 17 c.carried c.out = rw a.carried (take-over-long s.held s.waits p c.out w (leb-false (length p) 512 e)) in
          rw (gone-none s, add-one (length p), q, goes-unchanged c 17) a

  -- the end
  turn_end : (s : Stands) (c : Caller) → At s base ol c → Over s.held (base ++ said_whole s ++ closing) (turned c announce)
  turn_end s c a =
      let w : WholeHeld s.held (length c.out) = rw a.out a.lent in
      let x : Taken = end_out c.carried c.out in
      let text : List ℕ = torn s.waits ++ closing in
      let q : x ≡ tells 0 0 (writes (wrote 0 c.out) text) (over s.held) = rw a.carried (end-closes s.held c.out w s.waits) in
      let e : x.text ≡ writes (wrote 0 c.out) text = ap (λ (y : Taken). y.text) q in
      let few : length text ≤ length c.out = omega (arith, torn-short s.waits, w.out) in
      record {
        carried = ap (λ (y : Taken). y.next) q;
        told = goes-said c.said c.out text x e few ∙ rw a.said (joins base s.said (torn s.waits) closing);
        lent = rw (goes-out c.said c.out text x e) w;
      }

-- of a caller after the end, any
turn-over : (h : Held) (said : List ℕ) (c : Caller) (t : Turn) → Over h said c → Over h said (turned c t)
turn-over h said c (piece p) o =
    let q : take_out c.carried p c.out ≡ unchanged 17 c.carried c.out = rw o.carried (take-after-end h c.out o.lent p) in
    rw (add-one (length p), q, goes-unchanged c 17) o
turn-over h said c announce o =
    let q : end_out c.carried c.out ≡ unchanged 0 c.carried c.out = rw o.carried (end-again h c.out o.lent) in
    rw (q, goes-unchanged c 0) o

turns-over : (ts : List Turn) (h : Held) (said : List ℕ) (c : Caller) → Over h said c → Over h said (turns c ts)
turns-over [] h said c o = o
turns-over (t ∷ ts) h said c o = turns-over ts h said (turned c t) (turn-over h said c t o)

-- ---- all turns

abbrev had_by : Caller → Had
had_by c = had c.carried c.said

-- what is had of a text, the end announced or not
abbrev had_at : Stands → List ℕ → Bool → Had
had_at s base e = cases e (had (over s.held) (base ++ said_whole s ++ closing)) (had (waiting s.held s.waits) (base ++ s.said))

over-had : (h : Held) (said : List ℕ) (c : Caller) → Over h said c → had_by c ≡ had (over h) said
over-had h said c o = rw (o.carried, o.told)

at-had : (s : Stands) (base : List ℕ) (ol : ℕ) (c : Caller) → At s base ol c → had_by c ≡ had (waiting s.held s.waits) (base ++ s.said)
at-had s base ol c a = rw (a.carried, a.said)

turns-had : (base : List ℕ) (ol : ℕ) (ts : List Turn) (s : Stands) (c : Caller) → At s base ol c → had_by (turns c ts) ≡ had_at (gone_on s (text_of ts)) base (announced ts)
turns-had base ol [] s c a = at-had s base ol c a ∙ ap (λ (x : Stands). had_at x base false) (sym (gone-none s))
turns-had base ol (announce ∷ ts) s c a =
    let said : List ℕ = base ++ said_whole s ++ closing in
    over-had s.held said (turns (turned c announce) ts) (turns-over ts s.held said (turned c announce) (turn_end base ol s c a)) ∙
    ap (λ (x : Stands). had_at x base true) (sym (gone-none s))
turns-had base ol (piece p ∷ ts) s c a =
    let q : List ℕ = cases (leb (length p) 512) p [] in
    turns-had base ol ts (gone_on s q) (turned c (piece p)) (turn-piece base ol s c p a) ∙ ap (λ (x : Stands). had_at x base (announced ts)) (gone-cut s q (text_of ts))

-- ---- from the start

start-whole : (ol : ℕ) → 32768 ≤ ol → WholeHeld start ol
start-whole ol o = record {
  nodes = length-replicate {A = ℤ} 2048 (pos 0);
  rows = length-replicate {A = ℕ} 3072 0;
  scratch = length-replicate {A = ℕ} 6144 0;
  out = o;
  few-nodes = omega arith;
  few-rows = omega arith;
}

-- what document 01 says of the whole text
text-had : (text : List ℕ) (e : Bool) → had_at (gone_on (stands start [] []) text) opening e ≡ of_text text e
unfolding of_text program
text-had text true = rw (answers-are start text, stands-start start text)
text-had text false = rw (stands-start start text)

module _ (line : List ℕ) (nodes : List ℤ) (rows scratch out : List ℕ) (f : fits (length line) (length nodes) (length rows) (length scratch) (length out) 0 (session 0 0 0 false) ≡ true) where
  begin-opens : begin_out line nodes rows scratch out ≡ tells 0 0 (writes (wrote 0 out) opening) (waiting start [])
  unfolding begin_out
  begin-opens = rw f

  begin-at : At (stands start [] []) opening (length out) (goes_on [] (begin_out line nodes rows scratch out))
  begin-at =
      let x : Taken = begin_out line nodes rows scratch out in
      let o = (fits-is (length line) (length nodes) (length rows) (length scratch) (length out) 0 (session 0 0 0 false) f).lent.out in
      let e : x.text ≡ writes (wrote 0 out) opening = ap (λ (y : Taken). y.text) begin-opens in
      record {
        carried = ap (λ (y : Taken). y.next) begin-opens;
        said = goes-said [] out opening x e (omega arith);
        out = goes-out [] out opening x e;
        lent = start-whole (length out) o;
      }

-- "The frames, the `ff` answers and the state at the end must be those of the whole text, however it was cut."
pub however-cut : (line : List ℕ) (nodes : List ℤ) (rows scratch out : List ℕ) →
    fits (length line) (length nodes) (length rows) (length scratch) (length out) 0 (session 0 0 0 false) ≡ true →
    (ts : List Turn) → had_of line nodes rows scratch out ts ≡ of_text (text_of ts) (announced ts)
unfolding had_of
however-cut line nodes rows scratch out f ts =
    turns-had opening (length out) ts (stands start [] []) (goes_on [] (begin_out line nodes rows scratch out)) (begin-at line nodes rows scratch out f) ∙
    text-had (text_of ts) (announced ts)

-- two ways to cut one text
pub cut-or-whole : (line : List ℕ) (nodes : List ℤ) (rows scratch out : List ℕ) →
    fits (length line) (length nodes) (length rows) (length scratch) (length out) 0 (session 0 0 0 false) ≡ true →
    (ts us : List Turn) → text_of ts ≡ text_of us → announced ts ≡ announced us → had_of line nodes rows scratch out ts ≡ had_of line nodes rows scratch out us
cut-or-whole line nodes rows scratch out f ts us e d = however-cut line nodes rows scratch out f ts ∙ rw (e, d) (sym (however-cut line nodes rows scratch out f us))
