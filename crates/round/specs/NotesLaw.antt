-- What is noted of the rows round each node, after all rows were marked and linked. Assumes nothing.
use Rattle.std.specs.Prelude.{◌≡◌, refl, Bool, true, false, List, ℕ, suc, ◌+◌, ◌*◌, ◌≤◌, ◌<◌, eqb, length, get_or, take, drop, replicate}
use Rattle.std.proofs.Common.{sym, subst, ◌∙◌, eqb-true, eq-eqb}
use Rattle.std.proofs.Math.Path.{ap}
use native.Mathlib.Omega.{arith}
use Rattle.std.proofs.Math.ListN.{set, length-set}
use Rattle.std.proofs.Math.Seq.{get_or-set_other, drop-set-lt}
use Rattle.lists.specs.Lists.{cases, any}
use Rattle.lists.specs.ListsLaw.{both_ways}
use Rattle.lists.specs.Tally.{bit}
use Rattle.lists.specs.Search.{items, iter}
use Rattle.lists.specs.IterLaw.{iter-keeps}
use Rattle.lists.specs.Loops.{down, noted}
use Rattle.lists.specs.LoopsLaw.{down-makes, noted-length, noted-below, noted-above, noted-drop}
use Rattle.lists.specs.MarksLaw.{mark-read, marks-or, marks-read, zeros-at}
use Rattle.lists.specs.ChainLaw.{Chain, linked, linked-length, linked-other, linked-drop, chain-start, chain_link}
use Rattle.meaning.specs.Tables.{row_at}
use Rattle.laws.specs.Meshes.{Fair}
use Rattle.neighbours.specs.Sized.{Sized, index_at}
use Rattle.neighbours.specs.Ready.{Ready, ready-kept}
use Rattle.round.specs.Round.{older, Around, older_step, link_step}

-- ---- marks

shift-eqb : (o a b : ℕ) → eqb (o + a) (o + b) ≡ eqb a b
shift-eqb o a b = both_ways _ _ (λ e. eq-eqb a b (let q = eqb-true (o + a) (o + b) e in omega arith)) (λ e. eq-eqb (o + a) (o + b) (ap (λ x. o + x) (eqb-true a b e)))

module _ (rows : List ℕ) (nc : ℕ) where
  older-long : (i : ℕ) (s : List ℕ) → length (older_step rows nc i s) ≡ length s
  unfolding older_step
  older-long i s = simp length-set

  read_step : (z i : ℕ) (s : List ℕ) → nc + z < length s → get_or (older_step rows nc i s) (nc + z) 0 ≡ cases (older z (row_at rows i)) 1 (get_or s (nc + z) 0)
  unfolding older_step
  read_step z i s h =
      let w = row_at rows i in
      mark-read (set s (nc + w.q) 1) (nc + w.r) (nc + z) (rw (length-set s (nc + w.q) 1) h)
      ∙ ap (cases (eqb (nc + w.r) (nc + z)) 1) (mark-read s (nc + w.q) (nc + z) h)
      ∙ rw (shift-eqb nc w.r z, shift-eqb nc w.q z) (marks-or (eqb w.q z) (eqb w.r z) (get_or s (nc + z) 0))

  olders-read : (t : ℕ) (s : List ℕ) (z : ℕ) → nc + z < length s →
      get_or (iter (older_step rows nc) 0 t s) (nc + z) 0 ≡ cases (any (older z) (items (row_at rows) 0 t)) 1 (get_or s (nc + z) 0)
  olders-read t s z h = marks-read (older_step rows nc) (older z) (row_at rows) (nc + z) older-long (read_step z) t s h

-- ---- what stays as it was

-- the length, and all from k on
pub record Same (k : ℕ) (s₀ s : List ℕ) : Type 0 where
  pub long : length s ≡ length s₀
  pub rest : drop k s ≡ drop k s₀

same-ready : (s₀ s rows : List ℕ) (nc t : ℕ) → Same (index_at nc (length rows)) s₀ s → Ready s₀ nc rows t → Ready s nc rows t
same-ready s₀ s rows nc t e r = ready-kept s₀ s rows nc t e.long e.rest r

module _ (rows : List ℕ) (nc n t k : ℕ) (f : Fair rows n t) (room : n ≤ nc) (top : 2 * nc + t ≤ k) (s₀ : List ℕ) (long : 2 * nc + t ≤ length s₀) where
  -- marks stand between nc and 2 nc
  record Marked (s : List ℕ) : Type 0 where
    same : Same k s₀ s
    low : (p : ℕ) → p < nc → get_or s p 0 ≡ get_or s₀ p 0

  marks-turn : (i : ℕ) (s : List ℕ) → i < t → Marked s → Marked (older_step rows nc i s)
  unfolding older_step
  marks-turn i s h m =
      let w = row_at rows i in
      let d = f.named i h in
      let s1 = set s (nc + w.q) 1 in
      record {
        same = record {
          long = length-set s1 (nc + w.r) 1 ∙ length-set s (nc + w.q) 1 ∙ m.same.long;
          rest =
              drop-set-lt k s1 (nc + w.r) 1 (omega (arith, d.r-below))
              ∙ drop-set-lt k s (nc + w.q) 1 (omega (arith, d.q-below)) ∙ m.same.rest;
        };
        low = λ p l.
            (get_or-set_other s1 (nc + w.r) p 1 0 (omega arith) ∙ get_or-set_other s (nc + w.q) p 1 0 (omega arith) ∙ m.low p l);
      }

  olders-marked : Marked (iter (older_step rows nc) 0 t s₀)
  olders-marked = iter-keeps (older_step rows nc) Marked t s₀ (λ i s h m. marks-turn i s h m) (record { same = record { long = refl; rest = refl }; low = λ p l. refl })

-- ---- links

abbrev key : List ℕ → ℕ → ℕ
key rows i = (row_at rows i).p

module _ (rows : List ℕ) (nc n t k : ℕ) (f : Fair rows n t) (room : n ≤ nc) (top : 2 * nc + t ≤ k) (s₀ : List ℕ) (long : 2 * nc + t ≤ length s₀) where
  record Linked (i : ℕ) (s : List ℕ) : Type 0 where
    chain : Chain (key rows) n 0 (2 * nc) t i s
    same : Same k s₀ s
    between : (p : ℕ) → nc ≤ p → p < 2 * nc → get_or s p 0 ≡ get_or s₀ p 0

  link-step-is : (i : ℕ) (s : List ℕ) → link_step rows nc i s ≡ linked (0 + key rows i) (2 * nc + i) i s
  unfolding link_step
  link-step-is i s = let e : 0 + key rows i ≡ key rows i = omega arith in rw e

  links-turn : (i : ℕ) (s : List ℕ) → i < t → Linked (suc i) s → Linked i (link_step rows nc i s)
  links-turn i s h l =
      let d = f.named i h in
      let q = l.same.long in
      let g = 0 + key rows i in
      rw (link-step-is i s) (record {
        chain =
            chain_link (key rows) n 0 (2 * nc) t i s h l.chain d.p-below (λ a j x y. omega arith) (omega arith) (omega arith);
        same = record {
          long = linked-length g (2 * nc + i) i s ∙ q;
          rest = linked-drop g (2 * nc + i) i k s (omega arith) (omega arith) ∙ l.same.rest;
        };
        between = λ p a b. (linked-other g (2 * nc + i) i s p (omega arith) (omega arith) ∙ l.between p a b);
      })

  links-are : ((z : ℕ) → z < n → get_or s₀ z 0 ≡ 0) → Linked 0 (down (link_step rows nc) t s₀)
  links-are z =
      down-makes (link_step rows nc) Linked t s₀ (λ i s h l. links-turn i s h l)
      (record {
        chain = chain-start (key rows) n 0 (2 * nc) t s₀ (λ j l. let e : 0 + j ≡ j = omega arith in rw e (z j l));
        same = record { long = refl; rest = refl };
        between = λ p a b. refl;
      })

-- ---- all nodes

flag : (b : Bool) → cases b 1 0 ≡ bit b
flag true = refl
flag false = refl

module _ (rows s s₁ s₂ : List ℕ) (nc n t : ℕ) (f : Fair rows n t) (sizes : Sized nc (length rows) (length s)) (room : n ≤ nc)
    (blank : take (index_at nc (length rows)) s ≡ replicate (index_at nc (length rows)) 0)
    (e₁ : s₁ ≡ iter (older_step rows nc) 0 t s) (e₂ : s₂ ≡ down (link_step rows nc) t s₁) where
  fits : 2 * nc + t ≤ index_at nc (length rows)
  fits = let g = f.room in omega arith

  long : 2 * nc + t ≤ length s
  long = let g = f.room in let h = sizes.scratch in omega arith

  M : Marked rows nc n t (index_at nc (length rows)) f room fits s long s₁
  M = subst (λ (r : List ℕ). Marked rows nc n t (index_at nc (length rows)) f room fits s long r) (sym e₁) (olders-marked rows nc n t (index_at nc (length rows)) f room fits s long)

  long₁ : 2 * nc + t ≤ length s₁
  long₁ = let a = M.same.long in let b = long in omega arith

  L : Linked rows nc n t (index_at nc (length rows)) f room fits s₁ long₁ 0 s₂
  L =
      subst (λ (r : List ℕ). Linked rows nc n t (index_at nc (length rows)) f room fits s₁ long₁ 0 r) (sym e₂)
      (links-are rows nc n t (index_at nc (length rows)) f room fits s₁ long₁ (λ z h. M.low z (omega arith) ∙ zeros-at (index_at nc (length rows)) s z blank (omega arith)))

  -- the notes of node z
  pub rows-around : (z : ℕ) → z < n → Around s₂ nc rows t z
  rows-around z h = record {
    head = (let e : 0 + z ≡ z = omega arith in rw e at (L.chain.heads z h));
    nexts = λ j l. L.chain.nexts j (omega arith) l (f.named j l).p-below;
    elder =
        L.between (nc + z) (omega arith) (omega arith)
        ∙ rw e₁ (olders-read rows nc t s z (omega (arith, long)) ∙ rw (zeros-at (index_at nc (length rows)) s (nc + z) blank (omega arith)) (flag (any (older z) (items (row_at rows) 0 t))));
    below = omega arith;
    long = (let a = L.same.long in let b = long₁ in omega arith);
  }

  pub rows-ready : Ready s nc rows t → Ready s₂ nc rows t
  rows-ready r = same-ready s₁ s₂ rows nc t L.same (same-ready s s₁ rows nc t M.same r)

-- ---- while the numbers of pairs are noted, below z

module _ (s₀ s rows : List ℕ) (nc n t z : ℕ) (g : ℕ → ℕ) (e : s ≡ noted nc g z s₀) (h : z < n) (room : n ≤ nc) where
  pub around-still : ((y : ℕ) → y < n → Around s₀ nc rows t y) → Around s nc rows t z
  around-still a =
      let b = a z h in
      record {
        head = rw e (noted-below nc g z s₀ z 0 (omega arith)) ∙ b.head;
        nexts = λ j l. (rw e (noted-above nc g z s₀ (2 * nc + j) 0 (omega arith)) ∙ b.nexts j l);
        elder = rw e (noted-above nc g z s₀ (nc + z) 0 (omega arith)) ∙ b.elder;
        below = b.below;
        long = (let l = noted-length nc g z s₀ in let q = ap length e in let u = b.long in omega arith);
      }

  pub ready-still : Ready s₀ nc rows t → Ready s nc rows t
  ready-still r =
      ready-kept s₀ s rows nc t (rw e (noted-length nc g z s₀)) (rw e (noted-drop nc g z (index_at nc (length rows)) s₀ (omega arith))) r
