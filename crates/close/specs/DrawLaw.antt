-- The turns of the closure's loops, in the form of their needs. Assumes nothing.
use Rattle.std.specs.Prelude.{◌≡◌, Bool, List, [], ◌∷◌, eqb, length, get_or, drop, Option, Some, None}
use Rattle.std.proofs.Math.Path.{refl, sym}
use Rattle.std.proofs.Common.{ap, ◌∙◌, arith, eq-eqb, ne_eqb, length-set, drop-set-lt}
use Rattle.std.proofs.Math.Bool.{true, false}
use Prim.Native.Nat.{ℕ, zero, suc, ◌*◌, ◌≤◌, ◌<◌}
use Rattle.std.proofs.Math.ListN.{set}
use Rattle.lists.specs.Lists.{cases}
use Rattle.lists.specs.Search.{lowest, iter}
use Rattle.lists.specs.SearchLaw.{lowest-below}
use Rattle.lists.specs.IterLaw.{iter-keeps}
use Rattle.meaning.specs.declared.Tri.{Tri}
use Rattle.meaning.specs.declared.Manner.{Manner}
use Rattle.meaning.specs.declared.Manner.TheVariants.{Newest, AllThree}
use Rattle.meaning.specs.Tables.{row_at}
use Rattle.tables.specs.Arrow.{arrow_at}
use Rattle.neighbours.specs.Sized.{index_at}
use Rattle.neighbours.specs.Ready.{Ready, ready-kept}
use Rattle.close.specs.Drawn.{on_found, across_row, zeros, drawn, draws, draw_across, draw_sides, draw_from, when_marked, draw_marked, start_note, note_start, closed_notes}

-- a note that is put
pub zeros-set : (s : List ℕ) (j : ℕ) → j < length s → get_or s j 0 ≡ 0 → zeros s ≡ suc (zeros (set s j 1))
unfolding zeros
zeros-set [] j h e = absurd (omega arith)
zeros-set (x ∷ xs) zero h e = rw e
zeros-set (zero ∷ xs) (suc j) h e = ap suc (zeros-set xs j (omega arith) e)
zeros-set (suc x ∷ xs) (suc j) h e = zeros-set xs j (omega arith) e

pub zeros-less : (s m : List ℕ) (t N j : ℕ) → j < t → length s ≡ N → t ≤ N → get_or s j 0 ≡ 0 → m ≡ set s j 1 → zeros m < zeros s
zeros-less s m t N j h n b e f = omega (arith, zeros-set s j (omega arith) e, ap zeros f)

-- s before the turn, m after its note is put, W the whole
module _ (l : List ℕ) (t N j : ℕ) (s m W : List ℕ) (w : Option ℕ) (h : j < t) (n : length s ≡ N) (b : t ≤ N) (e : get_or s j 0 ≡ 0) (f : m ≡ set s j 1)
    (a : w ≡ across_row l t j) (inv : draws l t j s ≡ W) where
  drawn-once : cases (eqb (get_or s j 0) 0) (on_found (across_row l t j) (λ i. drawn (zeros (set s j 1)) l t i (set s j 1)) (set s j 1)) s ≡ W
  unfolding draws drawn
  drawn-once = rw (zeros-set s j (omega arith) e) at inv

  pub draw-on : (k : ℕ) → w ≡ Some k → draws l t k m ≡ W
  unfolding draws
  draw-on k q = let z : across_row l t j ≡ Some k = sym a ∙ q in rw f (rw (eq-eqb (get_or s j 0) 0 e, z) at drawn-once)

  pub draw-out : w ≡ None → m ≡ W
  draw-out q = let z : across_row l t j ≡ None = sym a ∙ q in rw f (rw (eq-eqb (get_or s j 0) 0 e, z) at drawn-once)

stop : (k : ℕ) (l : List ℕ) (t j : ℕ) (s : List ℕ) → (get_or s j 0 ≡ 0 → ⊥) → drawn k l t j s ≡ s
unfolding drawn
stop zero l t j s h = refl
stop (suc k) l t j s h = rw (ne_eqb (get_or s j 0) 0 h)

pub draw-stop : (l : List ℕ) (t j : ℕ) (s W : List ℕ) → (get_or s j 0 ≡ 0 → ⊥) → draws l t j s ≡ W → s ≡ W
unfolding draws
draw-stop l t j s W h inv = sym (stop (zeros s) l t j s h) ∙ inv

pub across-below : (l : List ℕ) (t i k : ℕ) (w : Option ℕ) → w ≡ across_row l t i → w ≡ Some k → k < t
unfolding across_row
across-below l t i k w e a = lowest-below (arrow_at l (row_at l i).r (row_at l i).q) t k (sym e ∙ a)

-- the parts of the code, in the form of their needs
pub found_below : (l : List ℕ) (t x y : ℕ) (w : Option ℕ) → w ≡ lowest (arrow_at l y x) 0 t → (j : ℕ) → w ≡ Some j → j < t
found_below l t x y w e j a = lowest-below (arrow_at l y x) t j (sym e ∙ a)

module _ (k : Manner) (l : List ℕ) (t i : ℕ) (s a : List ℕ) (f : a ≡ draws l t i s) where
  pub from-newest : k ≡ Newest → a ≡ draw_from k l t i s
  unfolding draw_from
  from-newest e = rw e f

  pub from_all : (w : Tri) (b : List ℕ) → k ≡ AllThree → w ≡ row_at l i → b ≡ draw_sides l t w a → b ≡ draw_from k l t i s
  unfolding draw_from
  from_all w b e g p = rw (e, ← f, ← g) p

pub closed_is : (k : Manner) (l : List ℕ) (t : ℕ) (marks s a b : List ℕ) → a ≡ iter (draw_marked k l t marks) 0 t s → b ≡ iter (note_start k marks) 0 t a → b ≡ closed_notes k l t marks s
unfolding closed_notes
closed_is k l t marks s a b e f = rw (← e) f

-- ---- only the first t notes change

abbrev pub SameFrom : ℕ → List ℕ → List ℕ → Type 0
SameFrom b s m = (length m ≡ length s) × (drop b m ≡ drop b s)

same_more : (b : ℕ) (s r m : List ℕ) → SameFrom b s r → SameFrom b r m → SameFrom b s m
same_more b s r m p q = (q.0 ∙ p.0, q.1 ∙ p.1)

module _ (l : List ℕ) (t b : ℕ) (u : t ≤ b) where
  put-kept : (j v : ℕ) (s : List ℕ) → j < t → SameFrom b s (set s j v)
  put-kept j v s h = (length-set s j v, drop-set-lt b s j v (omega arith))

  drawn-kept : (k j : ℕ) (s : List ℕ) → j < t → SameFrom b s (drawn k l t j s)
  unfolding drawn
  drawn-kept zero j s h = (refl, refl)
  drawn-kept (suc k) j s h = go (eqb (get_or s j 0) 0) (λ i. drawn-kept k i (set s j 1))
    where
      found : (w : Option ℕ) → across_row l t j ≡ w → ((i : ℕ) → i < t → SameFrom b (set s j 1) (drawn k l t i (set s j 1))) →
          SameFrom b s (on_found w (λ i. drawn k l t i (set s j 1)) (set s j 1))
      found (Some i) q below = same_more b s (set s j 1) (drawn k l t i (set s j 1)) (put-kept j 1 s h) (below i (across-below l t j i (Some i) (sym q) refl))
      found None q below = put-kept j 1 s h

      go : (y : Bool) → ((i : ℕ) → i < t → SameFrom b (set s j 1) (drawn k l t i (set s j 1))) →
          SameFrom b s (cases y (on_found (across_row l t j) (λ i. drawn k l t i (set s j 1)) (set s j 1)) s)
      go true below = found (across_row l t j) refl below
      go false below = (refl, refl)

  draws-kept : (i : ℕ) (s : List ℕ) → i < t → SameFrom b s (draws l t i s)
  unfolding draws
  draws-kept i s h = drawn-kept (zeros s) i s h

  across-kept : (x y : ℕ) (s : List ℕ) → SameFrom b s (draw_across l t x y s)
  unfolding draw_across
  across-kept x y s = go (lowest (arrow_at l y x) 0 t) refl
    where
      go : (w : Option ℕ) → lowest (arrow_at l y x) 0 t ≡ w → SameFrom b s (on_found w (λ j. draws l t j s) s)
      go (Some j) e = draws-kept j s (lowest-below (arrow_at l y x) t j e)
      go None e = (refl, refl)

  sides-kept : (w : Tri) (s : List ℕ) → SameFrom b s (draw_sides l t w s)
  unfolding draw_sides
  sides-kept w s = same_more b s (draw_across l t w.p w.q s) _ (across-kept _ _ _) (across-kept _ _ _)

  from-kept : (k : Manner) (i : ℕ) (s : List ℕ) → i < t → SameFrom b s (draw_from k l t i s)
  unfolding draw_from
  from-kept Newest i s h = draws-kept i s h
  from-kept AllThree i s h = same_more b s (draws l t i s) _ (draws-kept i s h) (sides-kept (row_at l i) (draws l t i s))

  marked-kept : (marks : List ℕ) (i : ℕ) (s a : List ℕ) → SameFrom b s a → SameFrom b s (when_marked marks i a s)
  unfolding when_marked
  marked-kept marks i s a p = go (eqb (get_or marks i 0) 1)
    where
      go : (y : Bool) → SameFrom b s (cases y a s)
      go true = p
      go false = (refl, refl)

  loop-kept : (marks : List ℕ) (f : ℕ → List ℕ → List ℕ) → ((i : ℕ) (s : List ℕ) → i < t → SameFrom b s (f i s)) → (s : List ℕ) →
      SameFrom b s (iter (λ i s. when_marked marks i (f i s) s) 0 t s)
  loop-kept marks f p s =
      iter-keeps (λ i s. when_marked marks i (f i s) s) (SameFrom b s) t s (λ j r h q. same_more b s r _ q (marked-kept marks j r (f j r) (p j r h))) (refl, refl)

  pub drawn-all-kept : (k : Manner) (marks s : List ℕ) → SameFrom b s (iter (draw_marked k l t marks) 0 t s)
  drawn-all-kept k marks s = loop-kept marks (draw_from k l t) (λ i s. from-kept k i s) s

  pub closed-kept : (k : Manner) (marks s : List ℕ) → SameFrom b s (closed_notes k l t marks s)
  unfolding closed_notes
  closed-kept k marks s = same_more b s (iter (draw_marked k l t marks) 0 t s) _ (drawn-all-kept k marks s) (loop-kept marks (λ i s. set s i (start_note k)) (λ i s. put-kept i (start_note k) s) _)

-- ---- so the index stays

module _ (l s m : List ℕ) (nc t : ℕ) (fits : 3 * t ≤ length l) (r : Ready s nc l t) where
  still-ready : (m' : List ℕ) → m ≡ m' → (t ≤ index_at nc (length l) → SameFrom (index_at nc (length l)) s m') → Ready m nc l t
  still-ready m' e same = let k = same (omega arith) in ready-kept s m l nc t (ap length e ∙ k.0) (ap (drop (index_at nc (length l))) e ∙ k.1) r

  pub ready-note : (j : ℕ) → j < t → m ≡ set s j 1 → Ready m nc l t
  ready-note j h e = still-ready _ e (λ u. put-kept l t (index_at nc (length l)) u j 1 s h)

  pub ready-draws : (i : ℕ) → i < t → m ≡ draws l t i s → Ready m nc l t
  ready-draws i h e = still-ready _ e (λ u. draws-kept l t (index_at nc (length l)) u i s h)

  pub ready-across : (x y : ℕ) → m ≡ draw_across l t x y s → Ready m nc l t
  ready-across x y e = still-ready _ e (λ u. across-kept l t (index_at nc (length l)) u x y s)

  pub ready_marked : (k : Manner) (marks : List ℕ) (i : ℕ) → i < t → m ≡ draw_marked k l t marks i s → Ready m nc l t
  ready_marked k marks i h e = still-ready _ e (λ u. marked-kept l t (index_at nc (length l)) u marks i s (draw_from k l t i s) (from-kept l t (index_at nc (length l)) u k i s h))

  pub ready-closed : (k : Manner) (marks : List ℕ) → m ≡ closed_notes k l t marks s → Ready m nc l t
  ready-closed k marks e = still-ready _ e (λ u. closed-kept l t (index_at nc (length l)) u k marks s)
