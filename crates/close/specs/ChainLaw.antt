-- What the notes mean after chains were drawn from any rows: they are up at these rows, and at the row across the refinement edge of
-- each row where they are up, and nowhere else. Assumes nothing.
use Rattle.std.proofs.Math.Path.{◌≡◌, refl, ap, subst}
use Rattle.std.proofs.Common.{sym, ◌∙◌, inl, eq-eqb, ne_eqb, length-set, get_or-set_same, get_or-set_other}
use Rattle.std.specs.Prelude.{◌⊎◌, List, eqb, set, Option, Some, None}
use Rattle.std.proofs.Math.Logic.{inr, ⊎_elim, ⊎_map}
use Prim.Native.Nat.{ℕ, zero, suc, ◌≤◌, ◌<◌}
use native.Mathlib.Omega.{arith}
use Rattle.std.proofs.Math.Decide.{ℕ_discrete}
use Rattle.std.proofs.Math.ListN.{length, get_or}
use Rattle.lists.specs.Lists.{cases}
use Rattle.lists.specs.Search.{lowest}
use Rattle.lists.specs.SearchLaw.{lowest-below}
use Rattle.tables.specs.Arrow.{arrow_at}
use Rattle.close.specs.Drawn.{on_found, across_row, zeros, drawn, draws, draw_across}
use Rattle.close.specs.DrawLaw.{zeros-set, across-below}

-- the note of row j is up
abbrev pub Up : List ℕ → ℕ → Type 0
Up s j = get_or s j 0 ≡ 0 → ⊥

up_same : (s : List ℕ) (j : ℕ) → j < length s → Up (set s j 1) j
up_same s j h e = let z : get_or (set s j 1) j 0 ≡ 1 = get_or-set_same s j 1 0 h in omega arith

up-keep : (s : List ℕ) (j x : ℕ) → j < length s → Up s x → Up (set s j 1) x
up-keep s j x h u = go (ℕ_discrete x j)
  where
    go : Dec (x ≡ j) → Up (set s j 1) x
    go (yes e) = rw e (up_same s j h)
    go (no o) = λ e. u (sym (get_or-set_other s j x 1 0 o) ∙ e)

up-old : (s : List ℕ) (j x : ℕ) → Up (set s j 1) x → (x ≡ j) ⊎ Up s x
up-old s j x u = go (ℕ_discrete x j)
  where
    go : Dec (x ≡ j) → (x ≡ j) ⊎ Up s x
    go (yes e) = inl e
    go (no o) = inr (λ e. u (get_or-set_other s j x 1 0 o ∙ e))

bit-put : (s : List ℕ) (j x : ℕ) → j < length s → get_or s x 0 ≤ 1 → get_or (set s j 1) x 0 ≤ 1
bit-put s j x h b = go (ℕ_discrete x j)
  where
    go : Dec (x ≡ j) → get_or (set s j 1) x 0 ≤ 1
    go (yes e) = rw (e, get_or-set_same s j 1 0 h) (omega arith)
    go (no o) = rw (get_or-set_other s j x 1 0 o) b

module _ (l : List ℕ) (t : ℕ) where
  -- one step of a chain
  data Step (k j : ℕ) (s : List ℕ) : List ℕ → Type 0 where
    stopped : Up s j → Step k j s s
    last : get_or s j 0 ≡ 0 → across_row l t j ≡ None → Step k j s (set s j 1)
    more : (i : ℕ) → get_or s j 0 ≡ 0 → across_row l t j ≡ Some i → Step k j s (drawn k l t i (set s j 1))

  step_by : (k j : ℕ) (s : List ℕ) → Step k j s (drawn (suc k) l t j s)
  unfolding drawn
  step_by k j s = go (ℕ_discrete (get_or s j 0) 0)
    where
      found : (w : Option ℕ) → across_row l t j ≡ w → get_or s j 0 ≡ 0 → Step k j s (on_found w (λ i. drawn k l t i (set s j 1)) (set s j 1))
      found (Some i) q e = more i e q
      found None q e = last e q

      go : Dec (get_or s j 0 ≡ 0) → Step k j s (cases (eqb (get_or s j 0) 0) (on_found (across_row l t j) (λ i. drawn k l t i (set s j 1)) (set s j 1)) s)
      go (yes e) = rw (eq-eqb (get_or s j 0) 0 e) (found (across_row l t j) refl e)
      go (no o) = rw (ne_eqb (get_or s j 0) 0 o) (stopped o)

  -- closed, but for what may be missing at j
  abbrev ClosedBut : List ℕ → ℕ → Type 0
  ClosedBut s j = (x y : ℕ) → x < t → across_row l t x ≡ Some y → Up s x → (y ≡ j) ⊎ Up s y

  -- where a note is up, it is up across
  abbrev ClosedUp : List ℕ → Type 0
  ClosedUp s = (x y : ℕ) → x < t → across_row l t x ≡ Some y → Up s x → Up s y

  record Chain (s : List ℕ) (j : ℕ) (m : List ℕ) : Type 0 where
    pub keeps : (x : ℕ) → Up s x → Up m x
    pub starts : Up m j
    pub closed : ClosedUp m
    pub bits : (x : ℕ) → get_or s x 0 ≤ 1 → get_or m x 0 ≤ 1
    pub long : length m ≡ length s

  stops : (s : List ℕ) (j : ℕ) → ClosedBut s j → Up s j → Chain s j s
  stops s j c u = record { keeps = λ x h. h; starts = u; closed = λ x y h a v. go x y (c x y h a v); bits = λ x h. h; long = refl }
    where
      go : (x y : ℕ) → (y ≡ j) ⊎ Up s y → Up s y
      go x y (inl e) = rw e u
      go x y (inr v) = v

  drawn-chain : (k j : ℕ) (s : List ℕ) → zeros s ≤ k → j < t → t ≤ length s → ClosedBut s j → Chain s j (drawn k l t j s)
  unfolding drawn
  drawn-chain zero j s z h b c = stops s j c (λ e. let y = zeros-set s j (omega arith) e in omega arith)
  drawn-chain (suc k) j s z h b c = go (step_by k j s) (drawn-chain k)
    where
      lt : j < length s
      lt = omega arith

      older : (y : ℕ) → (y ≡ j) ⊎ Up s y → Up (set s j 1) y
      older y (inl e) = rw e (up_same s j lt)
      older y (inr v) = up-keep s j y lt v

      raised : (i : ℕ) → across_row l t j ≡ Some i → ClosedBut (set s j 1) i
      raised i a x y g q u = at (up-old s j x u)
        where
          at : (x ≡ j) ⊎ Up s x → (y ≡ i) ⊎ Up (set s j 1) y
          at (inl e) = inl (let f : across_row l t j ≡ Some y = rw e at q in let z : y ≡ i = cc in z)
          at (inr v) = inr (older y (c x y g q v))

      ended : across_row l t j ≡ None → ClosedUp (set s j 1)
      ended n x y g q u = at (up-old s j x u)
        where
          at : (x ≡ j) ⊎ Up s x → Up (set s j 1) y
          at (inl e) = let f : across_row l t j ≡ Some y = rw e at q in let z : ◌≡◌ {A = ℕ} 0 1 = cc in absurd (omega arith)
          at (inr v) = older y (c x y g q v)

      go : {r : List ℕ} → Step k j s r →
          ((i : ℕ) (s' : List ℕ) → zeros s' ≤ k → i < t → t ≤ length s' → ClosedBut s' i → Chain s' i (drawn k l t i s')) → Chain s j r
      go (stopped u) below = stops s j c u
      go (last e n) below = record {
        keeps = λ x u. up-keep s j x lt u;
        starts = up_same s j lt;
        closed = ended n;
        bits = λ x u. bit-put s j x lt u;
        long = length-set s j 1;
      }
      go (more i e a) below =
          let y = zeros-set s j lt e in
          let len : length (set s j 1) ≡ length s = length-set s j 1 in
          let r = below i (set s j 1) (omega arith) (across-below l t j i (Some i) (sym a) refl) (omega arith) (raised i a) in
          record {
            keeps = λ x u. r.keeps x (up-keep s j x lt u);
            starts = r.keeps j (up_same s j lt);
            closed = r.closed;
            bits = λ x u. r.bits x (bit-put s j x lt u);
            long = r.long ∙ len;
          }

  draws-chain : (j : ℕ) (s : List ℕ) → j < t → t ≤ length s → ClosedUp s → Chain s j (draws l t j s)
  unfolding draws
  draws-chain j s h b c = drawn-chain (zeros s) j s (omega arith) h b (λ x y g q u. inr (c x y g q u))

  -- a set of rows that holds with a row the one across
  abbrev pub PulledAcross : (ℕ → Type 0) → Type 0
  PulledAcross P = (x y : ℕ) → x < t → across_row l t x ≡ Some y → P x → P y

  -- nothing else goes up
  module _ (P : ℕ → Type 0) (pull : PulledAcross P) where
    drawn-only : (k j : ℕ) (s : List ℕ) → j < t → P j → ((x : ℕ) → x < t → Up s x → P x) → (x : ℕ) → x < t → Up (drawn k l t j s) x → P x
    unfolding drawn
    drawn-only zero j s h p o x b u = o x b u
    drawn-only (suc k) j s h p o x b u = go (step_by k j s) (drawn-only k) u
      where
        here : (y : ℕ) → y < t → Up (set s j 1) y → P y
        here y c v = at (up-old s j y v)
          where
            at : (y ≡ j) ⊎ Up s y → P y
            at (inl e) = subst P (sym e) p
            at (inr w) = o y c w

        go : {r : List ℕ} → Step k j s r →
            ((i : ℕ) (s' : List ℕ) → i < t → P i → ((x : ℕ) → x < t → Up s' x → P x) → (x : ℕ) → x < t → Up (drawn k l t i s') x → P x) → Up r x → P x
        go (stopped _) below v = o x b v
        go (last e n) below v = here x b v
        go (more i e a) below v = below i (set s j 1) (across-below l t j i (Some i) (sym a) refl) (pull j i h a p) here x b v

    draws-only : (j : ℕ) (s : List ℕ) → j < t → P j → ((x : ℕ) → x < t → Up s x → P x) → (x : ℕ) → x < t → Up (draws l t j s) x → P x
    unfolding draws
    draws-only j s = drawn-only (zeros s) j s

  -- ---- chains from any rows

  -- the notes are raised from the starting rows
  pub record Raised (starts : ℕ → Type 0) (s : List ℕ) : Type 1 where
    pub closed : ClosedUp s
    pub begun : (x : ℕ) → x < t → starts x → Up s x
    pub least : (P : ℕ → Type 0) → PulledAcross P → ((x : ℕ) → x < t → starts x → P x) → (x : ℕ) → x < t → Up s x → P x
    pub bits : (x : ℕ) → x < t → get_or s x 0 ≤ 1
    pub long : t ≤ length s

  -- from none
  pub raised-none : (starts : ℕ → Type 0) (s : List ℕ) → t ≤ length s → ((x : ℕ) → x < t → get_or s x 0 ≡ 0) → ((x : ℕ) → starts x → ⊥) → Raised starts s
  raised-none starts s b z n = record {
    closed = λ x y h a u. absurd (u (z x h));
    begun = λ x h w. absurd (n x w);
    least = λ P p q x h u. absurd (u (z x h));
    bits = λ x h. let e = z x h in omega arith;
    long = b;
  }

  -- from more rows, whose notes are up already
  pub raised-as : (starts wider : ℕ → Type 0) (s : List ℕ) → ((x : ℕ) → x < t → starts x → wider x) → ((x : ℕ) → x < t → wider x → Up s x) → Raised starts s → Raised wider s
  raised-as starts wider s f g r = record {
    closed = r.closed;
    begun = g;
    least = λ P p q. r.least P p (λ x u w. q x u (f x u w));
    bits = r.bits;
    long = r.long;
  }

  -- from one row more
  pub raised-more : (starts : ℕ → Type 0) (j : ℕ) (s : List ℕ) → j < t → Raised starts s → Raised (λ x. (x ≡ j) ⊎ starts x) (draws l t j s)
  raised-more starts j s h r =
      let c = draws-chain j s h r.long r.closed in
      record {
        closed = c.closed;
        begun = λ x u w. begins c x u w;
        least = λ P p q. draws-only P p j s h (q j h (inl refl)) (r.least P p (λ x u w. q x u (inr w)));
        bits = λ x u. c.bits x (r.bits x u);
        long = (let e = c.long in let k = r.long in omega arith);
      }
    where
      begins : Chain s j (draws l t j s) → (x : ℕ) → x < t → (x ≡ j) ⊎ starts x → Up (draws l t j s) x
      begins c x u (inl e) = subst (Up (draws l t j s)) (sym e) c.starts
      begins c x u (inr w) = c.keeps x (r.begun x u w)

  -- from the row across an edge, if there is one
  pub raised-across : (starts : ℕ → Type 0) (x y : ℕ) (s : List ℕ) → Raised starts s → Raised (λ z. (lowest (arrow_at l y x) 0 t ≡ Some z) ⊎ starts z) (draw_across l t x y s)
  unfolding draw_across
  raised-across starts x y s r = go (lowest (arrow_at l y x) 0 t) refl
    where
      go : (w : Option ℕ) → lowest (arrow_at l y x) 0 t ≡ w → Raised (λ z. (w ≡ Some z) ⊎ starts z) (on_found w (λ j. draws l t j s) s)
      go (Some j) e =
          let R = raised-more starts j s (lowest-below (arrow_at l y x) t j e) r in
          raised-as (λ z. (z ≡ j) ⊎ starts z) (λ z. (Some j ≡ Some z) ⊎ starts z) (draws l t j s) (λ z h. ⊎_map (λ q. ap Some (sym q)) (λ q. q))
          (λ z h w. R.begun z h (⊎_map (λ (q : Some j ≡ Some z). let d : z ≡ j = cc in d) (λ q. q) w)) R
      go None e =
          raised-as starts (λ z. (None ≡ Some z) ⊎ starts z) s (λ z h q. inr q)
          (λ z h w. ⊎_elim (λ (q : None ≡ Some z). let d : ◌≡◌ {A = ℕ} 0 1 = cc in absurd (omega arith)) (λ q. r.begun z h q) w) r
