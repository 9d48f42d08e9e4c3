-- Laws of single steps, which the check finds alone today. Assumes nothing.
use Rattle.std.specs.Prelude.{◌≡◌, List, ℕ, get_or, set, Option, Some, None}
use Rattle.std.proofs.Common.{eq-eqb, ne_eqb}
use Rattle.lists.specs.Search.{lowest}
use Rattle.meaning.specs.declared.Tri.{Tri}
use Rattle.meaning.specs.declared.Manner.{Manner}
use Rattle.meaning.specs.declared.Manner.TheVariants.{Newest, AllThree}
use Rattle.tables.specs.Arrow.{arrow_at}
use Rattle.close.specs.Drawn.{draws, draw_across, draw_sides, when_marked, start_note, note_start}

-- the parts of the code, in the form of their needs
module _ (marks : List ℕ) (i : ℕ) (a s m : List ℕ) where
  pub marked-yes : get_or marks i 0 ≡ 1 → m ≡ a → m ≡ when_marked marks i a s
  unfolding when_marked
  marked-yes e f = rw (eq-eqb (get_or marks i 0) 1 e) f

  pub marked-no : (get_or marks i 0 ≡ 1 → ⊥) → m ≡ s → m ≡ when_marked marks i a s
  unfolding when_marked
  marked-no e f = rw (ne_eqb (get_or marks i 0) 1 e) f

pub start-yes : (k : Manner) (marks : List ℕ) (i v : ℕ) (s m : List ℕ) → get_or marks i 0 ≡ 1 → v ≡ start_note k → m ≡ set s i v → m ≡ note_start k marks i s
start-yes k marks i v s m e f g = marked-yes marks i (set s i (start_note k)) s m e (rw (← f) g)

module _ (l : List ℕ) (t x y : ℕ) (s m : List ℕ) (w : Option ℕ) (e : w ≡ lowest (arrow_at l y x) 0 t) where
  pub drawn-across : (j : ℕ) → w ≡ Some j → m ≡ draws l t j s → m ≡ draw_across l t x y s
  unfolding draw_across
  drawn-across j a f = rw (← e, a) f

  pub none-across : w ≡ None → m ≡ s → m ≡ draw_across l t x y s
  unfolding draw_across
  none-across a f = rw (← e, a) f

pub sides-drawn : (l : List ℕ) (t : ℕ) (w : Tri) (s a b : List ℕ) → a ≡ draw_across l t w.p w.q s → b ≡ draw_across l t w.r w.p a → b ≡ draw_sides l t w s
unfolding draw_sides
sides-drawn l t w s a b e f = rw (← e) f

pub note-newest : (k : Manner) → k ≡ Newest → 1 ≡ start_note k
unfolding start_note
note-newest k e = rw e

pub note-all : (k : Manner) → k ≡ AllThree → 7 ≡ start_note k
unfolding start_note
note-all k e = rw e
