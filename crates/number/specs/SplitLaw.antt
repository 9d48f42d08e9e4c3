-- A lawful mesh, its marked rows closed and then numbered: the notes, the numbers that they tell, and the count of new nodes are those
-- of document 01's split edges. Assumes nothing.
use Rattle.std.specs.Prelude.{◌≡◌, Bool, true, false, ℕ, ◌*◌, ◌≤◌, ◌<◌, length, get_or}
use Rattle.std.proofs.Math.Path.{refl}
use Rattle.std.proofs.Common.{sym, ap, ◌∙◌, subst, arith}
use mathlib.Core.List.{List, Memᴰ}
use Rattle.lists.specs.ListsLaw.{clash, both_ways, All-at}
use Rattle.lists.specs.Tally.{bit}
use Rattle.lists.specs.Search.{items, iter}
use Rattle.lists.specs.ByNumberLaw.{items-in}
use Rattle.lists.specs.PartsLaw.{not_so}
use Rattle.meaning.specs.declared.Manner.{Manner}
use Rattle.meaning.specs.declared.Node.{Node}
use Rattle.meaning.specs.Mesh.{Edge, edge, edges, base, mesh}
use Rattle.meaning.specs.Lawful.{Lawful, Named}
use Rattle.meaning.specs.Split.{mem_edge, split_edges}
use Rattle.meaning.specs.Tables.{row_at}
use Rattle.laws.specs.Closure.{closure-closed, split_edges-all, split_edges-exactly, split_edges-pull}
use Rattle.notes.specs.declared.Note.{Note}
use Rattle.notes.specs.Notes.{note_at, mids_at, numbers_of}
use Rattle.notes.specs.Met.{met_to, Says}
use Rattle.close.specs.Drawn.{closed_notes}
use Rattle.close.specs.DrawLaw.{closed-kept}
use Rattle.close.specs.EdgeLaw.{OnceAt, lawful-once, lawful-named, Side, side-m, side-u, side-v, side-edge}
use Rattle.close.specs.CloseLaw.{start_edges, is_split}
use Rattle.number.specs.Numbered.{Numbers, numbers, number_row}
use Rattle.number.specs.ScanLaw.{scan_of, note_in, mids-num, scan-met}
use Rattle.number.specs.NumberLaw.{Tells, Reached, reach-all}
use Rattle.number.specs.TellsLaw.{closed-tells}

-- what the notes in a table of scratch say of the split edges es of t rows, and how many new nodes there are; n nodes stand before.
-- `mem` is the test of the edges to be split. However the rows to be split were found, this is all that is told of the notes
pub record SplitNotes (n : ℕ) (rows : List ℕ) (t : ℕ) (es : List Edge) (mem : Edge → Bool) (table : List ℕ) (count : ℕ) : Type 0 where
  pub counted : count ≡ length es
  pub few : count ≤ 3 * t
  -- the numbers of a row's edges, 0 for none
  pub mids : (i : ℕ) → i < t → mids_at n rows table i ≡ numbers_of n es (row_at rows i)
  -- the edges first met, row by row, are the split edges in order; each note counts those first met below
  pub met : met_to rows table t ≡ es
  pub before : (i : ℕ) → i < t → (note_at table i).before ≡ length (met_to rows table i)
  -- the bits: which edges of a row are to be split
  pub member-said : (i : ℕ) → i < t → Says mem (row_at rows i) (note_at table i)
  pub split-said : (i : ℕ) → i < t → Says (λ e. mem_edge e es) (row_at rows i) (note_at table i)
  pub pulled : (i : ℕ) → i < t → mem_edge (base (row_at rows i)) es ≡ false →
      (mem_edge (edge (row_at rows i).p (row_at rows i).q) es ≡ false) × (mem_edge (edge (row_at rows i).r (row_at rows i).p) es ≡ false)

-- the first t notes of s are 0
module _ (k : Manner) (ns : List Node) (l : List ℕ) (t : ℕ) (law : Lawful (mesh ns (items (row_at l) 0 t))) (marks s : List ℕ) (long : t ≤ length s)
    (clear : (x : ℕ) → x < t → get_or s x 0 ≡ 0) (small : 3 * t ≤ 16_777_216) where
  -- the split edges
  abbrev split_set : List Edge
  split_set = split_edges (mesh ns (items (row_at l) 0 t)) (start_edges k l t marks)

  abbrev member : Edge → Bool
  member e = is_split k l t marks e

  -- what close and number leave
  abbrev numbered_notes : Numbers
  numbered_notes = iter (number_row l t) 0 t (numbers (closed_notes k l t marks s) 0)

  once-each : OnceAt l t
  once-each = lawful-once ns l t law

  rows_named : (i : ℕ) → i < t → Named (length ns) (row_at l i)
  rows_named = lawful-named ns l t law

  tells : Tells l t member (closed_notes k l t marks s)
  tells = closed-tells k ns l t law marks s long clear

  pull : (i : ℕ) (e : Edge) → i < t → Memᴰ e (edges (row_at l i)) → member e ≡ true → member (base (row_at l i)) ≡ true
  pull i e h m p = All-at (All-at (closure-closed (items (row_at l) 0 t) (start_edges k l t marks)).pull (items-in (row_at l) t i h)) m p

  reached : Reached l t (length ns) once-each rows_named member pull (closed_notes k l t marks s) tells (length s) t numbered_notes
  reached = reach-all l t (length ns) once-each rows_named member pull (closed_notes k l t marks s) tells (length s) long small (closed-kept l t t (omega arith) k marks s).0

  scan-is-split : scan_of l member t ≡ split_set
  unfolding split_edges
  scan-is-split = refl

  notes-say : (i : ℕ) → i < t → note_at numbered_notes.table i ≡ note_in l member i
  notes-say i h = reached.halfway.below-noted i h

  -- an edge of a row is to be split exactly if it is among the split edges
  among : (i : ℕ) → i < t → {a b : ℕ} → Side (row_at l i) a b → member (edge a b) ≡ mem_edge (edge a b) split_set
  among i h {a} {b} s =
      both_ways (member (edge a b)) (mem_edge (edge a b) split_set)
      (λ m. split_edges-all (mesh ns (items (row_at l) 0 t)) (start_edges k l t marks) (edge a b) (row_at l i, items-in (row_at l) t i h, side-edge (row_at l i) s) m)
      (λ m. ((split_edges-exactly (mesh ns (items (row_at l) 0 t)) (start_edges k l t marks) (edge a b)).0 m).1)

  side-off : (i : ℕ) → i < t → {a b : ℕ} → Side (row_at l i) a b → mem_edge (base (row_at l i)) split_set ≡ false → mem_edge (edge a b) split_set ≡ false
  side-off i h {a} {b} s n =
      not_so (mem_edge (edge a b) split_set)
      (λ m. clash (sym (All-at (All-at (split_edges-pull (mesh ns (items (row_at l) 0 t)) (start_edges k l t marks)) (items-in (row_at l) t i h)) (side-edge (row_at l i) s) m) ∙ n))

  bits-said : (i : ℕ) → i < t → Says member (row_at l i) (note_at numbered_notes.table i)
  bits-said i h =
      let e = notes-say i h in
      record { m-said = ap (λ (c : Note). c.m) e; u-said = ap (λ (c : Note). c.u) e; v-said = ap (λ (c : Note). c.v) e }

  numbered-says : SplitNotes (length ns) l t split_set member numbered_notes.table numbered_notes.count
  numbered-says = record {
    counted = reached.counted ∙ ap length scan-is-split;
    few = reached.few;
    mids = λ i h.
        mids-num l t (length ns) once-each rows_named member numbered_notes.table i h (λ j k. notes-say j (omega arith)) ∙ ap (λ es. numbers_of (length ns) es (row_at l i)) scan-is-split;
    met = scan-met l t (length ns) once-each rows_named member numbered_notes.table t (omega arith) notes-say ∙ scan-is-split;
    before = λ i h.
        ap (λ (c : Note). c.before) (notes-say i h)
        ∙ ap length (sym (scan-met l t (length ns) once-each rows_named member numbered_notes.table i (omega arith) (λ j k. notes-say j (omega arith))));
    member-said = bits-said;
    split-said = λ i h.
        let d = bits-said i h in
        record { m-said = d.m-said ∙ ap bit (among i h side-m); u-said = d.u-said ∙ ap bit (among i h side-u); v-said = d.v-said ∙ ap bit (among i h side-v) };
    pulled = λ i h q. (side-off i h side-u q, side-off i h side-v q);
  }

  -- s₁ is what close leaves, s₂ and c what number leaves; n nodes
  module _ (s₁ s₂ : List ℕ) (n c : ℕ) (e₁ : s₁ ≡ closed_notes k l t marks s) (e₂ : numbers s₂ c ≡ iter (number_row l t) 0 t (numbers s₁ 0)) where
    numbers-are : numbers s₂ c ≡ numbered_notes
    numbers-are = e₂ ∙ ap (λ (x : List ℕ). iter (number_row l t) 0 t (numbers x 0)) e₁

    pub split-notes : length ns ≡ n → SplitNotes n l t split_set member s₂ c
    split-notes f = subst (λ (x : ℕ). SplitNotes x l t split_set member s₂ c) f (subst (λ (x : Numbers). SplitNotes (length ns) l t split_set member x.table x.count) (sym numbers-are) numbered-says)

    pub split-length : length s₂ ≡ length s
    split-length = ap (λ (x : Numbers). length x.table) numbers-are ∙ reached.long
