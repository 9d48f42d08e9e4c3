-- The notes that close leaves tell of the edges to be split: the note of a row that is not marked says whether its refinement edge is; that
-- of a marked row has a bit for each of its starting edges. Assumes nothing.
use Rattle.std.specs.Prelude.{◌≡◌, Bool, ℕ, ◌≤◌, ◌<◌, length, get_or}
use Rattle.std.proofs.Math.Path.{refl, ap}
use Rattle.std.proofs.Common.{sym, ◌∙◌, ⊎_elim, arith, eq-eqb, ne_eqb}
use Rattle.std.proofs.Math.Bool.{true, false}
use mathlib.Core.List.Memᴰ
use mathlib.Core.List.{List, Memᴰ}
use Rattle.std.proofs.Math.Decide.{ℕ_discrete}
use Rattle.lists.specs.Tally.{bit}
use Rattle.lists.specs.Search.{items}
use Rattle.meaning.specs.declared.Node.{Node}
use Rattle.meaning.specs.declared.Tri.{Tri}
use Rattle.meaning.specs.declared.Manner.{Manner}
use Rattle.meaning.specs.declared.Manner.TheVariants.{Newest, AllThree}
use Rattle.meaning.specs.Mesh.{Edge, edge, base, mesh}
use Rattle.meaning.specs.Lawful.{Lawful, Named}
use Rattle.meaning.specs.Split.{starts_of}
use Rattle.meaning.specs.Tables.{row_at}
use Rattle.laws.specs.Refine.{starts-base}
use Rattle.notes.specs.declared.Note.{Note}
use Rattle.notes.specs.Notes.{note, unpacked, note_at, split_on}
use Rattle.close.specs.Drawn.{start_note, closed_notes}
use Rattle.close.specs.EdgeLaw.{OnceAt, lawful-once, lawful-named, Side, side-m, side-u, side-v, side-edge, edge-side}
use Rattle.close.specs.CloseLaw.{is_split, start-in, drawn-note, Starts, closed-held, closed-note}
use Rattle.number.specs.ScanLaw.{side_pick, on-side}
use Rattle.number.specs.NumberLaw.{said_at, Tells}

-- the first t notes of s are 0
module _ (k : Manner) (ns : List Node) (l : List ℕ) (t : ℕ) (law : Lawful (mesh ns (items (row_at l) 0 t))) (marks s : List ℕ) (long : t ≤ length s)
    (clear : (x : ℕ) → x < t → get_or s x 0 ≡ 0) where
  once-each : OnceAt l t
  once-each = lawful-once ns l t law

  rows_named : (i : ℕ) → i < t → Named (length ns) (row_at l i)
  rows_named = lawful-named ns l t law

  -- the note of a row that is not marked, and of one that is
  abbrev bare : Bool → Note
  bare b = note (bit b) 0 0 0 0 0 0

  abbrev starred : Manner → Note
  starred Newest = note 1 0 0 0 0 0 0
  starred AllThree = note 1 1 1 0 0 0 0

  unpacked-bit : (b : Bool) → unpacked (bit b) ≡ bare b
  unfolding unpacked
  unpacked-bit true = refl
  unpacked-bit false = refl

  unpacked-start : (k : Manner) → unpacked (start_note k) ≡ starred k
  unfolding unpacked start_note
  unpacked-start Newest = refl
  unpacked-start AllThree = refl

  note-bare : (j : ℕ) → j < t → (get_or marks j 0 ≡ 1 → ⊥) → note_at (closed_notes k l t marks s) j ≡ bare (is_split k l t marks (base (row_at l j)))
  unfolding note_at
  note-bare j h o =
      ap unpacked (closed-note l t once-each k marks s long clear j h ∙ rw (ne_eqb (get_or marks j 0) 1 o) (drawn-note l t once-each k marks s long clear j h))
      ∙ unpacked-bit (is_split k l t marks (base (row_at l j)))

  note-starred : (j : ℕ) → j < t → get_or marks j 0 ≡ 1 → note_at (closed_notes k l t marks s) j ≡ starred k
  unfolding note_at
  note-starred j h e = ap unpacked (closed-note l t once-each k marks s long clear j h ∙ rw (eq-eqb (get_or marks j 0) 1 e)) ∙ unpacked-start k

  -- the bits of a marked row's note are its starting edges
  starred-in : (k : Manner) (w : Tri) {x y : ℕ} (o : Side w x y) → side_pick o (starred k).m (starred k).u (starred k).v ≡ 1 → Memᴰ (edge x y) (starts_of k w)
  starred-in Newest w side-m e = Memᴰ.head refl
  starred-in Newest w side-u e = absurd (omega arith)
  starred-in Newest w side-v e = absurd (omega arith)
  starred-in AllThree w o e = side-edge w o

  in-starred : (k : Manner) (w : Tri) (e : Edge) → Memᴰ e (starts_of k w) →
      (x : ℕ) × (y : ℕ) × (o : Side w x y) × (e ≡ edge x y) × (side_pick o (starred k).m (starred k).u (starred k).v ≡ 1)
  in-starred Newest w e i = (w.q, w.r, side-m, Memᴰ.eq_of_singleton i, refl)
  in-starred AllThree w e i = let (x, y, o, q) = edge-side w e i in (x, y, o, q, all_ones o)
    where
      all_ones : {x y : ℕ} (o : Side w x y) → side_pick o 1 1 1 ≡ 1
      all_ones side-m = refl
      all_ones side-u = refl
      all_ones side-v = refl

  marked-base : (j : ℕ) → j < t → get_or marks j 0 ≡ 1 → is_split k l t marks (base (row_at l j)) ≡ true
  marked-base j h e = start-in l t once-each k marks s long clear j (base (row_at l j)) h e (starts-base k (row_at l j))

  split-as : (j : ℕ) → j < t → (c : Note) → note_at (closed_notes k l t marks s) j ≡ c → {x y : ℕ} (o : Side (row_at l j) x y) →
      said_at l (closed_notes k l t marks s) j x y ≡ side_pick o c.m c.u c.v
  split-as j h c e {x} {y} o = ap (λ (d : Note). split_on (row_at l j) d x y) e ∙ on-side (row_at l j) (rows_named j h) o _ _ _

  first_bit : (k : Manner) → (starred k).m ≡ 1
  first_bit Newest = refl
  first_bit AllThree = refl

  -- THE NOTES THAT CLOSE LEAVES tell of the edges to be split
  pub closed-tells : Tells l t (is_split k l t marks) (closed_notes k l t marks s)
  closed-tells = record {
    base-told = λ j h. base-bit j h (ℕ_discrete (get_or marks j 0) 1);
    sound = λ j h o e. in-set j h o e (ℕ_discrete (get_or marks j 0) 1);
    told = λ e m. ⊎_elim (from_start e) (from-base e) (closed-held l t once-each k marks s long clear e m);
  }
    where
      base-bit : (j : ℕ) → j < t → Dec (get_or marks j 0 ≡ 1) → (note_at (closed_notes k l t marks s) j).m ≡ bit (is_split k l t marks (base (row_at l j)))
      base-bit j h (yes e) = ap (λ (c : Note). c.m) (note-starred j h e) ∙ first_bit k ∙ ap bit (sym (marked-base j h e))
      base-bit j h (no o) = ap (λ (c : Note). c.m) (note-bare j h o)

      bare-in : (j : ℕ) (b : Bool) → is_split k l t marks (base (row_at l j)) ≡ b → {x y : ℕ} (o : Side (row_at l j) x y) → side_pick o (bit b) 0 0 ≡ 1 → is_split k l t marks (edge x y) ≡ true
      bare-in j true q side-m e = q
      bare-in j false q side-m e = absurd (omega arith)
      bare-in j b q side-u e = absurd (omega arith)
      bare-in j b q side-v e = absurd (omega arith)

      in-set : (j : ℕ) → j < t → {x y : ℕ} (o : Side (row_at l j) x y) → said_at l (closed_notes k l t marks s) j x y ≡ 1 → Dec (get_or marks j 0 ≡ 1) → is_split k l t marks (edge x y) ≡ true
      in-set j h {x} {y} o e (yes m) = start-in l t once-each k marks s long clear j (edge x y) h m (starred-in k (row_at l j) o (sym (split-as j h (starred k) (note-starred j h m) o) ∙ e))
      in-set j h o e (no m) = bare-in j (is_split k l t marks (base (row_at l j))) refl o (sym (split-as j h (bare (is_split k l t marks (base (row_at l j)))) (note-bare j h m) o) ∙ e)

      Told : Edge → Type 0
      Told e = (j : ℕ) × (j < t) × (x : ℕ) × (y : ℕ) × Side (row_at l j) x y × (e ≡ edge x y) × (said_at l (closed_notes k l t marks s) j x y ≡ 1)

      from_start : (e : Edge) → Starts l t once-each k marks s long clear e → Told e
      from_start e (j, h, m, i) =
          let (x, y, o, q, one) = in-starred k (row_at l j) e i in
          (j, h, x, y, o, q, split-as j h (starred k) (note-starred j h m) o ∙ one)

      from-base : (e : Edge) → (j : ℕ) × (j < t) × (is_split k l t marks (base (row_at l j)) ≡ true) × (base (row_at l j) ≡ e) → Told e
      from-base e (j, h, m, q) = (
        j,
        h,
        (row_at l j).q,
        (row_at l j).r,
        side-m,
        sym q,
        on-side (row_at l j) (rows_named j h) side-m _ _ _ ∙ base-bit j h (ℕ_discrete (get_or marks j 0) 1) ∙ ap bit m,
      )
