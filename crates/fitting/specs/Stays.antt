-- What a line leaves fits the program: no line changes a table's length or brings a count past its room, and no answer is longer than
-- the buffer. Assumes nothing.
use Rattle.std.specs.Prelude.{◌≡◌, refl, Bool, true, false, List, [], Option, Some, None, ℕ, zero, suc, ◌*◌, ◌≤◌, eqb, pos}
use Rattle.std.proofs.Math.Path.{ap}
use Rattle.std.proofs.Common.{◌∙◌, arith, eqb-true}
use Rattle.std.proofs.Math.ListN.{length}
use Rattle.std.proofs.lemmas.List.{length-replicate}
use Rattle.lists.specs.Lists.{cases}
use Rattle.lists.specs.ListsLaw.{and_right}
use Rattle.meaning.specs.declared.Correction.{Correction}
use Rattle.meaning.specs.Fault.{Fault}
use Rattle.meaning.specs.declared.Manner.{Manner}
use Rattle.meaning.specs.declared.Quarters.{Quarters}
use Rattle.meaning.specs.Mesh.{Mesh}
use Rattle.meaning.specs.Lawful.{InBounds, refusal}
use Rattle.meaning.specs.Split.{way_of, refined}
use Rattle.meaning.specs.Coarsen.{coarsened, Restored, restored}
use Rattle.meaning.specs.Setting.{corrected, set_fault}
use Rattle.meaning.specs.Tables.{Given, Outcome, mesh_of, room_of}
use Rattle.meaning.specs.Calls.{TintedOut, tinted, culprit_of, says_of, check_no, refine_no, coarsen_no, refines, coarsens, restores, sets, sizes_fit, untouched, leaves, sized, check_out, refine_out, refine_by_out, coarsen_out, restore_out, set_out}
use Rattle.laws.specs.Coarsen.{coarsened-count, coarsened-rows}
use Rattle.laws.specs.Refine.{manner-done}
use Rattle.laws.specs.Restore.{restored-fewer, restored-rows}
use Rattle.laws.specs.Setting.{corrected-count, corrected-places}
use Rattle.laws.specs.TableMesh.{nodes-count, rows-count, filled-length, done-nodes, done-rows}
use Rattle.tables.specs.PutLaw.{length-set_node, length-set_row}
use Rattle.text.specs.Digits.{field, listed}
use Rattle.text.specs.Lines.{correction_in, node_in, row_in}
use Rattle.text.specs.LinesAre.{correction-bounds, answer-longest, all-length}
use Rattle.protocol.specs.Frames.{Held, held, session, given_by, Step, step, refines_in, if_refines, well_formed, admits, takes, kind_of, fields_of, add_node, add_row, or_dropped, marks_of, called, session_after, answering, frame, line_step}
use Rattle.fitting.specs.Lent.{WholeHeld}
use Rattle.admit.specs.AdmitLaw.{node-room, row_room}

-- ---- what holds of all that a call of a line may leave holds of what it leaves

module _ {A : Type 0} (P : A → Type 0) where
  pub pick : (b : Bool) {x y : A} → P x → P y → P (cases b x y)
  pick true p q = p
  pick false p q = q

  pick-refining : (r : Option (Manner × Quarters)) {f : Manner → Quarters → A} {y : A} → ((k : Manner) (q : Quarters) → P (f k q)) → P y → P (if_refines r f y)
  pick-refining (Some way) p _ = p way.0 way.1
  pick-refining None _ p = p

pub of-called : (P : Outcome → Type 0) (h : Held) (kind : ℕ) (fields : List ℕ) → P (or_dropped (check_out (given_by h))) →
    ((k : Manner) (q : Quarters) (marks : List ℕ) → P (refine_out (way_of k q) (given_by h) h.session.n0 marks)) →
    ((marks : List ℕ) → P (coarsen_out (given_by h) h.session.n0 marks)) →
    ((z : ℕ) (v : Correction) → InBounds v → P (set_out (given_by h) h.session.n0 z v)) → P (restore_out (given_by h) h.session.n0) → P (called h kind fields).outcome
unfolding called refine_by_out
of-called P h kind fields a b c d e =
    let Q : TintedOut → Type 0 = λ x. P x.outcome in
    pick Q (eqb kind 3) a
    (pick-refining Q (refines_in kind) (λ k q. b k q (marks_of h.session.t (listed fields)))
    (pick Q (eqb kind 5) (c (marks_of h.session.n (listed fields)))
    (pick Q (eqb kind 8) (d (field 4 fields 0) (correction_in fields 1) (correction-bounds fields 1))
    e)))

-- ---- what a call leaves: lengths as they were, counts within them

record Sound (g : Given) (o : Outcome) : Type 0 where
  nodes : length o.nodes ≡ length g.nodes
  rows : length o.rows ≡ length g.rows
  scratch : length o.scratch ≡ length g.scratch
  n : 4 * o.answer.n ≤ length g.nodes
  t : 3 * o.answer.t ≤ length g.rows

record Counted (g : Given) (m : Mesh) : Type 0 where
  nodes : 4 * length m.nodes ≤ length g.nodes
  rows : 3 * length m.tris ≤ length g.rows

module _ (g : Given) (a : 4 * g.n ≤ length g.nodes) (b : 3 * g.t ≤ length g.rows) where
  sound-untouched : (k c : ℕ) → Sound g (untouched g k c)
  sound-untouched k c = record { nodes = refl; rows = refl; scratch = length-replicate (length g.scratch) 0; n = a; t = b }

  sound-sized : (n0 k c : ℕ) (old new : Mesh) (p : ℕ) → (k ≡ 0 → Counted g new) → Sound g (sized g n0 (leaves g (says_of k c old new p)))
  sound-sized n0 k c old new p = go (sizes_fit g n0) k
    where
      go : (x : Bool) (k : ℕ) → (k ≡ 0 → Counted g new) → Sound g (cases x (leaves g (says_of k c old new p)) (untouched g 1 0))
      go false k h = sound-untouched 1 0
      go true (suc k) h = sound-untouched (suc k) c
      go true zero h =
          let f = h refl in
          record {
            nodes = done-nodes g new p f.nodes f.rows;
            rows = done-rows g new p f.nodes f.rows;
            scratch = length-replicate (length g.scratch) 0;
            n = f.nodes;
            t = f.rows;
          }

  counted-less : (m : Mesh) → length m.nodes ≤ length (mesh_of g).nodes → length m.tris ≤ length (mesh_of g).tris → Counted g m
  counted-less m h k = record { nodes = omega (arith, nodes-count g); rows = omega (arith, rows-count g) }

  sound-dropped : (o : Outcome) → Sound g o → Sound g (or_dropped o)
  sound-dropped o s =
      pick (Sound g) (eqb o.answer.number 0) s
      (record {
        nodes = filled-length (pos 0) (length o.nodes) [] (omega arith) ∙ s.nodes;
        rows = filled-length 0 (length o.rows) [] (omega arith) ∙ s.rows;
        scratch = s.scratch;
        n = omega arith;
        t = omega arith;
      })

  sound-check : Sound g (check_out g)
  unfolding check_out
  sound-check = pick (Sound g) (sizes_fit g 0) (sound-untouched (check_no (mesh_of g)) (culprit_of (mesh_of g) (check_no (mesh_of g)))) (sound-untouched 1 0)

  sound-refine : (k : Manner) (q : Quarters) (n0 : ℕ) (marks : List ℕ) → Sound g (refine_out (way_of k q) g n0 marks)
  unfolding refine_out refines
  sound-refine k q n0 marks =
      let m = mesh_of g in
      let no = refine_no (way_of k q) (room_of g) m marks in
      sound-sized n0 no (culprit_of m no) m (refined (way_of k q) m marks) 0
      (λ e. let f = (manner-done k q (room_of g) m marks e).fit in record { nodes = omega (arith, f.nodes-fit); rows = omega (arith, f.rows_fit) })

  sound-coarsen : (n0 : ℕ) (marks : List ℕ) → Sound g (coarsen_out g n0 marks)
  unfolding coarsen_out coarsens
  sound-coarsen n0 marks =
      let m = mesh_of g in
      sound-sized n0 (coarsen_no m marks) (culprit_of m (coarsen_no m marks)) m (coarsened n0 m marks) 0 (λ e. counted-less (coarsened n0 m marks) (omega (arith, coarsened-count n0 m marks)) (coarsened-rows n0 m marks))

  sound-restore : (n0 : ℕ) → Sound g (restore_out g n0)
  unfolding restore_out restores
  sound-restore n0 =
      let m = mesh_of g in
      let r : Restored = restored n0 m in
      sound-sized n0 (refusal m) (culprit_of m (refusal m)) m r.end r.passes (λ e. counted-less r.end (omega (arith, restored-fewer n0 m)) (restored-rows n0 m))

  sound-set : (n0 z : ℕ) (v : Correction) → Sound g (set_out g n0 z v)
  unfolding set_out sets
  sound-set n0 z v =
      let m = mesh_of g in
      let f : Fault = set_fault n0 m z v in
      sound-sized n0 f.number f.at m (corrected m z v) 0
      (λ e. counted-less (corrected m z v) (omega (arith, corrected-count m z v)) (omega (arith, ap length (corrected-places m z v).rows_same)))

-- ---- what a line leaves

pub record Fine (ol : ℕ) (s : Step) : Type 0 where
  pub next : WholeHeld s.next ol
  pub few : length s.text ≤ 32768

fine-either : (ol : ℕ) (b : Bool) {x y : Step} → (b ≡ true → Fine ol x) → Fine ol y → Fine ol (cases b x y)
fine-either ol true p q = p refl
fine-either ol false p q = q

module _ (h : Held) (ol : ℕ) (w : WholeHeld h ol) where
  called-sound : (kind : ℕ) (fields : List ℕ) → Sound (given_by h) (called h kind fields).outcome
  called-sound kind fields =
      let g : Given = given_by h in
      let a : 4 * g.n ≤ length g.nodes = omega (arith, w.nodes, w.few-nodes) in
      let b : 3 * g.t ≤ length g.rows = omega (arith, w.rows, w.few-rows) in
      of-called (Sound g) h kind fields (sound-dropped g a b (check_out g) (sound-check g a b)) (λ k q. sound-refine g a b k q h.session.n0) (sound-coarsen g a b h.session.n0)
      (λ z v _. sound-set g a b h.session.n0 z v)
      (sound-restore g a b h.session.n0)

  answering-fine : (kind : ℕ) (o : Outcome) (r : ℕ) → Sound (given_by h) o → Fine ol (answering h kind (tinted o r))
  unfolding session_after
  answering-fine kind o r s = record { next = go (eqb kind 3); few = omega (arith, answer-longest kind (record { answer = o.answer; red = r })) }
    where
      whole : (n0 : ℕ) (b : Bool) → WholeHeld (held o.nodes o.rows o.scratch (session o.answer.n o.answer.t n0 b)) ol
      whole n0 b = record {
        nodes = s.nodes ∙ w.nodes;
        rows = s.rows ∙ w.rows;
        scratch = s.scratch ∙ w.scratch;
        out = w.out;
        few-nodes = omega (arith, s.n, w.nodes);
        few-rows = omega (arith, s.t, w.rows);
      }

      go : (x : Bool) → WholeHeld (held o.nodes o.rows o.scratch (cases x (session o.answer.n o.answer.t o.answer.n (eqb o.answer.number 0)) (session o.answer.n o.answer.t h.session.n0 h.session.accepted))) ol
      go true = whole o.answer.n (eqb o.answer.number 0)
      go false = whole h.session.n0 h.session.accepted

  module _ (kind : ℕ) (fields : List ℕ) (y : admits h.session kind fields ≡ true) where
    node-fine : kind ≡ 1 → Fine ol (step (add_node h fields) [])
    unfolding add_node
    node-fine e =
        let r = node-room h.session kind fields y e in
        record {
          next = record {
            nodes = length-set_node h.nodes h.session.n (node_in fields) ∙ w.nodes;
            rows = w.rows;
            scratch = w.scratch;
            out = w.out;
            few-nodes = omega arith;
            few-rows = w.few-rows;
          };
          few = omega arith;
        }

    row_fine : kind ≡ 2 → Fine ol (step (add_row h fields) [])
    unfolding add_row
    row_fine e =
        let r = row_room h.session kind fields y e in
        record {
          next = record {
            nodes = w.nodes;
            rows = length-set_row h.rows h.session.t (row_in fields) ∙ w.rows;
            scratch = w.scratch;
            out = w.out;
            few-nodes = w.few-nodes;
            few-rows = omega arith;
          };
          few = omega arith;
        }

    frame-fine : Fine ol (frame h kind fields)
    unfolding frame
    frame-fine =
        fine-either ol (eqb kind 1) (λ e. node-fine (eqb-true kind 1 e))
        (fine-either ol (eqb kind 2) (λ e. row_fine (eqb-true kind 2 e))
        (fine-either ol (eqb kind 7)
        (λ e. record { next = w; few = omega (arith, all-length h.nodes h.rows h.session.n h.session.t, w.few-nodes, w.few-rows) })
        (answering-fine kind (called h kind fields).outcome (called h kind fields).red (called-sound kind fields))))

-- whatever line comes
pub line-fine : (h : Held) (ol : ℕ) (line : List ℕ) → WholeHeld h ol → Fine ol (line_step h line)
unfolding line_step takes
line-fine h ol line w =
    fine-either ol (takes h.session line)
    (λ e. frame-fine h ol w (kind_of line) (fields_of line) (and_right (well_formed line) (admits h.session (kind_of line) (fields_of line)) e))
    (record { next = w; few = omega arith })
