-- W2, "Name the bad row", of the lines that field staff read: the culprit's four digits in an answer, read as a number, are what its
-- number names in the mesh that the call was made on; and W8's field, read off the answer of `0a`. Assumes nothing.
use Rattle.std.specs.Prelude.{◌≡◌, Bool, true, false, List, ℕ, zero, suc, ◌≤◌, ◌<◌, eqb, length}
use Rattle.std.proofs.Common.{arith, ne_eqb}
use Rattle.lists.specs.Lists.{any, cases}
use Rattle.meaning.specs.declared.Correction.{Correction}
use Rattle.meaning.specs.Mesh.{Mesh, edges}
use Rattle.meaning.specs.Lawful.{InBounds, Names, names-3, names-4, names-5, names-6, names-7, names-none}
use Rattle.meaning.specs.Setting.{SetNames, names-stored, names-given}
use Rattle.meaning.specs.Split.{way_of, split_edges, started, wholly}
use Rattle.meaning.specs.Tables.{Given, Outcome, mesh_of}
use Rattle.meaning.specs.Calls.{if_done, check_out, refine_by_out}
use Rattle.laws.specs.CallLaw.{check-names, refine-names, coarsen-names, restore-names, set-call-names}
use Rattle.laws.specs.TableMesh.{nodes-count, rows-count}
use Rattle.text.specs.Digits.{number, listed}
use Rattle.text.specs.LinesAre.{culprit-read, red-read}
use Rattle.protocol.specs.Frames.{Held, given_by, refines_in, marks_of, called, frame}
use Rattle.fitting.specs.Lent.{WholeHeld}
use Rattle.fitting.specs.Stays.{pick, of-called}

-- what is said with a number is what the number names
record Blames (g : Given) (o : Outcome) : Type 0 where
  names : Names (mesh_of g) o.answer.number o.answer.culprit

-- what `08` says to set is in range, so that its refusals name what the mesh's do
in-bounds-names : {m : Mesh} {z k y : ℕ} {v : Correction} → InBounds v → SetNames m z v k y → Names m k y
in-bounds-names b (names-stored n) = n
in-bounds-names b (names-given _ out) = absurd (out b)

module _ (h : Held) (kind : ℕ) (fields : List ℕ) where
  called-blames : Blames (given_by h) (called h kind fields).outcome
  called-blames =
      let g : Given = given_by h in
      let n0 : ℕ = h.session.n0 in
      of-called (Blames g) h kind fields (pick (Blames g) (eqb (check_out g).answer.number 0) (record { names = check-names g }) (record { names = check-names g }))
      (λ k q marks. record { names = refine-names g n0 (way_of k q) marks })
      (λ marks. record { names = coarsen-names g n0 marks })
      (λ z v b. record { names = in-bounds-names b (set-call-names g n0 z v) })
      (record { names = restore-names g n0 })

-- a culprit is below the rooms, or 0: four digits are enough for it
few : {m : Mesh} {k z : ℕ} → Names m k z → length m.nodes ≤ 512 → length m.tris ≤ 1024 → z < 65536
few (names-3 f) a b = omega (arith, f.below)
few (names-4 f) a b = omega (arith, f.below)
few (names-5 f) a b = omega (arith, f.below)
few (names-6 f) a b = omega (arith, f.below)
few (names-7 f) a b = omega (arith, f.below)
few (names-none k o) a b = omega arith

-- THE CULPRIT'S FOUR DIGITS NAME IT, whatever kind answers: the last four, in front of W8's field in the answer of `0a`.
pub culprit-read-off : (h : Held) (ol kind : ℕ) (fields : List ℕ) → WholeHeld h ol → (kind ≡ 1 → ⊥) → (kind ≡ 2 → ⊥) → (kind ≡ 7 → ⊥) →
    Names (mesh_of (given_by h)) (called h kind fields).outcome.answer.number (number 4 (frame h kind fields).text 16)
unfolding frame
culprit-read-off h ol kind fields w a b c =
    let n = (called-blames h kind fields).names in
    let f = few n (omega (arith, nodes-count (given_by h), w.few-nodes)) (omega (arith, rows-count (given_by h), w.few-rows)) in
    rw (ne_eqb kind 1 a, ne_eqb kind 2 b, ne_eqb kind 7 c, culprit-read kind (record { answer = (called h kind fields).outcome.answer; red = (called h kind fields).red }) f) n

-- W8's field is 0 or 1: two digits are enough for it
field-small : (k : ℕ) (b : Bool) → if_done k (cases b 1 0) < 256
field-small zero true = omega arith
field-small zero false = omega arith
field-small (suc k) b = omega arith

-- THE LAST TWO DIGITS OF THE ANSWER OF `0a` ARE THAT FIELD.
pub red-read-off : (h : Held) (fields : List ℕ) → number 2 (frame h 0x0a fields).text 20 ≡ (called h 0x0a fields).red
unfolding frame called refines_in refine_by_out
red-read-off h fields =
    let o = called h 0x0a fields in
    let g = given_by h in
    let ts = (mesh_of g).tris in
    let s = split_edges (mesh_of g) (started edges (marks_of h.session.t (listed fields)) ts) in
    red-read (record { answer = o.outcome.answer; red = o.red }) (field-small o.outcome.answer.number (any (wholly s) ts))
