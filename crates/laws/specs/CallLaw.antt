-- What any call leaves in the tables it was lent: 1 exactly if the sizes do not fit, else its number for the mesh; the culprit that the number
-- names; after 0 the tables hold the new mesh and zeros past it; refused, they are as they were. Assumes nothing.
use Rattle.std.specs.Prelude.{Bool, false, ◌&&◌, List, ◌↔◌, ◌≢◌, ◌≡◌, refl, ℕ, zero, suc, ◌+◌, ◌-◌, ◌*◌, ◌%◌, ◌≤◌, pos, length, get_or, replicate}
use Rattle.std.proofs.Math.Bool.{true}
use Rattle.std.proofs.Common.{inl, sym, subst, ap, ◌∙◌, arith, get_or-append-add}
use borrow.Author.Tests.{eqb-true, eq-eqb, leb-true, le-leb}
use Rattle.lists.specs.Lists.{cases}
use Rattle.lists.specs.ListsLaw.{and_left, and_right}
use Rattle.meaning.specs.declared.Correction.{Correction}
use Rattle.meaning.specs.declared.Place.{Place}
use Rattle.meaning.specs.Mesh.{Mesh, correction}
use Rattle.meaning.specs.Tables.{Given, Outcome, node_form, row_form, mesh_of, room_of, flat_nodes, flat_rows, filled, cleared}
use Rattle.meaning.specs.Lawful.{Names, names-none, refusal}
use Rattle.meaning.specs.Split.{Way, refined}
use Rattle.meaning.specs.Coarsen.{coarsened, restored}
use Rattle.meaning.specs.Setting.{corrected, set_fault, SetNames, names-stored}
use Rattle.meaning.specs.Asking.{correction_at}
use Rattle.meaning.specs.Calls.{marks_fit, culprit_of, says_of, says, check_no, refine_no, coarsen_no, refines, coarsens, restores, sets, sizes_fit, untouched, done, leaves, sized, check_out, refine_out, coarsen_out, restore_out, set_out, ask_no, told, asks, Heard, ask_out}
use Rattle.laws.specs.Exact.{unfit}
use Rattle.laws.specs.Marks.{marks-exact, ones-fit}
use Rattle.laws.specs.Culprit.{Due, names-exact, culprit-names, culprit-none, check-due, refine-due, coarsen-due, restore-due, ask-due}
use Rattle.laws.specs.Setting.{corrected-count, corrected-places, set-names, set-nobody}
use Rattle.laws.specs.TableMesh.{nodes-count, rows-count, flat-nodes-length, flat-rows-length, tables_after, done-mesh, done-nodes, done-rows}

-- ---- sizes

-- none of "a table length is not a multiple of its row, a room or count breaks the sizes above, or scratch is short"
pub record Sizes (g : Given) (n0 : ℕ) : Type 0 where
  pub nodes-whole : length g.nodes % node_form.width ≡ 0
  pub rows_whole : length g.rows % row_form.width ≡ 0
  pub few-nodes : (room_of g).nodes ≤ 1024
  pub few-rows : (room_of g).rows ≤ 2048
  pub n-fits : g.n ≤ (room_of g).nodes
  pub t-fits : g.t ≤ (room_of g).rows
  pub n0-fits : n0 ≤ g.n
  pub scratch-fits : 4 * ((room_of g).nodes + (room_of g).rows) ≤ length g.scratch

and_parts : (a b : Bool) → a && b ≡ true → (a ≡ true) × (b ≡ true)
and_parts a b e = (and_left a b e, and_right a b e)

module _ (g : Given) (n0 : ℕ) where
  pub sizes-exact : (sizes_fit g n0 ≡ true) ↔ Sizes g n0
  unfolding sizes_fit
  sizes-exact = (
    there,
    λ s.
        rw (eq-eqb _ _ s.nodes-whole, eq-eqb _ _ s.rows_whole, le-leb _ _ s.few-nodes, le-leb _ _ s.few-rows, le-leb _ _ s.n-fits, le-leb _ _ s.t-fits, le-leb _ _ s.n0-fits, le-leb _ _ s.scratch-fits),
  )
    where
      there : sizes_fit g n0 ≡ true → Sizes g n0
      there e =
          let (e7, h) = and_parts _ _ e in
          let (e6, g) = and_parts _ _ e7 in
          let (e5, f) = and_parts _ _ e6 in
          let (e4, e) = and_parts _ _ e5 in
          let (e3, d) = and_parts _ _ e4 in
          let (e2, c) = and_parts _ _ e3 in
          let (a, b) = and_parts _ _ e2 in
          record {
            nodes-whole = eqb-true _ _ a;
            rows_whole = eqb-true _ _ b;
            few-nodes = leb-true _ _ c;
            few-rows = leb-true _ _ d;
            n-fits = leb-true _ _ e;
            t-fits = leb-true _ _ f;
            n0-fits = leb-true _ _ g;
            scratch-fits = leb-true _ _ h;
          }

  pub sizes-unfit : (sizes_fit g n0 ≡ false) ↔ (¬ Sizes g n0)
  sizes-unfit = unfit (sizes_fit g n0) sizes-exact

-- other counts, n0 and scratch, in tables of the same lengths
pub sizes-again : {g h : Given} {n0 m0 : ℕ} → Sizes g n0 → length h.nodes ≡ length g.nodes → length h.rows ≡ length g.rows →
    node_form.width * h.n ≤ length h.nodes → row_form.width * h.t ≤ length h.rows → m0 ≤ h.n → 4 * ((room_of g).nodes + (room_of g).rows) ≤ length h.scratch → Sizes h m0
sizes-again s a b n t m0 c = record {
  nodes-whole = rw a s.nodes-whole;
  rows_whole = rw b s.rows_whole;
  few-nodes = rw a s.few-nodes;
  few-rows = rw b s.few-rows;
  n-fits = omega arith;
  t-fits = omega arith;
  n0-fits = m0;
  scratch-fits = rw (a, b) c;
}

-- ---- the number

-- what a call says of tables: 1 if the sizes do not fit, else what it says of the mesh
pub data Says (g : Given) (n0 : ℕ) (Of : ℕ → Type 0) : ℕ → Type 0 where
  ill-sized : ¬ Sizes g n0 → Says g n0 Of 1
  of-mesh : (k : ℕ) → Sizes g n0 → Of k → Says g n0 Of k

module _ (g : Given) (n0 k : ℕ) where
  pub says-exact : (Of : ℕ → Type 0) → ((j : ℕ) → (k ≡ j) ↔ Of j) → (j : ℕ) → (cases (sizes_fit g n0) k 1 ≡ j) ↔ Says g n0 Of j
  says-exact Of exact j = (λ e. go (sizes_fit g n0) refl e, back)
    where
      go : (b : Bool) → sizes_fit g n0 ≡ b → cases b k 1 ≡ j → Says g n0 Of j
      go true q e = of-mesh j ((sizes-exact g n0).0 q) ((exact j).0 e)
      go false q e = subst (Says g n0 Of) e (ill-sized ((sizes-unfit g n0).0 q))

      back : {j : ℕ} → Says g n0 Of j → cases (sizes_fit g n0) k 1 ≡ j
      back (ill-sized n) = rw ((sizes-unfit g n0).1 n)
      back (of-mesh j s h) = rw ((sizes-exact g n0).1 s) ((exact j).1 h)

  pub says-1 : k ≢ 1 → (cases (sizes_fit g n0) k 1 ≡ 1) ↔ (¬ Sizes g n0)
  says-1 n = (λ e s. n (rw ((sizes-exact g n0).1 s) at e), λ u. rw ((sizes-unfit g n0).1 u))

-- ---- the tables

-- a refusal: "the counts it was given and 0 passes. It changes no node, triangle or mark."
pub record AsGiven (g : Given) (o : Outcome) : Type 0 where
  pub nodes-same : o.nodes ≡ g.nodes
  pub rows_same : o.rows ≡ g.rows
  pub n-same : o.answer.n ≡ g.n
  pub t_same : o.answer.t ≡ g.t
  pub no-passes : o.answer.passes ≡ 0

-- done: the tables, of the same lengths, hold the new mesh; "node and triangle entries past the new counts are zero"
pub record Holds (g : Given) (new : Mesh) (o : Outcome) : Type 0 where
  pub mesh-is : mesh_of (tables_after o) ≡ new
  pub nodes-long : length o.nodes ≡ length g.nodes
  pub rows_long : length o.rows ≡ length g.rows
  pub nodes-past : (i : ℕ) → node_form.width * o.answer.n ≤ i → get_or o.nodes i (pos 0) ≡ pos 0
  pub rows-past : (i : ℕ) → row_form.width * o.answer.t ≤ i → get_or o.rows i 0 ≡ 0

-- a call's outcome, k being its number for the mesh, c the culprit that it names, new the mesh that it makes, p its passes
pub record CallLeaves (g : Given) (n0 k c : ℕ) (new : Mesh) (p : ℕ) (o : Outcome) : Type 0 where
  pub number-said : o.answer.number ≡ cases (sizes_fit g n0) k 1
  pub culprit-said : o.answer.culprit ≡ cases (sizes_fit g n0) c 0
  pub sized-and-0 : o.answer.number ≡ 0 → Sizes g n0 × (k ≡ 0)
  pub done-is : o.answer.number ≡ 0 → o ≡ done g new p
  pub refusal-leaves : o.answer.number ≢ 0 → AsGiven g o
  pub scratch-zero : o.scratch ≡ cleared g.scratch

replicate-reads : {A : Type 0} (z : A) (k j : ℕ) → get_or (replicate k z) j z ≡ z
replicate-reads z zero j = refl
replicate-reads z (suc k) zero = refl
replicate-reads z (suc k) (suc j) = replicate-reads z k j

filled-past : {A : Type 0} (z : A) (len : ℕ) (xs : List A) (i : ℕ) → length xs ≤ i → get_or (filled z len xs) i z ≡ z
filled-past z len xs i h =
    let e : i ≡ length xs + (i - length xs) = omega arith in
    subst (λ (j : ℕ). get_or (filled z len xs) j z ≡ z) (sym e) (get_or-append-add xs (replicate (len - length xs) z) (i - length xs) z ∙ replicate-reads z (len - length xs) (i - length xs))

pub done-holds : (g : Given) (m : Mesh) (k : ℕ) → node_form.width * length m.nodes ≤ length g.nodes → row_form.width * length m.tris ≤ length g.rows → Holds g m (done g m k)
done-holds g m k a b = record {
  mesh-is = done-mesh g m k;
  nodes-long = done-nodes g m k a b;
  rows_long = done-rows g m k a b;
  nodes-past = λ i h. filled-past (pos 0) (length g.nodes) (flat_nodes m.nodes) i (omega (arith, flat-nodes-length m.nodes));
  rows-past = λ i h. filled-past 0 (length g.rows) (flat_rows m.tris) i (omega (arith, flat-rows-length m.tris));
}

untouched-as-given : (g : Given) (j c : ℕ) → AsGiven g (untouched g j c)
untouched-as-given g j c = record { nodes-same = refl; rows_same = refl; n-same = refl; t_same = refl; no-passes = refl }

-- WHAT A CALL LEAVES, whatever it is given; with 0 it names nobody.
pub call-leaves : (g : Given) (n0 k c : ℕ) (new : Mesh) (p : ℕ) → (k ≡ 0 → c ≡ 0) → CallLeaves g n0 k c new p (sized g n0 (leaves g (says_of k c (mesh_of g) new p)))
call-leaves g n0 k c new p none = go (sizes_fit g n0) refl k none
  where
    refused : (b : Bool) → sizes_fit g n0 ≡ b → (k j : ℕ) → suc j ≡ cases b k 1 → CallLeaves g n0 k c new p (untouched g (suc j) (cases b c 0))
    refused b q k j e = record {
      number-said = rw (q, e);
      culprit-said = rw q;
      sized-and-0 = λ e. absurd (omega arith);
      done-is = λ e. absurd (omega arith);
      refusal-leaves = λ n. untouched-as-given g (suc j) (cases b c 0);
      scratch-zero = refl;
    }

    go : (b : Bool) → sizes_fit g n0 ≡ b → (k : ℕ) → (k ≡ 0 → c ≡ 0) → CallLeaves g n0 k c new p (cases b (leaves g (says_of k c (mesh_of g) new p)) (untouched g 1 0))
    go true q zero z = record { number-said = rw q; culprit-said = rw (q, z refl); sized-and-0 = λ e. ((sizes-exact g n0).0 q, refl); done-is = λ e. refl; refusal-leaves = λ n. absurd (n refl); scratch-zero = refl }
    go true q (suc k) z = refused true q (suc k) k refl
    go false q k z = refused false q k 0 refl

-- a call that names what the mesh itself draws
mesh-leaves : (g : Given) (n0 k : ℕ) (new : Mesh) (p : ℕ) → CallLeaves g n0 k (culprit_of (mesh_of g) k) new p (sized g n0 (leaves g (says k (mesh_of g) new p)))
mesh-leaves g n0 k new p = call-leaves g n0 k (culprit_of (mesh_of g) k) new p (λ e. culprit-none (mesh_of g) k (inl (omega arith)))

-- What every call says, and what a refusal leaves; Of k: the number k is due; Blames k z: with k the culprit is z.
pub record AnswersBy (g : Given) (n0 : ℕ) (Of : ℕ → Type 0) (Blames : ℕ → ℕ → Type 0) (o : Outcome) : Type 0 where
  -- 1 exactly if the sizes do not fit
  pub says-1-exactly : (o.answer.number ≡ 1) ↔ (¬ Sizes g n0)
  -- each number exactly when its line says, and no other
  pub says-exactly : (k : ℕ) → (o.answer.number ≡ k) ↔ Says g n0 Of k
  pub names : Blames o.answer.number o.answer.culprit
  -- refused: tables as they were, the counts given, 0 passes
  pub refused-as-given : o.answer.number ≢ 0 → AsGiven g o
  -- "It is all zero after every call, refused or not."
  pub scratch-all-zero : o.scratch ≡ cleared g.scratch

-- W2: the culprit is the lowest node or row at fault with 3 to 7, and 0 with every other number
abbrev pub Answers : Given → ℕ → (ℕ → Type 0) → Outcome → Type 0
Answers g n0 Of = AnswersBy g n0 Of (Names (mesh_of g))

pub call-answers : (g : Given) (n0 k : ℕ) (Of : ℕ → Type 0) (Blames : ℕ → ℕ → Type 0) (o : Outcome) → o.answer.number ≡ cases (sizes_fit g n0) k 1 → ((j : ℕ) → (k ≡ j) ↔ Of j) → ¬ Of 1 →
    Blames o.answer.number o.answer.culprit → (o.answer.number ≢ 0 → AsGiven g o) → o.scratch ≡ cleared g.scratch → AnswersBy g n0 Of Blames o
call-answers g n0 k Of Blames o e exact no1 named same zeroed = record {
  says-1-exactly = rw e (says-1 g n0 k (λ z. no1 ((exact 1).0 z)));
  says-exactly = rw e (says-exact g n0 k Of exact);
  names = named;
  refused-as-given = same;
  scratch-all-zero = zeroed;
}

-- THE CULPRIT SAID IS THE ONE THAT THE NUMBER NAMES, and no other.
pub culprit-exact : {g : Given} {n0 : ℕ} {Of : ℕ → Type 0} {o : Outcome} → Answers g n0 Of o → (z : ℕ) → (o.answer.culprit ≡ z) ↔ Names (mesh_of g) o.answer.number z
culprit-exact a = names-exact a.names

-- A call that makes no passes reports none.
pub leaves-no-passes : {g : Given} {n0 k c : ℕ} {new : Mesh} {o : Outcome} → CallLeaves g n0 k c new 0 o → o.answer.passes ≡ 0
leaves-no-passes {o = o} l = go o.answer.number refl
  where
    go : (j : ℕ) → o.answer.number ≡ j → o.answer.passes ≡ 0
    go zero e = ap (λ (x : Outcome). x.answer.passes) (l.done-is e)
    go (suc j) e = (l.refusal-leaves (λ z. omega arith)).no-passes

-- ---- the calls

-- "the base check writes no table but scratch"
pub record CheckLeaves (g : Given) (o : Outcome) : Type 0 where
  pub check-number : o.answer.number ≡ cases (sizes_fit g 0) (check_no (mesh_of g)) 1
  pub check-culprit : o.answer.culprit ≡ cases (sizes_fit g 0) (culprit_of (mesh_of g) (check_no (mesh_of g))) 0
  pub all-as-given : AsGiven g o
  pub scratch-zero : o.scratch ≡ cleared g.scratch

pub check-leaves : (g : Given) → CheckLeaves g (check_out g)
unfolding check_out
check-leaves g = go (sizes_fit g 0) refl
  where
    go : (b : Bool) → sizes_fit g 0 ≡ b → CheckLeaves g (cases b (untouched g (check_no (mesh_of g)) (culprit_of (mesh_of g) (check_no (mesh_of g)))) (untouched g 1 0))
    go true q = record { check-number = rw q; check-culprit = rw q; all-as-given = untouched-as-given g (check_no (mesh_of g)) (culprit_of (mesh_of g) (check_no (mesh_of g))); scratch-zero = refl }
    go false q = record { check-number = rw q; check-culprit = rw q; all-as-given = untouched-as-given g 1 0; scratch-zero = refl }

module _ (g : Given) (n0 : ℕ) where
  pub refine-leaves : (w : Way) (marks : List ℕ) → CallLeaves g n0 (refine_no w (room_of g) (mesh_of g) marks) (culprit_of (mesh_of g) (refine_no w (room_of g) (mesh_of g) marks)) (refined w (mesh_of g) marks) 0 (refine_out w g n0 marks)
  unfolding refine_out refines
  refine-leaves w marks = mesh-leaves g n0 (refine_no w (room_of g) (mesh_of g) marks) (refined w (mesh_of g) marks) 0

  pub coarsen-leaves : (marks : List ℕ) → CallLeaves g n0 (coarsen_no (mesh_of g) marks) (culprit_of (mesh_of g) (coarsen_no (mesh_of g) marks)) (coarsened n0 (mesh_of g) marks) 0 (coarsen_out g n0 marks)
  unfolding coarsen_out coarsens
  coarsen-leaves marks = mesh-leaves g n0 (coarsen_no (mesh_of g) marks) (coarsened n0 (mesh_of g) marks) 0

  pub set-leaves : (z : ℕ) (c : Correction) →
      CallLeaves g n0 (set_fault n0 (mesh_of g) z c).number (set_fault n0 (mesh_of g) z c).at (corrected (mesh_of g) z c) 0 (set_out g n0 z c)
  unfolding set_out sets
  set-leaves z c = call-leaves g n0 (set_fault n0 (mesh_of g) z c).number (set_fault n0 (mesh_of g) z c).at (corrected (mesh_of g) z c) 0 (set-nobody n0 (mesh_of g) z c)

  pub restore-leaves : CallLeaves g n0 (refusal (mesh_of g)) (culprit_of (mesh_of g) (refusal (mesh_of g))) (restored n0 (mesh_of g)).end (restored n0 (mesh_of g)).passes (restore_out g n0)
  unfolding restore_out restores
  restore-leaves = mesh-leaves g n0 (refusal (mesh_of g)) (restored n0 (mesh_of g)).end (restored n0 (mesh_of g)).passes

-- W2: each names the culprit of its number.
said-names : (g : Given) (n0 : ℕ) {k j c : ℕ} → Due (mesh_of g) k → j ≡ cases (sizes_fit g n0) k 1 → c ≡ cases (sizes_fit g n0) (culprit_of (mesh_of g) k) 0 → Names (mesh_of g) j c
said-names g n0 {k} due e f = rw (e, f) (go (sizes_fit g n0))
  where
    go : (b : Bool) → Names (mesh_of g) (cases b k 1) (cases b (culprit_of (mesh_of g) k) 0)
    go true = culprit-names (mesh_of g) k due
    go false = names-none 1 (inl (omega arith))

-- W6: a question leaves every table but scratch, and is told 1 where the sizes do not fit, else what it is told of the mesh
pub record AskLeaves (g : Given) (n0 : ℕ) (P : Place) (o : Heard) : Type 0 where
  pub told_is : o.told ≡ cases (sizes_fit g n0) (asks (mesh_of g) P) (told 1 0 (correction (pos 0) (pos 0)))
  pub ask-number : o.told.number ≡ cases (sizes_fit g n0) (ask_no (mesh_of g) P) 1
  pub ask-names : Names (mesh_of g) o.told.number o.told.culprit
  pub nodes-same : o.nodes ≡ g.nodes
  pub rows_same : o.rows ≡ g.rows
  pub scratch-zero : o.scratch ≡ cleared g.scratch

told-number : (k c : ℕ) (v : Correction) → (told k c v).number ≡ k
told-number zero c v = refl
told-number (suc k) c v = refl

pub ask-leaves : (g : Given) (n0 : ℕ) (P : Place) → AskLeaves g n0 P (ask_out g n0 P)
unfolding ask_out asks
ask-leaves g n0 P = record {
  told_is = refl;
  ask-number = number (sizes_fit g n0);
  ask-names = names (sizes_fit g n0) (ask_no (mesh_of g) P) refl;
  nodes-same = refl;
  rows_same = refl;
  scratch-zero = refl;
}
  where
    m : Mesh
    m = mesh_of g

    number : (b : Bool) → (cases b (told (ask_no m P) (culprit_of m (ask_no m P)) (correction_at m P)) (told 1 0 (correction (pos 0) (pos 0)))).number ≡ cases b (ask_no m P) 1
    number true = told-number (ask_no m P) (culprit_of m (ask_no m P)) (correction_at m P)
    number false = refl

    names : (b : Bool) (k : ℕ) → ask_no m P ≡ k →
        Names m (cases b (told k (culprit_of m k) (correction_at m P)) (told 1 0 (correction (pos 0) (pos 0)))).number (cases b (told k (culprit_of m k) (correction_at m P)) (told 1 0 (correction (pos 0) (pos 0)))).culprit
    names true zero e = names-none 0 (inl (omega arith))
    names true (suc k) e = subst (λ j. Names m j (culprit_of m j)) e (culprit-names m (ask_no m P) (ask-due m P))
    names false k e = names-none 1 (inl (omega arith))

pub check-names : (g : Given) → Names (mesh_of g) (check_out g).answer.number (check_out g).answer.culprit
check-names g = let c = check-leaves g in said-names g 0 (check-due (mesh_of g)) c.check-number c.check-culprit

module _ (g : Given) (n0 : ℕ) where
  call-names : {k p : ℕ} {new : Mesh} {o : Outcome} → Due (mesh_of g) k → CallLeaves g n0 k (culprit_of (mesh_of g) k) new p o → Names (mesh_of g) o.answer.number o.answer.culprit
  call-names due c = said-names g n0 due c.number-said c.culprit-said

  pub refine-names : (w : Way) (marks : List ℕ) → Names (mesh_of g) (refine_out w g n0 marks).answer.number (refine_out w g n0 marks).answer.culprit
  refine-names w marks = call-names (refine-due (mesh_of g) w (room_of g) marks) (refine-leaves g n0 w marks)

  pub coarsen-names : (marks : List ℕ) → Names (mesh_of g) (coarsen_out g n0 marks).answer.number (coarsen_out g n0 marks).answer.culprit
  coarsen-names marks = call-names (coarsen-due (mesh_of g) marks) (coarsen-leaves g n0 marks)

  pub restore-names : Names (mesh_of g) (restore_out g n0).answer.number (restore_out g n0).answer.culprit
  restore-names = call-names (restore-due (mesh_of g)) (restore-leaves g n0)

  -- W5: a setting names the node given where its value alone is out of range
  pub set-call-names : (z : ℕ) (c : Correction) → SetNames (mesh_of g) z c (set_out g n0 z c).answer.number (set_out g n0 z c).answer.culprit
  set-call-names z c = let l = set-leaves g n0 z c in rw (l.number-said, l.culprit-said) (go (sizes_fit g n0))
    where
      go : (b : Bool) → SetNames (mesh_of g) z c (cases b (set_fault n0 (mesh_of g) z c).number 1) (cases b (set_fault n0 (mesh_of g) z c).at 0)
      go true = set-names n0 (mesh_of g) z c
      go false = names-stored (names-none 1 (inl (omega arith)))

-- "Only restore reports passes; after 0 the other calls give 0 there." A refusal gives 0 too.
pub check-no-passes : (g : Given) → (check_out g).answer.passes ≡ 0
check-no-passes g = (check-leaves g).all-as-given.no-passes

pub refine-no-passes : (w : Way) (g : Given) (n0 : ℕ) (marks : List ℕ) → (refine_out w g n0 marks).answer.passes ≡ 0
refine-no-passes w g n0 marks = leaves-no-passes (refine-leaves g n0 w marks)

pub coarsen-no-passes : (g : Given) (n0 : ℕ) (marks : List ℕ) → (coarsen_out g n0 marks).answer.passes ≡ 0
coarsen-no-passes g n0 marks = leaves-no-passes (coarsen-leaves g n0 marks)

pub set-no-passes : (g : Given) (n0 z : ℕ) (c : Correction) → (set_out g n0 z c).answer.passes ≡ 0
set-no-passes g n0 z c = leaves-no-passes (set-leaves g n0 z c)

-- A setting changes no count.
pub set-counts : (g : Given) (n0 z : ℕ) (c : Correction) → ((set_out g n0 z c).answer.n ≡ g.n) × ((set_out g n0 z c).answer.t ≡ g.t)
set-counts g n0 z c = go (set_out g n0 z c).answer.number refl
  where
    l : CallLeaves g n0 (set_fault n0 (mesh_of g) z c).number (set_fault n0 (mesh_of g) z c).at (corrected (mesh_of g) z c) 0 (set_out g n0 z c)
    l = set-leaves g n0 z c

    go : (k : ℕ) → (set_out g n0 z c).answer.number ≡ k → ((set_out g n0 z c).answer.n ≡ g.n) × ((set_out g n0 z c).answer.t ≡ g.t)
    go zero e = (
      ap (λ (o : Outcome). o.answer.n) (l.done-is e) ∙ corrected-count (mesh_of g) z c ∙ nodes-count g,
      ap (λ (o : Outcome). o.answer.t) (l.done-is e) ∙ ap length (sym (corrected-places (mesh_of g) z c).rows_same) ∙ rows-count g,
    )
    go (suc k) e = let a = l.refusal-leaves (λ q. omega arith) in (a.n-same, a.t_same)

-- A restore that is refused leaves what its first full pass leaves, which is made on the tables as given.
pub restore-refused : (g : Given) (n0 : ℕ) → (restore_out g n0).answer.number ≢ 0 → restore_out g n0 ≡ coarsen_out g n0 (replicate g.n 1)
unfolding restore_out coarsen_out restores coarsens coarsen_no
restore-refused g n0 = rw marked (go (sizes_fit g n0) (refusal (mesh_of g)))
  where
    marked : marks_fit (length (mesh_of g).nodes) (replicate g.n 1) ≡ true
    marked = (marks-exact (length (mesh_of g).nodes) (replicate g.n 1)).1 (rw (nodes-count g) (ones-fit g.n))

    go : (b : Bool) (k : ℕ) → (cases b (leaves g (says k (mesh_of g) (restored n0 (mesh_of g)).end (restored n0 (mesh_of g)).passes)) (untouched g 1 0)).answer.number ≢ 0 →
        cases b (leaves g (says k (mesh_of g) (restored n0 (mesh_of g)).end (restored n0 (mesh_of g)).passes)) (untouched g 1 0)
        ≡ cases b (leaves g (says k (mesh_of g) (coarsened n0 (mesh_of g) (replicate g.n 1)) 0)) (untouched g 1 0)
    go true zero n = absurd (n refl)
    go true (suc k) n = refl
    go false k n = refl
