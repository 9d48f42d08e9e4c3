-- W6 OF THE CALL mesh::correction_at (crates/mesh/src/lib.rt): the premise is the equation that its contract ensures. Assumes nothing.
use Rattle.std.specs.Prelude.{Bool, true, false, ◌↔◌, ◌≢◌, ◌≡◌, refl, ℕ, pos}
use mathlib.Core.List.{Memᴰ}
use Rattle.std.proofs.Common.{sym, subst, ◌∙◌, arith}
use Rattle.lists.specs.Lists.{cases}
use Rattle.lists.specs.ListsLaw.{All-at}
use Rattle.meaning.specs.declared.Place.{Place}
use Rattle.meaning.specs.declared.Told.{Told}
use Rattle.meaning.specs.declared.Correction.{Correction}
use Rattle.meaning.specs.declared.Tri.{Tri}
use Rattle.meaning.specs.Mesh.{Mesh, correction, arrow, arrows, node_of, at, turn, twice_area}
use Rattle.meaning.specs.Lawful.{InBounds, Lawful, Names, row_of}
use Rattle.meaning.specs.Tables.{Given, mesh_of, cleared}
use Rattle.meaning.specs.Calls.{sizes_fit, ask_no, told, asks, Heard, ask_out}
use Rattle.meaning.specs.Asking.{HoldsPoint, weights, Covered, dx_of, dy_of, correction_in}
use Rattle.laws.specs.Late.{late-not-1}
use Rattle.laws.specs.Weights.{weights-sum}
use Rattle.laws.specs.RowMean.{CornerOf}
use Rattle.laws.specs.Asking.{AskSays, covered-past, MeanOf, Tells, refuses, answers, ask-exact, ask-0, ask-14, asks-exact, asks-refused, Between, told-between, told-in-range, told-corner, told-side}
use Rattle.laws.specs.CallLaw.{Sizes, sizes-exact, Says, says-exact, says-1, ask-leaves}

-- after 0: c was told of P
pub record AskDone (m : Mesh) (P : Place) (c : Correction) : Type 0 where
  -- by the lowest row that holds the point, as the exact mean rounded down, part by part: c times the twice-area is not above the weighted sum,
  -- and c + 1 times it is
  pub row : ℕ
  pub is-mean : MeanOf m P row c
  -- the weights are not below 0, and add up to the twice-area
  pub weights-from-0 : HoldsPoint m P (row_of m.tris row)
  pub weights-add-up : weights m P (row_of m.tris row) ≡ twice_area m (row_of m.tris row)
  -- between the least and the greatest of the three corrections, and so in their range
  pub is-between : Between (row_of m.tris row) (dx_of m) c.dx × Between (row_of m.tris row) (dy_of m) c.dy
  pub in-range : InBounds c
  -- at a corner what the node carries, exactly
  pub at-corner : {k : ℕ} → CornerOf (row_of m.tris row) k → P ≡ at m k → c ≡ (node_of m k).correction
  -- on a side that another row shares that row would have told the same
  pub on-shared-side : {u : Tri} {x y : ℕ} → Memᴰ u m.tris → Memᴰ (arrow x y) (arrows (row_of m.tris row)) → Memᴰ (arrow y x) (arrows u) → turn (at m x) (at m y) P ≡ pos 0 →
      correction_in m P u ≡ c

pub record AskMade (g : Given) (n0 : ℕ) (P : Place) (o : Heard) : Type 0 where
  -- 1 exactly if the sizes do not fit; each number exactly when its line says, and no other
  pub says-1-exactly : (o.told.number ≡ 1) ↔ (¬ Sizes g n0)
  pub says-exactly : (k : ℕ) → (o.told.number ≡ k) ↔ Says g n0 (AskSays (mesh_of g) P) k
  -- W2: the culprit is the lowest node or row at fault with 3 to 7, and 0 with every other number
  pub names : Names (mesh_of g) o.told.number o.told.culprit
  -- of a lawful mesh: refused as 14 exactly if no row holds the point, else not at all
  pub exactly-14 : Sizes g n0 → Lawful (mesh_of g) → (o.told.number ≡ 14) ↔ (¬ Covered (mesh_of g) P)
  pub exactly-0 : Sizes g n0 → Lawful (mesh_of g) → (o.told.number ≡ 0) ↔ Covered (mesh_of g) P
  -- "any refusal gives 0, 0"
  pub refused-with-0 : o.told.number ≢ 0 → o.told.correction ≡ correction (pos 0) (pos 0)
  pub tells-mean : o.told.number ≡ 0 → AskDone (mesh_of g) P o.told.correction
  -- refused or not: nothing is written but scratch, which is zero
  pub nodes-stay : o.nodes ≡ g.nodes
  pub rows_stay : o.rows ≡ g.rows
  pub scratch-all-zero : o.scratch ≡ cleared g.scratch

-- what is told, in tables whose sizes may not fit
module _ (m : Mesh) (P : Place) where
  abbrev told_of : Bool → Told
  told_of b = cases b (asks m P) (told 1 0 (correction (pos 0) (pos 0)))

  refused-0 : (b : Bool) → (told_of b).number ≢ 0 → (told_of b).correction ≡ correction (pos 0) (pos 0)
  refused-0 true n = asks-refused m P (omega (arith, n))
  refused-0 false n = refl

  done : Lawful m → (i : ℕ) (c : Correction) → MeanOf m P i c → AskDone m P c
  done law i c h = record {
    row = i;
    is-mean = h;
    weights-from-0 = h.lowest-holding.at-fault;
    weights-add-up = weights-sum m P (row_of m.tris i);
    is-between = told-between h;
    in-range = told-in-range h law;
    at-corner = told-corner h;
    on-shared-side = λ j. told-side h (All-at law.positive j);
  }

  mean-told : (b : Bool) → (told_of b).number ≡ 0 → AskDone m P (told_of b).correction
  mean-told true e = go ((asks-exact m P (asks m P)).0 refl) e
    where
      go : {r : Told} → Tells m P r → r.number ≡ 0 → AskDone m P r.correction
      go (refuses k z h s c) e = absurd (omega arith)
      go (answers law i c h) e = done law i c h
  mean-told false e = absurd (omega arith)

pub ask-call : (g : Given) (n0 : ℕ) (P : Place) (o : Heard) → o ≡ ask_out g n0 P → AskMade g n0 P o
ask-call g n0 P o e =
    let c = ask-leaves g n0 P in
    subst (AskMade g n0 P) (sym e)
    (record {
      says-1-exactly = rw c.ask-number (says-1 g n0 (ask_no m P) not-1);
      says-exactly = rw c.ask-number (says-exact g n0 (ask_no m P) (AskSays m P) (ask-exact m P));
      names = c.ask-names;
      exactly-14 = λ s law. (
        (λ q. ((ask-14 m P).0 (sym (number s) ∙ q)).1),
        λ n. number s ∙ (ask-14 m P).1 (law, n),
      );
      exactly-0 = λ s law. (
        (λ q. ((ask-0 m P).0 (sym (number s) ∙ q)).1),
        λ n. number s ∙ (ask-0 m P).1 (law, n),
      );
      refused-with-0 = rw c.told_is (refused-0 m P (sizes_fit g n0));
      tells-mean = rw c.told_is (mean-told m P (sizes_fit g n0));
      nodes-stay = c.nodes-same;
      rows_stay = c.rows_same;
      scratch-all-zero = c.scratch-zero;
    })
  where
    m : Mesh
    m = mesh_of g

    number : Sizes g n0 → (ask_out g n0 P).told.number ≡ ask_no (mesh_of g) P
    number s = (ask-leaves g n0 P).ask-number ∙ rw ((sizes-exact g n0).1 s)

    not-1 : ask_no (mesh_of g) P ≢ 1
    not-1 q = late-not-1 (covered-past (mesh_of g) P) ((ask-exact (mesh_of g) P 1).0 q)
