-- W7 OF THE CALLS. "Refine and coarsen don't repeat this. Show instead that a mesh grown from a base so admitted has no node strictly inside an edge." Every
-- call that 01, W1, W5 and W8 have keeps a mesh lawful and proper, whatever its node count, marks or correction; so any sequence of them does. Every premise on
-- a call is the equation that its contract ensures. Assumes nothing.
use Rattle.std.specs.Prelude.{Bool, true, false, List, ◌≢◌, ◌≡◌, refl, ℕ, ◌<◌, ℤ}
use Rattle.std.proofs.Common.{sym, subst, subst₂, ap, ◌∙◌, arith}
use Rattle.lists.specs.Lists.{cases, All}
use Rattle.meaning.specs.declared.Correction.{Correction}
use Rattle.meaning.specs.declared.Place.{Place}
use Rattle.meaning.specs.declared.Quarters.{Quarters}
use Rattle.meaning.specs.declared.Quarters.TheVariants.{Bisected, Red}
use Rattle.meaning.specs.Mesh.{Mesh, arrows, at}
use Rattle.meaning.specs.Split.{Way, cutting_of, in_red, refined}
use Rattle.meaning.specs.Coarsen.{coarsened, restored}
use Rattle.meaning.specs.Setting.{corrected}
use Rattle.meaning.specs.Proper.{StrictlyInside}
use Rattle.meaning.specs.Tables.{Given, Outcome, given, mesh_of, room_of}
use Rattle.meaning.specs.Calls.{sizes_fit, check_no, check_out, refine_out, TintedOut, red_out, coarsen_out, restore_out, set_out, Heard, ask_out}
use Rattle.laws.specs.TableMesh.{nodes-count, tables_after, done-mesh}
use Rattle.laws.specs.CallLaw.{AsGiven, CallLeaves, check-leaves, refine-leaves, coarsen-leaves, restore-leaves, set-leaves, ask-leaves}
use Rattle.laws.specs.RedTold.{red-outcome}
use Rattle.growth.specs.Demand3.{still}
use Rattle.proper.proofs.FlawlessLaw.{refine-flawless}
use Rattle.proper.specs.Flawless.{Flawless, coarsened-flawless, restored-flawless, set-flawless}
use Rattle.proper.proofs.Check.{check-0}
use Rattle.demands.specs.Demand3Calls.{Made, check-made, refine-made, coarsen-made, set-made, restore-made, Held, base-held, scratch-anew, after-refine, after-coarsen, after-set, after-restore, after-refusal, after-question}

-- ---- sequences

-- A call of 01, W1, W5 or W8 that was made on the tables g, with whatever node count; a refine from any edges, by bisection, as `newest` and `all_three` cut, or red, as `in_red` does.
pub data Works (g : Given) (o : Outcome) : Type 0 where
  refines-by : (w : Way) (q : Quarters) → w.cutting ≡ cutting_of q → (n0 : ℕ) (marks : List ℕ) → o ≡ refine_out w g n0 marks → Works g o
  coarsens-by : (n0 : ℕ) (marks : List ℕ) → o ≡ coarsen_out g n0 marks → Works g o
  sets-by : (n0 z : ℕ) (c : Correction) → o ≡ set_out g n0 z c → Works g o
  restores-by : (n0 : ℕ) → o ≡ restore_out g n0 → Works g o

-- what W8's call leaves, whatever the new field says
pub red-works : {g : Given} (n0 : ℕ) (marks : List ℕ) (x : TintedOut) → x ≡ red_out g n0 marks → Works g x.outcome
red-works {g} n0 marks x e = refines-by in_red Red refl n0 marks (red-outcome g n0 marks x e)

-- The tables that such calls, accepted, leave one after the other of a base's, with refused calls of any kind, checks and questions between.
pub data Grew (g₀ : Given) : Given → Type 0 where
  the-base : Grew g₀ g₀
  other-scratch : {g : Given} → Grew g₀ g → (scratch : List ℕ) → Grew g₀ (given g.nodes g.rows scratch g.n g.t)
  accepted : {g : Given} → Grew g₀ g → (o : Outcome) → Works g o → o.answer.number ≡ 0 → Grew g₀ (tables_after o)
  refused : {g : Given} → Grew g₀ g → (scratch : List ℕ) (n t : ℕ) (o : Outcome) → Made (given g.nodes g.rows scratch n t) o → o.answer.number ≢ 0 → Grew g₀ (still g o)
  checked : {g : Given} → Grew g₀ g → (scratch : List ℕ) (n t : ℕ) (o : Outcome) → o ≡ check_out (given g.nodes g.rows scratch n t) → Grew g₀ (still g o)
  asked : {g : Given} → Grew g₀ g → (scratch : List ℕ) (n t n0 : ℕ) (P : Place) (o : Heard) → o ≡ ask_out (given g.nodes g.rows scratch n t) n0 P →
      Grew g₀ (given o.nodes o.rows o.scratch g.n g.t)

-- demand 3's sequences are such, all with the base's node count
pub held-grew : {g₀ g : Given} → Held g₀ g → Grew g₀ g
held-grew base-held = the-base
held-grew (scratch-anew h scratch) = other-scratch (held-grew h) scratch
held-grew {g₀} (after-refine h w cuts marks o e z) = accepted (held-grew h) o (refines-by w Bisected cuts g₀.n marks e) z
held-grew {g₀} (after-coarsen h marks o e z) = accepted (held-grew h) o (coarsens-by g₀.n marks e) z
held-grew {g₀} (after-set h y c o e z) = accepted (held-grew h) o (sets-by g₀.n y c e) z
held-grew {g₀} (after-restore h o e z) = accepted (held-grew h) o (restores-by g₀.n e) z
held-grew (after-refusal h scratch n t o m z) = refused (held-grew h) scratch n t o m z
held-grew (after-question h scratch n t n0 P o e) = asked (held-grew h) scratch n t n0 P o e

-- ---- one call

-- an accepted call leaves the mesh that it makes
leaves-made : {g : Given} {n0 k c : ℕ} {new : Mesh} {p : ℕ} {o : Outcome} → CallLeaves g n0 k c new p o → o.answer.number ≡ 0 → (k ≡ 0 → Flawless new) → Flawless (mesh_of (tables_after o))
leaves-made {g} {new = new} {p = p} l z keeps =
    subst (λ x. Flawless (mesh_of (tables_after x))) (sym (l.done-is z)) (subst Flawless (sym (done-mesh g new p)) (keeps (l.sized-and-0 z).1))

-- EVERY ACCEPTED CALL KEEPS A MESH LAWFUL AND PROPER, whatever its node count, marks or correction.
pub call-flawless : (g : Given) (o : Outcome) → Works g o → o.answer.number ≡ 0 → Flawless (mesh_of g) → Flawless (mesh_of (tables_after o))
call-flawless g o (refines-by w q cuts n0 marks e) z F =
    leaves-made (subst (CallLeaves g n0 _ _ (refined w (mesh_of g) marks) 0) (sym e) (refine-leaves g n0 w marks)) z (λ k. refine-flawless w q cuts (room_of g) (mesh_of g) marks k F)
call-flawless g o (coarsens-by n0 marks e) z F =
    leaves-made (subst (CallLeaves g n0 _ _ (coarsened n0 (mesh_of g) marks) 0) (sym e) (coarsen-leaves g n0 marks)) z (λ k. coarsened-flawless n0 (mesh_of g) marks F)
call-flawless g o (sets-by n0 y c e) z F =
    leaves-made (subst (CallLeaves g n0 _ _ (corrected (mesh_of g) y c) 0) (sym e) (set-leaves g n0 y c)) z (λ k. set-flawless n0 (mesh_of g) y c k F)
call-flawless g o (restores-by n0 e) z F =
    leaves-made (subst (CallLeaves g n0 _ _ (restored n0 (mesh_of g)).end (restored n0 (mesh_of g)).passes) (sym e) (restore-leaves g n0)) z (λ k. restored-flawless n0 (mesh_of g) F)

-- the same nodes and rows hold the same mesh
same-mesh : (g : Given) (ns : List ℤ) (rs s : List ℕ) → ns ≡ g.nodes → rs ≡ g.rows → Flawless (mesh_of g) → Flawless (mesh_of (given ns rs s g.n g.t))
unfolding mesh_of
same-mesh g ns rs s e f F = subst₂ (λ ns rs. Flawless (mesh_of (given ns rs s g.n g.t))) (sym e) (sym f) F

refused-as-given : {g : Given} {o : Outcome} → Made g o → o.answer.number ≢ 0 → AsGiven g o
refused-as-given {g} {o} m n = go m
  where
    left : {x : Outcome} → o ≡ x → (x.answer.number ≢ 0 → AsGiven g x) → AsGiven g o
    left e h = subst (AsGiven g) (sym e) (h (λ z. n (ap (λ y. y.answer.number) e ∙ z)))

    go : Made g o → AsGiven g o
    go (check-made e) = left e (λ z. (check-leaves g).all-as-given)
    go (refine-made w n0 marks e) = left e (refine-leaves g n0 w marks).refusal-leaves
    go (coarsen-made n0 marks e) = left e (coarsen-leaves g n0 marks).refusal-leaves
    go (set-made n0 y c e) = left e (set-leaves g n0 y c).refusal-leaves
    go (restore-made n0 e) = left e (restore-leaves g n0).refusal-leaves

-- ---- the theorem

grew-keeps : {g₀ g : Given} → Grew g₀ g → Flawless (mesh_of g₀) → Flawless (mesh_of g)
grew-keeps the-base B = B
grew-keeps (other-scratch {g = g} h scratch) B = same-mesh g g.nodes g.rows scratch refl refl (grew-keeps h B)
grew-keeps (accepted {g = g} h o w z) B = call-flawless g o w z (grew-keeps h B)
grew-keeps (refused {g = g} h scratch n t o m z) B = let a = refused-as-given m z in same-mesh g o.nodes o.rows o.scratch a.nodes-same a.rows_same (grew-keeps h B)
grew-keeps (checked {g = g} h scratch n t o e) B =
    let a = subst (AsGiven (given g.nodes g.rows scratch n t)) (sym e) (check-leaves (given g.nodes g.rows scratch n t)).all-as-given in
    same-mesh g o.nodes o.rows o.scratch a.nodes-same a.rows_same (grew-keeps h B)
grew-keeps (asked {g = g} h scratch n t n0 P o e) B =
    let a = ask-leaves (given g.nodes g.rows scratch n t) n0 P in
    same-mesh g o.nodes o.rows o.scratch (ap (λ x. x.nodes) e ∙ a.nodes-same) (ap (λ x. x.rows) e ∙ a.rows_same) (grew-keeps h B)

-- a base that the check admits
pub admitted-base : (g₀ : Given) (c : Outcome) → c ≡ check_out g₀ → c.answer.number ≡ 0 → Flawless (mesh_of g₀)
admitted-base g₀ c ce cz = go (sizes_fit g₀ 0) (sym (check-leaves g₀).check-number ∙ ap (λ x. x.answer.number) (sym ce) ∙ cz)
  where
    go : (b : Bool) → cases b (check_no (mesh_of g₀)) 1 ≡ 0 → Flawless (mesh_of g₀)
    go true e = ((check-0 (mesh_of g₀)).0 e).0
    go false e = absurd (omega arith)

-- WHAT GREW FROM A BASE THAT THE CHECK ADMITTED IS LAWFUL AND PROPER: no two nodes at one place, no node strictly inside an edge, no interior point of two rows.
pub grew-flawless : (g₀ : Given) (c : Outcome) → c ≡ check_out g₀ → c.answer.number ≡ 0 → {g : Given} → Grew g₀ g → Flawless (mesh_of g)
grew-flawless g₀ c ce cz h = grew-keeps h (admitted-base g₀ c ce cz)

-- "A MESH GROWN FROM A BASE SO ADMITTED HAS NO NODE STRICTLY INSIDE AN EDGE."
pub none-inside-an-edge : (g₀ : Given) (c : Outcome) → c ≡ check_out g₀ → c.answer.number ≡ 0 → {g : Given} → Grew g₀ g → (k : ℕ) → k < g.n →
    All (λ t. All (λ e. ¬ StrictlyInside (at (mesh_of g) e.from) (at (mesh_of g) e.to) (at (mesh_of g) k)) (arrows t)) (mesh_of g).tris
none-inside-an-edge g₀ c ce cz {g} h k l = (grew-flawless g₀ c ce cz h).proper.none_inside k (omega (arith, nodes-count g))
