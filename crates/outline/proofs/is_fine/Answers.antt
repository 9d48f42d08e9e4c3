use Rattle.std.proofs.Common.{refl, sym, ◌∙◌, arith, ◌≡◌, Some}
use Rattle.lists.specs.ItemsLaw.{sum-none}
use Rattle.meaning.specs.Tables.{place_at}
use Rattle.outline.specs.Seen.{look_at}
use Rattle.outline.specs.TurnsLaw.{sum-on, arrow-met, arrow-not, summed-up}
use Rattle.outline.proofs.is_fine.Goals as goal

pub loop-j-init : goal.loop-j-init
loop-j-init c = (omega arith, sym (sum-none _), refl)

pub returns-in_default : goal.returns-in_default
returns-in_default c = arrow-met _ _ _ _ c.loop-j.sum c.loop-j.invariant.2 c.loop-j-test.true (sym c.look_at.ensures.is ∙ c.in_default.is)

pub loop-j-preserved : goal.loop-j-preserved
loop-j-preserved c =
    let e : look_at (place_at c.args.nodes.now) c.args.scratch.now c.args.e c.loop-j.j ≡ Some c.in-Some.k = sym c.look_at.ensures.is ∙ c.in-Some.is in
    let small = rw c.in-Some.is at c.look_at.ensures.small in
    (omega arith, sum-on _ _ _ _ c.loop-j.invariant.1 e, arrow-not _ _ 0 _ c.loop-j.sum c.loop-j.invariant.2 _ c.loop-j-test.true e)

pub returns : goal.returns
returns c = summed-up _ _ _ _ _ c.loop-j.invariant.2 c.loop-j.invariant.1 c.loop-j.auto.j-end c.loop-j-test.false _ c.falls.ensures.is
