use Rattle.nodes.specs.NodesLaw.{row-standing}
use Rattle.lists.specs.IterLaw.{iter_turn, iter_end}
use Prim.Native.Nat.{◌<◌}
use native.Mathlib.Omega.{arith}
use borrow.Author.Rules.{rules}
use Rattle.nodes.proofs.place_nodes.Goals as goal

pub loop-i-preserved : goal.loop-i-preserved
loop-i-preserved c =
    let v = c.loop-i.invariant in
    let h : c.loop-i.i < c.args.t = omega arith in
    let e = c.place_row.ensures in
    (omega arith, λ j g. row-standing _ _ _ _ _ _ _ e (v.1 _ h) (v.1 j g), iter_turn _ _ _ _ _ v.2 _ h e)

pub returns : goal.returns
returns c = search (rules, iter_end)
