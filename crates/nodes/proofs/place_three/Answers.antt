use Rattle.nodes.specs.NodesLaw.{edge-long, edge-standing, room-v, three-is}
use mathlib.Core.Path.{◌∙◌}
use native.Mathlib.Omega.{arith}
use borrow.Author.Rules.{rules}
use Rattle.nodes.proofs.place_three.Goals as goal

pub place_edge-requires-2 : goal.place_edge-requires-2
place_edge-requires-2 c =
    let p = c.requires.standing in
    let w = edge-standing _ _ _ _ _ _ _ c.place_edge.ensures p.at-q p.at-r p in
    let long = edge-long _ _ _ _ _ _ c.place_edge.ensures in
    record { stands = (w.at_p, w.at-q); first_in_bounds = omega arith }

pub place_edge-requires-3 : goal.place_edge-requires-3
place_edge-requires-3 c =
    let p = c.requires.standing in
    let e = c.place_edge.ensures in
    let f = c.place_edge-2.ensures in
    let w = edge-standing _ _ _ _ _ _ _ e p.at-q p.at-r p in
    let v = edge-standing _ _ _ _ _ _ _ f w.at_p w.at-q w in
    let long = edge-long _ _ _ _ _ _ f ∙ edge-long _ _ _ _ _ _ e in
    record {
      stands = (v.at-r, v.at_p);
      first_in_bounds = room-v _ _ _ _ c.args.c c.own_v.ensures long c.requires.c_in_bounds;
    }

pub returns : goal.returns
returns c = search (rules, three-is)
