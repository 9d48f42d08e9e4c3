use Rattle.std.proofs.Common.{◌≡◌, ◌∙◌, to_z, of_z, to_z-of_z, w64}
use borrow.Author.Rules.{sfits_of}
use Rattle.weighing.specs.Weighing.{sum_of, weighed, mean_of}
use Rattle.weighing.specs.MeanLaw.{mean-dividable, mean-fits}
use Rattle.weighing.proofs.Weights.mean_of.Goals as goal

pub floor-requires : goal.floor-requires
floor-requires c =
    let s = c.args in
    let over : to_z w64 (of_z w64 c.weighed.result) ≡ weighed s.self s.a s.b s.c =
    to_z-of_z {w = w64} (sfits_of c.weighed.type_inv) ∙ (rw (to_z-of_z c.ranges.a, to_z-of_z c.ranges.b, to_z-of_z c.ranges.c) at c.weighed.ensures) in
    let under : to_z w64 (of_z w64 c.sum.result) ≡ sum_of s.self = to_z-of_z {w = w64} (sfits_of c.sum.type_inv) ∙ c.sum.ensures in
    rw (under, over) (mean-dividable s.self s.a s.b s.c c.requires)

pub overflow_cast-result : goal.overflow_cast-result
unfolding mean_of
overflow_cast-result c =
    let s = c.args in
    let over : to_z w64 (of_z w64 c.weighed.result) ≡ weighed s.self s.a s.b s.c =
    to_z-of_z {w = w64} (sfits_of c.weighed.type_inv) ∙ (rw (to_z-of_z c.ranges.a, to_z-of_z c.ranges.b, to_z-of_z c.ranges.c) at c.weighed.ensures) in
    let under : to_z w64 (of_z w64 c.sum.result) ≡ sum_of s.self = to_z-of_z {w = w64} (sfits_of c.sum.type_inv) ∙ c.sum.ensures in
    let mean : to_z w64 (of_z w64 c.floor.result) ≡ mean_of s.self s.a s.b s.c =
    to_z-of_z {w = w64} (sfits_of c.floor.type_inv) ∙ (rw (under, over) at c.floor.ensures) in
    rw mean (mean-fits s.self s.a s.b s.c c.requires)

pub returns : goal.returns
unfolding mean_of
returns c =
    let s = c.args in
    let over : to_z w64 (of_z w64 c.weighed.result) ≡ weighed s.self s.a s.b s.c =
    to_z-of_z {w = w64} (sfits_of c.weighed.type_inv) ∙ (rw (to_z-of_z c.ranges.a, to_z-of_z c.ranges.b, to_z-of_z c.ranges.c) at c.weighed.ensures) in
    let under : to_z w64 (of_z w64 c.sum.result) ≡ sum_of s.self = to_z-of_z {w = w64} (sfits_of c.sum.type_inv) ∙ c.sum.ensures in
    let mean : to_z w64 (of_z w64 c.floor.result) ≡ mean_of s.self s.a s.b s.c =
    to_z-of_z {w = w64} (sfits_of c.floor.type_inv) ∙ (rw (under, over) at c.floor.ensures) in
    rw mean (to_z-of_z (mean-fits s.self s.a s.b s.c c.requires))
