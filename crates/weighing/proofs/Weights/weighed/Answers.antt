use Rattle.std.proofs.Common.{◌≡◌, ◌∙◌, ℤ, ◌*ℤ◌, SFits, to_z, of_z, to_z-of_z, w32, w64}
use borrow.Author.Rules.{sfits_of}
use Rattle.weighing.specs.MeanLaw.{weight-fits, p-most, q-most, r-most, two-weighed-fit, weighed-fits}
use Rattle.weighing.proofs.Weights.weighed.Goals as goal

-- a product, exactly: what its call tells, of numbers that fit
exactly : (v x r : ℤ) → SFits w64 v → SFits w32 x → SFits w64 r → r ≡ to_z w64 (of_z w64 v) *ℤ to_z w32 (of_z w32 x) → to_z w64 (of_z w64 r) ≡ v *ℤ x
exactly v x r p q f e = to_z-of_z f ∙ (rw (to_z-of_z p, to_z-of_z q) at e)

pub overflow_add-result : goal.overflow_add-result
overflow_add-result c =
    let s = c.args in
    let h = c.requires.balanced in
    let p = exactly s.self.p s.a _ (weight-fits s.self.p (p-most s.self h)) c.ranges.a (sfits_of c.times.type_inv) c.times.ensures in
    let q = exactly s.self.q s.b _ (weight-fits s.self.q (q-most s.self h)) c.ranges.b (sfits_of c.times-2.type_inv) c.times-2.ensures in
    rw (p, q) (two-weighed-fit s.self s.a s.b s.c c.requires)

pub overflow_add-result-2 : goal.overflow_add-result-2
overflow_add-result-2 c =
    let s = c.args in
    let h = c.requires.balanced in
    let p = exactly s.self.p s.a _ (weight-fits s.self.p (p-most s.self h)) c.ranges.a (sfits_of c.times.type_inv) c.times.ensures in
    let q = exactly s.self.q s.b _ (weight-fits s.self.q (q-most s.self h)) c.ranges.b (sfits_of c.times-2.type_inv) c.times-2.ensures in
    let r = exactly s.self.r s.c _ (weight-fits s.self.r (r-most s.self h)) c.ranges.c (sfits_of c.times-3.type_inv) c.times-3.ensures in
    rw (p, q, r, to_z-of_z (two-weighed-fit s.self s.a s.b s.c c.requires)) (weighed-fits s.self s.a s.b s.c c.requires)

pub returns : goal.returns
returns c =
    let s = c.args in
    let h = c.requires.balanced in
    let p = exactly s.self.p s.a _ (weight-fits s.self.p (p-most s.self h)) c.ranges.a (sfits_of c.times.type_inv) c.times.ensures in
    let q = exactly s.self.q s.b _ (weight-fits s.self.q (q-most s.self h)) c.ranges.b (sfits_of c.times-2.type_inv) c.times-2.ensures in
    let r = exactly s.self.r s.c _ (weight-fits s.self.r (r-most s.self h)) c.ranges.c (sfits_of c.times-3.type_inv) c.times-3.ensures in
    rw (p, q, r, to_z-of_z (two-weighed-fit s.self s.a s.b s.c c.requires)) (to_z-of_z (weighed-fits s.self s.a s.b s.c c.requires))
