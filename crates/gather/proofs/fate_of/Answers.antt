use Prim.Native.Nat.{◌≤◌}
use Rattle.gather.specs.Needs.{fate-none, fate-lo, fate-hi, fate_goes}
use native.Mathlib.Omega.{arith}
use Rattle.gather.proofs.fate_of.Goals as goal

pub returns-in_default-clause-number : goal.returns-in_default-clause-number
returns-in_default-clause-number c = let h : 1 ≤ c.args.v → ⊥ = c.in_default.ensures in fate-none _ _ (omega arith)

pub returns-then-w-lo-clause-number : goal.returns-then-w-lo-clause-number
returns-then-w-lo-clause-number c = fate-lo _ _ _ c.in-Some.ensures c.if-w-lo.true

pub returns-then-w-hi-clause-number : goal.returns-then-w-hi-clause-number
returns-then-w-hi-clause-number c = fate-hi _ _ _ c.in-Some.ensures c.if-w-lo.false c.if-w-hi.true

pub returns-else-w-hi-clause-number : goal.returns-else-w-hi-clause-number
returns-else-w-hi-clause-number c = fate_goes _ _ _ c.in-Some.ensures c.if-w-lo.false c.if-w-hi.false
