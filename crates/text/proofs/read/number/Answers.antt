use Rattle.std.proofs.Common.{rules, arith}
use Rattle.text.specs.DigitsLaw.{number-none, number-more, digits-next, digits-fit}
use Rattle.text.proofs.read.number.Goals as goal

pub loop-i-init : goal.loop-i-init
loop-i-init g c = search (rules, number-none)

pub overflow_mul-v : goal.overflow_mul-v
overflow_mul-v g c = let h = digits-fit c.loop-i.i c.loop-i.v 0 (omega arith) c.loop-i.invariant.small (omega arith) in record { fits = omega arith }

pub overflow_add-v : goal.overflow_add-v
overflow_add-v g c = record { fits = digits-fit c.loop-i.i c.loop-i.v c.worth.result (omega arith) c.loop-i.invariant.small c.worth.ensures.small }

pub loop-i-preserved : goal.loop-i-preserved
loop-i-preserved g c = record {
  value = number-more _ _ _ _ _ c.loop-i.invariant.value c.worth.ensures.value;
  small = digits-next c.loop-i.i c.loop-i.v c.worth.result (omega arith) c.loop-i.invariant.small c.worth.ensures.small;
}
