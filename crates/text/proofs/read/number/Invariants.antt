use Rattle.std.proofs.Common.{◌≡◌, ◌<◌, ◌^◌}
use Rattle.text.specs.Digits.{number}
use Rattle.text.proofs.read.number.Given as goal

abbrev pub invariant-loop-i : goal.invariant-loop-i
invariant-loop-i g l = record { value : l.v ≡ number l.i l.text l.k; small : l.v < 16 ^ l.i }
