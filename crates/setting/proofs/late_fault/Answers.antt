use Rattle.std.proofs.Common.{rules}
use Rattle.setting.specs.SettingLaw.{late-13, late-15, late-none}
use Rattle.setting.proofs.late_fault.Goals as goal

pub returns-then-z-n0 : goal.returns-then-z-n0
returns-then-z-n0 c = search (rules, late-13)

pub returns-then-z-n : goal.returns-then-z-n
returns-then-z-n c = search (rules, late-15)

pub returns-else-z-n : goal.returns-else-z-n
returns-else-z-n c = search (rules, late-none)
