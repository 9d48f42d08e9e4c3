use Rattle.setting.specs.SettingLaw.{node-put}
use borrow.Author.Rules.{rules}
use Rattle.setting.proofs.set_node.Goals as goal

pub returns : goal.returns
returns c = search (rules, node-put)
