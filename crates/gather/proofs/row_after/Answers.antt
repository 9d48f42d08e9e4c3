use Rattle.gather.specs.Needs.{row-stays, row_goes, row-becomes}
use Rattle.gather.proofs.row_after.Goals as goal

pub returns-in-Stays : goal.returns-in-Stays
returns-in-Stays c = row-stays _ _ _ _ _ _ c.note_at.ensures c.in-Stays.ensures c.renamed.ensures

pub returns-in-Goes : goal.returns-in-Goes
returns-in-Goes c = row_goes _ _ _ _ _ c.args.w c.note_at.ensures c.in-Goes.ensures

pub returns-in-Becomes : goal.returns-in-Becomes
returns-in-Becomes c = row-becomes _ _ _ _ _ _ c.note_at.ensures _ c.in-Becomes.ensures c.renamed-in-Becomes.ensures
