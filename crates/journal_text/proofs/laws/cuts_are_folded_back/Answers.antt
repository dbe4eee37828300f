use Rattle.journal_text.proofs.FoldedBack.{folded_back}
use Rattle.journal_text.proofs.laws.cuts_are_folded_back.Goals as goal

pub returns : goal.returns
returns c h cuts is each few = folded_back h cuts is each few
