use Rattle.journal_text.proofs.HeadRead.{no_word}
use Rattle.journal_text.proofs.reader.Reader.head.Goals as goal

pub returns-then-not-eat : goal.returns-then-not-eat
returns-then-not-eat c = no_word c.if-not-eat.ensures
