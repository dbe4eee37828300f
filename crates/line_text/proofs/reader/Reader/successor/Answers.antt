use Rattle.line_text.proofs.NoSuccessor.{no_successor}
use Rattle.line_text.proofs.reader.Reader.successor.Goals as goal

pub returns-then-eat : goal.returns-then-eat
returns-then-eat c = no_successor c.if-eat.ensures
