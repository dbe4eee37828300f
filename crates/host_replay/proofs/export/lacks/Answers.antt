use Rattle.host_replay.proofs.Finishing.{lacking}
use Rattle.host_replay.proofs.export.lacks.Goals as goal

pub returns-in-None : goal.returns-in-None
returns-in-None c is stands = lacking c.args.text.now c.args.line.now c.in-None.ensures stands
