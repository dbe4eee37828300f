use Rattle.plain_host.proofs.OwnWork.{alone_is_lone}
use Rattle.plain_host.proofs.alone.alone_is_lone.Goals as goal

pub returns : goal.returns
returns c = alone_is_lone
