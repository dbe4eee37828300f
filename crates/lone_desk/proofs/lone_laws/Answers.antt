use Rattle.lone_desk.proofs.Following.{shape_follows}
use Rattle.lone_desk.proofs.Looking.{tries_decided}
use Rattle.lone_desk.proofs.Finding.{finds_first}
use Rattle.lone_desk.proofs.Starting.{starts_least}
use Rattle.lone_desk.proofs.Clear.{open_is_clear}
use Rattle.lone_desk.proofs.lone_laws.Goals as goal

pub returns : goal.returns
returns c = record { follows = shape_follows; tries = tries_decided; first = finds_first; starts = starts_least; clear = open_is_clear }
