use Rattle.cold_store.proofs.WallRows.{word_there}
use Rattle.cold_store.proofs.wall_rows.word_at.Goals as goal

pub returns : goal.returns
returns c = word_there c.args.wall.now c.args.row c.args.word c.in-Some.word c.requires.closed c.requires.row.0 c.requires.row.1 c.in-Some.ensures.word
