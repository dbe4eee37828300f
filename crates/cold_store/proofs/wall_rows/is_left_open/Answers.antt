use Rattle.std.proofs.Common.{arith}
use Rattle.std.proofs.lemmas.Bool.{false≢true}
use Rattle.cold_store.proofs.OpenRows.{exchanged_open, exchanged_shut}
use Rattle.cold_store.proofs.wall_rows.is_left_open.Goals as goal

pub returns-in-Some : goal.returns-in-Some
returns-in-Some c =
    let e = exchanged_open c.args.wall.now c.args.row c.word_at.result c.in-Some.successor.row c.in-Some.successor.generation c.requires.closed
    c.requires.exchanged c.word_at.ensures (omega arith) c.in-Some.ensures.some in
    (λ t. e.0 (c.is_unmade.ensures.0 t), λ o. c.is_unmade.ensures.1 (e.1 o))

pub returns-in-None : goal.returns-in-None
returns-in-None c = (
  λ t. absurd (false≢true t),
  λ o. absurd (exchanged_shut c.args.wall.now c.args.row c.word_at.result c.requires.closed c.requires.exchanged c.word_at.ensures c.in-None.ensures.none o),
)
