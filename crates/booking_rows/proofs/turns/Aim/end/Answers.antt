use Rattle.history_model.specs.WholeEnds.{end_at}
use Rattle.booking_rows.specs.Aims.{end_of}
use Rattle.booking_rows.proofs.TurnLemmas.{amount_fits}
use Rattle.booking_rows.proofs.turns.Aim.end.Goals as goal

pub returns : goal.returns
returns c =
    let amount = amount_fits (end_of c.args.self.now).amount c.amount.result c.requires.least c.requires.amount c.amount.ensures.amount in
    record { end = λ i. end_at (c.moment.ensures.moment i) (amount i) (c.successor.ensures.successor i) }
