use Rattle.std.proofs.Common.{◌∙◌, ap, sym}
use Rattle.rail_ids.proofs.Dash.{parted, whole}
use Rattle.rail_ids.proofs.booking_ids.parts_of.Goals as goal

pub returns-in-Some : goal.returns-in-Some
returns-in-Some c = parted c.in-Some.at c.args.numbers.now (sym c.in-Some.is ∙ c.dash_of.ensures)

pub returns-in-None : goal.returns-in-None
returns-in-None c = λ k row generation h is.
    let parts = whole c.args.numbers.now (sym c.in-None.is ∙ c.dash_of.ensures) k row generation h is in
    (parts.0, c.as_slice.ensures ∙ parts.1)
