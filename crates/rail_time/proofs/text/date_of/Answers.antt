use Rattle.std.proofs.Common.{◌≡◌, pos, arith, rules}
use Rattle.jiff_core.specs.Date.{epoch_day}
use Rattle.rail_time.proofs.Calendar.{date_parts-day_of}
use Rattle.rail_time.proofs.text.date_of.Goals as goal

pub returns-clause-year : goal.returns-clause-year
returns-clause-year c =
    let is : epoch_day c.unwrap.result ≡ pos c.args.number = search rules in
    (date_parts-day_of c.args.number c.unwrap.result (omega arith) is).0

pub returns-clause-month : goal.returns-clause-month
returns-clause-month c =
    let is : epoch_day c.unwrap.result ≡ pos c.args.number = search rules in
    (date_parts-day_of c.args.number c.unwrap.result (omega arith) is).1

pub returns-clause-day : goal.returns-clause-day
returns-clause-day c =
    let is : epoch_day c.unwrap.result ≡ pos c.args.number = search rules in
    (date_parts-day_of c.args.number c.unwrap.result (omega arith) is).2
