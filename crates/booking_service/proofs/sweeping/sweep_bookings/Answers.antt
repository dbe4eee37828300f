use Rattle.std.proofs.Common.{◌∙◌, refl}
use Rattle.osdm_texts.specs.Answers.{swept}
use Rattle.osdm_texts.proofs.Telling.{of_swept}
use Rattle.booking_service.proofs.sweeping.sweep_bookings.Goals as goal

pub returns-clause-answer : goal.returns-clause-answer
returns-clause-answer c = (swept c.sweep-swept.result, (c.sweep-swept.result, c.sweep-swept.ensures.entries, refl), λ cat. c.write_swept.ensures.told ∙ of_swept cat c.sweep-swept.result)

pub returns-clause-home : goal.returns-clause-home
returns-clause-home c =
    let d = c.sweep-swept.ensures in
    record { home = record { own = d.own; idle = (d.holds.none c.requires.home.idle.0, d.none) }; tidy = d.tidy }
