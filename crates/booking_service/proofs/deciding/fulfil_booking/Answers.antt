use Rattle.std.proofs.Common.{◌∙◌, Some, None, refl, ap}
use Rattle.history_model.specs.declared.phase.Phase.TheVariants as phase
use Rattle.booking_rows.specs.Views.{RowSeen}
use Rattle.confirm_core.specs.declared.fulfilling.Fulfilment.TheVariants as fulfilled
use Rattle.osdm_parts.specs.declared.problem.Problem.TheVariants.{UnknownBooking, WrongState}
use Rattle.osdm_texts.specs.Answers.{booking, reply_told}
use Rattle.shop.proofs.Homes.{stays_then}
use Rattle.booking_service.specs.Deciding.{FulfilsFound}
use Rattle.booking_service.proofs.Calm.{found_home, fulfilled_home}
use Rattle.osdm_texts.proofs.Telling.{of_problem}
use Rattle.booking_service.proofs.Replying.{unknown, no_memory, done}
use Rattle.booking_service.proofs.Ids.{phased_ids}
use Rattle.booking_service.proofs.deciding.fulfil_booking.Goals as goal

pub booking_answer-requires : goal.booking_answer-requires
booking_answer-requires c =
    record { ids = phased_ids c.args.row phase.Fulfilled c.in-Some.view _ c.in_phase.ensures.view c.in-Some.ensures.generation }

-- no such booking

pub returns-in_default-clause-home : goal.returns-in_default-clause-home
returns-in_default-clause-home c =
    let d = c.in_default.ensures in found_home _ _ _ None _ _ _ c.find_booking.ensures.own d.entries d.holds d.endings c.requires.home

pub returns-in_default-clause-answer : goal.returns-in_default-clause-answer
returns-in_default-clause-answer c = unknown _ _ _ _ (FulfilsFound _ _ _) _ _ c.in_default.ensures.entries

-- no memory for its answer

pub returns-in_default-booking_answer-clause-home : goal.returns-in_default-booking_answer-clause-home
returns-in_default-booking_answer-clause-home c =
    let f = c.in-Some.ensures in found_home _ _ _ (Some _) _ _ _ c.find_booking.ensures.own f.entries f.holds f.endings c.requires.home

pub returns-in_default-booking_answer-clause-answer : goal.returns-in_default-booking_answer-clause-answer
returns-in_default-booking_answer-clause-answer c = no_memory _ _ _ _ (FulfilsFound _ _ _) _ _ _ c.in-Some.ensures.entries

-- collected

pub returns-in-Done-clause-home : goal.returns-in-Done-clause-home
returns-in-Done-clause-home c =
    let f = c.in-Some.ensures in let d = c.in-Done.ensures in
    let found = found_home _ _ _ (Some _) _ _ _ c.find_booking.ensures.own f.entries f.holds f.endings c.requires.home in
    stays_then _ _ _ _ found (fulfilled_home _ _ _ fulfilled.Done _ _ _ c.fulfil.ensures.own d.entries d.holds d.endings found.home)

pub returns-in-Done-clause-answer : goal.returns-in-Done-clause-answer
returns-in-Done-clause-answer c =
    done _ _ _ _ (FulfilsFound _ _ _) _ _ _ _ _ _ c.in-Some.ensures.entries (fulfilled.Done, c.in-Done.ensures.entries, refl)
    (c.in-Some-booking_answer.ensures.told
    ∙ ap (λ (v : RowSeen). reply_told c.args.shop.now.cat.now (booking c.args.row v)) c.in_phase.ensures.view)

-- unknown by then

pub returns-in-Unknown-clause-home : goal.returns-in-Unknown-clause-home
returns-in-Unknown-clause-home c =
    let f = c.in-Some.ensures in let d = c.in-Unknown.ensures in
    let found = found_home _ _ _ (Some _) _ _ _ c.find_booking.ensures.own f.entries f.holds f.endings c.requires.home in
    stays_then _ _ _ _ found (fulfilled_home _ _ _ fulfilled.Unknown _ _ _ c.fulfil.ensures.own d.entries d.holds d.endings found.home)

pub returns-in-Unknown-clause-answer : goal.returns-in-Unknown-clause-answer
returns-in-Unknown-clause-answer c =
    done _ _ _ _ (FulfilsFound _ _ _) _ _ _ _ _ _ c.in-Some.ensures.entries
    (fulfilled.Unknown, c.in-Unknown.ensures.entries, refl) (of_problem _ UnknownBooking)

-- in another state

pub returns-in-WrongState-clause-home : goal.returns-in-WrongState-clause-home
returns-in-WrongState-clause-home c =
    let f = c.in-Some.ensures in let d = c.in-WrongState.ensures in
    let found = found_home _ _ _ (Some _) _ _ _ c.find_booking.ensures.own f.entries f.holds f.endings c.requires.home in
    stays_then _ _ _ _ found (fulfilled_home _ _ _ (fulfilled.WrongState _) _ _ _ c.fulfil.ensures.own d.entries d.holds d.endings found.home)

pub returns-in-WrongState-clause-answer : goal.returns-in-WrongState-clause-answer
returns-in-WrongState-clause-answer c =
    done _ _ _ _ (FulfilsFound _ _ _) _ _ _ _ _ _ c.in-Some.ensures.entries
    (fulfilled.WrongState _, c.in-WrongState.ensures.entries, refl) (of_problem _ (WrongState _))
