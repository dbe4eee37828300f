use Rattle.std.proofs.Common.{Some, None}
use Rattle.booking_service.specs.Deciding.{shows}
use Rattle.booking_service.proofs.Calm.{found_home}
use Rattle.booking_service.proofs.Replying.{unknown, shown_or}
use Rattle.booking_service.proofs.Ids.{found_ids}
use Rattle.booking_service.proofs.deciding.show_booking.Goals as goal

pub booking_answer-requires : goal.booking_answer-requires
booking_answer-requires c =
    record { ids = found_ids _ _ c.args.retailer.0 _ _ _ c.in-Some.ensures.entries c.in-Some.ensures.generation }

-- no such booking

pub returns-in_default-clause-home : goal.returns-in_default-clause-home
returns-in_default-clause-home c =
    let d = c.in_default.ensures in found_home _ _ _ None _ _ _ c.find_booking.ensures.own d.entries d.holds d.endings c.requires.home

pub returns-in_default-clause-answer : goal.returns-in_default-clause-answer
returns-in_default-clause-answer c = unknown _ _ _ _ (shows c.args.row) _ _ c.in_default.ensures.entries

-- shown, or without memory for its answer

pub returns-clause-home : goal.returns-clause-home
returns-clause-home c =
    let f = c.in-Some.ensures in found_home _ _ _ (Some _) _ _ _ c.find_booking.ensures.own f.entries f.holds f.endings c.requires.home

pub returns-clause-answer : goal.returns-clause-answer
returns-clause-answer c = shown_or _ _ _ _ c.in-Some.view _ _ c.booking_answer.result c.ok_or.result c.ok_or.ensures.value c.booking_answer.ensures.told c.in-Some.ensures.entries
