use Rattle.std.proofs.Common.{◌∙◌, List, [], ◌∷◌, ◌++◌, ap, subst}
use Rattle.osdm_texts.specs.Answers.{told_of}
use Rattle.train_runs.specs.declared.segment.Segment.{Segment}
use Rattle.reservation_service.specs.Reserving.{reserved, AnswersReserving}
use Rattle.reservation_service.proofs.booking.reserve_places.Goals as goal

pub returns-clause-answer : goal.returns-clause-answer
returns-clause-answer c =
    let r = c.args.reservation in
    let asker = c.args.asker in
    subst (λ (l : List Segment). AnswersReserving c.args.shop.now.cat.now asker.retailer.0 asker.moment (record (reserved r.segment r.class r.count r.traits asker.moment) { segments = l }) r.together c.args.desk.now c.book_offer.new.desk (told_of c.book_offer.result))
    (c.push.ensures.items ∙ ap (λ (l : List Segment). l ++ r.segment ∷ []) c.new-segments.ensures) c.book_offer.ensures.answer
