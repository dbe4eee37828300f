use Rattle.std.proofs.Common.{◌∙◌}
use Rattle.std.proofs.lemmas.Result.{IfOk-weaker}
use Rattle.search_service.proofs.Numbers.{whole}
use Rattle.search_service.proofs.place_numbers.numbers_of_run.Goals as goal

pub returns : goal.returns
returns c = record {
  numbers = IfOk-weaker c.in_turn.result _ _
      (λ v e. e ∙ rw (c.of_run.ensures, c.class_places-first.ensures.untraited, c.class_places-second.ensures.untraited) (whole c.args.run.0 0 c.args.places.now)) c.in_turn.ensures;
}
