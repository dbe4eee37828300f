use Rattle.trip_builder.proofs.Resting.{IsRestBack, AreToldBack}
use Rattle.trip_builder.proofs.hints.note_all.Given as goal

abbrev pub invariant-loop-back : goal.invariant-loop-back
invariant-loop-back l = record {
  rest_is : IsRestBack l.back l.useful l.rest;
  told : AreToldBack l.back l.useful l.parts l.rests;
}
