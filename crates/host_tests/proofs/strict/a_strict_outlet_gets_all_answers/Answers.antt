use Rattle.host_tests.proofs.strict.a_strict_outlet_gets_all_answers.Goals as goal

pub answer_strictly-requires : goal.answer_strictly-requires
answer_strictly-requires g c = record { wanted = λ before taken cut piece next held. ((before, next), held) }
