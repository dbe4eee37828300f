use Rattle.std.proofs.Common.{◌≡◌, ◌≤◌, true, false}
use Rattle.http_wire.specs.Answers.{head_text}
use Rattle.host_tests.specs.Strict.{IsNextOf}
use Rattle.host_tests.specs.declared.strict.Heads.{Heads}
use Rattle.host_tests.proofs.strict.a_strict_outlet_gets_all_answers.Given as goal

abbrev pub ghosts-answer_strictly : goal.ghosts-answer_strictly
ghosts-answer_strictly g a = record {
  next = λ taken cut piece. ((before : Heads) × IsNextOf (λ _ request text _. text ≡ head_text 200 false 0 request.last) (λ _ _ text. text ≡ head_text 400 true 0 true) before a.stream.items taken piece) × (7 ≤ cut);
}
