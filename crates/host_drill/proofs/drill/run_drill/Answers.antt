use Rattle.std.proofs.Common.{◌≡◌, ◌⊎◌, ◌∙◌, ℕ, ap, sym, subst}
use Rattle.std.specs.Prelude.{option_map}
use Rattle.host_words.specs.Options.{words_texts}
use Rattle.host_catalogue.specs.Ends.{status_of}
use Rattle.host_drill.specs.Ends.{IsForDrill}
use Rattle.host_drill.proofs.Ending.{none_left, when_refused, words_refused}
use Rattle.host_drill.proofs.drill.run_drill.Goals as goal

pub returns-clause-refused : goal.returns-clause-refused
returns-clause-refused g c none =
    let words = words_texts c.args.words.now in
    let told = g.K.Sink.told c.args.output.now in
    let after = g.K.Sink.told c.drill-cause.new.output in
    subst (λ (n : ℕ). (n ≡ 2) ⊎ ((n ≡ 5) × IsForDrill words)) (sym (c.end_command-status.ensures.status ∙ ap status_of c.command_end.ensures))
    (when_refused words told after (option_map (λ w. w) c.drill-cause.result.1) c.drill-cause.result.0 c.drill-cause.ensures.leaves none)

pub returns-clause-words : goal.returns-clause-words
returns-clause-words g c two =
    none_left (words_texts c.args.words.now) (g.K.Sink.told c.args.output.now) (g.K.Sink.told c.drill-cause.new.output)
    (option_map (λ w. w) c.drill-cause.result.1) c.drill-cause.result.0 c.drill-cause.ensures.leaves
    (words_refused c.drill-cause.result.0 (sym (c.end_command-status.ensures.status ∙ ap status_of c.command_end.ensures) ∙ two))

pub returns-clause-nothing_written : goal.returns-clause-nothing_written
returns-clause-nothing_written g c two =
    c.drill-cause.ensures.nothing_written
    (words_refused c.drill-cause.result.0 (sym (c.end_command-status.ensures.status ∙ ap status_of c.command_end.ensures) ∙ two))
