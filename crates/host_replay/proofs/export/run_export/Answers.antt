use Rattle.std.proofs.Common.{◌≡◌, ℕ, ap, sym, subst, ◌∙◌, inr, List, Option}
use Rattle.std.specs.Prelude.{◌⊎◌}
use Rattle.rail_io.specs.Told.{with_end}
use Rattle.host_words.specs.Options.{words_texts}
use Rattle.host_words.specs.Said.{view_of}
use Rattle.host_catalogue.specs.Ends.{status_of}
use Rattle.host_replay.specs.Input.{told_of}
use Rattle.host_replay.specs.Input.{status_of_replay}
use Rattle.host_replay.specs.Export.{Exports}
use Rattle.host_replay.proofs.Exporting.{whole, beginning, cutting, export_without, export_missed, export_no_books}
use Rattle.host_replay.proofs.export.run_export.Given as given
use Rattle.host_replay.proofs.export.run_export.Goals as goal
use Rattle.host_replay.proofs.export.run_export.Goals.{Joined-command_end}

ran : (g : given.Over) (c : goal.Joined-command_end g)
    → Exports (words_texts c.args.words.now) (g.F.Shelf.told c.args.shelf.now) (told_of (g.S.Source.told c.args.input.now) (g.S.Source.told c.export-end.new.input)
    (g.K.Sink.told c.args.output.now) (g.K.Sink.told c.export-end.new.output)) c.export-end.result
ran g c = inr (view_of c.in-Ok.said, record { command = c.requires.command; is = c.in-Ok.ensures.ok }, c.export-end.ensures.ends)

status : (g : given.Over) (c : goal.Joined-command_end g) → c.end_command.result ≡ status_of_replay c.export-end.result
status g c = c.end_command.ensures.status ∙ ap status_of c.command_end.ensures

pub returns-in-Ok-clause-exported : goal.returns-in-Ok-clause-exported
returns-in-Ok-clause-exported g c stream before told shown zero =
    let found = whole _ _ _ _ _ _ stream told _ (ran g c) (sym (status g c) ∙ zero) in
    (found.0, found.1 ∙ ap (λ (o : Option (List ℕ)). with_end o found.0) shown, found.2)

pub returns-in-Ok-clause-write_fault : goal.returns-in-Ok-clause-write_fault
returns-in-Ok-clause-write_fault g c stream before told shown four =
    let found = beginning _ _ _ _ _ _ stream told _ (ran g c) (sym (status g c) ∙ four) in
    (found.0, found.1, found.2 ∙ ap (λ (o : Option (List ℕ)). with_end o found.0) shown, found.3)

pub returns-in-Ok-clause-cut : goal.returns-in-Ok-clause-cut
returns-in-Ok-clause-cut g c stream told six = cutting _ _ _ _ _ _ stream told _ (ran g c) (sym (status g c) ∙ six)

pub returns-in-Ok-clause-without : goal.returns-in-Ok-clause-without
returns-in-Ok-clause-without g c one = export_without _ _ _ _ _ _ _ (ran g c) (sym (status g c) ∙ one)

pub returns-in-Ok-clause-missed : goal.returns-in-Ok-clause-missed
returns-in-Ok-clause-missed g c one = export_missed _ _ _ _ _ _ _ _ _ _ _ (ran g c) c.export-end.ensures.cause (sym (status g c) ∙ one)

pub returns-in-Ok-clause-no_books : goal.returns-in-Ok-clause-no_books
returns-in-Ok-clause-no_books g c told is wanted asked none =
    subst (λ (n : ℕ). (n ≡ 1) ⊎ (n ≡ 3) ⊎ (n ≡ 5)) (sym (status g c)) (export_no_books _ _ _ _ _ _ told is wanted asked none _ (ran g c))
