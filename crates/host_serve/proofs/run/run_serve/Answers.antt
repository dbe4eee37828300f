use Rattle.std.proofs.Common.{◌≡◌, ◌⊎◌, ◌∙◌, ℕ, sym, subst}
use Rattle.rail_io.specs.Faults.{Rose}
use Rattle.host_words.specs.Options.{words_texts}
use Rattle.host_serve.specs.Telling.{Noting}
use Rattle.host_serve.proofs.Ending.{no_words, refused_wall, when_refused, stays, wall_missing, without, missed, ends_without}
use Rattle.host_serve.proofs.Telling.{rose_before, told_part, told_whole}
use Rattle.host_serve.proofs.run.run_serve.Goals as goal

pub returns-clause-words : goal.returns-clause-words
returns-clause-words g c two =
    let alone = c.serve_kept.ensures.ended in
    no_words (words_texts c.args.words.now) (g.F.Shelf.told c.args.shelf.now) _ alone.outcome alone.runs (sym alone.is ∙ two)

pub returns-clause-refused_wall : goal.returns-clause-refused_wall
returns-clause-refused_wall g c two =
    let alone = c.serve_kept.ensures.ended in
    refused_wall (words_texts c.args.words.now) (g.F.Shelf.told c.args.shelf.now) _ alone.outcome alone.runs (sym alone.is ∙ two)

pub returns-clause-refused_words : goal.returns-clause-refused_words
returns-clause-refused_words g c none =
    let alone = c.serve_kept.ensures.ended in
    subst (λ (n : ℕ). (n ≡ 2) ⊎ (n ≡ 5)) (sym alone.is)
    (when_refused (words_texts c.args.words.now) (g.F.Shelf.told c.args.shelf.now) _ alone.outcome alone.runs none)

pub returns-clause-no_wall : goal.returns-clause-no_wall
returns-clause-no_wall g c three none =
    let alone = c.serve_kept.ensures.ended in
    wall_missing (words_texts c.args.words.now) (g.F.Shelf.told c.args.shelf.now) _ alone.outcome _ _ _ _ alone.runs alone.cause (sym alone.is ∙ three) none

pub returns-clause-without : goal.returns-clause-without
returns-clause-without g c one =
    let alone = c.serve_kept.ensures.ended in
    without (words_texts c.args.words.now) (g.F.Shelf.told c.args.shelf.now) _ alone.outcome alone.runs (sym alone.is ∙ one)

pub returns-clause-missed : goal.returns-clause-missed
returns-clause-missed g c one =
    let alone = c.serve_kept.ensures.ended in
    missed (words_texts c.args.words.now) (g.F.Shelf.told c.args.shelf.now) _ alone.outcome _ _ _ _ alone.runs alone.cause (sym alone.is ∙ one)

pub returns-clause-no_books : goal.returns-clause-no_books
returns-clause-no_books g c files told said asked none =
    let alone = c.serve_kept.ensures.ended in
    subst (λ (n : ℕ). (n ≡ 1) ⊎ ((n ≡ 3) × Rose (g.F.Shelf.faults c.args.shelf.now) (g.F.Shelf.faults c.serve_kept.new.shelf)) ⊎ (n ≡ 5)) (sym alone.is)
    (ends_without (words_texts c.args.words.now) files _ said asked none (g.F.Shelf.told c.args.shelf.now) told alone.outcome _ _ _ _ alone.runs alone.cause
    (λ two. no_words (words_texts c.args.words.now) (g.F.Shelf.told c.args.shelf.now) _ alone.outcome alone.runs two said asked))

pub returns-clause-run : goal.returns-clause-run
returns-clause-run g c =
    let alone = c.serve_kept.ensures.ended in (alone.outcome, alone.is, alone.runs, alone.told, alone.cause)

pub returns-clause-exported : goal.returns-clause-exported
returns-clause-exported g c zero asked =
    let alone = c.serve_kept.ensures.ended in
    let n : Noting = record {
      before = g.E.Sink.told c.args.notes.now;
      failed = g.E.Sink.faults c.args.notes.now;
      after = g.E.Sink.told c.serve_kept.new.notes;
      fails = g.E.Sink.faults c.serve_kept.new.notes;
    } in
    told_whole (words_texts c.args.words.now) c.serve_kept.result.wall n alone.outcome alone.told (sym alone.is ∙ zero) asked

pub returns-clause-write_cause : goal.returns-clause-write_cause
returns-clause-write_cause g c four =
    let alone = c.serve_kept.ensures.ended in
    let n : Noting = record {
      before = g.E.Sink.told c.args.notes.now;
      failed = g.E.Sink.faults c.args.notes.now;
      after = alone.told.between;
      fails = alone.told.count;
    } in
    let part = told_part (words_texts c.args.words.now) c.serve_kept.result.wall n alone.outcome alone.told.text (sym alone.is ∙ four) in
    (part.0, rose_before n.failed n.fails (g.E.Sink.faults c.serve_kept.new.notes) part.2 alone.later part.1)

pub returns-clause-steady : goal.returns-clause-steady
returns-clause-steady g c other =
    let alone = c.serve_kept.ensures.ended in
    stays (words_texts c.args.words.now) (g.F.Shelf.told c.args.shelf.now) _ alone.outcome alone.runs (λ three. other (alone.is ∙ three))
