use Rattle.std.proofs.Common.{ℕ, List, Option, sym, ◌∙◌, ap}
use Rattle.rail_io.specs.Told.{with_end}
use Rattle.host_catalogue.specs.Ends.{status_of}
use Rattle.host_tiny.proofs.Hosting.{served_from, cut_from}
use Rattle.host_tiny.proofs.command.run_tiny.Goals as goal

pub returns-clause-refused_words : goal.returns-clause-refused_words
returns-clause-refused_words g c none = absurd (none _ _ c.in-Some.ensures.some)

pub returns-clause-served : goal.returns-clause-served
returns-clause-served g c stream before told output zero =
    let run = c.serve-end.ensures.serves in
    let status = sym (c.end_command-2.ensures.status ∙ ap status_of c.of.ensures) ∙ zero in (
      run.1,
      run.3 ∙ ap (λ (o : Option (List ℕ)). with_end o run.1) output,
      record {
        legs = _;
        places = _;
        words_are = c.in-Some.ensures.some;
        answers = served_from _ _ run.0 stream run.1 _ c.serve-end.result (sym told ∙ run.2) run.4 status;
      },
    )

pub returns-clause-cut : goal.returns-clause-cut
returns-clause-cut g c stream before told output six =
    let run = c.serve-end.ensures.serves in
    let status = sym (c.end_command-2.ensures.status ∙ ap status_of c.of.ensures) ∙ six in (
      run.1,
      run.3 ∙ ap (λ (o : Option (List ℕ)). with_end o run.1) output,
      record {
        legs = _;
        places = _;
        words_are = c.in-Some.ensures.some;
        answers = cut_from _ _ run.0 stream run.1 _ c.serve-end.result (sym told ∙ run.2) run.4 status;
      },
    )
