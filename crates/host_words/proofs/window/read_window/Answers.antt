use Rattle.std.proofs.Common.{◌∙◌, Some, None, sym}
use Rattle.clap.specs.Words.{found_of, rows_of}
use Rattle.host_words.specs.Options.{words_texts}
use Rattle.host_words.specs.Serve.{serve_app}
use Rattle.host_words.proofs.Rows.{rows_given}
use Rattle.host_words.proofs.WindowRows.{said}
use Rattle.host_words.proofs.window.read_window.Goals as goal

pub returns-in-Ok : goal.returns-in-Ok
returns-in-Ok c =
    let words = words_texts c.args.words.now in
    let found = Some (rows_of (found_of c.in-Ok.matches)) in
    c.window_in.ensures ∙ sym (said words found (rows_given _ serve_app words found c.in_ok-serve_command.ensures c.in-Ok.ensures.ok))

pub returns-in-Err-Refused : goal.returns-in-Err-Refused
returns-in-Err-Refused c =
    let words = words_texts c.args.words.now in
    sym (said words None (rows_given _ serve_app words None c.in_ok-serve_command.ensures
    (c.in-Err-Refused.ensures.refused c.in-Err-Refused.field-0-is)))
