use Rattle.std.proofs.Common.{◌∙◌, Some, None, sym, ap, codes, option_map}
use Rattle.std.specs.Prelude.{Result, Ok, Err, IfErr, IsErrAnd}
use Rattle.clap.specs.Words.{found_of, rows_of}
use Rattle.host_words.specs.Options.{words_texts}
use Rattle.host_words.specs.Serve.{serve_app}
use Rattle.host_words.proofs.Rows.{text_given, rows_given}
use Rattle.host_words.proofs.ServeRows.{no_catalogue, no_numbers, not_matched, all_said}
use Rattle.host_words.proofs.serve.read_serve.Goals as goal

-- what follows from what is so of an error is so of it
err_is : {T E : Type 0} {P Q : E → Type 0} (r : Result T E) → ((e : E) → P e → Q e) → IsErrAnd r P → IfErr r Q
err_is (Ok value) follows is = tt
err_is (Err e) follows is = follows e is

pub returns-in_err-matches-clause-refused : goal.returns-in_err-matches-clause-refused
returns-in_err-matches-clause-refused c =
    let words = words_texts c.args.words.now in
    err_is c.from_residual-in_err-matches.result
    (λ e same refused. not_matched words (rows_given _ serve_app words None c.in_ok-serve_command.ensures (c.in_err-matches.ensures.refused (sym same ∙ refused))))
    c.from_residual-in_err-matches.ensures.1

pub returns-in_default-clause-refused : goal.returns-in_default-clause-refused
returns-in_default-clause-refused c _ =
    let found = found_of c.in_ok-matches.matches in
    let words = words_texts c.args.words.now in
    let are = rows_given _ serve_app words (Some (rows_of found)) c.in_ok-serve_command.ensures c.in_ok-matches.ensures.ok in
    no_catalogue words (rows_of found) are
    (text_given found (codes "catalogue") None (ap (option_map (λ s. s.now)) (sym c.in_default.is) ∙ c.get_str.ensures))

pub returns-in_default-numbers_in-clause-refused : goal.returns-in_default-numbers_in-clause-refused
returns-in_default-numbers_in-clause-refused c _ =
    let found = found_of c.in_ok-matches.matches in
    let words = words_texts c.args.words.now in
    let are = rows_given _ serve_app words (Some (rows_of found)) c.in_ok-serve_command.ensures c.in_ok-matches.ensures.ok in
    no_numbers words (rows_of found) are c.in-Some.catalogue.now
    (text_given found (codes "catalogue") (Some c.in-Some.catalogue.now) (ap (option_map (λ s. s.now)) (sym c.in-Some.is) ∙ c.get_str.ensures))
    (sym c.numbers_in.ensures.numbers ∙ c.in_default-numbers_in.is)

pub returns-clause-ok : goal.returns-clause-ok
returns-clause-ok c =
    let found = found_of c.in_ok-matches.matches in
    let words = words_texts c.args.words.now in
    let are = rows_given _ serve_app words (Some (rows_of found)) c.in_ok-serve_command.ensures c.in_ok-matches.ensures.ok in
    all_said words (rows_of found) are c.in-Some.catalogue.now c.in-Some-numbers_in.numbers (option_map (λ s. s.now) c.get_str-2.result)
    (option_map (λ s. s.now) c.get_str-3.result) c.is_exporting.result
    (text_given found (codes "catalogue") (Some c.in-Some.catalogue.now) (ap (option_map (λ s. s.now)) (sym c.in-Some.is) ∙ c.get_str.ensures))
    (sym c.numbers_in.ensures.numbers ∙ c.in-Some-numbers_in.is)
    (text_given found (codes "from") (option_map (λ s. s.now) c.get_str-2.result) c.get_str-2.ensures)
    (text_given found (codes "journal") (option_map (λ s. s.now) c.get_str-3.result) c.get_str-3.ensures)
    (sym c.is_exporting.ensures)
