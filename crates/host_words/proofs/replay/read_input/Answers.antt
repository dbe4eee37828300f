use Rattle.std.proofs.Common.{◌∙◌, Some, None, sym, ap, codes, option_map}
use Rattle.clap.specs.Words.{found_of, rows_of}
use Rattle.host_words.specs.Options.{words_texts}
use Rattle.host_words.specs.Replay.{found_moment, input_app}
use Rattle.host_words.proofs.Rows.{text_given, number_given, rows_given, no_catalogue, no_start_text, no_start, no_tick, all_read}
use Rattle.host_words.proofs.replay.read_input.Goals as goal

pub returns-in_default-clause-refused : goal.returns-in_default-clause-refused
returns-in_default-clause-refused c _ =
    let found = found_of c.in_ok-matches.matches in
    let words = words_texts c.args.words.now in
    let are = rows_given _ (input_app c.args.name.now) words (Some (rows_of found)) c.in_ok-input_command.ensures c.in_ok-matches.ensures.ok in
    no_catalogue c.args.name.now words (rows_of found) are
    (text_given found (codes "catalogue") None (ap (option_map (λ s. s.now)) (sym c.in_default.is) ∙ c.get_str.ensures))

pub returns-in_default-get_str-clause-refused : goal.returns-in_default-get_str-clause-refused
returns-in_default-get_str-clause-refused c _ =
    let found = found_of c.in_ok-matches.matches in
    let words = words_texts c.args.words.now in
    let are = rows_given _ (input_app c.args.name.now) words (Some (rows_of found)) c.in_ok-input_command.ensures c.in_ok-matches.ensures.ok in
    no_start_text c.args.name.now words (rows_of found) are c.in-Some.catalogue.now
    (text_given found (codes "catalogue") (Some c.in-Some.catalogue.now) (ap (option_map (λ s. s.now)) (sym c.in-Some.is) ∙ c.get_str.ensures))
    (text_given found (codes "start") None (ap (option_map (λ s. s.now)) (sym c.in_default-get_str.is) ∙ c.get_str-2.ensures))

pub returns-in_default-read_moment-clause-refused : goal.returns-in_default-read_moment-clause-refused
returns-in_default-read_moment-clause-refused c _ =
    let found = found_of c.in_ok-matches.matches in
    let words = words_texts c.args.words.now in
    let are = rows_given _ (input_app c.args.name.now) words (Some (rows_of found)) c.in_ok-input_command.ensures c.in_ok-matches.ensures.ok in
    no_start c.args.name.now words (rows_of found) are c.in-Some.catalogue.now c.in-Some-get_str.start.now
    (text_given found (codes "catalogue") (Some c.in-Some.catalogue.now) (ap (option_map (λ s. s.now)) (sym c.in-Some.is) ∙ c.get_str.ensures))
    (text_given found (codes "start") (Some c.in-Some-get_str.start.now) (ap (option_map (λ s. s.now)) (sym c.in-Some-get_str.is) ∙ c.get_str-2.ensures))
    (ap found_moment (sym c.read_moment.ensures ∙ c.in_default-read_moment.is))

pub returns-in_default-number_of-clause-refused : goal.returns-in_default-number_of-clause-refused
returns-in_default-number_of-clause-refused c _ =
    let found = found_of c.in_ok-matches.matches in
    let words = words_texts c.args.words.now in
    let are = rows_given _ (input_app c.args.name.now) words (Some (rows_of found)) c.in_ok-input_command.ensures c.in_ok-matches.ensures.ok in
    no_tick c.args.name.now words (rows_of found) are c.in-Some.catalogue.now c.in-Some-get_str.start.now c.in-Ok.start
    (text_given found (codes "catalogue") (Some c.in-Some.catalogue.now) (ap (option_map (λ s. s.now)) (sym c.in-Some.is) ∙ c.get_str.ensures))
    (text_given found (codes "start") (Some c.in-Some-get_str.start.now) (ap (option_map (λ s. s.now)) (sym c.in-Some-get_str.is) ∙ c.get_str-2.ensures))
    (ap found_moment (sym c.read_moment.ensures ∙ c.in-Ok.is))
    (number_given found (codes "tick") 0 86400 None (sym c.in_default-number_of.is ∙ c.number_of.ensures))

pub returns-clause-ok : goal.returns-clause-ok
returns-clause-ok c =
    let found = found_of c.in_ok-matches.matches in
    let words = words_texts c.args.words.now in
    let are = rows_given _ (input_app c.args.name.now) words (Some (rows_of found)) c.in_ok-input_command.ensures c.in_ok-matches.ensures.ok in
    all_read c.args.name.now words (rows_of found) are c.in-Some.catalogue.now c.in-Some-get_str.start.now c.in-Ok.start c.in-Some-number_of.tick (option_map (λ s. s.now) c.get_str-3.result)
    (text_given found (codes "catalogue") (Some c.in-Some.catalogue.now) (ap (option_map (λ s. s.now)) (sym c.in-Some.is) ∙ c.get_str.ensures))
    (text_given found (codes "start") (Some c.in-Some-get_str.start.now) (ap (option_map (λ s. s.now)) (sym c.in-Some-get_str.is) ∙ c.get_str-2.ensures))
    (ap found_moment (sym c.read_moment.ensures ∙ c.in-Ok.is))
    (number_given found (codes "tick") 0 86400 (Some c.in-Some-number_of.tick) (sym c.in-Some-number_of.is ∙ c.number_of.ensures))
    (text_given found (codes "from") (option_map (λ s. s.now) c.get_str-3.result) c.get_str-3.ensures)
