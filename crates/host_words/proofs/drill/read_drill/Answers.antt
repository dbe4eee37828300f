use Rattle.std.proofs.Common.{◌∙◌, Some, None, sym, codes}
use Rattle.clap.specs.Words.{found_of, rows_of}
use Rattle.host_words.specs.Options.{words_texts}
use Rattle.host_words.specs.Drill.{drill_app}
use Rattle.host_words.proofs.Rows.{number_given, rows_given}
use Rattle.host_words.proofs.Drilling.{no_seed, no_workers, no_size, no_places, all_numbers, some_within}
use Rattle.host_words.proofs.drill.read_drill.Goals as goal

pub returns-in_default-clause-refused : goal.returns-in_default-clause-refused
returns-in_default-clause-refused c _ =
    let found = found_of c.in_ok-matches.matches in
    let words = words_texts c.args.words.now in
    let are = rows_given _ drill_app words (Some (rows_of found)) c.in_ok-drill_command.ensures c.in_ok-matches.ensures.ok in
    no_seed words (rows_of found) are
    (number_given found (codes "seed") 0 65535 None (sym c.in_default.is ∙ c.number_between.ensures.value))

pub returns-in_default-number_between-clause-refused : goal.returns-in_default-number_between-clause-refused
returns-in_default-number_between-clause-refused c _ =
    let found = found_of c.in_ok-matches.matches in
    let words = words_texts c.args.words.now in
    let are = rows_given _ drill_app words (Some (rows_of found)) c.in_ok-drill_command.ensures c.in_ok-matches.ensures.ok in
    no_workers words (rows_of found) are c.in-Some.seed
    (number_given found (codes "seed") 0 65535 (Some c.in-Some.seed) (sym c.in-Some.is ∙ c.number_between.ensures.value))
    (number_given found (codes "workers") 1 16 None (sym c.in_default-number_between.is ∙ c.number_between-2.ensures.value))

pub returns-in_default-number_between-2-clause-refused : goal.returns-in_default-number_between-2-clause-refused
returns-in_default-number_between-2-clause-refused c _ =
    let found = found_of c.in_ok-matches.matches in
    let words = words_texts c.args.words.now in
    let are = rows_given _ drill_app words (Some (rows_of found)) c.in_ok-drill_command.ensures c.in_ok-matches.ensures.ok in
    no_size words (rows_of found) are c.in-Some.seed c.in-Some-number_between.workers
    (number_given found (codes "seed") 0 65535 (Some c.in-Some.seed) (sym c.in-Some.is ∙ c.number_between.ensures.value))
    (number_given found (codes "workers") 1 16 (Some c.in-Some-number_between.workers) (sym c.in-Some-number_between.is ∙ c.number_between-2.ensures.value))
    (number_given found (codes "size") 1 2000 None (sym c.in_default-number_between-2.is ∙ c.number_between-3.ensures.value))

pub returns-in_default-number_between-3-clause-refused : goal.returns-in_default-number_between-3-clause-refused
returns-in_default-number_between-3-clause-refused c _ =
    let found = found_of c.in_ok-matches.matches in
    let words = words_texts c.args.words.now in
    let are = rows_given _ drill_app words (Some (rows_of found)) c.in_ok-drill_command.ensures c.in_ok-matches.ensures.ok in
    no_places words (rows_of found) are c.in-Some.seed c.in-Some-number_between.workers c.in-Some-number_between-2.size
    (number_given found (codes "seed") 0 65535 (Some c.in-Some.seed) (sym c.in-Some.is ∙ c.number_between.ensures.value))
    (number_given found (codes "workers") 1 16 (Some c.in-Some-number_between.workers) (sym c.in-Some-number_between.is ∙ c.number_between-2.ensures.value))
    (number_given found (codes "size") 1 2000 (Some c.in-Some-number_between-2.size) (sym c.in-Some-number_between-2.is ∙ c.number_between-3.ensures.value))
    (number_given found (codes "places") 1 1200 None (sym c.in_default-number_between-3.is ∙ c.number_between-4.ensures.value))

pub returns-clause-ok : goal.returns-clause-ok
returns-clause-ok c =
    let found = found_of c.in_ok-matches.matches in
    let words = words_texts c.args.words.now in
    let are = rows_given _ drill_app words (Some (rows_of found)) c.in_ok-drill_command.ensures c.in_ok-matches.ensures.ok in
    all_numbers words (rows_of found) are c.in-Some.seed c.in-Some-number_between.workers c.in-Some-number_between-2.size c.in-Some-number_between-3.places
    (number_given found (codes "seed") 0 65535 (Some c.in-Some.seed) (sym c.in-Some.is ∙ c.number_between.ensures.value))
    (number_given found (codes "workers") 1 16 (Some c.in-Some-number_between.workers) (sym c.in-Some-number_between.is ∙ c.number_between-2.ensures.value))
    (number_given found (codes "size") 1 2000 (Some c.in-Some-number_between-2.size) (sym c.in-Some-number_between-2.is ∙ c.number_between-3.ensures.value))
    (number_given found (codes "places") 1 1200 (Some c.in-Some-number_between-3.places) (sym c.in-Some-number_between-3.is ∙ c.number_between-4.ensures.value))

pub returns-clause-seed : goal.returns-clause-seed
returns-clause-seed c = (some_within 0 65535 c.number_between.result c.in-Some.seed c.number_between.ensures.within c.in-Some.is).1

pub returns-clause-workers : goal.returns-clause-workers
returns-clause-workers c = some_within 1 16 c.number_between-2.result c.in-Some-number_between.workers c.number_between-2.ensures.within c.in-Some-number_between.is

pub returns-clause-size : goal.returns-clause-size
returns-clause-size c = some_within 1 2000 c.number_between-3.result c.in-Some-number_between-2.size c.number_between-3.ensures.within c.in-Some-number_between-2.is

pub returns-clause-places : goal.returns-clause-places
returns-clause-places c = some_within 1 1200 c.number_between-4.result c.in-Some-number_between-3.places c.number_between-4.ensures.within c.in-Some-number_between-3.is
