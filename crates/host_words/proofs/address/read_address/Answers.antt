use Rattle.std.proofs.Common.{Some, None, codes}
use Rattle.clap.specs.Words.{first_of, found_of, rows_of}
use Rattle.host_words.specs.Address.{address_text}
use Rattle.host_words.specs.Options.{words_texts}
use Rattle.host_words.specs.Serve.{serve_app}
use Rattle.host_words.proofs.AddressRows.{none_said, refused_so, said, same_ok}
use Rattle.host_words.proofs.Rows.{rows_given}
use Rattle.host_words.proofs.address.read_address.Goals as goal

pub returns-in-Ok-clause-ok : goal.returns-in-Ok-clause-ok
returns-in-Ok-clause-ok c =
    let words = words_texts c.args.words.now in
    let rows = rows_of (found_of c.in-Ok.matches) in
    same_ok c.address_in.result (first_of (codes "address") rows) (address_text words)
    (said words (Some rows) (rows_given _ serve_app words (Some rows) c.in_ok-serve_command.ensures c.in-Ok.ensures.ok))
    c.address_in.ensures.ok

pub returns-in-Ok-clause-refused : goal.returns-in-Ok-clause-refused
returns-in-Ok-clause-refused c =
    let words = words_texts c.args.words.now in
    let rows = rows_of (found_of c.in-Ok.matches) in
    refused_so c.address_in.result (first_of (codes "address") rows) (address_text words)
    (said words (Some rows) (rows_given _ serve_app words (Some rows) c.in_ok-serve_command.ensures c.in-Ok.ensures.ok))
    c.address_in.ensures.refused

pub returns-in-Err-Refused-clause-ok : goal.returns-in-Err-Refused-clause-ok
returns-in-Err-Refused-clause-ok c =
    let words = words_texts c.args.words.now in
    none_said (address_text words) (said words None (rows_given _ serve_app words None c.in_ok-serve_command.ensures
    (c.in-Err-Refused.ensures.refused c.in-Err-Refused.field-0-is)))
