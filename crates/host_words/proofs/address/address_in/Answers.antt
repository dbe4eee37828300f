use Rattle.std.proofs.Common.{codes, option_map}
use Rattle.clap.specs.Words.{first_of, found_of, rows_of}
use Rattle.host_words.proofs.AddressRows.{same_ok, same_refused}
use Rattle.host_words.proofs.Rows.{text_given}
use Rattle.host_words.proofs.address.address_in.Goals as goal

pub returns-clause-ok : goal.returns-clause-ok
returns-clause-ok c =
    let found = found_of c.args.matches.now in
    let text = option_map (λ s. s.now) c.get_str.result in
    same_ok c.address_of.result text (first_of (codes "address") (rows_of found))
    (text_given found (codes "address") text c.get_str.ensures) c.address_of.ensures.ok

pub returns-clause-refused : goal.returns-clause-refused
returns-clause-refused c =
    let found = found_of c.args.matches.now in
    let text = option_map (λ s. s.now) c.get_str.result in
    same_refused c.address_of.result text (first_of (codes "address") (rows_of found))
    (text_given found (codes "address") text c.get_str.ensures) c.address_of.ensures.refused
