use Rattle.std.proofs.Common.{◌∙◌, Some, None, sym, ap, codes, option_map}
use Rattle.clap.specs.Words.{found_of}
use Rattle.host_words.specs.Options.{is_set}
use Rattle.host_words.proofs.Rows.{text_given}
use Rattle.host_words.proofs.serve.is_exporting.Goals as goal

pub returns-in-Some : goal.returns-in-Some
returns-in-Some c =
    let found = found_of c.args.matches.now in
    c.eq.ensures
    ∙ ap is_set (sym (text_given found (codes "export") (Some c.in-Some.text.now) (ap (option_map (λ s. s.now)) (sym c.in-Some.is) ∙ c.get_str.ensures)))

pub returns-in-None : goal.returns-in-None
returns-in-None c =
    let found = found_of c.args.matches.now in
    ap is_set (sym (text_given found (codes "export") None (ap (option_map (λ s. s.now)) (sym c.in-None.is) ∙ c.get_str.ensures)))
