use Rattle.std.proofs.Common.{◌≡◌, ◌∙◌, ap₂, codes, pos, rules}
use Rattle.std.proofs.lemmas.Result.{IfOk-weaker}
use Rattle.clap.specs.Words.{new_rule, rule_of, with_rule}
use Rattle.clap.specs.declared.builder.value_parser.ValueParser.TheVariants as vp
use Rattle.host_words.specs.Options.{option_rule, numbered, required, with_default}
use Rattle.host_words.proofs.replay.input_command.Goals as goal

pub returns : goal.returns
returns c =
    let catalogue_is : rule_of c.required-catalogue.result ≡ required (new_rule (codes "catalogue")) = search rules in
    let start_is : rule_of c.default_value-start.result ≡ with_default (codes "1970-01-01T00:00:00Z") (option_rule (codes "start")) = search rules in
    let first : c.new-4.result.start ≡ pos 0 = search rules in
    let last : c.new-4.result.end ≡ pos 86400 = search rules in
    let narrowed = rw c.value_parser.ensures at c.range.ensures in
    let made : c.range.result ≡ vp.Signed (pos 0) (pos 86400) = rw (first, last) at narrowed in
    let given = c.value_parser-2.ensures.given in
    let parser : given.0 ≡ vp.Signed (pos 0) (pos 86400) = given.2 ∙ made in
    let tick_is : rule_of c.default_value-tick.result ≡ with_default (codes "0") (numbered 0 86400 (option_rule (codes "tick"))) = search rules in
    IfOk-weaker c.arg-4.result _ _ (λ r h. h.shape c.from_option.ensures.local ∙ ap₂ with_rule (c.in_ok-arg-3.ensures.shape (search rules)
    ∙ ap₂ with_rule (c.in_ok-arg-2.ensures.shape (search rules) ∙ ap₂ with_rule (c.in_ok-arg.ensures.shape (search rules)
    ∙ ap₂ with_rule c.new-5.ensures.app catalogue_is) start_is) tick_is) c.from_option.ensures.rule) c.arg-4.ensures
