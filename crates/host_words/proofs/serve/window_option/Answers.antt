use Rattle.std.proofs.Common.{◌≡◌, ◌∙◌, pos, rules}
use Rattle.clap.specs.declared.builder.value_parser.ValueParser.TheVariants as vp
use Rattle.host_words.proofs.serve.window_option.Goals as goal

pub returns-clause-rule : goal.returns-clause-rule
returns-clause-rule c =
    let first : c.new-2.result.start ≡ pos 1 = search rules in
    let last : c.new-2.result.end ≡ pos 65535 = search rules in
    let narrowed = rw c.value_parser.ensures at c.range.ensures in
    let made : c.range.result ≡ vp.Signed (pos 1) (pos 65535) = rw (first, last) at narrowed in
    let given = c.value_parser-2.ensures.given in
    let parser : given.0 ≡ vp.Signed (pos 1) (pos 65535) = given.2 ∙ made in
    search rules
