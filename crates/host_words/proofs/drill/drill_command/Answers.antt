use Rattle.std.proofs.Common.{◌≡◌, ◌∙◌, ap, ap₂, pos, codes}
use Rattle.std.proofs.lemmas.Result.{IfOk-weaker}
use Rattle.clap.specs.Words.{with_rule}
use Rattle.clap.specs.declared.builder.value_parser.ValueParser.TheVariants as vp
use Rattle.host_words.specs.Options.{option_rule, required}
use Rattle.host_words.specs.Drill.{parsed_by}
use Rattle.host_words.proofs.drill.drill_command.Goals as goal

pub returns : goal.returns
returns c =
    let seed-parser : c.range-number.result ≡ vp.Signed (pos 0) (pos 65535) = rw (c.new.ensures.start, c.new.ensures.end) at (rw c.value_parser.ensures at c.range-number.ensures) in
    let seed = c.required_option-seed.ensures.rule ∙ ap (λ p. required (parsed_by p (option_rule (codes "seed")))) seed-parser in
    let workers-parser : c.range-number-2.result ≡ vp.Signed (pos 1) (pos 16) = rw (c.new-2.ensures.start, c.new-2.ensures.end) at (rw c.value_parser-2.ensures at c.range-number-2.ensures) in
    let workers = c.required_option-workers.ensures.rule ∙ ap (λ p. required (parsed_by p (option_rule (codes "workers")))) workers-parser in
    let size-parser : c.range-number-3.result ≡ vp.Signed (pos 1) (pos 2000) = rw (c.new-3.ensures.start, c.new-3.ensures.end) at (rw c.value_parser-3.ensures at c.range-number-3.ensures) in
    let size = c.required_option-size.ensures.rule ∙ ap (λ p. required (parsed_by p (option_rule (codes "size")))) size-parser in
    let places-parser : c.range-number-4.result ≡ vp.Signed (pos 1) (pos 1200) = rw (c.new-4.ensures.start, c.new-4.ensures.end) at (rw c.value_parser-4.ensures at c.range-number-4.ensures) in
    let places = c.required_option-places.ensures.rule ∙ ap (λ p. required (parsed_by p (option_rule (codes "places")))) places-parser in
    IfOk-weaker c.arg-4.result _ _ (λ r h. h.shape c.required_option-places.ensures.local ∙ ap₂ with_rule (c.in_ok-arg-3.ensures.shape c.required_option-size.ensures.local
    ∙ ap₂ with_rule (c.in_ok-arg-2.ensures.shape c.required_option-workers.ensures.local ∙ ap₂ with_rule (c.in_ok-arg.ensures.shape c.required_option-seed.ensures.local
    ∙ ap₂ with_rule c.new-5.ensures.app seed) workers) size) places) c.arg-4.ensures
