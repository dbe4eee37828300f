use Rattle.std.proofs.Common.{◌≡◌, is_some, false, sym, ap, ◌∙◌, rules, arith}
use Rattle.json.specs.Lex.{tokens}
use Rattle.serde_json.specs.Read.{read}
use Rattle.json_text.specs.Outlines.{after_brace}
use Rattle.json_text.proofs.Outlined.{no_object}
use Rattle.json_text.proofs.outline.read_outline.Goals as goal

pub returns-in_ok-read_all-clause-ok : goal.returns-in_ok-read_all-clause-ok
returns-in_ok-read_all-clause-ok c =
    let text : c.in-Ok.text.now ≡ c.args.bytes.now = search rules in
    let opens : c.in_ok-opens_object.field-0 ≡ false = grind arith in
    let none : is_some (after_brace (tokens c.args.bytes.now)) ≡ false = ap (λ t. is_some (after_brace (tokens t))) (sym text) ∙ sym c.in_ok-opens_object.ensures ∙ opens in
    (search rules, no_object c.args.name.now c.args.bytes.now _ none (ap read (sym text) ∙ c.in_ok-read_all.ensures.ok))
