use Rattle.std.proofs.Common.{◌≡◌, ◌∷◌, length, suc, is_some, true, false, Some, subst, sym, ap, ◌∙◌, arith}
use Rattle.json.specs.Token.{Token}
use Rattle.json.specs.Lex.{tokens}
use Rattle.json.specs.Json.{parse_map, value}
use Rattle.serde_json.specs.Data.{object}
use Rattle.serde_json.specs.Read.{of_json, converted}
use Rattle.json_text.specs.View.{view}
use Rattle.json_text.specs.Outlines.{IsOutlineOf}
use Rattle.json_text.proofs.Turns.{whole_refused, whole_and_more}
use Rattle.json_text.proofs.Outlined.{object_read, outlined, opened_object, rest_is, some_token, no_token}
use Rattle.json_text.proofs.Counted.{few_tokens}
use Rattle.json_text.proofs.outline.outline_of_object.Goals as goal

pub outline_of_members-requires : goal.outline_of_members-requires
outline_of_members-requires c =
    let text = c.args.text.now in
    let us = c.next-brace.new.self in
    let brace = opened_object (tokens text) c.requires in
    let same : us ≡ brace.0 = rest_is c.next-brace.result _ us brace.0 c.next-brace.ensures.value (c.in_ok-reader.ensures.ok ∙ brace.1) in
    let size : length (tokens text) ≡ suc (length us) = ap length (brace.1 ∙ ap (λ ts. Token.begin_object ∷ ts) (sym same)) in
    omega (arith, size, few_tokens text)

pub returns-in_err-outline-clause-err : goal.returns-in_err-outline-clause-err
returns-in_err-outline-clause-err c refused =
    let text = c.args.text.now in
    let us = c.next-brace.new.self in
    let brace = opened_object (tokens text) c.requires in
    let same : us ≡ brace.0 = rest_is c.next-brace.result _ us brace.0 c.next-brace.ensures.value (c.in_ok-reader.ensures.ok ∙ brace.1) in
    let opened : tokens text ≡ Token.begin_object ∷ us = brace.1 ∙ ap (λ ts. Token.begin_object ∷ ts) (sym same) in
    whole_refused (value 127 (tokens text)) (ap (λ ts. converted of_json (value 127 ts)) opened ∙ object_read us ∙ ap (parse_map object) (c.outline_of_members.ensures.err (grind arith)))

pub returns-then-is_some-clause-err : goal.returns-then-is_some-clause-err
returns-then-is_some-clause-err c never =
    let text = c.args.text.now in
    let us = c.next-brace.new.self in
    let brace = opened_object (tokens text) c.requires in
    let same : us ≡ brace.0 = rest_is c.next-brace.result _ us brace.0 c.next-brace.ensures.value (c.in_ok-reader.ensures.ok ∙ brace.1) in
    let opened : tokens text ≡ Token.begin_object ∷ us = brace.1 ∙ ap (λ ts. Token.begin_object ∷ ts) (sym same) in
    let o = c.in_ok-outline.ensures.ok in
    let there : is_some c.next.result ≡ true = grind arith in
    let more = some_token c.next.result c.outline_of_members.new.reader c.next.new.self c.next.ensures.value there in
    whole_and_more (value 127 (tokens text)) (object o.found) more.0 c.next.new.self
    (ap (λ ts. converted of_json (value 127 ts)) opened ∙ object_read us ∙ ap (parse_map object) (o.read ∙ ap (λ ts. Some (o.found, ts)) more.1))

pub returns-clause-ok : goal.returns-clause-ok
returns-clause-ok c =
    let text = c.args.text.now in
    let us = c.next-brace.new.self in
    let brace = opened_object (tokens text) c.requires in
    let same : us ≡ brace.0 = rest_is c.next-brace.result _ us brace.0 c.next-brace.ensures.value (c.in_ok-reader.ensures.ok ∙ brace.1) in
    let opened : tokens text ≡ Token.begin_object ∷ us = brace.1 ∙ ap (λ ts. Token.begin_object ∷ ts) (sym same) in
    let gone : is_some c.next.result ≡ false = grind arith in
    let over = no_token c.next.result c.outline_of_members.new.reader c.next.new.self c.next.ensures.value gone in
    outlined text us opened (subst (λ ts. IsOutlineOf c.args.name.now us (view c.in_ok-outline.outline.kept) c.in_ok-outline.outline.place ts) over c.in_ok-outline.ensures.ok)
