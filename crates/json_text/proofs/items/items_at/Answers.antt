use Rattle.std.proofs.Common.{◌≡◌, ◌+◌, ◌≤◌, length, Some, None, sym, ap, ◌∙◌, rules, arith}
use Rattle.json.specs.Lex.{tokens}
use Rattle.json_text.specs.Outlines.{list_tokens}
use Rattle.json_text.proofs.Listed.{listed, not_listed, few_ahead}
use Rattle.json_text.proofs.Counted.{few_tokens}
use Rattle.json_text.proofs.items.items_at.Goals as goal

pub returns-in-Ok-open_list-clause-items : goal.returns-in-Ok-open_list-clause-items
returns-in-Ok-open_list-clause-items c utf8 =
    let place = c.args.place in
    let text : c.in-Ok.text.now ≡ c.args.bytes.now = search rules in
    let opened : list_tokens place (tokens c.args.bytes.now) ≡ Some c.open_list.new.reader =
    ap (λ t. list_tokens place (tokens t)) (sym text) ∙ ap (list_tokens place) (sym c.in_ok-reader.ensures.ok) ∙ c.in-Ok-open_list.ensures.value in
    listed place c.args.bytes.now c.open_list.new.reader opened

pub returns-in-Ok-open_list-clause-few : goal.returns-in-Ok-open_list-clause-few
returns-in-Ok-open_list-clause-few c =
    let short : length c.open_list.new.reader + 2 ≤ length (tokens c.in-Ok.text.now) = rw c.in_ok-reader.ensures.ok at c.in-Ok-open_list.ensures.shorter in
    let text : c.in-Ok.text.now ≡ c.args.bytes.now = search rules in
    few_ahead _ _ (omega (arith, short, few_tokens c.in-Ok.text.now, ap length text))

pub returns-in-Err-clause-items : goal.returns-in-Err-clause-items
returns-in-Err-clause-items c utf8 =
    let place = c.args.place in
    let text : c.in-Ok.text.now ≡ c.args.bytes.now = search rules in
    let none : list_tokens place (tokens c.args.bytes.now) ≡ None =
    ap (λ t. list_tokens place (tokens t)) (sym text) ∙ ap (list_tokens place) (sym c.in_ok-reader.ensures.ok) ∙ c.in-Err.ensures.value in
    not_listed place c.args.bytes.now none
