use Rattle.std.proofs.Common.{◌≡◌, ◌∙◌, List, [], ◌++◌, map, sym, ap, subst, rules, append_assoc, append-nil}
use Rattle.std.specs.Prelude.{flat_map}
use Rattle.std.specs.Map.Iter.{deref_pair}
use Rattle.std.proofs.lemmas.Map.Iter.{iter_end}
use Rattle.settle_report.specs.Steps.{HasText, entry_line}
use Rattle.settle_report.specs.Table.{forgotten_fields, head_fields, line_of}
use Rattle.settle_report.proofs.TextFacts.{begun, text_more, written}
use Rattle.settle_report.proofs.table.write_table.Goals as goal

pub loop-retailer-init : goal.loop-retailer-init
loop-retailer-init c =
    let from = c.from_writer-writer.ensures in
    let none = begun c.from_writer-writer.result c.new-2.result from.wtr c.new-2.ensures.items from.empty (from.cfg ∙ c.new.ensures) from.fields from.wrote in
    subst (HasText c.write_head.new.writer) (sym (append-nil (line_of head_fields))) (c.in_ok-write_head.ensures [] none)

pub loop-retailer-preserved : goal.loop-retailer-preserved
loop-retailer-preserved c =
    subst (HasText c.write_account.new.writer) (sym (text_more (line_of head_fields) c.loop-retailer.yielded (c.in-Some.retailer, c.in-Some.account)))
    (c.in_ok-write_account.ensures (line_of head_fields ++ flat_map entry_line (map deref_pair c.loop-retailer.yielded)) c.loop-retailer.invariant)

pub returns-in-Ok-clause-text : goal.returns-in-Ok-clause-text
returns-in-Ok-clause-text c =
    let all : map deref_pair c.loop-retailer.yielded ≡ c.args.accounts.now.by_retailer.entries = search (rules, iter_end) in
    let text = line_of head_fields ++ flat_map entry_line (map deref_pair c.loop-retailer.yielded) in
    let last = line_of (forgotten_fields c.args.accounts.now.given_away) in
    let has = c.in_ok-write_forgotten.ensures text c.loop-retailer.invariant in
    c.in-Ok.ensures.ok
    ∙ (written c.write_forgotten.new.writer (text ++ last) has
    ∙ (append_assoc (line_of head_fields) (flat_map entry_line (map deref_pair c.loop-retailer.yielded)) last
    ∙ ap (λ (es : List _). line_of head_fields ++ (flat_map entry_line es ++ last)) all))
