-- All words are 0, and there is no line.
use Rattle.std.proofs.Common.{◌≡◌, ℕ, ◌+◌, ◌*◌, rules, List, [], length, replicate, Option, None, refl, sym, ap, ◌∙◌, subst}
use Rattle.cold_store.specs.declared.draft.Follows.{Follows}
use Rattle.line_text.specs.declared.ends.SaidRow.{SaidRow}
use Rattle.cold_store.proofs.Empty.{empty-draft}
use Rattle.cold_store.proofs.draft.Draft.new.Goals as goal

pub returns : goal.returns
returns c legs many =
    let lines : c.new.result.items ≡ [] = c.new.ensures.items in
    let follows : c.new-2.result.items ≡ [] = c.new-2.ensures.items in
    let words : c.in_ok-from_elem.field-0.items ≡ replicate (2 * c.args.places + 64 * c.args.rows) 0 = search rules in
    empty-draft legs c.args.rows (record { places = c.args.places; rows = c.args.rows; words = c.in_ok-from_elem.field-0.items; lines = c.new.result.items; follows = c.new-2.result.items; wrong = None; overlap = None })
    many refl lines follows refl refl words
