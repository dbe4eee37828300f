-- The last line has the greatest row.
use Rattle.std.proofs.Common.{◌≡◌, ℕ, ◌<◌, ◌↔◌, List, IsTrue, nat_lt, refl, sym, ap, ◌∙◌, subst, lt-ltb}
use Rattle.std.proofs.lemmas.Bool.{ltb-true}
use Rattle.line_text.specs.declared.ends.SaidRow.{SaidRow}
use Rattle.cold_store.specs.Drafts.{DraftView, IsNextRow}
use Rattle.cold_store.proofs.LastLine.{next_by_last}
use Rattle.cold_store.proofs.draft.Draft.is_next.Goals as goal

pub returns-in-Some : goal.returns-in-Some
returns-in-Some c =
    let lines : List SaidRow = c.as_slice.result.now in
    let is : lines ≡ c.args.self.now.lines = c.as_slice.ensures.value ∙ ap (λ (d : DraftView). d.lines) c.self.view_is in
    let next = next_by_last lines c.in-Some.last.now c.args.row c.in-Some.ensures.value in
    subst (λ (ls : List SaidRow). IsTrue (nat_lt c.in-Some.last.now.row c.args.row) ↔ IsNextRow ls c.args.row) is
    (λ t. next.0 (ltb-true c.in-Some.last.now.row c.args.row t), λ n. lt-ltb c.in-Some.last.now.row c.args.row (next.1 n))
