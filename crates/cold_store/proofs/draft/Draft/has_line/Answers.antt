-- The closure gives a line's row, and the slice is the draft's lines.
use Rattle.std.proofs.Common.{◌≡◌, ℕ, ◌<◌, ◌≤◌, ◌↔◌, false, rules, List, length, get_or, Any, IsTrue, leb, refl, sym, ap, ◌∙◌, subst, arith}
use Rattle.std.specs.Ordering.{nat_cmp}
use Rattle.std.proofs.lemmas.Cmp.{ranked}
use Rattle.std.proofs.lemmas.List.Sorted.{answers_always}
use Rattle.line_text.specs.declared.ends.SaidRow.{SaidRow}
use Rattle.cold_store.specs.Drafts.{AreRisingRows, DraftView, HasLineOf}
use Rattle.cold_store.proofs.SearchLines.{comparisons_rise, line_absent, line_found}
use Rattle.cold_store.proofs.draft.Draft.has_line.Goals as goal

pub returns-in-Ok : goal.returns-in-Ok
returns-in-Ok c =
    let equal = c.in-Ok.ensures.position (λ (line : SaidRow). line.row) (answers_always _ _ _ (λ f a r g called. search rules)) in
    let lines : List SaidRow = c.as_slice-lines.result.now in
    let is : c.args.self.now.lines ≡ lines = sym (c.as_slice-lines.ensures.value ∙ ap (λ (d : DraftView). d.lines) c.self.view_is) in
    let d : SaidRow = record { row = 0; generation = 0 } in
    subst (λ (ls : List SaidRow). IsTrue (leb c.args.successor.generation (get_or lines c.in-Ok.at d).generation) ↔ HasLineOf ls c.args.successor) (sym is)
    (line_found lines (subst AreRisingRows is c.requires.rising) c.args.successor c.in-Ok.at d c.in-Ok.ensures.bound (ranked _ _ _ (sym (equal d))))

pub returns-in-Err : goal.returns-in-Err
returns-in-Err c =
    let parted = c.in-Err.ensures.position (λ (line : SaidRow). line.row) (answers_always _ _ _ (λ f a r g called. search rules)) in
    let lines : List SaidRow = c.as_slice-lines.result.now in
    let is : c.args.self.now.lines ≡ lines = sym (c.as_slice-lines.ensures.value ∙ ap (λ (d : DraftView). d.lines) c.self.view_is) in
    let rising = subst AreRisingRows is c.requires.rising in
    let gap = parted (comparisons_rise lines rising c.args.successor) in
    subst (λ (ls : List SaidRow). IsTrue false ↔ HasLineOf ls c.args.successor) (sym is) (
      λ (t : IsTrue false). search rules,
      λ has. absurd (line_absent lines rising c.args.successor c.in-Err.field-0
          (λ k d l. ranked _ _ _ (sym (gap.0 k d (omega arith) l))) (λ k d l m. ranked _ _ _ (sym (gap.1 k d l m))) has),
    )
