-- The line is noted, and then it is wrong behind a wrong one, the first wrong one, or right.
use Rattle.std.proofs.Common.{◌≡◌, ℕ, rules, true, Option, Some, None, IfSome, All, refl, sym, ap, ◌∙◌, subst}
use Rattle.leg_masks.specs.Interval.{PlacedSpan as Item}
use Rattle.line_text.specs.declared.heads.Head.{Head}
use Rattle.cold_store.specs.Drafts.{DraftView, IsPlaceOf, IsRightLine, noted, with_line}
use Rattle.cold_store.specs.Reads.{LineView}
use Rattle.cold_store.proofs.AddsLine.{adds_as, adds_first, adds_right, adds_wrong, may_places, some_or, some_spans}
use Rattle.cold_store.proofs.Taking.{line-keeps}
use Rattle.cold_store.proofs.draft.Draft.add.Goals as goal

pub returns-then-is_some : goal.returns-then-is_some
returns-then-is_some c =
    let d : DraftView = c.args.self.now in
    let line : LineView = c.args.line.now in
    let is : c.note.new.self ≡ noted d line = c.in_ok-note.ensures in
    let wrong : c.self.inside.wrong ≡ d.wrong = ap (λ (e : DraftView). e.wrong) (c.self.view_is ∙ is) in
    let some = some_or c.self.inside.wrong (λ e. search rules) in
    adds_as d line (noted d line) c.note.new.self (sym is) (adds_wrong d line some.0 c.requires.draft.next (sym wrong ∙ some.1))

pub set_line-requires-clause-places : goal.set_line-requires-clause-places
set_line-requires-clause-places c =
    let d : DraftView = c.args.self.now in
    let line : LineView = c.args.line.now in
    let is : c.note.new.self ≡ noted d line = c.in_ok-note.ensures in
    let wrong : c.self.inside.wrong ≡ d.wrong = ap (λ (e : DraftView). e.wrong) (c.self.view_is ∙ is) in
    let none : c.self.inside.wrong ≡ None = search rules in
    subst (λ (e : DraftView). IfSome line.items (All (λ (i : Item). IsPlaceOf e i.place))) (sym is) (may_places d line c.requires.draft (sym wrong ∙ none))

pub returns-then-is_line_right : goal.returns-then-is_line_right
returns-then-is_line_right c =
    let d : DraftView = c.args.self.now in
    let line : LineView = c.args.line.now in
    let is : c.note.new.self ≡ noted d line = c.in_ok-note.ensures in
    let wrong : c.self.inside.wrong ≡ d.wrong = ap (λ (e : DraftView). e.wrong) (c.self.view_is ∙ is) in
    let none : c.self.inside.wrong ≡ None = search rules in
    let rows : c.self.inside.rows ≡ d.rows = ap (λ (e : DraftView). e.rows) (c.self.view_is ∙ is) in
    let right : IsRightLine c.self.inside.rows line = search rules in
    let e : DraftView = c.set_line.new.self in
    let new : e ≡ with_line (noted d line) line = c.set_line.ensures.draft ∙ ap (λ (f : DraftView). with_line f line) is in
    let k = line-keeps (noted d line) line in
    adds_right d line c.requires.draft.next (sym wrong ∙ none) (subst (λ (n : ℕ). IsRightLine n line) rows right) c.requires.draft.letter
    (λ alive. some_spans line.items (c.set_line.ensures.spans alive)) e new
    (ap (λ (f : DraftView). f.places) new ∙ k.places, ap (λ (f : DraftView). f.rows) new ∙ k.rows, ap (λ (f : DraftView). f.lines) new ∙ k.lines, ap (λ (f : DraftView). f.follows) new ∙ k.follows, ap (λ (f : DraftView). f.wrong) new ∙ k.wrong)

pub returns-else-is_line_right : goal.returns-else-is_line_right
returns-else-is_line_right c =
    let d : DraftView = c.args.self.now in
    let line : LineView = c.args.line.now in
    let is : c.note.new.self ≡ noted d line = c.in_ok-note.ensures in
    let wrong : c.self.inside.wrong ≡ d.wrong = ap (λ (e : DraftView). e.wrong) (c.self.view_is ∙ is) in
    let none : c.self.inside.wrong ≡ None = search rules in
    let rows : c.self.inside.rows ≡ d.rows = ap (λ (e : DraftView). e.rows) (c.self.view_is ∙ is) in
    let bad : IsRightLine c.self.inside.rows line → ⊥ = search rules in
    let same = c.self.view_is ∙ is in
    let head = c.line.view_is in
    adds_as d line (record (noted d line) { wrong = Some line.head.row }) (record { places = c.self.inside.places; rows = c.self.inside.rows; words = c.self.inside.words.items; lines = c.self.inside.lines.items; follows = c.self.inside.follows.items; wrong = Some c.line.inside.head.row; overlap = c.self.inside.overlap })
    (λ j. record { places = (sym same j).places; rows = (sym same j).rows; words = (sym same j).words; lines = (sym same j).lines; follows = (sym same j).follows; wrong = Some (sym head j).head.row; overlap = (sym same j).overlap })
    (adds_first d line c.requires.draft.next (sym wrong ∙ none) (λ r. bad (subst (λ (n : ℕ). IsRightLine n line) (sym rows) r)))
