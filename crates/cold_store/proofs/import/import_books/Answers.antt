-- The text was read as bookings that are sound, and the books open with them.
use Rattle.std.proofs.Common.{◌≡◌, ℕ, rules, List, length, map, refl, sym, ap, ◌∙◌, subst, arith}
use Rattle.claim_rule.specs.Openings.{AllOpenings, OpensWith}
use Rattle.cold_store.specs.Drafts.{DraftView}
use Rattle.cold_store.specs.Right.{kept_of}
use Rattle.cold_store.proofs.Sound.{import_layout, import_opens, read_as}
use Rattle.cold_store.proofs.import.import_books.Goals as goal

pub adopt_books-requires-clause-opening : goal.adopt_books-requires-clause-opening
adopt_books-requires-clause-opening c =
    let d : DraftView = c.read_text.new.draft in
    let first : c.in_ok-sizes.sizes.0 ≡ length c.args.legs.now = omega arith in
    let second : c.in_ok-sizes.sizes.1 ≡ c.args.rows = omega arith in
    let rows : d.rows ≡ c.args.rows = c.in_ok-sizes.ensures.rows ∙ (c.in_ok-draft.ensures c.args.legs.now (omega arith)).sizes.1 in
    let read = read_as c.args.legs.now c.args.rows c.args.text.now d c.in_ok-sizes.sizes.0 c.in_ok-sizes.sizes.1 first second rows c.in_ok-sizes.ensures.ok in
    let words : d.words ≡ c.as_slice.result.now = sym (c.as_slice.ensures.value ∙ ap (λ (e : DraftView). e.words) c.draft.view_is) in (
      map kept_of read.said,
      subst (λ (ws : List ℕ). OpensWith c.args.legs.now c.args.rows ws (map kept_of read.said)) words
          (import_opens c.args.legs.now c.args.rows c.args.text.now d c.requires.rows.1 read c.in_default.ensures.none),
    )

pub returns-clause-layout : goal.returns-clause-layout
returns-clause-layout c =
    let d : DraftView = c.read_text.new.draft in
    let first : c.in_ok-sizes.sizes.0 ≡ length c.args.legs.now = omega arith in
    let second : c.in_ok-sizes.sizes.1 ≡ c.args.rows = omega arith in
    let rows : d.rows ≡ c.args.rows = c.in_ok-sizes.ensures.rows ∙ (c.in_ok-draft.ensures c.args.legs.now (omega arith)).sizes.1 in
    let read = read_as c.args.legs.now c.args.rows c.args.text.now d c.in_ok-sizes.sizes.0 c.in_ok-sizes.sizes.1 first second rows c.in_ok-sizes.ensures.ok in
    let words : d.words ≡ c.as_slice.result.now = sym (c.as_slice.ensures.value ∙ ap (λ (e : DraftView). e.words) c.draft.view_is) in
    import_layout c.args.legs.now c.args.rows c.args.text.now d c.in_ok-adopt_books.field-0.0.layout c.requires.rows.1 read c.in_default.ensures.none
    (subst (λ (ws : List ℕ). AllOpenings c.args.legs.now c.args.rows ws c.in_ok-adopt_books.field-0.0.layout) (sym words) c.in_ok-adopt_books.ensures.layout)
