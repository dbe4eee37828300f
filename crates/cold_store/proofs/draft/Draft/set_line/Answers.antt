-- The places are those that they were before the words were written.
use Rattle.std.proofs.Common.{◌≡◌, ℕ, List, All, Option, Some, IfSome, option_map, refl, sym, ap, ◌∙◌, subst}
use Rattle.std.proofs.lemmas.List.Elements.{All-weaker}
use Rattle.leg_masks.specs.Interval.{PlacedSpan as Item}
use Rattle.cold_store.specs.Drafts.{DraftView, IsPlaceOf, with_words}
use Rattle.cold_store.specs.Reads.{LineView}
use Rattle.cold_store.proofs.Taking.{place-kept, words-keeps}
use Rattle.cold_store.proofs.draft.Draft.set_line.Goals as goal

pub take_all-requires : goal.take_all-requires
take_all-requires c =
    let d : DraftView = c.args.self.now in
    let new : DraftView = with_words d c.line.inside.head.row c.as_slice-in-Some.result.now in
    let view = c.line.view_is in
    let given : IfSome (option_map (λ v. v.items) c.line.inside.items) (All (λ (i : Item). IsPlaceOf d i.place)) =
    subst (λ (l : LineView). IfSome l.items (All (λ (i : Item). IsPlaceOf d i.place))) (sym view) c.requires.places in
    let is : option_map (λ v. v.items) c.line.inside.items ≡ Some c.in-Some.items.items = rw c.in-Some.is refl in
    let all : All (λ (i : Item). IsPlaceOf d i.place) c.in-Some.items.items = subst (λ (o : Option (List Item)). IfSome o (All (λ (i : Item). IsPlaceOf d i.place))) is given in
    let kept : All (λ (i : Item). IsPlaceOf new i.place) c.in-Some.items.items =
    All-weaker (λ (i : Item). IsPlaceOf d i.place) (λ (i : Item). IsPlaceOf new i.place) (λ i. place-kept d new i.place (words-keeps d c.line.inside.head.row c.as_slice-in-Some.result.now)) c.in-Some.items.items all in
    record {
      places = subst (λ (e : DraftView). All (λ (i : Item). IsPlaceOf e i.place) c.as_slice-then-is_live.result.now) (sym c.write.ensures)
          (subst (λ (is : List Item). All (λ (i : Item). IsPlaceOf new i.place) is) (sym c.as_slice-then-is_live.ensures.value) kept);
    }
