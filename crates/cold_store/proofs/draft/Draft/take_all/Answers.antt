-- One item more is taken.
use Rattle.std.proofs.Common.{◌≡◌, ℕ, ◌<◌, ◌≤◌, length, take, get_or, All, refl, sym, ap, ◌∙◌, subst}
use Rattle.std.proofs.lemmas.List.Elements.{All-get_or, All-more}
use Rattle.leg_masks.specs.Interval.{most_legs}
use Rattle.leg_masks.specs.Interval.{PlacedSpan as Item}
use Rattle.cold_store.specs.Drafts.{DraftView, IsPlaceOf, took, with_taken}
use Rattle.cold_store.proofs.Taking.{place-kept, taken-keeps, taken-more}
use Rattle.cold_store.proofs.draft.Draft.take_all.Goals as goal

pub take-requires : goal.take-requires
take-requires c =
    let all : All (λ (i : Item). IsPlaceOf c.args.self.now i.place) c.args.items.now = c.requires.places in
    let is : c.index-items-k.result ≡ get_or c.args.items.now c.loop-k.k c.index-items-k.result = c.index-items-k.is in
    let here : IsPlaceOf c.args.self.now c.index-items-k.result.place =
    subst (λ (i : Item). IsPlaceOf c.args.self.now i.place) (sym is) (All-get_or (λ (i : Item). IsPlaceOf c.args.self.now i.place) c.args.items.now c.loop-k.k c.index-items-k.result c.loop-k-test.true all) in
    record { place = subst (λ (d : DraftView). IsPlaceOf d c.index-items-k.result.place) (sym c.loop-k.invariant.draft) (place-kept c.args.self.now (with_taken c.args.self.now (take c.loop-k.k c.args.items.now)) c.index-items-k.result.place (taken-keeps c.args.self.now (take c.loop-k.k c.args.items.now)) here) }

pub loop-k-preserved : goal.loop-k-preserved
loop-k-preserved c =
    let is : c.index-items-k.result ≡ get_or c.args.items.now c.loop-k.k c.index-items-k.result = c.index-items-k.is in
    record {
      draft = c.take.ensures.draft
          ∙ (λ j. took (c.loop-k.invariant.draft j) (is j))
          ∙ taken-more c.args.self.now c.args.items.now c.loop-k.k c.index-items-k.result c.loop-k-test.true;
      spans = All-more (λ (i : Item). i.span.to ≤ most_legs) c.args.items.now c.loop-k.k c.index-items-k.result c.loop-k-test.true c.loop-k.invariant.spans
          (subst (λ (i : Item). i.span.to ≤ most_legs) is c.take.ensures.span);
    }
