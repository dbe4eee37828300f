-- Places added for one segment after the other: what is so of each step.
use Rattle.std.proofs.Common.{◌≡◌, inl, inr, Bool, true, false, List, [], ◌∷◌, ◌++◌, length, sym, subst}
use Rattle.std.specs.List.{AllByRecursion}
use Rattle.rail_ids.specs.declared.RowNo.{RowNo}
use Rattle.leg_masks.specs.Interval.{PlacedSpan as Item}
use Rattle.history_model.specs.declared.entry.Step.{Step}
use Rattle.history_model.specs.History.{IsLegal}
use Rattle.history_model.proofs.ListLemmas.{All-append}
use Rattle.claim_rule.specs.Rule.{DeskView}
use Rattle.claim_rule.specs.Calls.{AddsStepsBy}
use Rattle.claim_rule.proofs.Shapes.{shape_then, shape_none}
use Rattle.party_places.proofs.Steps.{IsSoOf, adds_all, party_all}
use Rattle.train_runs.specs.declared.segment.Segment.{Segment}
use Rattle.offer_codes.specs.Offers.{OfferView}
use Rattle.catalogue_contents.specs.Contents.{CatalogueView}
use Rattle.reservation_service.specs.declared.holding.Placing.{Placing}
use Rattle.reservation_service.specs.Holding.{count_of, candidates_in, party_at, AddsSegment, PlacesAll}

-- what a desk has seen is a history then
pub added_legal : (cat : CatalogueView) (o : OfferView) (together : Bool) (row : RowNo) (items won : List Item) (s : Segment) (mine : Placing) (old new : DeskView)
    → AddsSegment cat o together row items s mine won old new → IsLegal new.layout new.seen
added_legal cat o false row items won s mine old new (answer, is, did) = did.2.legal
added_legal cat o true row items won s mine old new (answer, is, did, spoils) = did.2.legal

-- steps of all of which it is so
abbrev pub DoesOnly : (Step → Type 0) → DeskView → DeskView → Type 0
DoesOnly P old new = AddsStepsBy (AllByRecursion P) old new

module _ (P : Step → Type 0) where
  pub only_then : (a b c : DeskView) → DoesOnly P a b → DoesOnly P b c → DoesOnly P a c
  only_then a b c p q = (p.0 ++ q.0, All-append P p.0 q.0 p.1 q.1, shape_then a b c p.0 q.0 p.2 q.2)

  pub only_none : (a b : DeskView) → IsLegal a.layout a.seen → b ≡ a → DoesOnly P a b
  only_none a b legal same = subst (DoesOnly P a) (sym same) ([], tt, shape_none a legal)

  pub adds_only : (cat : CatalogueView) (o : OfferView) (together : Bool) (row : RowNo) (items won : List Item) (s : Segment) (mine : Placing) (old new : DeskView) → IsSoOf P row.row
      → AddsSegment cat o together row items s mine won old new → DoesOnly P old new
  adds_only cat o false row items won s mine old new so (answer, is, did) =
      (did.0, adds_all P row.row so (length items) s.span (count_of o) (candidates_in cat o s) answer won did.0 did.1, did.2)
  adds_only cat o true row items won s mine old new so (answer, is, did, spoils) =
      (did.0, party_all P (party_at cat o row (length items) s) so answer won did.0 did.1, did.2)

  pub places_only : (cat : CatalogueView) (o : OfferView) (together : Bool) (row : RowNo) (items : List Item) (segments : List Segment) (p : Placing) (all : List Item) (old new : DeskView) → IsSoOf P row.row
      → IsLegal old.layout old.seen → PlacesAll cat o together row items segments p all old new → DoesOnly P old new
  places_only cat o together row items [] p all old new so legal is = only_none old new legal is.2
  places_only cat o together row items (s ∷ rest) p all old new so legal (inl (mine, won, mid, did, inl go)) =
      only_then old mid new (adds_only cat o together row items won s mine old mid so did)
      (places_only cat o together row (items ++ won) rest p all mid new so (added_legal cat o together row items won s mine old mid did) go.1)
  places_only cat o together row items (s ∷ rest) p all old new so legal (inl (mine, won, mid, did, inr stop)) =
      subst (DoesOnly P old) (sym stop.3) (adds_only cat o together row items won s mine old mid so did)
  places_only cat o together row items (s ∷ rest) p all old new so legal (inr none) = only_none old new legal none.2
