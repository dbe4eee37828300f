-- Booking an offer turns nothing to an exchange, and leaves a tidy desk tidy.
use Rattle.std.proofs.Common.{◌≡◌, Bool, false, inl, inr, ℕ, suc, List, [], ◌∷◌, ◌++◌, length, Option, Some, None, refl, sym, subst}
use Rattle.rail_ids.specs.declared.RowNo.{RowNo}
use Rattle.leg_masks.specs.Interval.{PlacedSpan as Item}
use Rattle.history_model.specs.declared.entry.Step.{Step}
use Rattle.history_model.specs.declared.entry.Step.TheVariants.{SawRow, Start}
use Rattle.history_model.specs.Work.{NoStep}
use Rattle.history_model.proofs.ListLemmas.{All-append}
use Rattle.claim_rule.specs.Rule.{BooksView, DeskView}
use Rattle.claim_rule.specs.Desks.{IsOf}
use Rattle.claim_rule.specs.Calls.{AddsStepsBy}
use Rattle.claim_rule.specs.Out.{exchanges, IsIdle, IsTidy}
use Rattle.claim_rule.proofs.Out.{tidy_through, settled_calm}
use Rattle.booking_rows.specs.Starts.{Misses, misses_steps, Passed, search_steps, StartsHold}
use Rattle.hold_core.specs.Places.{gives_back}
use Rattle.party_places.proofs.Steps.{IsSoOf, gives_all}
use Rattle.train_runs.specs.declared.segment.Segment.{Segment}
use Rattle.offer_codes.specs.Offers.{OfferView}
use Rattle.catalogue_contents.specs.Contents.{CatalogueView}
use Rattle.osdm_texts.specs.Answers.{Reply}
use Rattle.reservation_service.specs.declared.holding.Placing.{Placing}
use Rattle.reservation_service.specs.declared.holding.Placing.TheVariants.{Whole}
use Rattle.reservation_service.specs.Holding.{HoldsPlaces, FindsNoRow, GivesUp}
use Rattle.reservation_service.specs.Reserving.{Reserves}
use Rattle.reservation_service.proofs.Adding.{only_then, places_only}

-- what the desk has done holds no turn to an exchange
abbrev pub WentCalmly : DeskView → DeskView → Type 0
WentCalmly old new = AddsStepsBy (NoStep exchanges) old new

calm_append : (xs ys : List Step) → NoStep exchanges xs → NoStep exchanges ys → NoStep exchanges (xs ++ ys)
calm_append xs ys p q = All-append (λ st. exchanges st ≡ false) xs ys p q

pub calmly_then : (a b c : DeskView) → WentCalmly a b → WentCalmly b c → WentCalmly a c
calmly_then a b c p q = only_then (λ st. exchanges st ≡ false) a b c p q

calm_misses : (ms : Misses) → NoStep exchanges (misses_steps ms)
calm_misses [] = tt
calm_misses ((row, word) ∷ rest) = (refl, calm_misses rest)

calm_search : (row : ℕ) (passed : List Passed) → NoStep exchanges (search_steps row passed)
calm_search row [] = tt
calm_search row ((n, None) ∷ ps) = (refl, calm_search (suc row) ps)
calm_search row ((n, Some m) ∷ ps) = (refl, (refl, calm_search (suc row) ps))

calm_start : (old mid : DeskView) (row : Option RowNo) (es : List Step) → StartsHold old mid row es → NoStep exchanges es
calm_start old mid (Some row) es (inl (makes, is)) = subst (NoStep exchanges) (sym is) tt
calm_start old mid (Some row) es (inr (inl (none, first, least, found))) =
    subst (NoStep exchanges) (sym found.2) (calm_append (misses_steps found.0) (Start row.row 0 ∷ []) (calm_misses found.0) (refl, tt))
calm_start old mid (Some row) es (inr (inr (none, full, (misses, rest, are, (n, may, next, (passed, many, each, steps)), is)))) =
    subst (NoStep exchanges) (sym is) (calm_append (misses_steps misses) rest (calm_misses misses)
    (subst (NoStep exchanges) (sym steps) (calm_append (search_steps 0 passed) (SawRow row.row 0 n ∷ Start row.row row.generation ∷ []) (calm_search 0 passed) (refl, (refl, tt)))))
calm_start old mid None es (none, full, (misses, rest, are, (passed, many, each, steps), is)) =
    subst (NoStep exchanges) (sym is) (calm_append (misses_steps misses) rest (calm_misses misses) (subst (NoStep exchanges) (sym steps) (calm_search 0 passed)))

abbrev IsCalm : Step → Type 0
IsCalm st = exchanges st ≡ false

calm_adding : (row : ℕ) → IsSoOf IsCalm row
calm_adding row = record { look = λ place half shown. refl; take = λ place span. refl; note = λ word value. refl; give = λ item. refl }

-- the same of the other parts of a booking

pub held_calmly : (cat : CatalogueView) (o : OfferView) (together : Bool) (segments : List Segment) (row : RowNo) (p : Placing) (items : List Item) (old new : DeskView) → HoldsPlaces cat o together segments row p items old new → WentCalmly old new
held_calmly cat o together segments row p items old new (mid, started, placed) =
    calmly_then old mid new (started.0, calm_start old mid (Some row) started.0 started.1, started.2) (places_only IsCalm cat o together row [] segments p items mid new (calm_adding row.row) started.2.legal placed)

pub found_calmly : (old new : DeskView) → FindsNoRow old new → WentCalmly old new
found_calmly old new did = (did.0, calm_start old new None did.0 did.1, did.2)

pub gave_calmly : (row : RowNo) (items : List Item) (old new : DeskView) → GivesUp row items old new → WentCalmly old new
gave_calmly row items old new did = (gives_back row.row (length items), gives_all IsCalm row.row (calm_adding row.row) (length items), did)

reserves_calmly : (cat : CatalogueView) (retailer now : ℕ) (o : OfferView) (together : Bool) (old new : DeskView) (reply : Reply) → Reserves cat retailer now o together old new reply → WentCalmly old new
reserves_calmly cat retailer now o together old new reply (inl (row, items, mid, held, did, is)) =
    calmly_then old mid new (held_calmly cat o together o.segments row Whole items old mid held) (_, (refl, (refl, (refl, (refl, (refl, tt))))), did)
reserves_calmly cat retailer now o together old new reply (inr (inl (inl (did, is)))) = found_calmly old new did
reserves_calmly cat retailer now o together old new reply (inr (inl (inr (row, p, reason, items, mid, held, why, gave, is)))) =
    calmly_then old mid new (held_calmly cat o together o.segments row p items old mid held) (gave_calmly row items mid new gave)
reserves_calmly cat retailer now o together old new reply (inr (inr ((row, items, mid, held, gave), is))) =
    calmly_then old mid new (held_calmly cat o together o.segments row Whole items old mid held) (gave_calmly row items mid new gave)

pub reserves_tidy : (cat : CatalogueView) (retailer now : ℕ) (o : OfferView) (together : Bool) (books : BooksView) (old new : DeskView) (reply : Reply) → IsOf books new → Reserves cat retailer now o together old new reply → IsIdle new → IsTidy old → IsTidy new
reserves_tidy cat retailer now o together books old new reply of did idle tidy =
    let w = reserves_calmly cat retailer now o together old new reply did in
    tidy_through books old new w.0 of w.2 (settled_calm old.number w.0 w.1) tidy idle
