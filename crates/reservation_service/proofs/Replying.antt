-- The replies to a booking of an offer.
use Rattle.std.proofs.Common.{◌≡◌, ◌≢◌, Bool, false, ◌∙◌, inl, inr, ℕ, ◌≤◌, List, [], ◌∷◌, ◌++◌, length, Option, Some, None, refl, sym, ap, subst, arith, append_assoc}
use Rattle.rail_ids.specs.declared.RowNo.{RowNo}
use mathlib.Core.List.{IsPrefix}
use Rattle.leg_masks.specs.Interval.{PlacedSpan as Item}
use Rattle.history_model.specs.Booking.{Layout}
use Rattle.history_model.specs.Allowed.{OnRow}
use Rattle.history_model.specs.History.{entry, state_of}
use Rattle.history_model.specs.declared.entry.Entry.{Entry}
use Rattle.history_model.specs.declared.entry.Step.{Step}
use Rattle.history_model.specs.declared.entry.Step.TheVariants.{Seal}
use Rattle.history_model.specs.declared.phase.Phase.{Phase}
use Rattle.history_model.specs.declared.phase.Phase.TheVariants as phase
use Rattle.claim_rule.specs.Rule.{BooksView, DeskView}
use Rattle.claim_rule.specs.Holds.{HoldView}
use Rattle.claim_rule.specs.Desks.{IsOf, AddsSteps}
use Rattle.claim_rule.proofs.Shapes.{shape_then}
use Rattle.claim_rule.specs.Calls.{AddsStepsBy}
use Rattle.booking_rows.specs.Starts.{StartsHold}
use Rattle.booking_rows.specs.declared.notes.Detail.{Detail}
use Rattle.booking_rows.specs.Notes.{detail_notes}
use Rattle.claim_rule.specs.Out.{MakesEmpty, IsSealedAs, SealsItems, IsIdle}
use Rattle.shop.specs.Homes.{StaysHome}
use Rattle.offer_codes.specs.Offers.{OfferView}
use Rattle.catalogue_contents.specs.Contents.{CatalogueView}
use Rattle.osdm_parts.specs.declared.problem.Problem.{Problem}
use Rattle.osdm_parts.specs.declared.problem.Problem.TheVariants as reason
use Rattle.osdm_texts.specs.Answers.{Reply, created, problem, Told, refused, reply_told}
use Rattle.osdm_texts.specs.Seen.{made_view}
use Rattle.osdm_texts.proofs.Telling.{of_problem}
use Rattle.reservation_service.specs.declared.holding.Placing.{Placing}
use Rattle.reservation_service.specs.declared.holding.Placing.TheVariants.{Whole, Short, Contended, NoMemory}
use Rattle.reservation_service.specs.Holding.{count_of, PlacesAll, HoldsPlaces, FindsNoRow, GivesUp, HasAllPlaces, problem_of}
use Rattle.reservation_service.specs.Reserving.{detail_of, Reserves, MakesReady, FallsShort, SealsHold, FailsToHold, HasAllOrNone, AnswersReserving}
use Rattle.reservation_service.proofs.Placed.{apart_has_memory, whole_places, places_many}
use Rattle.reservation_service.proofs.Calm.{held_calmly, reserves_tidy}

pub whole_of : (p : Placing) → problem_of p ≡ None → p ≡ Whole
whole_of Whole e = refl
whole_of Short e = absurd (let no : ◌≡◌ {A = Option Problem} (Some reason.NoPlace) None = e in cc)
whole_of Contended e = absurd (let no : ◌≡◌ {A = Option Problem} (Some reason.Contended) None = e in cc)
whole_of NoMemory e = absurd (let no : ◌≡◌ {A = Option Problem} (Some reason.NoMemory) None = e in cc)

pub no_row : (cat : CatalogueView) (retailer now : ℕ) (o : OfferView) (together : Bool) (old new : DeskView) → FindsNoRow old new → MakesEmpty new
    → AnswersReserving cat retailer now o together old new (refused reason.RowsFull)
no_row cat retailer now o together old new did none = (problem reason.RowsFull, inr (inl (inl (did, refl))), none, of_problem cat reason.RowsFull)

pub given_up : (cat : CatalogueView) (retailer now : ℕ) (o : OfferView) (together : Bool) (row : RowNo) (p : Placing) (why : Problem) (items : List Item) (old mid new : DeskView)
    → HoldsPlaces cat o together o.segments row p items old mid → problem_of p ≡ Some why → GivesUp row items mid new → MakesEmpty new
    → AnswersReserving cat retailer now o together old new (refused why)
given_up cat retailer now o together row p why items old mid new placed is gave none =
    (problem why, inr (inl (inr (row, p, why, items, mid, placed, is, gave, refl))), none, of_problem cat why)

-- a whole placing of some segments holds some items
pub some_placed : (cat : CatalogueView) (o : OfferView) (together : Bool) (row : RowNo) (p : Placing) (items : List Item) (old mid : DeskView) → PlacesAll cat o together row [] o.segments p items old mid → problem_of p ≡ None → 1 ≤ count_of o → count_of o ≤ 8 → 1 ≤ length o.segments
    → 1 ≤ length items
some_placed cat o together row p items old mid placed none some few segments =
    let m = (places_many cat o together row [] o.segments p items old mid placed (whole_of p none) some few).0 in omega arith

pub some_held : (cat : CatalogueView) (o : OfferView) (together : Bool) (row : RowNo) (p : Placing) (items : List Item) (old mid : DeskView) → HoldsPlaces cat o together o.segments row p items old mid → problem_of p ≡ None → 1 ≤ count_of o → count_of o ≤ 8 → 1 ≤ length o.segments
    → 1 ≤ length items
some_held cat o together row p items old mid (start, started, placed) = some_placed cat o together row p items start mid placed

-- a seal as an earlier view of the desk has it
abbrev SealsBy : List Entry → Layout → ℕ → DeskView → RowNo → Phase → List Item → Type 0
SealsBy seen layout number new row phase items =
    (before : List Entry) × (after : List Entry) × IsPrefix seen before
    × (new.seen ≡ before ++ entry number (Seal row.row phase) ∷ after)
    × OnRow (state_of layout (before ++ entry number (Seal row.row phase) ∷ [])) row.row (IsSealedAs row.generation number phase items)

pub seals_since : (old mid new : DeskView) (row : RowNo) (phase : Phase) (items : List Item) (es : List Step) → AddsSteps old mid es → SealsItems mid new row phase items → SealsItems old new row phase items
seals_since old mid new row phase items es did seals =
    let s : SealsBy mid.seen old.layout old.number new row phase items = subst (λ (x : Layout × ℕ). SealsBy mid.seen x.0 x.1 new row phase items) (λ i. (did.same.1 i, did.same.2 i)) seals in
    let start = did.front.0 in (
      s.0,
      s.1,
      (start ++ s.2.0, sym (append_assoc old.seen start s.2.0) ∙ (ap (λ (l : List Entry). l ++ s.2.0) did.front.1 ∙ s.2.1)),
      s.3,
      s.4,
    )

pub has_places : (cat : CatalogueView) (o : OfferView) (together : Bool) (row : RowNo) (items : List Item) (old mid : DeskView) → HoldsPlaces cat o together o.segments row Whole items old mid → HasAllPlaces cat o o.segments items
has_places cat o together row items old mid (start, started, placed) =
    let more = whole_places cat o together row [] o.segments Whole items start mid placed refl in
    subst (HasAllPlaces cat o o.segments) (sym more.2) more.1

-- the notes and the seal of a hold
noted_and_sealed : (row count : ℕ) (d : Detail) (old mid new : DeskView) → AddsSteps old mid (detail_notes row d count) → AddsSteps mid new (Seal row phase.Prebooked ∷ []) → AddsSteps old new (detail_notes row d count ++ Seal row phase.Prebooked ∷ [])
noted_and_sealed row count d old mid new = shape_then old mid new (detail_notes row d count) (Seal row phase.Prebooked ∷ [])

pub seals_hold : (hold noted : HoldView) (d : Detail) (old mid new : DeskView) (reply : Reply) → noted ≡ hold → AddsSteps old mid (detail_notes hold.row.row d (length hold.items)) → AddsSteps mid new (Seal noted.row.row phase.Prebooked ∷ []) → SealsItems mid new noted.row phase.Prebooked noted.items
    → reply ≡ created hold.row (made_view phase.Prebooked d hold.items) → SealsHold hold.row hold.items d old new reply
seals_hold hold noted d old mid new reply same notes seal items is = inl (
  noted_and_sealed hold.row.row (length hold.items) d old mid new notes (subst (λ (h : HoldView). AddsSteps mid new (Seal h.row.row phase.Prebooked ∷ [])) same seal),
  seals_since old mid new hold.row phase.Prebooked hold.items (detail_notes hold.row.row d (length hold.items)) notes (subst (λ (h : HoldView). SealsItems mid new h.row phase.Prebooked h.items) same items),
  is,
)

sealed : (cat : CatalogueView) (retailer now : ℕ) (o : OfferView) (together : Bool) (row : RowNo) (items : List Item) (old mid new : DeskView) (reply : Reply) → HoldsPlaces cat o together o.segments row Whole items old mid
    → SealsHold row items (detail_of cat o retailer now) mid new reply → MakesEmpty new → Reserves cat retailer now o together old new reply × HasAllOrNone cat o old new reply
sealed cat retailer now o together row items old mid new reply placed (inl (did, seals, is)) none =
    let held = held_calmly cat o together o.segments row Whole items old mid placed in (
      inl (row, items, mid, placed, did, is),
      subst (HasAllOrNone cat o old new) (sym is) (seals_since old mid new row phase.Prebooked items held.0 held.2 seals, has_places cat o together row items old mid placed),
    )
sealed cat retailer now o together row items old mid new reply placed (inr (gave, is)) none =
    (inr (inr ((row, items, mid, placed, gave), is)), subst (HasAllOrNone cat o old new) (sym is) none)

pub prebooked : (cat : CatalogueView) (retailer now : ℕ) (o : OfferView) (together : Bool) (row : RowNo) (p : Placing) (items : List Item) (old mid new : DeskView) (reply : Reply) (written : Told) → HoldsPlaces cat o together o.segments row p items old mid
    → problem_of p ≡ None → SealsHold row items (detail_of cat o retailer now) mid new reply → MakesEmpty new → written ≡ reply_told cat reply → AnswersReserving cat retailer now o together old new written
prebooked cat retailer now o together row p items old mid new reply written placed whole_is did none bytes =
    let whole = subst (λ (q : Placing). HoldsPlaces cat o together o.segments row q items old mid) (whole_of p whole_is) placed in
    let s = sealed cat retailer now o together row items old mid new reply whole did none in
    (reply, s.0, s.1, bytes)

-- a booking that was made ready and sealed, and one that fell short and was given up

pub readied : (cat : CatalogueView) (retailer now : ℕ) (o : OfferView) (together : Bool) (row : RowNo) (hold : HoldView) (old start mid new : DeskView) (said : Told)
    → AddsStepsBy (StartsHold old start (Some row)) old start → hold.row ≡ row → MakesReady cat retailer now o together hold.row hold.items start mid said
    → AddsSteps mid new (Seal hold.row.row phase.Prebooked ∷ []) → SealsItems mid new hold.row phase.Prebooked hold.items → MakesEmpty new
    → AnswersReserving cat retailer now o together old new said
readied cat retailer now o together row hold old start mid new said started same (placed, did, notes, is) seal items none =
    let by_row = subst (λ (r : RowNo). AddsStepsBy (StartsHold old start (Some r)) old start) (sym same) started in
    let d = detail_of cat o retailer now in
    let reply = created hold.row (made_view phase.Prebooked d hold.items) in
    prebooked cat retailer now o together hold.row Whole hold.items old placed new reply said (start, by_row, did) refl
    (seals_hold hold hold d placed mid new reply refl notes seal items refl) none is

pub fell_short : (cat : CatalogueView) (retailer now : ℕ) (o : OfferView) (together : Bool) (row held : RowNo) (items : List Item) (why : Problem) (old start mid new : DeskView)
    → AddsStepsBy (StartsHold old start (Some row)) old start → held ≡ row → FallsShort cat o together held items why start mid → GivesUp held items mid new → MakesEmpty new
    → AnswersReserving cat retailer now o together old new (refused why)
fell_short cat retailer now o together row held items why old start mid new started same (p, did, inl wrong) gave none =
    let by_row = subst (λ (r : RowNo). AddsStepsBy (StartsHold old start (Some r)) old start) (sym same) started in
    given_up cat retailer now o together held p why items old mid new (start, by_row, did) wrong gave none
fell_short cat retailer now o together row held items why old start mid new started same (p, did, inr (whole, is)) gave none =
    let by_row = subst (λ (r : RowNo). AddsStepsBy (StartsHold old start (Some r)) old start) (sym same) started in
    let all = subst (λ (q : Placing). PlacesAll cat o together held [] o.segments q items start mid) whole did in
    subst (λ (p : Problem). AnswersReserving cat retailer now o together old new (refused p)) (sym is)
    (problem reason.NoMemory, inr (inr ((held, items, mid, (start, by_row, all), gave), refl)), none, of_problem cat reason.NoMemory)

pub made_by : (cat : CatalogueView) (retailer now : ℕ) (o : OfferView) (together : Bool) (held noted : HoldView) (row : RowNo) (p : Placing) (d : Detail) (old mid new : DeskView) (said : Told)
    → PlacesAll cat o together row [] o.segments p held.items old mid → problem_of p ≡ None → held.row ≡ row → noted ≡ held → d ≡ detail_of cat o retailer now
    → AddsSteps mid new (detail_notes held.row.row d (length held.items)) → said ≡ reply_told cat (created held.row (made_view phase.Prebooked d held.items))
    → MakesReady cat retailer now o together noted.row noted.items old new said
made_by cat retailer now o together held noted row p d old mid new said placed none same kept is notes told =
    let by_row = subst (λ (r : RowNo). PlacesAll cat o together r [] o.segments p held.items old mid) (sym same) placed in
    let whole = subst (λ (q : Placing). PlacesAll cat o together held.row [] o.segments q held.items old mid) (whole_of p none) by_row in
    let made : MakesReady cat retailer now o together held.row held.items old new said =
    subst (λ (e : Detail). (m : DeskView) × PlacesAll cat o together held.row [] o.segments Whole held.items old m × AddsSteps m new (detail_notes held.row.row e (length held.items)) × (said ≡ reply_told cat (created held.row (made_view phase.Prebooked e held.items))))
    is (mid, whole, notes, told) in
    subst (λ (h : HoldView). MakesReady cat retailer now o together h.row h.items old new said) (sym kept) made

pub answered_home : (cat : CatalogueView) (retailer now : ℕ) (o : OfferView) (together : Bool) (old new : DeskView) (written : Told) (books : BooksView) → IsOf books new → AnswersReserving cat retailer now o together old new written → IsIdle new → StaysHome books old new
answered_home cat retailer now o together old new written books own a idle =
    record { home = record { own = own; idle = idle }; tidy = reserves_tidy cat retailer now o together books old new a.0 own a.1 idle }

-- a hold for passengers who don't sit together never fails for want of memory

answers_known : (p : Placing) (why : Problem) → p ≢ NoMemory → problem_of p ≡ Some why → why ≢ reason.NoMemory
answers_known Whole why ne is e = let no : ◌≡◌ {A = Option Problem} None (Some why) = is in cc
answers_known Short why ne is e = let no : ◌≡◌ {A = Option Problem} (Some reason.NoPlace) (Some reason.NoMemory) = is ∙ ap Some e in cc
answers_known Contended why ne is e = let no : ◌≡◌ {A = Option Problem} (Some reason.Contended) (Some reason.NoMemory) = is ∙ ap Some e in cc
answers_known NoMemory why ne is e = absurd (ne refl)

same_problem : (a b : Problem) → problem a ≡ problem b → a ≡ b
same_problem a b e = cc

pub fails_with_memory : (cat : CatalogueView) (o : OfferView) (old new : DeskView) (reply : Reply) → FailsToHold cat o false old new reply → reply ≢ problem reason.NoMemory
fails_with_memory cat o old new reply (inl (did, is)) e = let no : problem reason.RowsFull ≡ problem reason.NoMemory = sym is ∙ e in cc
fails_with_memory cat o old new reply (inr (row, p, why, items, mid, (first, started, placed), wrong, gave, is)) e =
    answers_known p why (apart_has_memory cat o row [] o.segments p items first mid placed) wrong (same_problem why reason.NoMemory (sym is ∙ e))
