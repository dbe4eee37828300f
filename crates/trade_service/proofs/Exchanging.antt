-- The replies to commands on exchanges.
use Rattle.std.proofs.Common.{false, ◌≡◌, ◌≢◌, ◌∙◌, inl, inr, ℕ, ℤ, ◌≤◌, true, List, length, Some, None, Result, Ok, Err, IfOk, IfErr, refl, sym, ap, subst}
use Rattle.std.specs.Prelude.{nat_le}
use Rattle.std.proofs.lemmas.Bool.{leb-true}
use Rattle.leg_masks.specs.Interval.{PlacedSpan as Item}
use Rattle.rail_ids.specs.declared.RowNo.{RowNo}
use Rattle.history_model.specs.declared.phase.Phase.{Phase}
use Rattle.claim_rule.specs.Rule.{DeskView}
use Rattle.claim_rule.specs.Desks.{AddsSteps}
use Rattle.claim_rule.specs.Calls.{AddsStepsBy}
use Rattle.claim_rule.specs.Holds.{HoldView}
use Rattle.claim_rule.specs.Out.{SealsItems, MakesEmpty}
use Rattle.booking_rows.specs.declared.notes.Detail.{Detail}
use Rattle.booking_rows.specs.Notes.{detail_notes}
use Rattle.booking_rows.specs.Views.{RowSeen}
use Rattle.catalogue_contents.specs.Contents.{CatalogueView}
use Rattle.offer_codes.specs.declared.code.ExchangeCode.{ExchangeCode}
use Rattle.offer_codes.specs.Offers.{OfferView, is_offer, is_party}
use Rattle.offer_codes.specs.Exchanges.{ExchangeView}
use Rattle.exchange_core.specs.Ready.{ReadyView, IsReadyFor}
use Rattle.exchange_core.specs.Exchanges.{QuotesExchange, Readies}
use Rattle.exchange_core.specs.Accepting.{AcceptsExchange}
use Rattle.exchange_core.specs.declared.quoting.QuotedExchange.TheVariants as quoted
use Rattle.exchange_core.specs.declared.readying.Readied.{Readied}
use Rattle.exchange_core.specs.declared.readying.Readied.TheVariants as readied
use Rattle.exchange_core.specs.declared.accepting.Exchanged.TheVariants as accepted
use Rattle.exchange_core.proofs.Kept.{ready_on}
use Rattle.osdm_parts.specs.declared.problem.Problem.{Problem}
use Rattle.osdm_parts.specs.declared.problem.Problem.TheVariants.{UnknownBooking, WrongState, RowsFull, NoMemory}
use Rattle.osdm_texts.specs.Answers.{Reply, offer_list, created, booking, refund_offer, exchange_offer, exchanged, place_list, swept, problem, Told, refused as refused_told, reply_told, told_of, Tells}
use Rattle.osdm_texts.specs.declared.written.Written.{Written}
use Rattle.osdm_texts.proofs.Telling.{of_problem}
use Rattle.history_model.specs.declared.phase.Phase.TheVariants as phase
use Rattle.reservation_service.specs.declared.holding.Placing.{Placing}
use Rattle.reservation_service.specs.declared.holding.Placing.TheVariants.{Whole}
use Rattle.reservation_service.specs.Holding.{HoldsPlaces, FindsNoRow, GivesUp, problem_of}
use Rattle.osdm_texts.specs.Seen.{made_view}
use Rattle.reservation_service.specs.Reserving.{detail_of, HasAllOrNone}
use Rattle.reservation_service.proofs.Calm.{held_calmly}
use Rattle.reservation_service.proofs.Placed.{both}
use Rattle.reservation_service.proofs.Replying.{whole_of, seals_since, has_places, fails_with_memory}
use Rattle.trade_service.specs.Exchanges.{AnswersExchangeQuote, DecidesOrNot, CarriesOut, IsUnready, lost_problem, ready_of, AnswersReady, AnswersExchange}
use Rattle.booking_service.specs.Deciding.{Answered}

-- the replies to a quote

pub offers_exchange : (cat : CatalogueView) (rows : ℕ) (row : RowNo) (retailer : ℕ) (offer : OfferView) (now : ℕ) (code : ExchangeCode) (old new : DeskView) (r : Result Written Problem)
    → AddsStepsBy (QuotesExchange cat rows row retailer offer now (quoted.Done code)) old new → IfOk r (Tells cat (exchange_offer code)) → IfErr r (λ p. p ≡ NoMemory)
    → Answered cat (AnswersExchangeQuote cat rows row retailer offer now) old new (told_of r)
offers_exchange cat rows row retailer offer now code old new (Ok w) did is none = (exchange_offer code, (quoted.Done code, did, inl refl), is)
offers_exchange cat rows row retailer offer now code old new (Err p) did is none = (problem NoMemory, (quoted.Done code, did, inr refl), ap refused_told none ∙ of_problem cat NoMemory)

pub offers_unknown : (cat : CatalogueView) (rows : ℕ) (row : RowNo) (retailer : ℕ) (offer : OfferView) (now : ℕ) (old new : DeskView)
    → AddsStepsBy (QuotesExchange cat rows row retailer offer now quoted.Unknown) old new
    → Answered cat (AnswersExchangeQuote cat rows row retailer offer now) old new (refused_told UnknownBooking)
offers_unknown cat rows row retailer offer now old new did = (problem UnknownBooking, (quoted.Unknown, did, refl), of_problem cat UnknownBooking)

pub offers_wrong : (cat : CatalogueView) (rows : ℕ) (row : RowNo) (retailer : ℕ) (offer : OfferView) (now : ℕ) (shown : Phase) (old new : DeskView)
    → AddsStepsBy (QuotesExchange cat rows row retailer offer now (quoted.WrongState shown)) old new
    → Answered cat (AnswersExchangeQuote cat rows row retailer offer now) old new (refused_told (WrongState shown))
offers_wrong cat rows row retailer offer now shown old new did = (problem (WrongState shown), (quoted.WrongState shown, did, refl), of_problem cat (WrongState shown))

-- an offer of a spelling has passengers and segments

pub has_party : (o : OfferView) → is_offer o ≡ true → is_party o.adults o.children ≡ true
has_party o is = (both (is_party o.adults o.children) _ (both (nat_le o.made 4_102_444_799) _ is).1).0

pub has_segments : (o : OfferView) → is_offer o ≡ true → 1 ≤ length o.segments
has_segments o is =
    let party = (both (nat_le o.made 4_102_444_799) _ is).1 in
    let wanted = (both (is_party o.adults o.children) _ party).1 in
    let some = (both (nat_le o.wanted 31) _ wanted).1 in
    leb-true 1 (length o.segments) (both (nat_le 1 (length o.segments)) _ some).0

-- what was made ready stays so while places are held
pub ready_held : (cat : CatalogueView) (o : OfferView) (row : RowNo) (p : Placing) (items : List Item) (ready : ReadyView) (old mid : DeskView) → HoldsPlaces cat o false o.segments row p items old mid → IsReadyFor old ready → IsReadyFor mid ready
ready_held cat o row p items ready old mid placed is =
    let w = held_calmly cat o false o.segments row p items old mid placed in ready_on old mid w.0 ready w.2 is

-- the exchange is made, or its turn is lost

pub made : (ready : ReadyView) (hold then : HoldView) (d : Detail) (m : RowNo) (x : ℤ) (old noted new : DeskView) → then ≡ hold → AddsSteps old noted (detail_notes hold.row.row d (length hold.items)) → AddsStepsBy (AcceptsExchange ready then.row (accepted.Done m x)) noted new
    → SealsItems noted new then.row phase.Confirmed then.items → DecidesOrNot ready hold.row hold.items d old new (exchanged hold.row (made_view phase.Confirmed d hold.items) ready.code.difference ready.code.row)
made ready hold then d m x old noted new same notes did seals = inl (
  noted,
  notes,
  inl (
    m,
    x,
    subst (λ (h : HoldView). AddsStepsBy (AcceptsExchange ready h.row (accepted.Done m x)) noted new) same did,
    seals_since old noted new hold.row phase.Confirmed hold.items (detail_notes hold.row.row d (length hold.items)) notes (subst (λ (h : HoldView). SealsItems noted new h.row phase.Confirmed h.items) same seals),
    refl,
  ),
)

pub lost : (ready : ReadyView) (hold then back : HoldView) (d : Detail) (shown : Phase) (old noted last new : DeskView) → then ≡ hold → back ≡ then → AddsSteps old noted (detail_notes hold.row.row d (length hold.items)) → AddsStepsBy (AcceptsExchange ready then.row (accepted.WrongState shown back)) noted last
    → GivesUp back.row back.items last new → DecidesOrNot ready hold.row hold.items d old new (problem (lost_problem shown))
lost ready hold then back d shown old noted last new same kept notes did gave = inl (
  noted,
  notes,
  inr (
    shown,
    back,
    last,
    subst (λ (h : HoldView). AddsStepsBy (AcceptsExchange ready h.row (accepted.WrongState shown back)) noted last) same did,
    subst (λ (h : HoldView). GivesUp h.row h.items last new) (kept ∙ same) gave,
    refl,
  ),
)

-- the bytes that show it
pub shown_by : (cat : CatalogueView) (p row : RowNo) (v w : RowSeen) (x y : ℤ) (q r : RowNo) (written : Told) → p ≡ row → v ≡ w → x ≡ y → q ≡ r → written ≡ reply_told cat (exchanged p v x q) → written ≡ reply_told cat (exchanged row w y r)
shown_by cat p row v w x y q r written rows views differences replaced is = is ∙ (λ i. reply_told cat (exchanged (rows i) (views i) (differences i) (replaced i)))

pub no_row : (cat : CatalogueView) (ready : ReadyView) (old new : DeskView) → FindsNoRow old new → MakesEmpty new → AnswersReady cat ready old new (refused_told RowsFull)
no_row cat ready old new did none = (problem RowsFull, inl (inl (did, refl)), none, of_problem cat RowsFull)

pub given_up : (cat : CatalogueView) (ready : ReadyView) (row : RowNo) (p : Placing) (why : Problem) (items : List Item) (old mid new : DeskView)
    → HoldsPlaces cat ready.code.offer false ready.code.offer.segments row p items old mid → problem_of p ≡ Some why → GivesUp row items mid new → MakesEmpty new
    → AnswersReady cat ready old new (refused_told why)
given_up cat ready row p why items old mid new placed is gave none =
    (problem why, inl (inr (row, p, why, items, mid, placed, is, gave, refl)), none, of_problem cat why)

has_all : (cat : CatalogueView) (ready : ReadyView) (row : RowNo) (items : List Item) (d : Detail) (old mid new : DeskView) (reply : Reply) → HoldsPlaces cat ready.code.offer false ready.code.offer.segments row Whole items old mid → DecidesOrNot ready row items d mid new reply → MakesEmpty new
    → HasAllOrNone cat ready.code.offer old new reply
has_all cat ready row items d old mid new reply placed (inl (noted, notes, inl (m, x, did, seals, is))) none =
    let o = ready.code.offer in
    let held = held_calmly cat o false o.segments row Whole items old mid placed in
    subst (HasAllOrNone cat o old new) (sym is) (seals_since old mid new row phase.Confirmed items held.0 held.2 seals, has_places cat o false row items old mid placed)
has_all cat ready row items d old mid new reply placed (inl (noted, notes, inr (shown, hold, last, did, gave, is))) none = subst (HasAllOrNone cat ready.code.offer old new) (sym is) none
has_all cat ready row items d old mid new reply placed (inr (gave, is)) none = subst (HasAllOrNone cat ready.code.offer old new) (sym is) none

pub decided : (cat : CatalogueView) (ready was : ReadyView) (row : RowNo) (p : Placing) (items : List Item) (d : Detail) (old mid new : DeskView) (reply : Reply) (written : Told) → HoldsPlaces cat ready.code.offer false ready.code.offer.segments row p items old mid
    → problem_of p ≡ None → was ≡ ready → d ≡ detail_of cat ready.code.offer ready.retailer ready.moment → DecidesOrNot was row items d mid new reply → MakesEmpty new → written ≡ reply_told cat reply → AnswersReady cat ready old new written
decided cat ready was row p items d old mid new reply written placed whole_is same detail did none bytes =
    let o = ready.code.offer in
    let whole = subst (λ (q : Placing). HoldsPlaces cat o false o.segments row q items old mid) (whole_of p whole_is) placed in
    let go = subst (λ (x : ReadyView). DecidesOrNot x row items (detail_of cat o ready.retailer ready.moment) mid new reply) same (subst (λ (x : Detail). DecidesOrNot was row items x mid new reply) detail did) in
    (reply, inr (row, items, mid, whole, go), has_all cat ready row items (detail_of cat o ready.retailer ready.moment) old mid new reply whole go none, bytes)

-- the whole command

-- the booking of a seal is so of what went before
has_all_since : (cat : CatalogueView) (o : OfferView) (old mid new : DeskView) (es : _) (reply : Reply) → AddsSteps old mid es → HasAllOrNone cat o mid new reply → HasAllOrNone cat o old new reply
has_all_since cat o old mid new es (created row v) did (seals, places) = (seals_since old mid new row phase.Prebooked v.items es did seals, places)
has_all_since cat o old mid new es (exchanged row v x q) did (seals, places) = (seals_since old mid new row phase.Confirmed v.items es did seals, places)
has_all_since cat o old mid new es (offer_list offers) did is = is
has_all_since cat o old mid new es (booking row v) did is = is
has_all_since cat o old mid new es (refund_offer code) did is = is
has_all_since cat o old mid new es (exchange_offer code) did is = is
has_all_since cat o old mid new es (place_list run free) did is = is
has_all_since cat o old mid new es (swept n) did is = is
has_all_since cat o old mid new es (problem p) did is = is

pub is_ready_of : (cat : CatalogueView) (rows retailer : ℕ) (code : ExchangeView) (now : ℕ) (ready : ReadyView) (old mid : DeskView) → AddsStepsBy (Readies cat rows retailer code now (readied.Fine ready)) old mid → ready ≡ ready_of retailer code now
is_ready_of cat rows retailer code now ready old mid did = did.1.0

pub carried : (cat : CatalogueView) (rows retailer : ℕ) (code : ExchangeView) (now : ℕ) (ready : ReadyView) (old mid new : DeskView) (written : Told) → AddsStepsBy (Readies cat rows retailer code now (readied.Fine ready)) old mid
    → AnswersReady cat (ready_of retailer code now) mid new written → AnswersExchange cat rows retailer code now old new written
carried cat rows retailer code now ready old mid new written did (reply, go, all, bytes) = (
  reply,
  inr (mid, subst (λ (r : ReadyView). AddsStepsBy (Readies cat rows retailer code now (readied.Fine r)) old mid) did.1.0 did, go),
  has_all_since cat code.offer old mid new did.0 reply did.2 all,
  bytes,
)

pub refused : (cat : CatalogueView) (rows retailer : ℕ) (code : ExchangeView) (now : ℕ) (p : Problem) (old new : DeskView)
    → ((a : Readied) × AddsStepsBy (Readies cat rows retailer code now a) old new × IsUnready a p) → MakesEmpty new
    → AnswersExchange cat rows retailer code now old new (refused_told p)
refused cat rows retailer code now p old new (a, did, un) none = (problem p, inl (a, p, did, un, refl), none, of_problem cat p)

-- an exchange ends for want of memory only where all places of the new booking were held, and are given back

lost_known : (shown : Phase) → lost_problem shown ≢ NoMemory
lost_known phase.Free e = let no : UnknownBooking ≡ NoMemory = e in cc
lost_known phase.Making e = let no : WrongState phase.Making ≡ NoMemory = e in cc
lost_known phase.Prebooked e = let no : WrongState phase.Prebooked ≡ NoMemory = e in cc
lost_known phase.Confirmed e = let no : WrongState phase.Confirmed ≡ NoMemory = e in cc
lost_known phase.Fulfilled e = let no : WrongState phase.Fulfilled ≡ NoMemory = e in cc
lost_known (phase.Ending kind) e = let no : WrongState (phase.Ending kind) ≡ NoMemory = e in cc
lost_known (phase.Ended kind) e = let no : WrongState (phase.Ended kind) ≡ NoMemory = e in cc

same_reason : (a b : Problem) → problem a ≡ problem b → a ≡ b
same_reason a b e = cc

pub memory_when_held : (cat : CatalogueView) (ready : ReadyView) (old new : DeskView) → CarriesOut cat ready old new (problem NoMemory)
    → (row : RowNo) × (items : List Item) × (held : DeskView) × HoldsPlaces cat ready.code.offer false ready.code.offer.segments row Whole items old held × GivesUp row items held new
memory_when_held cat ready old new (inl failed) = absurd (fails_with_memory cat ready.code.offer old new (problem NoMemory) failed refl)
memory_when_held cat ready old new (inr (row, items, held, placed, inl (noted, notes, inl (made, difference, did, seals, is)))) = absurd (let no : problem NoMemory ≡ exchanged row _ _ _ = is in cc)
memory_when_held cat ready old new (inr (row, items, held, placed, inl (noted, notes, inr (shown, hold, lost, did, gave, is)))) = absurd (lost_known shown (same_reason _ _ (sym is)))
memory_when_held cat ready old new (inr (row, items, held, placed, inr (gave, is))) = (row, items, held, placed, gave)
