-- A search, a list of places, a look at a booking and a quote make looks alone.
use Rattle.std.proofs.Common.{◌≡◌, ℕ, Bool, List, [], ◌∷◌, ◌++◌, Some, None, Ok, Err, refl, sym, subst, inl, inr}
use Rattle.std.specs.Prelude.{Result}
use Rattle.leg_masks.specs.Interval.{Interval, pieces}
use Rattle.rail_ids.specs.declared.PlaceNo.{PlaceNo}
use Rattle.rail_ids.specs.declared.RowNo.{RowNo}
use Rattle.history_model.specs.declared.entry.Step.{Step}
use Rattle.history_model.specs.History.{IsLegal}
use Rattle.claim_rule.specs.Rule.{DeskView}
use Rattle.claim_rule.specs.Calls.{AddsStepsBy}
use Rattle.claim_rule.specs.Out.{AllLooks}
use Rattle.claim_rule.proofs.Shapes.{shape_then, shape_none}
use Rattle.booking_rows.specs.Views.{RowSeen}
use Rattle.booking_rows.proofs.Looked.{row_looked}
use Rattle.booking_rows.proofs.ViewLemmas.{looks_append}
use Rattle.availability.specs.Looks.{LooksPieces, LooksAt}
use Rattle.train_runs.specs.declared.segment.Segment.{Segment}
use Rattle.offer_codes.specs.declared.code.Offer.{Offer}
use Rattle.offer_codes.specs.Offers.{OfferView, offer_view}
use Rattle.catalogue_contents.specs.Contents.{CatalogueView}
use Rattle.offer_engine.specs.declared.wish.OfferWish.{OfferWish}
use Rattle.offer_engine.specs.Offers.{CountsSegments, OffersFor}
use Rattle.refund_core.specs.Quotes.{SeesOwn, SeesNone}
use Rattle.refund_core.specs.declared.quoting.Quoted.{Quoted}
use Rattle.refund_core.specs.declared.quoting.Quoted.TheVariants as quoted
use Rattle.refund_core.specs.Refunding.{QuotesRefund}
use Rattle.exchange_core.specs.declared.quoting.QuotedExchange.{QuotedExchange}
use Rattle.exchange_core.specs.declared.quoting.QuotedExchange.TheVariants as quoted_exchange
use Rattle.exchange_core.specs.Exchanges.{QuotesExchange}
use Rattle.osdm_parts.specs.declared.problem.Problem.{Problem}
use Rattle.osdm_texts.specs.Answers.{Reply}
use Rattle.osdm_json.specs.declared.command.Command.{Command}
use Rattle.osdm_json.specs.declared.command.Command.TheVariants as command
use Rattle.booking_service.specs.Deciding.{OnBooking, shows}
use Rattle.search_service.specs.Searching.{SearchesOffers, ListsPlaces}
use Rattle.service_rules.specs.Ordered as order
use Rattle.service_rules.specs.Checks.{and_then, row_checked, offer_checked}
use Rattle.service_rules.specs.Answering.{AnswersBy}
use Rattle.rail_io.specs.declared.clock.Reach.TheVariants.{Changes}
use Rattle.rail_service.specs.Reaching.{reach_of, LooksAlone}

abbrev Looks : DeskView → DeskView → Type 0
Looks old new = AddsStepsBy AllLooks old new

looks_none : (a : DeskView) → IsLegal a.layout a.seen → Looks a a
looks_none a legal = ([], tt, shape_none a legal)

looks_then : (a b c : DeskView) → Looks a b → Looks b c → Looks a c
looks_then a b c p q = (p.0 ++ q.0, looks_append p.0 q.0 p.1 q.1, shape_then a b c p.0 q.0 p.2 q.2)

-- the looks of searches

pieces_look : (place : ℕ) (spans : List Interval) (free : Bool) (es : List Step) → LooksPieces place spans free es → AllLooks es
pieces_look place [] free es is = subst AllLooks (sym is.1) tt
pieces_look place (piece ∷ rest) free es (word, here, others, more, so, did, all, is) =
    subst AllLooks (sym is) (refl, pieces_look place rest others more did)

places_look : (ps : List PlaceNo) (span : Interval) (states : List Bool) (es : List Step) → LooksAt ps span states es → AllLooks es
places_look [] span [] es is = subst AllLooks (sym is) tt
places_look (p ∷ ps) span (free ∷ states) es (first, rest, did, more, is) =
    subst AllLooks (sym is)
    (looks_append first rest (pieces_look p.0 (pieces span) free first did) (places_look ps span states rest more))
places_look [] span (free ∷ states) es is = absurd is
places_look (p ∷ ps) span [] es is = absurd is

segments_look : (cat : CatalogueView) (w : OfferWish) (ss : List Segment) (free : List ℕ) (es : List Step)
    → CountsSegments cat w ss free es → AllLooks es
segments_look cat w [] [] es is = subst AllLooks (sym is) tt
segments_look cat w (s ∷ ss) (n ∷ free) es (first, more, did, rest, is) =
    subst AllLooks (sym is)
    (looks_append first more (places_look _ s.span did.0 first did.1) (segments_look cat w ss free more rest))
segments_look cat w [] (n ∷ free) es is = absurd is
segments_look cat w (s ∷ ss) [] es is = absurd is

offers_look : (cat : CatalogueView) (w : OfferWish) (now : ℕ) (trips : List (List Segment)) (offers : List Offer)
    (es : List Step) → OffersFor cat w now trips offers es → AllLooks es
offers_look cat w now [] [] es is = subst AllLooks (sym is) tt
offers_look cat w now (t ∷ trips) (o ∷ offers) es (first, more, did, rest, is) =
    subst AllLooks (sym is) (looks_append first more (segments_look cat w t o.free.items first did.2)
    (offers_look cat w now trips offers more rest))
offers_look cat w now [] (o ∷ offers) es is = absurd is
offers_look cat w now (t ∷ trips) [] es is = absurd is

pub searches_look : (cat : CatalogueView) (wish : OfferWish) (now : ℕ) (old new : DeskView) (reply : Reply)
    → SearchesOffers cat wish now old new reply → Looks old new
searches_look cat wish now old new reply (inl (offers, did, told)) =
    (did.0, offers_look cat wish now _ offers did.0 did.1, did.2)
searches_look cat wish now old new reply (inr (did, eq)) =
    let (front, rest, free, is, so) = did.1 in
    (did.0, segments_look cat wish front free did.0 so, did.2)

pub lists_look : (cat : CatalogueView) (s : Segment) (old new : DeskView) (reply : Reply) → IsLegal old.layout old.seen
    → ListsPlaces cat s old new reply → Looks old new
lists_look cat s old new reply legal (inl (free, did, told)) = (did.0, places_look _ s.span free did.0 did.1, did.2)
lists_look cat s old new reply legal (inr (same, eq)) = subst (Looks old) (sym same) (looks_none old legal)

-- the looks at a booking

unseen : (rows : ℕ) (row : RowNo) (retailer : ℕ) (es : List Step) → SeesNone rows row retailer es → AllLooks es
unseen rows row retailer es (inl (past, is)) = subst AllLooks (sym is) tt
unseen rows row retailer es (inr (here, inl free)) = row_looked row None es free
unseen rows row retailer es (inr (here, inr (v, other, sees))) = row_looked row (Some v) es sees

seen : (row : RowNo) (retailer : ℕ) (v : RowSeen) (es : List Step) → SeesOwn row retailer v es → AllLooks es
seen row retailer v es (mine, is) = row_looked row (Some v) es is

shows_look : (rows : ℕ) (row : RowNo) (retailer : ℕ) (old new : DeskView) (reply : Reply)
    → OnBooking rows row retailer (shows row) old new reply → Looks old new
shows_look rows row retailer old new reply (inl (none, eq)) = (none.0, unseen rows row retailer none.0 none.1, none.2)
shows_look rows row retailer old new reply (inr (v, mid, sees, inl (same, eq))) =
    subst (Looks old) (sym same) (sees.0, seen row retailer v sees.0 sees.1.1, sees.2)
shows_look rows row retailer old new reply (inr (v, mid, sees, inr (same, eq))) =
    subst (Looks old) (sym same) (sees.0, seen row retailer v sees.0 sees.1.1, sees.2)

quote_looks : (cat : CatalogueView) (rows : ℕ) (row : RowNo) (retailer now : ℕ) (a : Quoted) (es : List Step)
    → QuotesRefund cat rows row retailer now a es → AllLooks es
quote_looks cat rows row retailer now (quoted.Done code) es (here, (v, sees, phase, is)) = seen row retailer v es sees
quote_looks cat rows row retailer now quoted.Unknown es none = unseen rows row retailer es none
quote_looks cat rows row retailer now (quoted.WrongState shown) es (here, first, second, (v, sees, phase)) =
    seen row retailer v es sees

exchange_looks : (cat : CatalogueView) (rows : ℕ) (row : RowNo) (retailer : ℕ) (o : OfferView) (now : ℕ)
    (a : QuotedExchange) (es : List Step) → QuotesExchange cat rows row retailer o now a es → AllLooks es
exchange_looks cat rows row retailer o now (quoted_exchange.Done code) es (here, (v, sees, phase, is)) =
    seen row retailer v es sees
exchange_looks cat rows row retailer o now quoted_exchange.Unknown es none = unseen rows row retailer es none
exchange_looks cat rows row retailer o now (quoted_exchange.WrongState shown) es (here, first, second, (v, sees, phase)) =
    seen row retailer v es sees

-- the commands

module _ (cat : CatalogueView) (retailer now : ℕ) where
  abbrev OnlyLooks : Result order.Ordered Problem → Type 0
  OnlyLooks o =
      (old new : DeskView) (reply : Reply) → IsLegal old.layout old.seen → AnswersBy cat retailer now o old new reply
      → Looks old new

  once_checked : {A : Type 0} (a : Result A Problem) (next : A → Result order.Ordered Problem)
      → ((x : A) → OnlyLooks (next x)) → OnlyLooks (and_then a next)
  once_checked (Err p) next then old new reply legal did = ([], tt, did.0)
  once_checked (Ok x) next then old new reply legal did = then x old new reply legal did

  show_looks : (row : RowNo) → OnlyLooks (Ok (order.show row))
  show_looks row old new reply legal did = shows_look cat.rows row retailer old new reply did

  refund_quote_looks : (row : RowNo) → OnlyLooks (Ok (order.quote_refund row))
  refund_quote_looks row old new reply legal (a, did, told) =
      (did.0, quote_looks cat cat.rows row retailer now a did.0 did.1, did.2)

  exchange_quote_looks : (row : RowNo) (code : _) → OnlyLooks (Ok (order.quote_exchange row code))
  exchange_quote_looks row code old new reply legal (a, did, told) =
      (did.0, exchange_looks cat cat.rows row retailer (offer_view code) now a did.0 did.1, did.2)

-- a command that doesn't reach so far as to change bookings
pub looks_alone : (c : Command) → (reach_of c ≡ Changes → ⊥) → LooksAlone c
looks_alone (command.Offers trip adults children class wanted) short =
    λ cat retailer now old new reply legal did. searches_look cat _ now old new reply did
looks_alone (command.Places segment) short =
    λ cat retailer now old new reply legal did. lists_look cat segment old new reply legal did
looks_alone (command.Show row) short =
    λ cat retailer now. once_checked cat retailer now (row_checked row) _ (show_looks cat retailer now)
looks_alone (command.QuoteRefund row) short =
    λ cat retailer now. once_checked cat retailer now (row_checked row) _ (refund_quote_looks cat retailer now)
looks_alone (command.QuoteExchange row offer) short =
    λ cat retailer now. once_checked cat retailer now (offer_checked cat now offer) _
    (λ code. once_checked cat retailer now (row_checked row) _ (λ row. exchange_quote_looks cat retailer now row code))
looks_alone (command.Book offer together) short = absurd (short refl)
looks_alone (command.Reserve segment class count wanted together) short = absurd (short refl)
looks_alone (command.Release row) short = absurd (short refl)
looks_alone (command.Confirm row) short = absurd (short refl)
looks_alone (command.Fulfil row) short = absurd (short refl)
looks_alone (command.AcceptRefund row code) short = absurd (short refl)
looks_alone (command.AcceptExchange row code) short = absurd (short refl)
looks_alone command.Sweep short = absurd (short refl)
