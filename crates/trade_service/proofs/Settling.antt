-- Commands on exchanges leave a desk at home, and a tidy one tidy: each turn to an exchange is followed by the seal of its successor.
use Rattle.std.proofs.Common.{false, ℕ, List, map, refl, sym, subst}
use Rattle.leg_masks.specs.Interval.{PlacedSpan as Item}
use Rattle.history_model.specs.declared.entry.Step.{Step}
use Rattle.history_model.specs.History.{entry, own}
use Rattle.history_model.specs.Work.{NoStep}
use Rattle.rail_ids.specs.declared.RowNo.{RowNo}
use Rattle.claim_rule.specs.Rule.{BooksView, DeskView}
use Rattle.claim_rule.specs.Desks.{IsOf, AddsSteps}
use Rattle.claim_rule.specs.Calls.{AddsStepsBy}
use Rattle.claim_rule.specs.Out.{exchanges, AreSettled, KeepsHolds, KeepsEndings}
use Rattle.claim_rule.proofs.Out.{settled_append, settled_calm, makes_empty}
use Rattle.shop.specs.Homes.{IsAtHome, StaysHome}
use Rattle.booking_rows.specs.declared.notes.Detail.{Detail}
use Rattle.booking_rows.specs.Notes.{detail_notes}
use Rattle.catalogue_contents.specs.Contents.{CatalogueView}
use Rattle.offer_codes.specs.Offers.{OfferView}
use Rattle.offer_codes.specs.Exchanges.{ExchangeView}
use Rattle.exchange_core.specs.Exchanges.{QuotesExchange, Readies}
use Rattle.exchange_core.specs.declared.quoting.QuotedExchange.{QuotedExchange}
use Rattle.exchange_core.specs.declared.quoting.QuotedExchange.TheVariants as quoted
use Rattle.exchange_core.specs.declared.readying.Readied.{Readied}
use Rattle.exchange_core.specs.declared.readying.Readied.TheVariants as readied
use Rattle.reservation_service.specs.Holding.{HoldsPlaces, FindsNoRow, GivesUp}
use Rattle.reservation_service.specs.declared.holding.Placing.{Placing}
use Rattle.reservation_service.proofs.Calm.{WentCalmly, held_calmly, found_calmly, gave_calmly}
use Rattle.booking_service.proofs.Calm.{AreCalm, home_by}
use Rattle.trade_service.proofs.Calm.{calm_own, calm_none}

-- looks for a booking hold no turn

calm_readies : (cat : CatalogueView) (rows retailer : ℕ) (code : ExchangeView) (now : ℕ) (a : Readied) → AreCalm (Readies cat rows retailer code now a)
calm_readies cat rows retailer code now (readied.Fine ready) es (same, (v, right, phase)) = calm_own code.row retailer v es right.sees
calm_readies cat rows retailer code now readied.Unknown es (fresh, none) = calm_none rows code.row retailer es none
calm_readies cat rows retailer code now (readied.WrongState shown) es (ne, (v, right, phase)) = calm_own code.row retailer v es right.sees
calm_readies cat rows retailer code now (readied.QuoteStale made at) es (stale, one, two, is) = subst (NoStep exchanges) (sym is) tt
calm_readies cat rows retailer code now readied.QuoteWrong es (fresh, here, (v, saw, ne)) = calm_own code.row retailer v es saw

calm_quotes : (cat : CatalogueView) (rows : ℕ) (row : RowNo) (retailer : ℕ) (offer : OfferView) (now : ℕ) (a : QuotedExchange) → AreCalm (QuotesExchange cat rows row retailer offer now a)
calm_quotes cat rows row retailer offer now (quoted.Done code) es (here, (v, saw, phase, is)) = calm_own row retailer v es saw
calm_quotes cat rows row retailer offer now quoted.Unknown es none = calm_none rows row retailer es none
calm_quotes cat rows row retailer offer now (quoted.WrongState shown) es (here, one, two, (v, saw, is)) = calm_own row retailer v es saw

pub quoted_home : (cat : CatalogueView) (rows : ℕ) (row : RowNo) (retailer : ℕ) (offer : OfferView) (now : ℕ) (a : QuotedExchange) (books : BooksView) (old new : DeskView) → IsOf books new → AddsStepsBy (QuotesExchange cat rows row retailer offer now a) old new → KeepsHolds old new → KeepsEndings old new → IsAtHome books old → StaysHome books old new
quoted_home cat rows row retailer offer now a books old new = home_by (QuotesExchange cat rows row retailer offer now a) books old new (calm_quotes cat rows row retailer offer now a)

pub readied_home : (cat : CatalogueView) (rows retailer : ℕ) (code : ExchangeView) (now : ℕ) (a : Readied) (books : BooksView) (old new : DeskView) → IsOf books new → AddsStepsBy (Readies cat rows retailer code now a) old new → KeepsHolds old new → KeepsEndings old new → IsAtHome books old → StaysHome books old new
readied_home cat rows retailer code now a books old new = home_by (Readies cat rows retailer code now a) books old new (calm_readies cat rows retailer code now a)

-- what was settled stays settled

abbrev pub Settles : DeskView → DeskView → Type 0
Settles a b = AreSettled (own a.seen a.number) → AreSettled (own b.seen b.number)

settles_by : (a b : DeskView) (es : List Step) → AddsSteps a b es → NoStep exchanges es → Settles a b
settles_by a b es did calm was =
    subst (λ (n : ℕ). AreSettled (own b.seen n)) (sym did.same.2) (subst AreSettled (sym did.mine) (settled_append (own a.seen a.number) (map (entry a.number) es) was (settled_calm a.number es calm)))

settles_calmly : (a b : DeskView) → WentCalmly a b → Settles a b
settles_calmly a b did = settles_by a b did.0 did.2 did.1

pub no_row_settles : (old new : DeskView) → FindsNoRow old new → Settles old new
no_row_settles old new did = settles_calmly old new (found_calmly old new did)

pub held_settles : (cat : CatalogueView) (o : OfferView) (row : RowNo) (p : Placing) (items : List Item) (old mid : DeskView) → HoldsPlaces cat o false o.segments row p items old mid → Settles old mid
held_settles cat o row p items old mid held = settles_calmly old mid (held_calmly cat o false o.segments row p items old mid held)

pub gave_settles : (row : RowNo) (items : List Item) (old new : DeskView) → GivesUp row items old new → Settles old new
gave_settles row items old new gave = settles_calmly old new (gave_calmly row items old new gave)

pub notes_settles : (row count : ℕ) (d : Detail) (old new : DeskView) → AddsSteps old new (detail_notes row d count) → Settles old new
notes_settles row count d old new did = settles_by old new (detail_notes row d count) did (refl, (refl, (refl, (refl, tt))))

-- so a desk that is at home again has stayed at home
pub settled_home : (books : BooksView) (old new : DeskView) → IsAtHome books new → Settles old new → StaysHome books old new
settled_home books old new home settles = record { home = home; tidy = λ tidy. (home.idle, settles tidy.1, makes_empty books new home.own home.idle.0) }
