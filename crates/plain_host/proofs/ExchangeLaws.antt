-- The law of carrying out an exchange.
use Rattle.std.proofs.Common.{◌≡◌, ◌≢◌, ℕ, ℤ, pos, negsuc, inl, inr, Bool, true, false, cond, eq-eqb, ne_eqb, Ok, refl, sym, ap, ◌∙◌, subst, Some}
use Rattle.std.specs.Prelude.{◌⊎◌, ◌&&◌, nat_le}
use Rattle.std.proofs.lemmas.Bool.{and_parts}
use Rattle.history_model.specs.declared.phase.Phase.{Phase}
use Rattle.history_model.specs.Booking.{State, present}
use Rattle.claim_rule.specs.Rule.{DeskView, state_seen}
use Rattle.booking_rows.specs.Views.{RowSeen}
use Rattle.catalogue_contents.specs.Contents.{CatalogueView}
use Rattle.offer_codes.specs.declared.code.ExchangeCode.{ExchangeCode}
use Rattle.offer_codes.specs.Offers.{is_offer}
use Rattle.offer_codes.specs.Rows.{is_row}
use Rattle.offer_codes.specs.Exchanges.{ExchangeView, exchange_view, magnitude, is_exchange}
use Rattle.refund_core.specs.Quotes.{phase_named, is_stale}
use Rattle.exchange_core.specs.Exchanges.{difference_at}
use Rattle.exchange_core.specs.declared.readying.Readied.TheVariants as readied
use Rattle.osdm_parts.specs.declared.problem.Problem.{Problem}
use Rattle.osdm_parts.specs.declared.problem.Problem.TheVariants.{WrongState, QuoteWrong, NoMemory}
use Rattle.osdm_texts.specs.Answers.{Reply, problem}
use Rattle.trade_service.specs.Exchanges.{AnswersAcceptedExchange}
use Rattle.service_rules.specs.Ordered as order
use Rattle.service_rules.specs.Orders.{IsSoundOrder}
use Rattle.plain_host.specs.Plain.{Plain, Outcome}
use Rattle.plain_host.specs.Outcomes.{refusing, wrong, with_places_for, exchanged_for, exchanged_by, is_same, exchanged_with, on_view, on_own}
use Rattle.plain_host.specs.PlainOf.{view_of, plain_in, plain_of}
use Rattle.plain_host.specs.Plainly.{IsLone, AnswersPlainly, MayKeepRow}
use Rattle.plain_host.proofs.Decided.{is_in_yes, is_in_no}
use Rattle.plain_host.proofs.Seeing.{IsBy, has_seen, seen_by, unseen_by, stays_seen}
use Rattle.plain_host.proofs.Trades.{fresh_code}
use Rattle.plain_host.proofs.PlacesChosen.{Differ, Fit}
use Rattle.plain_host.proofs.PlacesFit.{offer_fits}
use Rattle.plain_host.proofs.PlacesLaws.{offered_differ}
use Rattle.plain_host.proofs.ExchangesMade.{carried_plainly}

-- differences

same_yes : (a b : ℤ) → a ≡ b → is_same a b ≡ true
same_yes a b e = subst (λ (c : ℤ). is_same a c ≡ true) e (itself a) where
  itself : (a : ℤ) → is_same a a ≡ true
  itself (pos n) = eq-eqb n n refl
  itself (negsuc n) = eq-eqb n n refl

same_no : (a b : ℤ) → a ≢ b → is_same a b ≡ false
same_no (pos a) (pos b) ne = ne_eqb a b (λ e. ne (ap (λ (n : ℕ). pos n) e))
same_no (negsuc a) (negsuc b) ne = ne_eqb a b (λ e. ne (ap (λ (n : ℕ). negsuc n) e))
same_no (pos a) (negsuc b) ne = refl
same_no (negsuc a) (pos b) ne = refl

-- the outcome, by what was seen

by_difference : (cat : CatalogueView) (x : ExchangeView) (retailer now : ℕ) (plain : Plain) (v : RowSeen) → x.difference ≡ difference_at cat v x.made x.fulfilled x.offer
    → exchanged_with cat x retailer now plain v ≡ exchanged_by cat x retailer now plain v
by_difference cat x retailer now plain v is =
    ap (λ (t : Bool). cond t (exchanged_by cat x retailer now plain v) (refusing QuoteWrong plain)) (same_yes x.difference (difference_at cat v x.made x.fulfilled x.offer) is)

not_worth : (cat : CatalogueView) (x : ExchangeView) (retailer now : ℕ) (plain : Plain) (v : RowSeen) → x.difference ≢ difference_at cat v x.made x.fulfilled x.offer → exchanged_with cat x retailer now plain v ≡ refusing QuoteWrong plain
not_worth cat x retailer now plain v ne =
    ap (λ (t : Bool). cond t (exchanged_by cat x retailer now plain v) (refusing QuoteWrong plain)) (same_no x.difference (difference_at cat v x.made x.fulfilled x.offer) ne)

in_phase_named : (cat : CatalogueView) (x : ExchangeView) (retailer now : ℕ) (plain : Plain) (v : RowSeen) → v.phase ≡ phase_named x.fulfilled
    → exchanged_by cat x retailer now plain v ≡ with_places_for cat x.offer false (exchanged_for cat x retailer now v) plain
in_phase_named cat x retailer now plain v is =
    ap (λ (t : Bool). cond t (with_places_for cat x.offer false (exchanged_for cat x retailer now v) plain) (wrong plain v)) (is_in_yes v.phase (phase_named x.fulfilled) is)

in_another : (cat : CatalogueView) (x : ExchangeView) (retailer now : ℕ) (plain : Plain) (v : RowSeen) → v.phase ≢ phase_named x.fulfilled → exchanged_by cat x retailer now plain v ≡ wrong plain v
in_another cat x retailer now plain v ne =
    ap (λ (t : Bool). cond t (with_places_for cat x.offer false (exchanged_for cat x retailer now v) plain) (wrong plain v)) (is_in_no v.phase (phase_named x.fulfilled) ne)

-- the reply and the list are the outcome's; or there was no memory, and at most a row is kept more
abbrev IsExchangedPlainly : CatalogueView → Outcome → DeskView → DeskView → Reply → Type 0
IsExchangedPlainly cat o old new reply = IsBy o new reply ⊎ ((reply ≡ problem NoMemory) × MayKeepRow cat.rows (plain_of old) (plain_of new))

abbrev outcome_for : CatalogueView → ExchangeView → ℕ → ℕ → DeskView → Outcome
outcome_for cat x retailer now old = on_own (plain_of old) x.row retailer (exchanged_with cat x retailer now (plain_of old))

exchanges_plainly : (cat : CatalogueView) (x : ExchangeView) (retailer now : ℕ) (old new : DeskView) (reply : Reply) → IsLone cat old → Fit cat x.offer x.offer.segments → Differ x.offer.segments → is_stale x.made now ≡ false
    → AnswersAcceptedExchange cat cat.rows retailer x now old new reply → IsExchangedPlainly cat (outcome_for cat x retailer now old) old new reply × IsLone cat new
exchanges_plainly cat x retailer now old new reply lone fit differ fresh (inl (readied.Fine ready, p, did, un, told)) = absurd un
exchanges_plainly cat x retailer now old new reply lone fit differ fresh (inl (readied.Unknown, p, (es, (fine, none), did), un, told)) =
    let c = unseen_by cat x.row retailer (exchanged_with cat x retailer now (plain_of old)) old new reply lone (es, none, did) (told ∙ ap (λ (q : Problem). problem q) un) in (inl c.0, c.1)
exchanges_plainly cat x retailer now old new reply lone fit differ fresh (inl (readied.WrongState shown, p, (es, (ne, (v, right, is)), did), un, told)) =
    let has = has_seen cat x.row retailer v es old new lone right.sees did in
    let c = seen_by cat x.row retailer v (exchanged_with cat x retailer now (plain_of old)) (problem (WrongState v.phase)) old new reply lone has
    (by_difference cat x retailer now (plain_of old) v right.difference ∙ in_another cat x retailer now (plain_of old) v (λ e. ne (sym is ∙ e)))
    (told ∙ (ap (λ (q : Problem). problem q) un ∙ ap (λ (q : Phase). problem (WrongState q)) (sym is))) in
    (inl c.0, c.1)
exchanges_plainly cat x retailer now old new reply lone fit differ fresh (inl (readied.QuoteStale made then, p, (es, (stale, one, two, is), did), un, told)) =
    absurd (let no : false ≡ true = sym fresh ∙ stale in cc)
exchanges_plainly cat x retailer now old new reply lone fit differ fresh (inl (readied.QuoteWrong, p, (es, (fine, here, (v, saw, ne)), did), un, told)) =
    let has = has_seen cat x.row retailer v es old new lone saw did in
    let c = seen_by cat x.row retailer v (exchanged_with cat x retailer now (plain_of old)) (problem QuoteWrong) old new reply lone has
    (not_worth cat x retailer now (plain_of old) v ne) (told ∙ ap (λ (q : Problem). problem q) un) in
    (inl c.0, c.1)
exchanges_plainly cat x retailer now old new reply lone fit differ fresh (inr (mid, (es, (same, (v, right, is)), did), goes)) =
    let has = has_seen cat x.row retailer v es old mid lone right.sees did in
    let b = has.booking in
    let at : present (state_seen mid) x.row.row ≡ Some b = ap (λ (u : State). present u x.row.row) has.same ∙ has.found in
    let named = sym (ap (λ (w : RowSeen). w.phase) has.view) ∙ is in
    let c = carried_plainly cat x retailer now b mid new reply (stays_seen cat x.row retailer v old mid lone has) fit differ at has.generation has.sealed named goes in
    let plain : plain_of mid ≡ plain_of old = ap plain_in has.same in
    let moved : IsExchangedPlainly cat (with_places_for cat x.offer false (exchanged_for cat x retailer now (view_of b)) (plain_of old)) old new reply =
    subst (λ (p : Plain). IsBy (with_places_for cat x.offer false (exchanged_for cat x retailer now (view_of b)) p) new reply ⊎ ((reply ≡ problem NoMemory) × MayKeepRow cat.rows p (plain_of new))) plain c.0 in
    let o : with_places_for cat x.offer false (exchanged_for cat x retailer now (view_of b)) (plain_of old) ≡ outcome_for cat x retailer now old =
    ap (λ (w : RowSeen). with_places_for cat x.offer false (exchanged_for cat x retailer now w) (plain_of old)) (sym has.view)
    ∙ (sym (by_difference cat x retailer now (plain_of old) v right.difference ∙ in_phase_named cat x retailer now (plain_of old) v is)
    ∙ ap (on_view (exchanged_with cat x retailer now (plain_of old)) (plain_of old)) (sym has.owned)) in
    (subst (λ (y : Outcome). IsExchangedPlainly cat y old new reply) o moved, c.1)

offer_of : (x : ExchangeView) → is_exchange x ≡ true → is_offer x.offer ≡ true
offer_of x is =
    (and_parts (nat_le (magnitude x.difference) 99_999_999_999) (is_offer x.offer)
    (and_parts (nat_le x.made 4_102_444_799) (nat_le (magnitude x.difference) 99_999_999_999 && is_offer x.offer)
    (and_parts (is_row x.row) (nat_le x.made 4_102_444_799 && (nat_le (magnitude x.difference) 99_999_999_999 && is_offer x.offer)) is).1).1).1

pub accept_exchange_plain : (cat : CatalogueView) (retailer now : ℕ) (code : ExchangeCode) → IsSoundOrder cat now (order.accept_exchange code)
    → AnswersPlainly cat retailer now (Ok (order.accept_exchange code))
accept_exchange_plain cat retailer now code sound = λ old new reply lone did.
    let x = exchange_view code in
    exchanges_plainly cat x retailer now old new reply lone (offer_fits cat x.offer (offer_of x sound.0)) (offered_differ cat x.offer sound.1) (fresh_code code.made now sound.2) did
