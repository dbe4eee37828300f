-- Quotes, and refunds by them, come to the outcomes of a plain host.
use Rattle.std.proofs.Common.{◌≡◌, ◌≢◌, ℕ, ◌-◌, ◌<◌, ◌≤◌, inl, inr, Bool, true, false, cond, eq-eqb, ne_eqb, Some, List, [], ◌∷◌, ◌++◌, refl, sym, ap, ◌∙◌, subst, arith, Ok}
use Rattle.std.specs.Prelude.{◌==◌, ◌||◌, nat_lt}
use Rattle.std.proofs.lemmas.Bool.{le-ltb}
use Rattle.rail_ids.specs.declared.RowNo.{RowNo}
use Rattle.history_model.specs.declared.entry.Step.{Step}
use Rattle.history_model.specs.declared.entry.Step.TheVariants.{SawRow}
use Rattle.history_model.specs.declared.phase.Phase.{Phase}
use Rattle.history_model.specs.declared.phase.Phase.TheVariants as phase
use Rattle.history_model.specs.declared.phase.EndKind.TheVariants as kind
use Rattle.history_model.specs.Phase.{is_sealed, word_of_phase}
use Rattle.history_model.specs.Laws.{IsWellFormed, AreInRange, is_owners}
use Rattle.history_model.specs.Booking.{Booking, Layout, State, present, word_at}
use Rattle.history_model.specs.Words.{row_word}
use Rattle.history_model.specs.History.{IsLegalFrom}
use Rattle.history_model.proofs.Ranges.{ranges_all}
use Rattle.claim_rule.specs.Rule.{state_seen}
use Rattle.claim_rule.specs.Out.{AllLooks}
use Rattle.claim_rule.proofs.Moves.{is_sound}
use Rattle.booking_rows.specs.Views.{RowSeen, saw_words}
use Rattle.booking_rows.specs.SealedRows.{FitWords}
use Rattle.booking_rows.specs.Aims.{end_of, LosesTurn}
use Rattle.booking_rows.specs.declared.turns.Aim.TheVariants as aim
use Rattle.booking_rows.proofs.Looked.{row_looked}
use Rattle.confirm_core.specs.RowEnds.{ends_as}
use Rattle.catalogue_contents.specs.Contents.{CatalogueView}
use Rattle.offer_codes.specs.declared.code.RefundCode.{RefundCode}
use Rattle.offer_codes.specs.declared.code.OfferCode.{OfferCode}
use Rattle.offer_codes.specs.declared.code.ExchangeCode.{ExchangeCode}
use Rattle.offer_codes.specs.Offers.{offer_view}
use Rattle.offer_codes.specs.Exchanges.{ExchangeView, exchange_view}
use Rattle.refund_core.specs.Quotes.{SeesOwn, SeesNone, phase_named, is_stale, refund_at}
use Rattle.refund_core.specs.Refunding.{AcceptsRefund, LosesQuoted}
use Rattle.refund_core.specs.declared.quoting.Quoted.TheVariants as quoted
use Rattle.refund_core.specs.declared.refunding.Refunded.{Refunded}
use Rattle.refund_core.specs.declared.refunding.Refunded.TheVariants as came
use Rattle.exchange_core.specs.Exchanges.{difference_at}
use Rattle.exchange_core.specs.declared.quoting.QuotedExchange.TheVariants as offered
use Rattle.osdm_parts.specs.declared.problem.Problem.TheVariants.{WrongState, QuoteWrong}
use Rattle.osdm_texts.specs.Answers.{Reply, booking, refund_offer, exchange_offer, problem}
use Rattle.booking_service.specs.Deciding.{at_end}
use Rattle.trade_service.specs.Refunds.{RefundsFound, refund_reply}
use Rattle.service_rules.specs.Ordered as order
use Rattle.service_rules.specs.Orders.{IsFresh}
use Rattle.lone_desk.specs.Lone.{entries_of, after_steps}
use Rattle.lone_desk.proofs.Following.{shape_follows}
use Rattle.plain_host.specs.Plain.{Plain, Outcome, outcome, is_in}
use Rattle.plain_host.specs.Outcomes.{refusing, changed_to, wrong, code_of, is_quotable, is_fulfilled, refund_quoted, refunded_by, refunded, exchange_quoted, on_own}
use Rattle.plain_host.specs.PlainOf.{view_of, plain_in, plain_of}
use Rattle.plain_host.specs.Settled.{IsSettled}
use Rattle.plain_host.specs.Plainly.{AnswersPlainly}
use Rattle.plain_host.proofs.Staying.{stays_by}
use Rattle.lone_desk.proofs.Looking.{after-append, legal_parts}
use Rattle.plain_host.proofs.Changes.{ends_on, ends_leave}
use Rattle.plain_host.proofs.Looks.{looks_stay, none_shown, phase_seen, never_lost}
use Rattle.plain_host.proofs.Decided.{ComesTo, row_changed, is_in_yes, is_in_no}
use Rattle.plain_host.proofs.Commands.{ComesOn, booking_comes, to_plainly}
use Rattle.plain_host.proofs.Seeing.{has_seen, seen_again, seen_by, unseen_by, stays_seen}

-- the phases that can be quoted

named_quotable : (v : RowSeen) (f : Bool) → v.phase ≡ phase_named f → is_quotable v ≡ true
named_quotable v true is = ap (λ (p : Phase). (word_of_phase p == word_of_phase phase.Confirmed) || (word_of_phase p == word_of_phase phase.Fulfilled)) is
named_quotable v false is = ap (λ (p : Phase). (word_of_phase p == word_of_phase phase.Confirmed) || (word_of_phase p == word_of_phase phase.Fulfilled)) is

named_fulfilled : (v : RowSeen) (f : Bool) → v.phase ≡ phase_named f → is_fulfilled v ≡ f
named_fulfilled v true is = ap (λ (p : Phase). word_of_phase p == word_of_phase phase.Fulfilled) is
named_fulfilled v false is = ap (λ (p : Phase). word_of_phase p == word_of_phase phase.Fulfilled) is

not_quotable : (v : RowSeen) → v.phase ≢ phase.Confirmed → v.phase ≢ phase.Fulfilled → is_quotable v ≡ false
not_quotable v one two =
    ap (λ (t : Bool). t || is_in phase.Fulfilled v) (is_in_no v.phase phase.Confirmed one) ∙ is_in_no v.phase phase.Fulfilled two

-- quoting a refund

quoted_is : (cat : CatalogueView) (row : RowNo) (now : ℕ) (plain : Plain) (v : RowSeen) (code : RefundCode) → v.phase ≡ phase_named code.fulfilled
    → code ≡ record { row = row; made = now; fulfilled = code.fulfilled; amount = refund_at cat v now code.fulfilled }
    → refund_quoted cat row now plain v ≡ outcome (refund_offer code) plain
quoted_is cat row now plain v code is code_is =
    let offer : Bool → Outcome = λ f. outcome (refund_offer (record { row = row; made = now; fulfilled = f; amount = refund_at cat v now f })) plain in
    ap (λ (t : Bool). cond t (offer (is_fulfilled v)) (wrong plain v)) (named_quotable v code.fulfilled is)
    ∙ (ap offer (named_fulfilled v code.fulfilled is) ∙ ap (λ (c : RefundCode). outcome (refund_offer c) plain) (sym code_is))

unquoted_is : (cat : CatalogueView) (row : RowNo) (now : ℕ) (plain : Plain) (v : RowSeen) → v.phase ≢ phase.Confirmed → v.phase ≢ phase.Fulfilled → refund_quoted cat row now plain v ≡ wrong plain v
unquoted_is cat row now plain v one two =
    ap (λ (t : Bool). cond t (outcome (refund_offer (record { row = row; made = now; fulfilled = is_fulfilled v; amount = refund_at cat v now (is_fulfilled v) })) plain) (wrong plain v)) (not_quotable v one two)

pub quote_refund_plain : (cat : CatalogueView) (retailer now : ℕ) (row : RowNo) → AnswersPlainly cat retailer now (Ok (order.quote_refund row))
quote_refund_plain cat retailer now row old new reply lone (quoted.Done code, (es, (here, (v, saw, is, code_is)), did), inl told) =
    let has = has_seen cat row retailer v es old new lone saw did in
    let c = seen_by cat row retailer v (refund_quoted cat row now (plain_of old)) (refund_offer code) old new reply lone has (quoted_is cat row now (plain_of old) v code is code_is) told in
    (inl c.0, c.1)
quote_refund_plain cat retailer now row old new reply lone (quoted.Done code, (es, (here, (v, saw, is, code_is)), did), inr none) =
    let has = has_seen cat row retailer v es old new lone saw did in
    (inr (none, ap plain_in has.same), stays_seen cat row retailer v old new lone has)
quote_refund_plain cat retailer now row old new reply lone (quoted.Unknown, did, told) =
    let c = unseen_by cat row retailer (refund_quoted cat row now (plain_of old)) old new reply lone did told in (inl c.0, c.1)
quote_refund_plain cat retailer now row old new reply lone (quoted.WrongState shown, (es, (here, one, two, (v, saw, is)), did), told) =
    let has = has_seen cat row retailer v es old new lone saw did in
    let c = seen_by cat row retailer v (refund_quoted cat row now (plain_of old)) (problem (WrongState v.phase)) old new reply lone has
    (unquoted_is cat row now (plain_of old) v (λ e. one (sym is ∙ e)) (λ e. two (sym is ∙ e))) (told ∙ ap (λ (p : Phase). problem (WrongState p)) (sym is)) in
    (inl c.0, c.1)

-- quoting an exchange

abbrev code_back : ExchangeView → ExchangeCode
code_back x = record { row = x.row; made = x.made; fulfilled = x.fulfilled; difference = x.difference; offer = code_of x.offer }

abbrev exchange_code : RowNo → ℕ → CatalogueView → RowSeen → OfferCode → Bool → ExchangeCode
exchange_code row now cat v offer f = record { row = row; made = now; fulfilled = f; difference = difference_at cat v now f (offer_view offer); offer = offer }

offered_is : (cat : CatalogueView) (row : RowNo) (now : ℕ) (offer : OfferCode) (plain : Plain) (v : RowSeen) (code : ExchangeCode) → v.phase ≡ phase_named code.fulfilled
    → exchange_view code ≡ record { row = row; made = now; fulfilled = code.fulfilled; difference = difference_at cat v now code.fulfilled (offer_view offer); offer = offer_view offer }
    → exchange_quoted cat row offer now plain v ≡ outcome (exchange_offer code) plain
offered_is cat row now offer plain v code is code_is =
    let same : code ≡ exchange_code row now cat v offer code.fulfilled = ap code_back code_is in
    let offers : Bool → Outcome = λ f. outcome (exchange_offer (exchange_code row now cat v offer f)) plain in
    ap (λ (t : Bool). cond t (offers (is_fulfilled v)) (wrong plain v)) (named_quotable v code.fulfilled is)
    ∙ (ap offers (named_fulfilled v code.fulfilled is) ∙ ap (λ (c : ExchangeCode). outcome (exchange_offer c) plain) (sym same))

unoffered_is : (cat : CatalogueView) (row : RowNo) (now : ℕ) (offer : OfferCode) (plain : Plain) (v : RowSeen) → v.phase ≢ phase.Confirmed → v.phase ≢ phase.Fulfilled → exchange_quoted cat row offer now plain v ≡ wrong plain v
unoffered_is cat row now offer plain v one two =
    ap (λ (t : Bool). cond t (outcome (exchange_offer (exchange_code row now cat v offer (is_fulfilled v))) plain) (wrong plain v)) (not_quotable v one two)

pub quote_exchange_plain : (cat : CatalogueView) (retailer now : ℕ) (row : RowNo) (offer : OfferCode) → AnswersPlainly cat retailer now (Ok (order.quote_exchange row offer))
quote_exchange_plain cat retailer now row offer old new reply lone (offered.Done code, (es, (here, (v, saw, is, code_is)), did), inl told) =
    let has = has_seen cat row retailer v es old new lone saw did in
    let c = seen_by cat row retailer v (exchange_quoted cat row offer now (plain_of old)) (exchange_offer code) old new reply lone has (offered_is cat row now offer (plain_of old) v code is code_is) told in
    (inl c.0, c.1)
quote_exchange_plain cat retailer now row offer old new reply lone (offered.Done code, (es, (here, (v, saw, is, code_is)), did), inr none) =
    let has = has_seen cat row retailer v es old new lone saw did in
    (inr (none, ap plain_in has.same), stays_seen cat row retailer v old new lone has)
quote_exchange_plain cat retailer now row offer old new reply lone (offered.Unknown, did, told) =
    let c = unseen_by cat row retailer (exchange_quoted cat row offer now (plain_of old)) old new reply lone did told in (inl c.0, c.1)
quote_exchange_plain cat retailer now row offer old new reply lone (offered.WrongState shown, (es, (here, one, two, (v, saw, is)), did), told) =
    let has = has_seen cat row retailer v es old new lone saw did in
    let c = seen_by cat row retailer v (exchange_quoted cat row offer now (plain_of old)) (problem (WrongState v.phase)) old new reply lone has
    (unoffered_is cat row now offer (plain_of old) v (λ e. one (sym is ∙ e)) (λ e. two (sym is ∙ e))) (told ∙ ap (λ (p : Phase). problem (WrongState p)) (sym is)) in
    (inl c.0, c.1)

-- a fresh code isn't stale
pub fresh_code : (made now : ℕ) → IsFresh made now → is_stale made now ≡ false
fresh_code made now (before, late) =
    ap (λ (t : Bool). t || nat_lt 900 (now - made)) (le-ltb now made before) ∙ le-ltb 900 (now - made) (let few : now - made ≤ 900 = omega (arith, late) in few)

-- accepting a refund

pub sees_stay : (s : State) (d : ℕ) (row : RowNo) (retailer : ℕ) (v : RowSeen) (es : List Step) → SeesOwn row retailer v es → after_steps s d es ≡ s
sees_stay s d row retailer v es saw = looks_stay s d es (row_looked row (Some v) es saw.1)

-- the booking is known
never_none : (g : Layout) (s : State) (d rows : ℕ) (row : RowNo) (retailer : ℕ) (b : Booking) (es : List Step) → IsWellFormed g s → AreInRange g s → FitWords g → present s row.row ≡ Some b → b.generation ≡ row.generation
    → is_sealed b.phase ≡ true → word_at b 1 ≡ retailer → row.row < rows → IsLegalFrom g s (entries_of d es) → SeesNone rows row retailer es → ⊥
never_none g s d rows row retailer b es good ranges fit at same sealed mine below legal (inl (past, none)) = omega (arith, past, below)
never_none g s d rows row retailer b es good ranges fit at same sealed mine below legal (inr (here, inl looks)) =
    let no : false ≡ true = sym (none_shown g s d row es looks legal) ∙ (ap is_sealed (phase_seen s row b (row_word s row.row 0) at same refl) ∙ sealed) in cc
never_none g s d rows row retailer b es good ranges fit at same sealed mine below legal (inr (here, inr (v, other, looks))) =
    other (ap (λ (x : RowSeen). x.retailer) (seen_again g s d row v.retailer v b es good ranges fit (refl, looks) at legal) ∙ mine)

-- no turn is lost behind the looks
sees_lost : (g : Layout) (s : State) (d : ℕ) (code : RefundCode) (retailer : ℕ) (v : RowSeen) (shown : Phase) (front es : List Step) → SeesOwn code.row retailer v front → LosesQuoted code v front shown es
    → IsLegalFrom g s (entries_of d es) → ⊥
sees_lost g s d code retailer v shown front es (mine, (seen, (last, kept, first))) (named, back, loses, is) legal =
    let row = code.row in
    let all = subst AllLooks first (row_looked row (Some v) front (seen, (last, kept, first))) in
    never_lost g s d row v.phase shown (saw_words row.row v ++ SawRow row.row 0 last ∷ []) back es all.1 (subst (λ (p : Phase). LosesTurn row p shown back) (sym named) loses)
    (is ∙ ap (λ (x : List Step). x ++ back) first) legal

by_value : (cat : CatalogueView) (code : RefundCode) (now : ℕ) (plain : Plain) (v : RowSeen) → code.amount ≡ refund_at cat v code.made code.fulfilled → refunded cat code now plain v ≡ refunded_by code now plain v
by_value cat code now plain v is =
    ap (λ (t : Bool). cond t (refunded_by code now plain v) (refusing QuoteWrong plain)) (eq-eqb code.amount (refund_at cat v code.made code.fulfilled) is)

paid : (code : RefundCode) (now : ℕ) (plain : Plain) (v : RowSeen) → v.phase ≡ phase_named code.fulfilled
    → refunded_by code now plain v ≡ changed_to plain code.row (at_end kind.Refund (end_of (aim.Refund now code.amount)) v)
paid code now plain v is =
    ap (λ (t : Bool). cond t (changed_to plain code.row (at_end kind.Refund (end_of (aim.Refund now code.amount)) v)) (wrong plain v)) (is_in_yes v.phase (phase_named code.fulfilled) is)

unpaid : (code : RefundCode) (now : ℕ) (plain : Plain) (v : RowSeen) → v.phase ≢ phase_named code.fulfilled → refunded_by code now plain v ≡ wrong plain v
unpaid code now plain v ne =
    ap (λ (t : Bool). cond t (changed_to plain code.row (at_end kind.Refund (end_of (aim.Refund now code.amount)) v)) (wrong plain v)) (is_in_no v.phase (phase_named code.fulfilled) ne)

not_worth : (cat : CatalogueView) (code : RefundCode) (now : ℕ) (plain : Plain) (v : RowSeen) → code.amount ≢ refund_at cat v code.made code.fulfilled → refunded cat code now plain v ≡ refusing QuoteWrong plain
not_worth cat code now plain v ne =
    ap (λ (t : Bool). cond t (refunded_by code now plain v) (refusing QuoteWrong plain)) (ne_eqb code.amount (refund_at cat v code.made code.fulfilled) ne)

-- nothing changed, by the outcome
unchanged : (o : Outcome) (s t : State) (r reply : Reply) → IsSettled s → t ≡ s → o ≡ outcome r (plain_in s) → reply ≡ r → ComesTo o t reply
unchanged o s t r reply settled same is told =
    subst (λ (x : Outcome). ComesTo x t reply) (sym is) (record { reply_is = told; plain_is = ap plain_in same; settled = subst IsSettled (sym same) settled })

refund_comes : (cat : CatalogueView) (g : Layout) (s : State) (d retailer : ℕ) (code : RefundCode) (now : ℕ) (b : Booking) (a : Refunded) (es : List Step) → IsWellFormed g s → AreInRange g s → FitWords g
    → is_stale code.made now ≡ false → present s code.row.row ≡ Some b → b.generation ≡ code.row.generation → is_sealed b.phase ≡ true → word_at b 1 ≡ retailer → code.row.row < cat.rows → IsSettled s → IsLegalFrom g s (entries_of d es)
    → AcceptsRefund cat cat.rows retailer code now a es → ComesTo (refunded cat code now (plain_in s) (view_of b)) (after_steps s d es) (refund_reply code now (view_of b) a)
refund_comes cat g s d retailer code now b (came.Done amount) es good ranges fit fresh at generation sealed mine below settled legal (same, (v, front, items, right, is_named, few, is)) =
    let row = code.row in
    let w = view_of b in
    let end = end_of (aim.Refund now code.amount) in
    let steps = ends_as row.row (phase_named code.fulfilled) kind.Refund end items in
    let both = legal_parts g s d front steps (subst (λ (x : List Step). IsLegalFrom g s (entries_of d x)) is legal) in
    let seen = seen_again g s d row retailer v b front good ranges fit right.sees at both.0 in
    let worth : code.amount ≡ refund_at cat w code.made code.fulfilled = right.amount ∙ ap (λ (x : RowSeen). refund_at cat x code.made code.fulfilled) seen in
    let phase_is : w.phase ≡ phase_named code.fulfilled = sym (ap (λ (x : RowSeen). x.phase) seen) ∙ is_named in
    let ended = ends_leave d row.row (phase_named code.fulfilled) kind.Refund end items b in
    let done = row_changed g s d row b steps (at_end kind.Refund end w) good at generation sealed settled (ends_on row.row (phase_named code.fulfilled) kind.Refund end items)
    (record { sealed = ap is_sealed ended.phase; still = ap is_owners ended.phase }) ended.view in
    let state : after_steps s d es ≡ after_steps s d steps =
    ap (after_steps s d) is ∙ (after-append s d front steps ∙ ap (λ (u : State). after_steps u d steps) (sees_stay s d row retailer v front right.sees)) in
    subst (λ (t : State). ComesTo (refunded cat code now (plain_in s) w) t (booking row (at_end kind.Refund end w))) (sym state)
    (subst (λ (o : Outcome). ComesTo o (after_steps s d steps) (booking row (at_end kind.Refund end w))) (sym (by_value cat code now (plain_in s) w worth ∙ paid code now (plain_in s) w phase_is))
    (record { reply_is = refl; plain_is = done.0; settled = done.1 }))
refund_comes cat g s d retailer code now b came.Unknown es good ranges fit fresh at generation sealed mine below settled legal (inl (fine, none)) =
    absurd (never_none g s d cat.rows code.row retailer b es good ranges fit at generation sealed mine below legal none)
refund_comes cat g s d retailer code now b came.Unknown es good ranges fit fresh at generation sealed mine below settled legal (inr (v, front, right, loses)) =
    absurd (sees_lost g s d code retailer v phase.Free front es right.sees loses legal)
refund_comes cat g s d retailer code now b (came.WrongState shown) es good ranges fit fresh at generation sealed mine below settled legal (v, front, right, inl (phase_is, ne, is)) =
    let row = code.row in
    let w = view_of b in
    let seen = seen_again g s d row retailer v b front good ranges fit right.sees at (subst (λ (x : List Step). IsLegalFrom g s (entries_of d x)) is legal) in
    let worth : code.amount ≡ refund_at cat w code.made code.fulfilled = right.amount ∙ ap (λ (x : RowSeen). refund_at cat x code.made code.fulfilled) seen in
    let here : w.phase ≡ shown = sym (ap (λ (x : RowSeen). x.phase) seen) ∙ phase_is in
    unchanged (refunded cat code now (plain_in s) w) s (after_steps s d es) (problem (WrongState w.phase)) (problem (WrongState shown)) settled
    (ap (after_steps s d) is ∙ sees_stay s d row retailer v front right.sees)
    (by_value cat code now (plain_in s) w worth ∙ unpaid code now (plain_in s) w (λ e. ne (sym here ∙ e)))
    (ap (λ (p : Phase). problem (WrongState p)) (sym here))
refund_comes cat g s d retailer code now b (came.WrongState shown) es good ranges fit fresh at generation sealed mine below settled legal (v, front, right, inr (some, loses)) =
    absurd (sees_lost g s d code retailer v shown front es right.sees loses legal)
refund_comes cat g s d retailer code now b (came.QuoteStale made then) es good ranges fit fresh at generation sealed mine below settled legal (stale, one, two, is) =
    absurd (let no : false ≡ true = sym fresh ∙ stale in cc)
refund_comes cat g s d retailer code now b came.QuoteWrong es good ranges fit fresh at generation sealed mine below settled legal (fine, here, (v, saw, ne)) =
    let row = code.row in
    let w = view_of b in
    let seen = seen_again g s d row retailer v b es good ranges fit saw at legal in
    unchanged (refunded cat code now (plain_in s) w) s (after_steps s d es) (problem QuoteWrong) (problem QuoteWrong) settled (sees_stay s d row retailer v es saw)
    (not_worth cat code now (plain_in s) w (λ e. ne (e ∙ ap (λ (x : RowSeen). refund_at cat x code.made code.fulfilled) (sym seen)))) refl

refund_on : (cat : CatalogueView) (retailer : ℕ) (code : RefundCode) (now : ℕ) → is_stale code.made now ≡ false → ComesOn cat.rows code.row retailer (RefundsFound cat cat.rows retailer code now) (refunded cat code now)
refund_on cat retailer code now fresh mid new b reply alone legal at generation sealed mine below settled fit (a, (es, did, shape), told) =
    let f = shape_follows mid new es alone shape in
    let s = state_seen mid in (
      subst (λ (r : Reply). ComesTo (refunded cat code now (plain_in s) (view_of b)) (state_seen new) r) (sym told)
          (subst (λ (t : State). ComesTo (refunded cat code now (plain_in s) (view_of b)) t (refund_reply code now (view_of b) a)) (sym f.state)
          (refund_comes cat mid.layout s mid.number retailer code now b a es (is_sound mid.layout mid.seen legal) (ranges_all mid.layout mid.seen legal) fit fresh at generation sealed mine below settled f.legal did)),
      stays_by mid new es alone shape,
    )

pub accept_refund_plain : (cat : CatalogueView) (retailer now : ℕ) (code : RefundCode) → IsFresh code.made now → AnswersPlainly cat retailer now (Ok (order.accept_refund code))
accept_refund_plain cat retailer now code fresh old new reply lone did =
    to_plainly cat retailer now (on_own (plain_of old) code.row retailer (refunded cat code now (plain_of old))) old new reply
    (booking_comes cat code.row retailer (RefundsFound cat cat.rows retailer code now) (refunded cat code now) old new reply lone (refund_on cat retailer code now (fresh_code code.made now fresh)) did)
