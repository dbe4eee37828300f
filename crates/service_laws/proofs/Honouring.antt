-- A quote that was given is honoured.
use Rattle.std.proofs.Common.{◌≡◌, ℕ, ◌+◌, ◌-◌, ◌<◌, ◌≤◌, inl, inr, Bool, true, false, ◌||◌, pos, List, [], ◌∷◌, ◌++◌, refl, sym, ap, ◌∙◌, subst, arith, append-nil}
use Rattle.std.specs.Prelude.{◌-ℤ◌}
use Rattle.std.specs.List.{AllByRecursion}
use mathlib.Core.List.{IsPrefix}
use Rattle.std.proofs.lemmas.Bool.{le-ltb}
use Rattle.rail_ids.specs.declared.RowNo.{RowNo}
use Rattle.history_model.specs.declared.entry.Entry.{Entry}
use Rattle.history_model.specs.declared.entry.Step.{Step}
use Rattle.history_model.specs.declared.entry.Step.TheVariants.{SawRow, LostTurn}
use Rattle.history_model.specs.declared.phase.Phase.{Phase}
use Rattle.history_model.specs.declared.phase.Phase.TheVariants.{Free}
use Rattle.history_model.specs.Phase.{is_sealed, is_live, phase_shown, row_word_of}
use Rattle.history_model.proofs.Keeping.{live_sealed}
use Rattle.history_model.proofs.ListLemmas.{All-right}
use Rattle.history_model.proofs.PhaseWords.{row_word_same, shown_back}
use Rattle.claim_rule.specs.Rule.{DeskView, state_seen}
use Rattle.claim_rule.specs.Desks.{AddsSteps}
use Rattle.booking_rows.specs.Aims.{LosesTurn}
use Rattle.booking_rows.specs.Views.{RowSeen, LooksNone, saw_phase, saw_words, words_read}
use Rattle.booking_rows.proofs.ViewLemmas.{sealed_not_free}
use Rattle.catalogue_contents.specs.Contents.{CatalogueView, least_departure}
use Rattle.tariff.specs.Refunds.{refund_of}
use Rattle.offer_codes.specs.Offers.{valid_seconds}
use Rattle.offer_codes.specs.Exchanges.{ExchangeView, exchange_view}
use Rattle.offer_codes.specs.declared.code.RefundCode.{RefundCode}
use Rattle.refund_core.specs.Quotes.{SeesOwn, SeesNone, is_stale, phase_named, refund_at}
use Rattle.refund_core.specs.Refunding.{AcceptsRefund}
use Rattle.refund_core.specs.declared.refunding.Refunded.{Refunded}
use Rattle.refund_core.specs.declared.refunding.Refunded.TheVariants as refunded
use Rattle.offer_prices.specs.Prices.{offer_price}
use Rattle.exchange_core.specs.Ready.{ReadyView}
use Rattle.exchange_core.specs.Exchanges.{Readies, difference_at}
use Rattle.exchange_core.specs.declared.readying.Readied.{Readied}
use Rattle.exchange_core.specs.declared.readying.Readied.TheVariants as readied
use Rattle.expiry_sweeper.specs.Complete.{BeginsAt, HasLeft}
use Rattle.service_laws.specs.Begun.{BeginsAfter}
use Rattle.service_laws.specs.Honoured.{IsInTime, HonoursRefund, HonoursExchange, RefundQuotesAreHonoured, ExchangeQuotesAreHonoured}
use Rattle.expiry_sweeper.proofs.Own.{first_of, rest_of, no_steps}
use Rattle.expiry_sweeper.proofs.Standing.{ShowsSeal, LeavesPhase}
use Rattle.service_laws.proofs.QuoteLemmas.{Unmoved, has_left, sees_same, shows_all}

pub in_time : (made now : ℕ) → IsInTime made now → is_stale made now ≡ false
in_time made now time =
    let past = time.0 in
    let soon = time.1 in
    λ i. le-ltb now made past i || le-ltb valid_seconds (now - made) (let e : now - made ≤ valid_seconds = omega (arith, past, soon) in e) i

pub both : {b : Bool} → b ≡ true → b ≡ false → ⊥
both t f = let no : true ≡ false = sym t ∙ f in cc

named_live : (fulfilled : Bool) → is_live (phase_named fulfilled) ≡ true
named_live true = refl
named_live false = refl

-- what a call cannot have seen of a booking that is still in its phase

last_shown : (row : RowNo) (phase : Phase) (n : ℕ) (more : List Step) → AllByRecursion (LeavesPhase row.row row.generation phase) (SawRow row.row 0 n ∷ more) → phase_shown row.generation n ≡ phase
last_shown row phase n more all = ap (phase_shown row.generation) (first_of (LeavesPhase row.row row.generation phase) (SawRow row.row 0 n) more all refl refl) ∙ shown_back phase row.generation

no_looks : (row : RowNo) (phase : Phase) (es : List Step) → is_sealed phase ≡ true → LooksNone row es → AllByRecursion (LeavesPhase row.row row.generation phase) es → ⊥
no_looks row phase es sealed (inl (n, unsealed, is)) all =
    both (ap is_sealed (last_shown row phase n [] (subst (AllByRecursion (LeavesPhase row.row row.generation phase)) is all)) ∙ sealed) unsealed
no_looks row phase es sealed (inr (ws, last, read, free, is)) all =
    let P = LeavesPhase row.row row.generation phase in
    let final = SawRow row.row 0 last ∷ [] in
    let late = All-right P (words_read row.row ws) final (rest_of P (saw_phase row ws.phase) (words_read row.row ws ++ final) (subst (AllByRecursion P) is all)) in
    sealed_not_free phase sealed (sym (last_shown row phase last [] late) ∙ free)

none_seen : (rows : ℕ) (row : RowNo) (retailer : ℕ) (phase : Phase) (es : List Step) → row.row < rows → is_sealed phase ≡ true → SeesNone rows row retailer es → Unmoved row retailer phase es → ⊥
none_seen rows row retailer phase es here sealed (inl (past, is)) u = omega (arith, past, here)
none_seen rows row retailer phase es here sealed (inr (in_row, inl none)) u = no_looks row phase es sealed none u.phases
none_seen rows row retailer phase es here sealed (inr (in_row, inr (w, other, looks))) u =
    let shows = shows_all row u.booking w (SawRow row.row 0 looks.1.0 ∷ []) (subst (AllByRecursion (ShowsSeal row.row u.booking)) looks.1.2 u.seals) in
    other (shows.retailer ∙ sym u.its)

other_phase : (row : RowNo) (retailer : ℕ) (phase : Phase) (w : RowSeen) (es : List Step) → SeesOwn row retailer w es → (w.phase ≡ phase → ⊥) → Unmoved row retailer phase es → ⊥
other_phase row retailer phase w es sees other u =
    let P = LeavesPhase row.row row.generation phase in
    let all = subst (AllByRecursion P) sees.1.1.2 u.phases in
    let word = first_of P (saw_phase row w.phase) (saw_words row.row w ++ SawRow row.row 0 sees.1.1.0 ∷ []) all refl refl in
    other (row_word_same w.phase phase row.generation row.generation word).0

lost_turn : (row : RowNo) (retailer : ℕ) (phase shown : Phase) (front back es : List Step) → LosesTurn row phase shown back → es ≡ front ++ back → Unmoved row retailer phase es → ⊥
lost_turn row retailer phase shown front back es (word, other, shows, is) whole u =
    let P = LeavesPhase row.row row.generation phase in
    let late = subst (AllByRecursion P) is (All-right P front back (subst (AllByRecursion P) whole u.phases)) in
    other (first_of P (LostTurn row.row (row_word_of phase row.generation) word) [] late refl)

-- a call that saw something has a beginning

abbrev pub IsBegun : DeskView → DeskView → DeskView → Type 0
IsBegun asked old new = (begun : List Entry) × BeginsAt old new begun × IsPrefix asked.seen begun

pub begun_at : (es : List Step) (asked old new : DeskView) → AddsSteps old new es → (es ≡ [] → ⊥) → BeginsAfter asked old new → IsBegun asked old new
begun_at es asked old new did some (inl none) = absurd (some (no_steps old new es did none))
begun_at es asked old new did some (inr begun) = begun

cons_nil : {x : Step} {xs : List Step} → x ∷ xs ≡ [] → ⊥
cons_nil e = cc

pub not_none : {x : Step} {xs es : List Step} → es ≡ x ∷ xs → es ≡ [] → ⊥
not_none is none = cons_nil (sym is ∙ none)

front_none : (front back : List Step) → front ++ back ≡ [] → front ≡ []
front_none [] back e = refl
front_none (x ∷ xs) back e = absurd cc

saw_some : (row : RowNo) (retailer : ℕ) (w : RowSeen) (front back es : List Step) → SeesOwn row retailer w front → es ≡ front ++ back → es ≡ [] → ⊥
saw_some row retailer w front back es sees is none = not_none sees.1.1.2 (front_none front back (sym is ∙ none))

pub looked_some : (rows : ℕ) (row : RowNo) (retailer : ℕ) (es : List Step) → row.row < rows → SeesNone rows row retailer es → es ≡ [] → ⊥
looked_some rows row retailer es here (inl (past, is)) none = omega (arith, past, here)
looked_some rows row retailer es here (inr (in_row, inl (inl (n, unsealed, is)))) none = not_none is none
looked_some rows row retailer es here (inr (in_row, inl (inr (ws, last, read, free, is)))) none = not_none is none
looked_some rows row retailer es here (inr (in_row, inr (w, other, looks))) none = not_none looks.1.2 none

-- a refund

answered : (cat : CatalogueView) (rows retailer now : ℕ) (code : RefundCode) (v : RowSeen) (qs es : List Step) (answer : Refunded) (asking asked old new : DeskView)
    → code.row.row < rows → AddsSteps asking asked qs → SeesOwn code.row retailer v qs → v.phase ≡ phase_named code.fulfilled → code.amount ≡ refund_at cat v code.made code.fulfilled → is_stale code.made now ≡ false
    → AcceptsRefund cat rows retailer code now answer es → AddsSteps old new es → BeginsAfter asked old new → HonoursRefund code new answer
answered cat rows retailer now code v qs es (refunded.Done amount) asking asked old new here asks saw in_phase worth fresh accepts did after = accepts.0
answered cat rows retailer now code v qs es (refunded.QuoteStale m n) asking asked old new here asks saw in_phase worth fresh accepts did after = both accepts.0 fresh
answered cat rows retailer now code v qs es refunded.QuoteWrong asking asked old new here asks saw in_phase worth fresh (young, in_row, (w, sees, differs)) did after =
    let b = begun_at es asked old new did (not_none sees.1.1.2) after in
    let same = sees_same code.row retailer v w es qs asking asked old new b.0 asks saw b.2 did sees b.1 in
    differs (worth ∙ (λ i. refund_of cat.terms (same.total i) (least_departure cat (same.items i) - code.made) code.fulfilled))
answered cat rows retailer now code v qs es refunded.Unknown asking asked old new here asks saw in_phase worth fresh accepts did after =
    let b = begun_at es asked old new did (some accepts) after in
    subst (λ (p : Phase). HasLeft p (state_seen new) code.row) in_phase
    (has_left code.row retailer v es qs asking asked old new b.0 asks saw b.2 did b.1 (ap is_live in_phase ∙ named_live code.fulfilled)
    (λ u. unknown accepts (subst (λ (p : Phase). Unmoved code.row retailer p es) in_phase u)))
  where
    some : AcceptsRefund cat rows retailer code now refunded.Unknown es → es ≡ [] → ⊥
    some (inl (young, none)) e = looked_some rows code.row retailer es here none e
    some (inr (w, front, right, (seen, back, lost, is))) e = saw_some code.row retailer w front back es right.sees is e

    unknown : AcceptsRefund cat rows retailer code now refunded.Unknown es → Unmoved code.row retailer (phase_named code.fulfilled) es → ⊥
    unknown (inl (young, none)) u = none_seen rows code.row retailer (phase_named code.fulfilled) es here (live_sealed (phase_named code.fulfilled) (named_live code.fulfilled)) none u
    unknown (inr (w, front, right, (seen, back, lost, is))) u = lost_turn code.row retailer (phase_named code.fulfilled) Free front back es lost is u
answered cat rows retailer now code v qs es (refunded.WrongState shown) asking asked old new here asks saw in_phase worth fresh accepts did after =
    let b = begun_at es asked old new did (some accepts) after in
    subst (λ (p : Phase). HasLeft p (state_seen new) code.row) in_phase
    (has_left code.row retailer v es qs asking asked old new b.0 asks saw b.2 did b.1 (ap is_live in_phase ∙ named_live code.fulfilled)
    (λ u. wrong accepts (subst (λ (p : Phase). Unmoved code.row retailer p es) in_phase u)))
  where
    some : AcceptsRefund cat rows retailer code now (refunded.WrongState shown) es → es ≡ [] → ⊥
    some (w, front, right, inl (shows, other, is)) e = saw_some code.row retailer w front [] es right.sees (is ∙ sym (append-nil front)) e
    some (w, front, right, inr (free, (seen, back, lost, is))) e = saw_some code.row retailer w front back es right.sees is e

    wrong : AcceptsRefund cat rows retailer code now (refunded.WrongState shown) es → Unmoved code.row retailer (phase_named code.fulfilled) es → ⊥
    wrong (w, front, right, inl (shows, other, is)) u =
        other_phase code.row retailer (phase_named code.fulfilled) w es (subst (SeesOwn code.row retailer w) (sym is) right.sees) (λ e. other (sym shows ∙ e)) u
    wrong (w, front, right, inr (some, (seen, back, lost, is))) u = lost_turn code.row retailer (phase_named code.fulfilled) shown front back es lost is u

pub refunds_honoured : RefundQuotesAreHonoured
refunds_honoured cat rows retailer made now row code answer asking asked old new (qs, quote, asks) (es, accepts, did) after time =
    let is = quote.1.3 in
    let at : row ≡ code.row = sym (ap (λ (c : RefundCode). c.row) is) in
    let when : made ≡ code.made = sym (ap (λ (c : RefundCode). c.made) is) in
    let v = quote.1.0 in
    answered cat rows retailer now code v qs es answer asking asked old new
    (subst (λ (r : RowNo). r.row < rows) at quote.0) asks
    (subst (λ (r : RowNo). SeesOwn r retailer v qs) at quote.1.1) quote.1.2
    (subst (λ (m : ℕ). code.amount ≡ refund_at cat v m code.fulfilled) when (ap (λ (c : RefundCode). c.amount) is))
    (subst (λ (m : ℕ). is_stale m now ≡ false) when (in_time made now time))
    accepts did after

-- an exchange

readied_so : (cat : CatalogueView) (rows retailer now : ℕ) (code : ExchangeView) (v : RowSeen) (qs es : List Step) (answer : Readied) (asking asked old new : DeskView)
    → code.row.row < rows → AddsSteps asking asked qs → SeesOwn code.row retailer v qs → v.phase ≡ phase_named code.fulfilled → code.difference ≡ difference_at cat v code.made code.fulfilled code.offer → is_stale code.made now ≡ false
    → Readies cat rows retailer code now answer es → AddsSteps old new es → BeginsAfter asked old new → HonoursExchange code new answer
readied_so cat rows retailer now code v qs es (readied.Fine ready) asking asked old new here asks saw in_phase worth fresh readies did after = ap (λ (r : ReadyView). r.code) readies.0
readied_so cat rows retailer now code v qs es (readied.QuoteStale m n) asking asked old new here asks saw in_phase worth fresh readies did after = both readies.0 fresh
readied_so cat rows retailer now code v qs es readied.QuoteWrong asking asked old new here asks saw in_phase worth fresh (young, in_row, (w, sees, differs)) did after =
    let b = begun_at es asked old new did (not_none sees.1.1.2) after in
    let same = sees_same code.row retailer v w es qs asking asked old new b.0 asks saw b.2 did sees b.1 in
    let value : refund_at cat v code.made code.fulfilled ≡ refund_at cat w code.made code.fulfilled = λ i. refund_of cat.terms (same.total i) (least_departure cat (same.items i) - code.made) code.fulfilled in
    differs (worth ∙ ap (λ (n : ℕ). pos (offer_price cat code.offer + cat.terms.exchange_fee) -ℤ pos n) value)
readied_so cat rows retailer now code v qs es readied.Unknown asking asked old new here asks saw in_phase worth fresh (young, none) did after =
    let b = begun_at es asked old new did (looked_some rows code.row retailer es here none) after in
    subst (λ (p : Phase). HasLeft p (state_seen new) code.row) in_phase
    (has_left code.row retailer v es qs asking asked old new b.0 asks saw b.2 did b.1 (ap is_live in_phase ∙ named_live code.fulfilled)
    (λ u. none_seen rows code.row retailer v.phase es here (ap is_sealed in_phase ∙ live_sealed (phase_named code.fulfilled) (named_live code.fulfilled)) none u))
readied_so cat rows retailer now code v qs es (readied.WrongState shown) asking asked old new here asks saw in_phase worth fresh (other, (w, right, shows)) did after =
    let b = begun_at es asked old new did (not_none right.sees.1.1.2) after in
    subst (λ (p : Phase). HasLeft p (state_seen new) code.row) in_phase
    (has_left code.row retailer v es qs asking asked old new b.0 asks saw b.2 did b.1 (ap is_live in_phase ∙ named_live code.fulfilled)
    (λ u. other_phase code.row retailer v.phase w es right.sees (λ e. other (sym shows ∙ (e ∙ in_phase))) u))

pub exchanges_honoured : ExchangeQuotesAreHonoured
exchanges_honoured cat rows retailer made now row offer code answer asking asked old new (qs, quote, asks) (es, readies, did) after time =
    let view = exchange_view code in
    let is = quote.1.3 in
    let at : row ≡ view.row = sym (ap (λ (c : ExchangeView). c.row) is) in
    let when : made ≡ view.made = sym (ap (λ (c : ExchangeView). c.made) is) in
    let what : offer ≡ view.offer = sym (ap (λ (c : ExchangeView). c.offer) is) in
    let v = quote.1.0 in
    readied_so cat rows retailer now view v qs es answer asking asked old new
    (subst (λ (r : RowNo). r.row < rows) at quote.0) asks
    (subst (λ (r : RowNo). SeesOwn r retailer v qs) at quote.1.1) quote.1.2
    (ap (λ (c : ExchangeView). c.difference) is ∙ (λ i. difference_at cat v (when i) code.fulfilled (what i)))
    (subst (λ (m : ℕ). is_stale m now ≡ false) when (in_time made now time))
    readies did after
