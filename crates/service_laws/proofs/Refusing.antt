-- A later command that finds the booking in another phase than it asks for shows one that follows.
use Rattle.std.proofs.Common.{◌≡◌, ℕ, inl, inr, true, List, [], ◌∷◌, ◌++◌, refl, sym, ◌∙◌, subst}
use Rattle.std.specs.List.{AllByRecursion}
use Rattle.rail_ids.specs.declared.RowNo.{RowNo}
use Rattle.history_model.specs.declared.entry.Step.{Step}
use Rattle.history_model.specs.declared.entry.Step.TheVariants.{LostTurn, SawRow}
use Rattle.history_model.specs.declared.phase.Phase.{Phase}
use Rattle.history_model.specs.declared.phase.Phase.TheVariants.{Free, Prebooked, Confirmed}
use Rattle.history_model.specs.Phase.{is_sealed, row_word_of}
use Rattle.history_model.specs.Life.{LeadsTo}
use Rattle.history_model.proofs.ListLemmas.{All-right}
use Rattle.history_model.proofs.PhaseWords.{shown_back}
use Rattle.claim_rule.specs.Rule.{BooksView, DeskView}
use Rattle.claim_rule.specs.Desks.{AddsSteps, IsOf}
use Rattle.booking_rows.specs.Aims.{LosesTurn}
use Rattle.booking_rows.specs.Views.{saw_phase}
use Rattle.booking_rows.proofs.ViewLemmas.{sealed_not_free}
use Rattle.confirm_core.specs.Looks.{IsWrong, SawOwned}
use Rattle.confirm_core.specs.Confirming.{SawInTime}
use Rattle.confirm_core.specs.declared.confirming.Confirmed.TheVariants as confirmed
use Rattle.confirm_core.specs.declared.fulfilling.Fulfilment.TheVariants as fulfilled
use Rattle.refund_core.specs.Quotes.{SeesOwn, phase_named}
use Rattle.offer_codes.specs.declared.code.OfferCode.{OfferCode}
use Rattle.offer_codes.specs.declared.code.RefundCode.{RefundCode}
use Rattle.service_rules.specs.Performing.{Performs}
use Rattle.claim_rule.proofs.Shapes.{shape_then}
use Rattle.refund_core.specs.declared.releasing.Released.TheVariants as released
use Rattle.refund_core.specs.declared.refunding.Refunded.TheVariants as refunded
use Rattle.refund_core.specs.declared.quoting.Quoted.TheVariants as quoted
use Rattle.exchange_core.specs.declared.quoting.QuotedExchange.TheVariants as exchange_quoted
use Rattle.osdm_texts.specs.Answers.{problem}
use Rattle.osdm_parts.specs.declared.problem.Problem.TheVariants.{WrongState}
use Rattle.service_rules.specs.Ordered as order
use Rattle.service_laws.specs.Begun.{BeginsAfter}
use Rattle.service_laws.specs.Told.{FindsFurther, RefusalsShowFurther, StandsFrom}
use Rattle.service_laws.proofs.Finding.{bookings_found, shows_it}
use Rattle.expiry_sweeper.proofs.Own.{first_of}

-- the first look, and a lost turn

first_look : (row : RowNo) (phase shown : Phase) (es rest : List Step) → is_sealed shown ≡ true → es ≡ saw_phase row shown ∷ rest → AllByRecursion (FindsFurther row phase) es → LeadsTo phase shown
first_look row phase shown es rest sealed is all =
    let back = shown_back shown row.generation in
    let first = first_of (FindsFurther row phase) (saw_phase row shown) rest (subst (AllByRecursion (FindsFurther row phase)) is all) refl refl in
    subst (LeadsTo phase) back (first (λ e. sealed_not_free shown sealed (sym back ∙ e)))

lost_turn : (row : RowNo) (phase wanted shown : Phase) (front back es : List Step) → (shown ≡ Free → ⊥) → LosesTurn row wanted shown back → es ≡ front ++ back → AllByRecursion (FindsFurther row phase) es → LeadsTo phase shown
lost_turn row phase wanted shown front back es some (word, other, shows, is) whole all =
    let P = FindsFurther row phase in
    let late = subst (AllByRecursion P) is (All-right P front back (subst (AllByRecursion P) whole all)) in
    let found = first_of P (LostTurn row.row (row_word_of wanted row.generation) word) [] late refl in
    subst (LeadsTo phase) (sym shows) (found (λ e. some (shows ∙ e)))

-- the looks before a decision begin with one at the phase
abbrev Begins : RowNo → (Phase → List Step → Type 0) → Type 0
Begins row Saw = (was : Phase) (es : List Step) → Saw was es → (rest : List Step) × (es ≡ saw_phase row was ∷ rest)

wrong : (row : RowNo) (phase wanted shown : Phase) (Saw : Phase → List Step → Type 0) (es : List Step) → Begins row Saw → IsWrong row wanted shown Saw es → AllByRecursion (FindsFurther row phase) es → LeadsTo phase shown
wrong row phase wanted shown Saw es begins (inl (other, sealed, saw)) all = let b = begins shown es saw in first_look row phase shown es b.0 sealed b.1 all
wrong row phase wanted shown Saw es begins (inr (some, front, back, saw, lost, is)) all = lost_turn row phase wanted shown front back es some lost is all

in_time : (row : RowNo) (retailer now limit : ℕ) → Begins row (SawInTime row retailer now limit)
in_time row retailer now limit was es (may, (last, kept, is)) = (SawRow row.row 1 retailer ∷ SawRow row.row 2 limit ∷ SawRow row.row 0 last ∷ [], is)

owned : (row : RowNo) (retailer : ℕ) → Begins row (SawOwned row retailer)
owned row retailer was es (last, kept, is) = (SawRow row.row 1 retailer ∷ SawRow row.row 0 last ∷ [], is)

module _ (books : BooksView) (row : RowNo) (phase : Phase) (retailer : ℕ) (told old : DeskView) (of_told : IsOf books told) (of_old : IsOf books old) (on : StandsFrom phase retailer told row) where
  -- what the second part of a call finds
  second : (mid new : DeskView) (es fs : List Step) → AddsSteps old mid es → AddsSteps mid new fs → BeginsAfter told old new → AllByRecursion (FindsFurther row phase) fs
  second mid new es fs one two after =
      let both = bookings_found books row phase retailer told old new (es ++ fs) of_told of_old on (shape_then old mid new es fs one two) after in
      All-right (FindsFurther row phase) es fs both

pub refusals_further : RefusalsShowFurther
refusals_further cat books row phase retailer now shown told old new of_told of_old on after = (
  λ did. confirms did,
  λ did. fulfils did,
  λ did. releases did,
  λ did. quotes did,
  λ offer did. exchanges offer did,
  λ code same did. refunds code same did,
)
  where
    confirms : Performs cat retailer now (order.confirm row) old new (problem (WrongState shown)) → LeadsTo phase shown
    confirms (inl (none, is)) = absurd cc
    confirms (inr (v, mid, found, inr (same, is))) = absurd cc
    confirms (inr (v, mid, (es, (here, sees), did), inl (confirmed.WrongState was, (fs, (in_row, (limit, so)), more), is))) =
        let one : shown ≡ was = cc in
        let all = second books row phase retailer told old of_told of_old on mid new es fs did more after in
        subst (LeadsTo phase) (sym one) (wrong row phase Prebooked was (SawInTime row retailer now limit) fs (in_time row retailer now limit) so all)
    confirms (inr (v, mid, found, inl (confirmed.Done, did, is))) = absurd cc
    confirms (inr (v, mid, found, inl (confirmed.Unknown, did, is))) = absurd cc
    confirms (inr (v, mid, found, inl (confirmed.TooLate limit, did, is))) = absurd cc

    fulfils : Performs cat retailer now (order.fulfil row) old new (problem (WrongState shown)) → LeadsTo phase shown
    fulfils (inl (none, is)) = absurd cc
    fulfils (inr (v, mid, found, inr (same, is))) = absurd cc
    fulfils (inr (v, mid, (es, (here, sees), did), inl (fulfilled.WrongState was, (fs, (in_row, so), more), is))) =
        let one : shown ≡ was = cc in
        let all = second books row phase retailer told old of_told of_old on mid new es fs did more after in
        subst (LeadsTo phase) (sym one) (wrong row phase Confirmed was (SawOwned row retailer) fs (owned row retailer) so all)
    fulfils (inr (v, mid, found, inl (fulfilled.Done, did, is))) = absurd cc
    fulfils (inr (v, mid, found, inl (fulfilled.Unknown, did, is))) = absurd cc

    releases : Performs cat retailer now (order.release row) old new (problem (WrongState shown)) → LeadsTo phase shown
    releases (inl (none, is)) = absurd cc
    releases (inr (v, mid, found, inr (same, is))) = absurd cc
    releases (inr (v, mid, (es, (here, sees), did), inl (released.WrongState was, (fs, (in_row, so), more), is))) =
        let one : shown ≡ was = cc in
        let all = second books row phase retailer told old of_told of_old on mid new es fs did more after in
        subst (LeadsTo phase) (sym one) (wrong row phase Prebooked was (SawOwned row retailer) fs (owned row retailer) so all)
    releases (inr (v, mid, found, inl (released.Done, did, is))) = absurd cc
    releases (inr (v, mid, found, inl (released.Unknown, did, is))) = absurd cc

    quotes : Performs cat retailer now (order.quote_refund row) old new (problem (WrongState shown)) → LeadsTo phase shown
    quotes (quoted.WrongState was, (es, (here, a, b, (v, sees, in_it)), did), is) =
        let one : shown ≡ was = cc in
        let all = bookings_found books row phase retailer told old new es of_told of_old on did after in
        subst (LeadsTo phase) (in_it ∙ sym one) (shows_it row phase retailer v es sees all)
    quotes (quoted.Done code, did, inl is) = absurd cc
    quotes (quoted.Done code, did, inr is) = absurd cc
    quotes (quoted.Unknown, did, is) = absurd cc

    exchanges : (offer : OfferCode) → Performs cat retailer now (order.quote_exchange row offer) old new (problem (WrongState shown)) → LeadsTo phase shown
    exchanges offer (exchange_quoted.WrongState was, (es, (here, a, b, (v, sees, in_it)), did), is) =
        let one : shown ≡ was = cc in
        let all = bookings_found books row phase retailer told old new es of_told of_old on did after in
        subst (LeadsTo phase) (in_it ∙ sym one) (shows_it row phase retailer v es sees all)
    exchanges offer (exchange_quoted.Done code, did, inl is) = absurd cc
    exchanges offer (exchange_quoted.Done code, did, inr is) = absurd cc
    exchanges offer (exchange_quoted.Unknown, did, is) = absurd cc

    refunds : (code : RefundCode) → code.row ≡ row → Performs cat retailer now (order.accept_refund code) old new (problem (WrongState shown)) → LeadsTo phase shown
    refunds code same (inl (none, is)) = absurd cc
    refunds code same (inr (v, mid, found, inr (again, is))) = absurd cc
    refunds code same (inr (u, mid, (es, (here, sees), did), inl (refunded.WrongState was, (fs, (v, front, right, inl (in_it, other, whole)), more), is))) =
        let one : shown ≡ was = cc in
        let all = second books row phase retailer told old of_told of_old on mid new es fs did more after in
        let saw = subst (λ (r : RowNo). SeesOwn r retailer v fs) same (subst (SeesOwn code.row retailer v) (sym whole) right.sees) in
        subst (LeadsTo phase) (in_it ∙ sym one) (shows_it row phase retailer v fs saw all)
    refunds code same (inr (u, mid, (es, (here, sees), did), inl (refunded.WrongState was, (fs, (v, front, right, inr (some, (in_it, back, lost, whole))), more), is))) =
        let one : shown ≡ was = cc in
        let all = second books row phase retailer told old of_told of_old on mid new es fs did more after in
        let loses = subst (λ (r : RowNo). LosesTurn r (phase_named code.fulfilled) was back) same lost in
        subst (LeadsTo phase) (sym one) (lost_turn row phase (phase_named code.fulfilled) was front back fs some loses whole all)
    refunds code same (inr (u, mid, found, inl (refunded.Done amount, did, is))) = absurd cc
    refunds code same (inr (u, mid, found, inl (refunded.Unknown, did, is))) = absurd cc
    refunds code same (inr (u, mid, found, inl (refunded.QuoteStale made at, did, is))) = absurd cc
    refunds code same (inr (u, mid, found, inl (refunded.QuoteWrong, did, is))) = absurd cc
