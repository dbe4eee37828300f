-- Carrying a booking over to a new one on a lone desk is what the plain host makes of it.
use Rattle.std.proofs.Common.{◌≡◌, ℕ, ◌-◌, ◌≤◌, inl, inr, Bool, true, false, Some, None, List, [], ◌∷◌, ◌++◌, length, map, refl, sym, ap, ◌∙◌, subst, append_assoc}
use Rattle.std.specs.Prelude.{◌&&◌, ◌⊎◌, nat_eq}
use Rattle.std.specs.List.{AllByRecursion}
use mathlib.Core.List.{map-append}
use Rattle.leg_masks.specs.Interval.{PlacedSpan as Item}
use Rattle.rail_ids.specs.declared.RowNo.{RowNo}
use Rattle.history_model.specs.declared.phase.Phase.{Phase}
use Rattle.history_model.specs.declared.booking.End.{End}
use Rattle.history_model.specs.declared.entry.Step.{Step}
use Rattle.history_model.specs.declared.entry.Step.TheVariants.{Seal}
use Rattle.history_model.specs.declared.phase.Phase.TheVariants as phase
use Rattle.history_model.specs.declared.phase.EndKind.TheVariants as kind
use Rattle.history_model.specs.Phase.{is_sealed, is_ended, row_word_of}
use Rattle.history_model.specs.Apply.{apply_step, in_phase}
use Rattle.history_model.specs.Booking.{Booking, Layout, State, key_of, next_in, next_generation, stands_as, change, present}
use Rattle.history_model.specs.Laws.{IsWellFormed, is_owners}
use Rattle.history_model.specs.WholeEnds.{end_turn}
use Rattle.history_model.proofs.ListLemmas.{All-left, All-right}
use Rattle.history_model.proofs.Generations.{present_latest, unended_present, stands_there}
use Rattle.claim_rule.specs.Rule.{DeskView, state_seen}
use Rattle.claim_rule.specs.Holds.{held}
use Rattle.claim_rule.specs.Endings.{items_read}
use Rattle.claim_rule.specs.EndSteps.{ending_steps}
use Rattle.claim_rule.proofs.Moves.{is_sound}
use Rattle.booking_rows.specs.Notes.{detail_notes}
use Rattle.booking_rows.specs.Views.{RowSeen}
use Rattle.catalogue_contents.specs.Contents.{CatalogueView}
use Rattle.offer_codes.specs.Exchanges.{ExchangeView}
use Rattle.refund_core.specs.Quotes.{phase_named}
use Rattle.exchange_core.specs.Ready.{ReadyView}
use Rattle.exchange_core.specs.Accepting.{exchange_end, exchange_steps}
use Rattle.osdm_texts.specs.Answers.{Reply}
use Rattle.booking_service.specs.Deciding.{at_end}
use Rattle.reservation_service.specs.declared.holding.Placing.TheVariants.{Whole}
use Rattle.reservation_service.specs.Reserving.{detail_of}
use Rattle.trade_service.specs.Exchanges.{CarriesOut, ready_of}
use Rattle.lone_desk.specs.Lone.{after_steps}
use Rattle.lone_desk.proofs.Following.{shape_follows}
use Rattle.lone_desk.proofs.Looking.{after-append}
use Rattle.plain_host.specs.Plain.{Standing, replaced, chosen, keeping, with_view, with_new}
use Rattle.plain_host.specs.Outcomes.{placed, exchanged_for}
use Rattle.plain_host.specs.PlainOf.{row_of, view_of, standing_of, standings_of, plain_in, plain_of}
use Rattle.plain_host.specs.Settled.{IsStanding, IsEmptyRow, IsSettled}
use Rattle.plain_host.specs.Plainly.{IsLone}
use Rattle.plain_host.proofs.Standings.{IsAside, Stands, stands, changed_standing}
use Rattle.plain_host.proofs.Changes.{steps_on, steps_key, on_booking, is_on, AreOn, steps_change, ends_on, ends_leave, IsEndedAs}
use Rattle.plain_host.proofs.Staying.{IsBeforeLast, before_last, standing_with}
use Rattle.plain_host.proofs.PlacesRows.{IsLatest, beside, choice_at, change_last, standings_unsealed}
use Rattle.plain_host.proofs.PlacesSealed.{IsNoted, HasSealed, notes_making, noted_shows, settles_sealed}
use Rattle.plain_host.proofs.PlacesChosen.{Differ, Fit}
use Rattle.plain_host.proofs.BookingMade.{StaysLone, lone_by, holds, booked_is, by_outcome, row_kept, fails_plainly, gives_up, long_words, plain_sealed, IsBookedPlainly}
use Rattle.plain_host.proofs.Looks.{word_here, not_lost}

-- a booking among those that stand, which hasn't ended

-- it stands before the row in the making, which is behind what stood
pub record StandsBefore (standing : State) (n : Booking) (row : ℕ) (b : Booking) : Type 0 where
  pub place : Stands (standing ++ n ∷ []) row b
  pub rest : State
  pub after_is : place.after ≡ rest ++ n ∷ []
  pub standing_is : standing ≡ place.before ++ b ∷ rest

sealed_differs : (b n : Booking) → is_sealed b.phase ≡ true → n.phase ≡ phase.Making → b ≡ n → ⊥
sealed_differs b n sealed making same = let no : false ≡ true = sym (ap is_sealed making) ∙ (sym (ap (λ (x : Booking). is_sealed x.phase) same) ∙ sealed) in cc

-- among all it is among those that stand
among : (g : Layout) (s : State) (row : ℕ) (b : Booking) → IsWellFormed g s → (settled : IsSettled s) → present s row ≡ Some b → is_sealed b.phase ≡ true
    → (before : State) × (rest : State) × (settled.standing ≡ before ++ b ∷ rest)
among g s row b good settled at sealed = go (stands g s row b good at) settled.is where
  by : (before after : State) (e : Booking) → (b ≡ e) ⊎ IsBeforeLast before b after settled.standing e → IsEmptyRow e → (before : State) × (rest : State) × (settled.standing ≡ before ++ b ∷ rest)
  by before after e (inl same) empty = absurd (sealed_differs b e sealed empty.making same)
  by before after e (inr last) empty = (before, last.rest, last.standing_is)

  go : Stands s row b → (s ≡ settled.standing) ⊎ ((e : Booking) × IsEmptyRow e × (s ≡ settled.standing ++ e ∷ [])) → (before : State) × (rest : State) × (settled.standing ≡ before ++ b ∷ rest)
  go st (inl is) = (st.before, st.after, sym is ∙ st.is)
  go st (inr (e, empty, is)) = by st.before st.after e (before_last st.before st.after settled.standing b e (sym st.is ∙ is)) empty

-- with a row in the making behind, it is its row's present one still
pub still_present : (g : Layout) (s t : State) (row : RowNo) (b n : Booking) → IsWellFormed g s → IsWellFormed g t → (settled : IsSettled s) → present s row.row ≡ Some b → b.generation ≡ row.generation
    → is_sealed b.phase ≡ true → is_ended b.phase ≡ false → t ≡ settled.standing ++ n ∷ [] → present t row.row ≡ Some b
still_present g s t row b n good well settled at same sealed unended is =
    let parts = among g s row.row b good settled at sealed in
    let whole : t ≡ parts.0 ++ b ∷ (parts.1 ++ n ∷ []) =
    is ∙ (ap (λ (u : State). u ++ n ∷ []) parts.2 ∙ append_assoc parts.0 (b ∷ parts.1) (n ∷ [])) in
    let here : b.row ≡ row.row = (present_latest s row.row b at).0 in
    subst (λ (r : ℕ). present t r ≡ Some b) here
    (unended_present t b.row b.generation b well.earlier (stands_there t parts.0 b (parts.1 ++ n ∷ []) well.keys whole) unended)

pub stands_before : (g : Layout) (standing : State) (n : Booking) (row : ℕ) (b : Booking) → IsWellFormed g (standing ++ n ∷ []) → present (standing ++ n ∷ []) row ≡ Some b
    → is_sealed b.phase ≡ true → n.phase ≡ phase.Making → StandsBefore standing n row b
stands_before g standing n row b well at sealed making =
    let st = stands g (standing ++ n ∷ []) row b well at in by st (before_last st.before st.after standing b n (sym st.is))
  where
    by : (st : Stands (standing ++ n ∷ []) row b) → (b ≡ n) ⊎ IsBeforeLast st.before b st.after standing n → StandsBefore standing n row b
    by st (inl same) = absurd (sealed_differs b n sealed making same)
    by st (inr last) = record { place = st; rest = last.rest; after_is = last.after_is; standing_is = last.standing_is }

-- where another of its key stands, and others of the same keys behind it

keys_around : (before xs ys : State) (b c : Booking) → key_of c ≡ key_of b → map key_of ys ≡ map key_of xs → map key_of (before ++ c ∷ ys) ≡ map key_of (before ++ b ∷ xs)
keys_around before xs ys b c same keys =
    map-append key_of before (c ∷ ys)
    ∙ ((λ i. map key_of before ++ same i ∷ keys i) ∙ sym (map-append key_of before (b ∷ xs)))

aside_keys : (s : State) (row : ℕ) (xs ys : State) → map key_of ys ≡ map key_of xs → IsAside s row xs → IsAside s row ys
aside_keys s row [] [] e aside = tt
aside_keys s row [] (y ∷ ys) e aside = absurd cc
aside_keys s row (x ∷ xs) [] e aside = absurd cc
aside_keys s row (x ∷ xs) (y ∷ ys) e aside =
    let here : key_of y ≡ key_of x = cc in
    let rest : map key_of ys ≡ map key_of xs = cc in
    (ap (λ (k : ℕ × ℕ). nat_eq k.0 row && nat_eq k.1 (next_generation s row - 1)) here ∙ aside.0, aside_keys s row xs ys rest aside.1)

abbrev stands_beside : (s : State) (row : ℕ) (b c : Booking) (ys : State) → (st : Stands s row b) → key_of c ≡ key_of b → map key_of ys ≡ map key_of st.after → Stands (st.before ++ c ∷ ys) row c
stands_beside s row b c ys st same later =
    let keys : map key_of (st.before ++ c ∷ ys) ≡ map key_of s = keys_around st.before st.after ys b c same later ∙ sym (ap (map key_of) st.is) in
    record {
      before = st.before;
      after = ys;
      is = refl;
      same = ap (λ (k : ℕ × ℕ). k.0) same ∙ st.same;
      passes = subst (λ (ks : List (ℕ × ℕ)). stands_as row (next_in ks row - 1) c ≡ true) (sym keys)
          (ap (λ (k : ℕ × ℕ). nat_eq k.0 row && nat_eq k.1 (next_generation s row - 1)) same ∙ st.passes);
      first = subst (λ (ks : List (ℕ × ℕ)). AllByRecursion (λ x. stands_as row (next_in ks row - 1) x ≡ false) st.before) (sym keys) st.first;
      last = subst (λ (ks : List (ℕ × ℕ)). AllByRecursion (λ x. stands_as row (next_in ks row - 1) x ≡ false) ys) (sym keys) (aside_keys s row st.after ys later st.last);
    }

-- steps on the old booking, with the seal of the new one between them

steps_append : (d : ℕ) (xs ys : List Step) (b : Booking) → steps_on d (xs ++ ys) b ≡ steps_on d ys (steps_on d xs b)
steps_append d [] ys b = refl
steps_append d (x ∷ xs) ys b = steps_append d xs ys (on_booking d x b)

-- some steps, one between, and some behind it
three_stages : (s u v w : State) (d : ℕ) (first : List Step) (step : Step) (second : List Step) → after_steps s d first ≡ u → apply_step u d step ≡ v → after_steps v d second ≡ w → after_steps s d (first ++ step ∷ second) ≡ w
three_stages s u v w d first step second a b c =
    after-append s d first (step ∷ second) ∙ (ap (λ (t : State). after_steps t d (step ∷ second)) a ∙ (ap (λ (t : State). after_steps t d second) b ∙ c))

latest_with : (before rest : State) (b c : Booking) (row : RowNo) → key_of c ≡ key_of b → IsLatest (before ++ b ∷ rest) row → IsLatest (before ++ c ∷ rest) row
latest_with before rest b c row same = subst (λ (ks : List (ℕ × ℕ)). next_in ks row.row ≤ row.generation) (sym (keys_around before rest rest b c same refl))

twice_key : (d : ℕ) (xs ys : List Step) (b : Booking) → key_of (steps_on d ys (steps_on d xs b)) ≡ key_of b
twice_key d xs ys b = steps_key d ys (steps_on d xs b) ∙ steps_key d xs b

before_seal : (standing : State) (n : Booking) (old d : ℕ) (b : Booking) (first : List Step) → (st : StandsBefore standing n old b) → AreOn old first
    → after_steps (standing ++ n ∷ []) d first ≡ (st.place.before ++ steps_on d first b ∷ st.rest) ++ n ∷ []
before_seal standing n old d b first st on =
    steps_change (standing ++ n ∷ []) b old d first st.place on
    ∙ (ap (λ (u : State). st.place.before ++ steps_on d first b ∷ u) st.after_is ∙ sym (append_assoc st.place.before (steps_on d first b ∷ st.rest) (n ∷ [])))

at_seal : (front rest : State) (c n : Booking) (row : RowNo) → row_of n ≡ row → IsLatest (front ++ c ∷ rest) row
    → change ((front ++ c ∷ rest) ++ n ∷ []) row.row (in_phase phase.Confirmed) ≡ front ++ c ∷ (rest ++ in_phase phase.Confirmed n ∷ [])
at_seal front rest c n row is latest =
    change_last (front ++ c ∷ rest) n row (in_phase phase.Confirmed) is latest ∙ append_assoc front (c ∷ rest) (in_phase phase.Confirmed n ∷ [])

behind_seal : (standing : State) (n : Booking) (old d : ℕ) (b c sn : Booking) (second : List Step) → (st : StandsBefore standing n old b) → key_of c ≡ key_of b → key_of sn ≡ key_of n → AreOn old second
    → after_steps (st.place.before ++ c ∷ (st.rest ++ sn ∷ [])) d second ≡ (st.place.before ++ steps_on d second c ∷ st.rest) ++ sn ∷ []
behind_seal standing n old d b c sn second st same sealed on =
    let front = st.place.before in
    let keys : map key_of (st.rest ++ sn ∷ []) ≡ map key_of st.place.after =
    map-append key_of st.rest (sn ∷ [])
    ∙ ((λ i. map key_of st.rest ++ sealed i ∷ []) ∙ (sym (map-append key_of st.rest (n ∷ [])) ∙ sym (ap (map key_of) st.after_is))) in
    steps_change (front ++ c ∷ (st.rest ++ sn ∷ [])) c old d second (stands_beside (standing ++ n ∷ []) old b c (st.rest ++ sn ∷ []) st.place same keys) on
    ∙ sym (append_assoc front (steps_on d second c ∷ st.rest) (sn ∷ []))

-- what an exchange leaves of the old booking, among the others and before the new one
pub record HasExchanged (standing : State) (n : Booking) (old : ℕ) (b : Booking) (st : StandsBefore standing n old b) (end : End) (row : RowNo) (retailer limit total : ℕ) (items : List Item) (t : State) : Type 0 where
  pub ended : Booking
  pub ends : IsEndedAs kind.Exchange end b ended
  pub sealed : HasSealed (st.place.before ++ ended ∷ st.rest) phase.Confirmed row retailer limit total items t

pub exchange_makes : (standing : State) (b : Booking) (d : ℕ) (ready : ReadyView) (row : RowNo) (retailer limit total : ℕ) (items olds : List Item) (n : Booking) → (st : StandsBefore standing n ready.code.row.row b)
    → IsLatest standing row → IsNoted row retailer limit total items n
    → HasExchanged standing n ready.code.row.row b st (exchange_end ready row) row retailer limit total items (after_steps (standing ++ n ∷ []) d (exchange_steps ready row olds))
exchange_makes standing b d ready row retailer limit total items olds n st latest noted =
    let old = ready.code.row.row in
    let from = phase_named ready.code.fulfilled in
    let end = exchange_end ready row in
    let first : List Step = end_turn old from (phase.Ending kind.Exchange) end ∷ items_read old olds in
    let second : List Step = ending_steps old kind.Exchange end olds in
    let on = ends_on old from kind.Exchange end olds in
    let P : Step → Type 0 = λ x. is_on old x ≡ true in
    let front = st.place.before in
    let b1 = steps_on d first b in
    let b2 = steps_on d second b1 in
    let sn = in_phase phase.Confirmed n in
    let among_those : IsLatest (front ++ b ∷ st.rest) row = subst (λ (u : State). IsLatest u row) st.standing_is latest in
    record {
      ended = b2;
      ends = subst (IsEndedAs kind.Exchange end b) (steps_append d first second b) (ends_leave d old from kind.Exchange end olds b);
      sealed = record {
        last = sn;
        stands = record { sealed = refl; still = refl };
        latest = latest_with front st.rest b b2 row (twice_key d first second b) among_those;
        shows = noted_shows phase.Confirmed row retailer limit total items n (λ e. refl) noted;
        is = three_stages (standing ++ n ∷ []) ((front ++ b1 ∷ st.rest) ++ n ∷ []) (front ++ b1 ∷ (st.rest ++ sn ∷ [])) ((front ++ b2 ∷ st.rest) ++ sn ∷ []) d first (Seal row.row phase.Confirmed) second
            (before_seal standing n old d b first st (All-left P first second on))
            (at_seal front st.rest b1 n row noted.row_is (latest_with front st.rest b b1 row (steps_key d first b) among_those))
            (behind_seal standing n old d b b1 sn second st (steps_key d first b) refl (All-right P first second on));
      };
    }

-- what then stands

ended_standing : (standing : State) (n : Booking) (old : ℕ) (b ended : Booking) (end : End) → (st : StandsBefore standing n old b) → AllByRecursion IsStanding standing → IsEndedAs kind.Exchange end b ended
    → AllByRecursion IsStanding (st.place.before ++ ended ∷ st.rest)
ended_standing standing n old b ended end st each ends =
    standing_with st.place.before st.rest b ended (subst (AllByRecursion IsStanding) st.standing_is each) (record { sealed = ap is_sealed ends.phase; still = ap is_owners ends.phase })

-- beside the row of the new one it is the old list with the ended view
ended_bookings : (standing : State) (n : Booking) (old row : RowNo) (b ended : Booking) (end : End) → (st : StandsBefore standing n old.row b) → b.generation ≡ old.generation → is_sealed b.phase ≡ true → row_of n ≡ row
    → IsLatest standing row → n.phase ≡ phase.Making → IsEndedAs kind.Exchange end b ended
    → map (replaced old (at_end kind.Exchange end (view_of b))) (beside standing row) ≡ beside (st.place.before ++ ended ∷ st.rest) row
ended_bookings standing n old row b ended end st same was row_is latest making ends =
    let s = standing ++ n ∷ [] in
    let front = st.place.before in
    let later = front ++ ended ∷ st.rest in
    let t = front ++ ended ∷ st.place.after in
    let changed = changed_standing s t old.row b ended st.place refl ends.key was (ap is_sealed ends.phase) in
    let of : row_of b ≡ old = λ i. record { row = st.place.same i; generation = same i } in
    let is : t ≡ later ++ n ∷ [] = ap (λ (u : State). front ++ ended ∷ u) st.after_is ∙ sym (append_assoc front (ended ∷ st.rest) (n ∷ [])) in
    let left = latest_with front st.rest b ended row ends.key (subst (λ (u : State). IsLatest u row) st.standing_is latest) in
    ap (map (replaced old (at_end kind.Exchange end (view_of b)))) (sym (standings_unsealed standing n row row_is latest (ap is_sealed making)))
    ∙ ((λ i. map (replaced (sym of i) (sym ends.view i)) (standings_of s))
    ∙ (sym changed.0 ∙ (ap standings_of is ∙ standings_unsealed later n row row_is left (ap is_sealed making))))

-- the booking that is sealed, as the plain host has it
abbrev confirmed_view : ℕ → ℕ → ℕ → List Item → RowSeen
confirmed_view retailer limit total items = record { phase = phase.Confirmed; retailer = retailer; limit = limit; total = total; items = items; ended = None }

-- the plain host with the old booking ended, and the new one behind the others
record LeavesExchanged (standing : State) (b : Booking) (ready : ReadyView) (row : RowNo) (retailer limit total : ℕ) (items : List Item) (t : State) : Type 0 where
  settled : IsSettled t
  plain : plain_in t ≡ with_new (with_view (keeping (choice_at standing row)) ready.code.row (at_end kind.Exchange (exchange_end ready row) (view_of b))) row (confirmed_view retailer limit total items)

sealed_leaves : (standing : State) (n b : Booking) (ready : ReadyView) (row : RowNo) (retailer limit total : ℕ) (items : List Item) (t : State) → (st : StandsBefore standing n ready.code.row.row b) → AllByRecursion IsStanding standing
    → b.generation ≡ ready.code.row.generation → is_sealed b.phase ≡ true → row_of n ≡ row → IsLatest standing row → n.phase ≡ phase.Making
    → HasExchanged standing n ready.code.row.row b st (exchange_end ready row) row retailer limit total items t → LeavesExchanged standing b ready row retailer limit total items t
sealed_leaves standing n b ready row retailer limit total items t st all same was row_is latest making has =
    let old = ready.code.row in
    let end = exchange_end ready row in
    let after = st.place.before ++ has.ended ∷ st.rest in
    let each = ended_standing standing n old.row b has.ended end st all has.ends in
    let view : (standing_of has.sealed.last).view ≡ confirmed_view retailer limit total items = ap (λ (y : Standing). y.view) has.sealed.shows in
    let bookings = ended_bookings standing n old row b has.ended end st same was row_is latest making has.ends in
    record {
      settled = settles_sealed after phase.Confirmed row retailer limit total items t each has.sealed;
      plain = plain_sealed after phase.Confirmed row retailer limit total items t each has.sealed
          ∙ (λ i. record { bookings = sym bookings i ++ record { row = row; view = view i } ∷ []; kept = None });
    }

-- the exchange, by a quote that was checked

named_unended : (fulfilled : Bool) → is_ended (phase_named fulfilled) ≡ false
named_unended true = refl
named_unended false = refl

pub carried_plainly : (cat : CatalogueView) (x : ExchangeView) (retailer now : ℕ) (b : Booking) (old new : DeskView) (reply : Reply) → IsLone cat old → Fit cat x.offer x.offer.segments → Differ x.offer.segments
    → present (state_seen old) x.row.row ≡ Some b → b.generation ≡ x.row.generation → is_sealed b.phase ≡ true → b.phase ≡ phase_named x.fulfilled → CarriesOut cat (ready_of retailer x now) old new reply
    → IsBookedPlainly cat x.offer false (exchanged_for cat x retailer now (view_of b)) old new reply × IsLone cat new
carried_plainly cat x retailer now b old new reply lone fit differ at same was named (inl fails) =
    fails_plainly cat x.offer false (exchanged_for cat x retailer now (view_of b)) old new reply lone fit differ fails
carried_plainly cat x retailer now b old new reply lone fit differ at same was named (inr (row, items, mid, places, inr (gives, told))) =
    let o = x.offer in
    let has = holds cat o false o.segments row Whole items old mid lone fit differ places in
    let gave = gives_up cat o false o.segments row Whole items old mid new lone has gives in (
      row_kept cat o false (exchanged_for cat x retailer now (view_of b)) old new reply (choice_at lone.settled.standing row) has.choice_is gave told,
      lone_by cat old new lone gave.stays,
    )
carried_plainly cat x retailer now b old new reply lone fit differ at same was named (inr (row, items, mid, places, inl (then, notes, inl (made, difference, (es, (made_is, difference_is, (olds, few, is)), did), seals, told)))) =
    let o = x.offer in
    let standing = lone.settled.standing in
    let makes = exchanged_for cat x retailer now (view_of b) in
    let ready = ready_of retailer x now in
    let d = detail_of cat o retailer now in
    let has = holds cat o false o.segments row Whole items old mid lone fit differ places in
    let f = shape_follows mid then (detail_notes row.row d (length items)) has.alone notes in
    let h = shape_follows then new es f.alone did in
    let noted = notes_making standing row mid.number d.retailer.0 d.limit d.total (length items) items (state_seen mid) has.making
    (long_words mid.layout standing row (map held items) (state_seen mid) (is_sound mid.layout mid.seen has.legal) has.making) in
    let n = noted.last in
    let before : state_seen then ≡ standing ++ n ∷ [] = f.state ∙ noted.is in
    let well : IsWellFormed then.layout (standing ++ n ∷ []) = subst (IsWellFormed then.layout) before (is_sound then.layout then.seen notes.legal) in
    let here : present (standing ++ n ∷ []) x.row.row ≡ Some b =
    still_present then.layout (state_seen old) (standing ++ n ∷ []) x.row b n (subst (λ (g : Layout). IsWellFormed g (state_seen old)) (sym (f.layout ∙ has.layout)) (is_sound old.layout old.seen lone.legal)) well
    lone.settled at same was (ap is_ended named ∙ named_unended x.fulfilled) refl in
    let st = stands_before then.layout standing n x.row.row b well here was noted.making in
    let made_so = exchange_makes standing b then.number ready row d.retailer.0 d.limit d.total items olds n st noted.latest noted.noted in
    let state : state_seen new ≡ after_steps (standing ++ n ∷ []) then.number (exchange_steps ready row olds) =
    h.state ∙ (ap (after_steps (state_seen then) then.number) is ∙ ap (λ (u : State). after_steps u then.number (exchange_steps ready row olds)) before) in
    let left = subst (LeavesExchanged standing b ready row d.retailer.0 d.limit d.total items) (sym state)
    (sealed_leaves standing n b ready row d.retailer.0 d.limit d.total items (after_steps (standing ++ n ∷ []) then.number (exchange_steps ready row olds)) st lone.settled.each same was
    noted.noted.row_is noted.latest noted.making made_so) in
    let choice : chosen cat (beside standing row) o false o.segments ≡ Some items = has.goes.2 ∙ ap (λ (l : List Item). Some l) (sym has.goes.1) in
    let stays : StaysLone old new = record { alone = h.alone; legal = did.legal; layout = h.layout ∙ (f.layout ∙ has.layout); settled = left.settled } in (
      by_outcome cat o false makes old new reply (placed makes (choice_at standing row) (Some items))
          (booked_is cat o false makes (plain_of old) (choice_at standing row) (Some items) has.choice_is choice) told left.plain,
      lone_by cat old new lone stays,
    )
carried_plainly cat x retailer now b old new reply lone fit differ at same was named (inr (row, items, mid, places, inl (then, notes, inr (shown, hold, last, (es, lost, did), gives, told)))) =
    let o = x.offer in
    let standing = lone.settled.standing in
    let d = detail_of cat o retailer now in
    let has = holds cat o false o.segments row Whole items old mid lone fit differ places in
    let f = shape_follows mid then (detail_notes row.row d (length items)) has.alone notes in
    let h = shape_follows then last es f.alone did in
    let noted = notes_making standing row mid.number d.retailer.0 d.limit d.total (length items) items (state_seen mid) has.making
    (long_words mid.layout standing row (map held items) (state_seen mid) (is_sound mid.layout mid.seen has.legal) has.making) in
    let here : present (state_seen then) x.row.row ≡ Some b =
    still_present then.layout (state_seen old) (state_seen then) x.row b noted.last (subst (λ (g : Layout). IsWellFormed g (state_seen old)) (sym (f.layout ∙ has.layout)) (is_sound old.layout old.seen lone.legal))
    (is_sound then.layout then.seen notes.legal) lone.settled at same was (ap is_ended named ∙ named_unended x.fulfilled) (f.state ∙ noted.is) in
    let word = word_here (state_seen then) x.row b here same ∙ ap (λ (p : Phase). row_word_of p x.row.generation) named in
    absurd (not_lost then.layout (state_seen then) then.number x.row (phase_named x.fulfilled) shown es word lost h.legal)
