-- Booking the places of an offer on a lone desk is what the plain host makes of it.
use Rattle.std.proofs.Common.{◌≡◌, ℕ, ◌<◌, Bool, List, [], ◌∷◌, ◌++◌, length, map, Option, Some, None, sym, ap, ◌∙◌, subst, inl, inr, arith}
use Rattle.std.specs.Prelude.{◌⊎◌}
use Rattle.std.specs.List.{AllByRecursion}
use Rattle.std.proofs.lemmas.List.{length-map}
use Rattle.rail_ids.specs.declared.RowNo.{RowNo}
use Rattle.leg_masks.specs.Interval.{PlacedSpan as Item}
use Rattle.train_runs.specs.declared.segment.Segment.{Segment}
use Rattle.offer_codes.specs.Offers.{OfferView}
use Rattle.catalogue_contents.specs.Contents.{CatalogueView}
use Rattle.history_model.specs.declared.booking.BookedItem.{BookedItem}
use Rattle.history_model.specs.declared.entry.Step.{Step}
use Rattle.history_model.specs.declared.entry.Step.TheVariants.{Seal}
use Rattle.history_model.specs.declared.phase.Phase.{Phase}
use Rattle.history_model.specs.declared.phase.Phase.TheVariants as phase
use Rattle.history_model.specs.Booking.{Layout, State}
use Rattle.history_model.specs.History.{IsLegal}
use Rattle.history_model.specs.Laws.{IsWellFormed, IsSound}
use Rattle.history_model.proofs.ListLemmas.{All-right}
use Rattle.claim_rule.specs.Rule.{DeskView, state_seen}
use Rattle.claim_rule.specs.Holds.{held}
use Rattle.claim_rule.proofs.Moves.{is_sound}
use Rattle.booking_rows.specs.Notes.{detail_notes}
use Rattle.booking_rows.specs.SealedRows.{FitWords}
use Rattle.hold_core.specs.Places.{gives_back}
use Rattle.osdm_parts.specs.declared.problem.Problem.{Problem}
use Rattle.osdm_parts.specs.declared.problem.Problem.TheVariants as problem
use Rattle.osdm_texts.specs.Answers.{Reply, problem}
use Rattle.lone_desk.specs.Lone.{IsAlone}
use Rattle.lone_desk.proofs.Following.{shape_follows}
use Rattle.reservation_service.specs.declared.holding.Placing.{Placing}
use Rattle.reservation_service.specs.declared.holding.Placing.TheVariants.{Whole, Short, Contended, NoMemory}
use Rattle.reservation_service.specs.Holding.{HoldsPlaces, GivesUp, problem_of}
use Rattle.osdm_texts.specs.Seen.{made_view}
use Rattle.reservation_service.specs.Reserving.{detail_of, Prebooks, FailsToHold, Reserves}
use Rattle.plain_host.specs.Plain.{Standing, Plain, Outcome, Choice, choice_for, chosen, keeping, with_new}
use Rattle.plain_host.specs.Outcomes.{refusing, placed, placed_in, with_places_for, prebooked}
use Rattle.plain_host.specs.PlainOf.{row_of, standing_of, standings_of, kept_of, plain_in, plain_of}
use Rattle.plain_host.specs.Settled.{IsStanding, IsSettled}
use Rattle.plain_host.specs.Plainly.{IsLone, MayKeepRow}
use Rattle.plain_host.proofs.PlacesRows.{IsMaking, beside, choice_at, has_begun, none_begun, kept_none, plain_making, standings_sealed}
use Rattle.plain_host.proofs.PlacesHeld.{gives_making}
use Rattle.plain_host.proofs.PlacesSealed.{HasSealed, seals_making, one_more, settles_sealed}
use Rattle.plain_host.proofs.PlacesChosen.{Differ, Fit, GoesWith, AreOff, places_chosen}

-- a desk that is alone still, at the same books
pub record StaysLone (old new : DeskView) : Type 0 where
  pub alone : IsAlone new
  pub legal : IsLegal new.layout new.seen
  pub layout : new.layout ≡ old.layout
  pub settled : IsSettled (state_seen new)

pub lone_by : (cat : CatalogueView) (old new : DeskView) → IsLone cat old → StaysLone old new → IsLone cat new
lone_by cat old new lone stays = record {
  alone = stays.alone;
  legal = stays.legal;
  settled = stays.settled;
  rows = ap (λ (g : Layout). g.rows) stays.layout ∙ lone.rows;
  legs = ap (λ (g : Layout). g.legs) stays.layout ∙ lone.legs;
  fit = subst FitWords (sym stays.layout) lone.fit;
}

-- ---- a hold with what was won

pub record HasHeld (cat : CatalogueView) (o : OfferView) (together : Bool) (segments : List Segment) (old : DeskView) (standing : State) (row : RowNo) (placing : Placing) (items : List Item) (mid : DeskView) : Type 0 where
  pub alone : IsAlone mid
  pub layout : mid.layout ≡ old.layout
  pub legal : IsLegal mid.layout mid.seen
  pub making : IsMaking standing row (map held items) (state_seen mid)
  pub goes : GoesWith placing [] items (chosen cat (beside standing row) o together segments)
  pub choice_is : choice_for cat.rows (plain_of old) ≡ Some (choice_at standing row)

nothing_off : (cat : CatalogueView) (segments : List Segment) → AllByRecursion (AreOff cat []) segments
nothing_off cat [] = tt
nothing_off cat (s ∷ rest) = (tt, nothing_off cat rest)

pub holds : (cat : CatalogueView) (o : OfferView) (together : Bool) (segments : List Segment) (row : RowNo) (placing : Placing) (items : List Item) (old mid : DeskView) → (lone : IsLone cat old)
    → Fit cat o segments → Differ segments → HoldsPlaces cat o together segments row placing items old mid
    → HasHeld cat o together segments old lone.settled.standing row placing items mid
holds cat o together segments row placing items old mid lone fit differ (first, starts, places) =
    let standing = lone.settled.standing in
    let begun = has_begun old first row lone.alone lone.settled (is_sound old.layout old.seen lone.legal) starts in
    let has = places_chosen cat o together standing row [] segments placing items first mid lone.settled.each fit differ (nothing_off cat segments) begun.alone begun.legal begun.making places in
    record {
      alone = has.alone;
      layout = has.layout ∙ begun.layout;
      legal = has.legal;
      making = has.making;
      goes = has.goes;
      choice_is = subst (λ (n : ℕ). choice_for n (plain_of old) ≡ Some (choice_at standing row)) lone.rows begun.chosen;
    }

-- what is made in a row of places
abbrev pub Making : Type 0
Making = Plain → RowNo → List Item → Outcome

pub booked_is : (cat : CatalogueView) (o : OfferView) (together : Bool) (makes : Making) (plain : Plain) (c : Choice) (items : Option (List Item))
    → choice_for cat.rows plain ≡ Some c → chosen cat c.left o together o.segments ≡ items → with_places_for cat o together makes plain ≡ placed makes c items
booked_is cat o together makes plain c items row_is is = ap (placed_in cat o together makes plain) row_is ∙ ap (placed makes c) is

-- ---- all held and sealed

pub long_words : (g : Layout) (standing : State) (row : RowNo) (items : List BookedItem) (s : State) → IsWellFormed g s → (m : IsMaking standing row items s) → 4 < length m.last.words
long_words g standing row items s well m =
    let sound : IsSound g m.last = (All-right (IsSound g) standing (m.last ∷ []) (subst (AllByRecursion (IsSound g)) m.is well.each)).0 in
    omega (arith, sound.words)

pub plain_sealed : (standing : State) (ph : Phase) (row : RowNo) (retailer limit total : ℕ) (items : List Item) (t : State) → AllByRecursion IsStanding standing
    → (has : HasSealed standing ph row retailer limit total items t) → plain_in t ≡ with_new (keeping (choice_at standing row)) row (standing_of has.last).view
plain_sealed standing ph row retailer limit total items t each has =
    let kept : kept_of t ≡ None = ap kept_of has.is ∙ kept_none (standing ++ has.last ∷ []) (one_more standing ph row retailer limit total items t each has) in
    let row_is : row_of has.last ≡ row = ap (λ (b : Standing). b.row) has.shows in
    let bookings : standings_of t ≡ beside standing row ++ record { row = row; view = (standing_of has.last).view } ∷ [] =
    ap standings_of has.is
    ∙ (standings_sealed standing has.last row row_is has.latest has.stands.sealed
    ∙ ap (λ (r : RowNo). beside standing row ++ record { row = r; view = (standing_of has.last).view } ∷ []) row_is) in
    λ i. record { bookings = bookings i; kept = kept i }

-- ---- what was held given back

settles_empty : (standing : State) (row : RowNo) (t : State) → AllByRecursion IsStanding standing → IsMaking standing row [] t → IsSettled t
settles_empty standing row t each m = record {
  standing = standing;
  each = each;
  is = inr (m.last, record { making = m.making; owner = m.owner; none = m.items_are }, m.is);
}

-- the row chosen is kept, with what was left beside it
pub record HasGivenUp (old : DeskView) (c : Choice) (new : DeskView) : Type 0 where
  pub stays : StaysLone old new
  pub plain : plain_of new ≡ keeping c

pub gives_up : (cat : CatalogueView) (o : OfferView) (together : Bool) (segments : List Segment) (row : RowNo) (placing : Placing) (items : List Item) (old mid new : DeskView) → (lone : IsLone cat old)
    → HasHeld cat o together segments old lone.settled.standing row placing items mid → GivesUp row items mid new → HasGivenUp old (choice_at lone.settled.standing row) new
gives_up cat o together segments row placing items old mid new lone has did =
    let standing = lone.settled.standing in
    let f = shape_follows mid new (gives_back row.row (length items)) has.alone did in
    let gave = gives_making standing row mid.number (length items) (map held items) (state_seen mid) (length-map items held) has.making in
    let m : IsMaking standing row [] (state_seen new) = subst (IsMaking standing row []) (sym f.state) gave in
    record {
      stays = record {
        alone = f.alone;
        legal = did.legal;
        layout = f.layout ∙ has.layout;
        settled = settles_empty standing row (state_seen new) lone.settled.each m;
      };
      plain = plain_making standing row [] (state_seen new) lone.settled.each m;
    }

-- ---- the command

-- the reply and the list are the outcome at the list before; or there was no memory, and at most a row is kept more
abbrev pub IsBookedPlainly : CatalogueView → OfferView → Bool → Making → DeskView → DeskView → Reply → Type 0
IsBookedPlainly cat o together makes old new reply =
    (let it = with_places_for cat o together makes (plain_of old) in (reply ≡ it.reply) × (plain_of new ≡ it.plain))
    ⊎ ((reply ≡ problem problem.NoMemory) × MayKeepRow cat.rows (plain_of old) (plain_of new))

pub by_outcome : (cat : CatalogueView) (o : OfferView) (together : Bool) (makes : Making) (old new : DeskView) (reply : Reply) (it : Outcome) → with_places_for cat o together makes (plain_of old) ≡ it
    → reply ≡ it.reply → plain_of new ≡ it.plain → IsBookedPlainly cat o together makes old new reply
by_outcome cat o together makes old new reply it is told left =
    inl (subst (λ (x : Outcome). (reply ≡ x.reply) × (plain_of new ≡ x.plain)) (sym is) (told, left))

prebooks_plainly : (cat : CatalogueView) (retailer now : ℕ) (o : OfferView) (together : Bool) (old new : DeskView) (reply : Reply) → IsLone cat old → Fit cat o o.segments → Differ o.segments
    → Prebooks cat retailer now o together old new reply → IsBookedPlainly cat o together (prebooked cat retailer now o) old new reply × IsLone cat new
prebooks_plainly cat retailer now o together old new reply lone fit differ (row, items, mid, places, did, told) =
    let standing = lone.settled.standing in
    let makes = prebooked cat retailer now o in
    let d = detail_of cat o retailer now in
    let steps : List Step = detail_notes row.row d (length items) ++ Seal row.row phase.Prebooked ∷ [] in
    let has = holds cat o together o.segments row Whole items old mid lone fit differ places in
    let f = shape_follows mid new steps has.alone did in
    let well = is_sound mid.layout mid.seen has.legal in
    let sealed = subst (HasSealed standing phase.Prebooked row d.retailer.0 d.limit d.total items) (sym f.state)
    (seals_making standing row mid.number d.retailer.0 d.limit d.total (length items) items (state_seen mid) has.making
    (long_words mid.layout standing row (map held items) (state_seen mid) well has.making)) in
    let choice : chosen cat (beside standing row) o together o.segments ≡ Some items = has.goes.2 ∙ ap (λ (l : List Item). Some l) (sym has.goes.1) in
    let view : (standing_of sealed.last).view ≡ made_view phase.Prebooked d items = ap (λ (b : Standing). b.view) sealed.shows in
    let stays : StaysLone old new = record {
      alone = f.alone;
      legal = did.legal;
      layout = f.layout ∙ has.layout;
      settled = settles_sealed standing phase.Prebooked row d.retailer.0 d.limit d.total items (state_seen new) lone.settled.each sealed;
    } in (
      by_outcome cat o together makes old new reply (placed makes (choice_at standing row) (Some items))
          (booked_is cat o together makes (plain_of old) (choice_at standing row) (Some items) has.choice_is choice) told
          (plain_sealed standing phase.Prebooked row d.retailer.0 d.limit d.total items (state_seen new) lone.settled.each sealed
          ∙ ap (with_new (keeping (choice_at standing row)) row) view),
      lone_by cat old new lone stays,
    )

-- without memory at most the row chosen is kept
pub row_kept : (cat : CatalogueView) (o : OfferView) (together : Bool) (makes : Making) (old new : DeskView) (reply : Reply) (c : Choice) → choice_for cat.rows (plain_of old) ≡ Some c
    → HasGivenUp old c new → reply ≡ problem problem.NoMemory → IsBookedPlainly cat o together makes old new reply
row_kept cat o together makes old new reply c choice_is gave told = inr (told, inr (c, choice_is, gave.plain))

fails_placing : (cat : CatalogueView) (o : OfferView) (together : Bool) (makes : Making) (row : RowNo) (placing : Placing) (reason : Problem) (items : List Item) (old mid new : DeskView) (reply : Reply)
    → (lone : IsLone cat old) → HasHeld cat o together o.segments old lone.settled.standing row placing items mid → problem_of placing ≡ Some reason → HasGivenUp old (choice_at lone.settled.standing row) new
    → reply ≡ problem reason → IsBookedPlainly cat o together makes old new reply
fails_placing cat o together makes row Whole reason items old mid new reply lone has why gave told = absurd (let none : None ≡ Some reason = why in cc)
fails_placing cat o together makes row Short reason items old mid new reply lone has why gave told =
    let is : reason ≡ problem.NoPlace = cc in
    let c = choice_at lone.settled.standing row in
    by_outcome cat o together makes old new reply (placed makes c None) (booked_is cat o together makes (plain_of old) c None has.choice_is has.goes)
    (told ∙ ap (λ (p : Problem). problem p) is) gave.plain
fails_placing cat o together makes row Contended reason items old mid new reply lone has why gave told = absurd has.goes
fails_placing cat o together makes row NoMemory reason items old mid new reply lone has why gave told =
    let is : reason ≡ problem.NoMemory = cc in
    row_kept cat o together makes old new reply (choice_at lone.settled.standing row) has.choice_is gave (told ∙ ap (λ (p : Problem). problem p) is)

pub fails_plainly : (cat : CatalogueView) (o : OfferView) (together : Bool) (makes : Making) (old new : DeskView) (reply : Reply) → IsLone cat old → Fit cat o o.segments → Differ o.segments
    → FailsToHold cat o together old new reply → IsBookedPlainly cat o together makes old new reply × IsLone cat new
fails_plainly cat o together makes old new reply lone fit differ (inl (none, told)) =
    let no = none_begun old new lone.alone lone.settled (is_sound old.layout old.seen lone.legal) none in
    let row_is : choice_for cat.rows (plain_of old) ≡ None = subst (λ (n : ℕ). choice_for n (plain_of old) ≡ None) lone.rows no.0 in (
      by_outcome cat o together makes old new reply (refusing problem.RowsFull (plain_of old)) (ap (placed_in cat o together makes (plain_of old)) row_is) told (ap plain_in no.1),
      lone_by cat old new lone
          (record { alone = no.2; legal = none.2.legal; layout = none.2.same.1; settled = subst IsSettled (sym no.1) lone.settled }),
    )
fails_plainly cat o together makes old new reply lone fit differ (inr (row, placing, reason, items, mid, places, why, gives, told)) =
    let has = holds cat o together o.segments row placing items old mid lone fit differ places in
    let gave = gives_up cat o together o.segments row placing items old mid new lone has gives in (
      fails_placing cat o together makes row placing reason items old mid new reply lone has why gave told,
      lone_by cat old new lone gave.stays,
    )

-- What booking an offer's places comes to, where its runs differ and its spans fit.
pub reserves_plainly : (cat : CatalogueView) (retailer now : ℕ) (o : OfferView) (together : Bool) (old new : DeskView) (reply : Reply) → IsLone cat old → Fit cat o o.segments → Differ o.segments
    → Reserves cat retailer now o together old new reply → IsBookedPlainly cat o together (prebooked cat retailer now o) old new reply × IsLone cat new
reserves_plainly cat retailer now o together old new reply lone fit differ (inl did) = prebooks_plainly cat retailer now o together old new reply lone fit differ did
reserves_plainly cat retailer now o together old new reply lone fit differ (inr (inl did)) = fails_plainly cat o together (prebooked cat retailer now o) old new reply lone fit differ did
reserves_plainly cat retailer now o together old new reply lone fit differ (inr (inr ((row, items, mid, places, gives), told))) =
    let has = holds cat o together o.segments row Whole items old mid lone fit differ places in
    let gave = gives_up cat o together o.segments row Whole items old mid new lone has gives in (
      row_kept cat o together (prebooked cat retailer now o) old new reply (choice_at lone.settled.standing row) has.choice_is gave told,
      lone_by cat old new lone gave.stays,
    )
