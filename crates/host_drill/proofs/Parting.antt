-- What one request of a worker adds to the history, by what it was answered.
use Rattle.std.proofs.Common.{◌≡◌, ◌≢◌, ◌∙◌, ⊎_elim, inl, inr, ℕ, zero, suc, ◌+◌, ◌<◌, ◌≤◌, List, [], ◌∷◌, ◌++◌, Some, None, length, refl, sym, ap, subst, arith, append_assoc, append-nil, false}
use Rattle.std.specs.Prelude.{◌==◌, Option}
use Rattle.std.specs.List.{AllByRecursion}
use Rattle.std.proofs.lemmas.Bool.{cases_eq, cases_lt}
use mathlib.Core.List.{IsPrefix}
use Rattle.leg_masks.specs.Interval.{IsClear, IsPiece, word_legs, PlacedSpan as Item}
use Rattle.place_map.specs.declared.coach.Class.TheVariants.{Second}
use Rattle.offer_codes.specs.Offers.{OfferView}
use Rattle.history_model.specs.declared.entry.Entry.{Entry}
use Rattle.history_model.specs.declared.entry.Step.{Step}
use Rattle.history_model.specs.declared.entry.Step.TheVariants.{Note, SawRow, Start, Take, Seal}
use Rattle.history_model.specs.declared.phase.Phase.TheVariants.{Prebooked}
use Rattle.history_model.specs.Booking.{Layout}
use Rattle.history_model.specs.History.{state_of}
use Rattle.history_model.specs.Looks.{look_at}
use Rattle.history_model.proofs.ListLemmas.{All-left, All-right}
use Rattle.claim_rule.specs.Rule.{DeskView}
use Rattle.claim_rule.specs.Desks.{AddsSteps}
use Rattle.claim_rule.proofs.Shapes.{shape_then}
use Rattle.booking_rows.specs.declared.notes.Detail.{Detail}
use Rattle.booking_rows.specs.Notes.{detail_notes}
use Rattle.rail_ids.specs.declared.RowNo.{RowNo}
use Rattle.booking_rows.specs.Starts.{Misses, misses_steps, Passed, search_steps, StartsHold, IsLeastFree}
use Rattle.catalogue_contents.specs.Contents.{CatalogueView}
use Rattle.hold_core.specs.declared.tries.Outcome.{Outcome as TryOutcome}
use Rattle.hold_core.specs.declared.tries.Outcome.TheVariants as outcome
use Rattle.hold_core.specs.declared.adds.Added.{Added}
use Rattle.hold_core.specs.declared.adds.Added.TheVariants as added
use Rattle.hold_core.specs.Tries.{Try, IsTry, IsOutcome, looks_at}
use Rattle.hold_core.specs.Places.{Adds, IsAdding, places_won, tried, tries_steps, gives_back}
use Rattle.osdm_parts.specs.declared.problem.Problem.{Problem}
use Rattle.osdm_parts.specs.declared.problem.Problem.TheVariants as problems
use Rattle.osdm_texts.specs.Answers.{Reply, problem, status_of}
use Rattle.reservation_service.specs.declared.holding.Placing.{Placing}
use Rattle.reservation_service.specs.declared.holding.Placing.TheVariants.{Whole, Short, Contended, NoMemory}
use Rattle.reservation_service.specs.Holding.{In, FindsNoRow, candidates_in, PlacesAll, placing_of, problem_of}
use Rattle.reservation_service.specs.Reserving.{detail_of, reserved, Prebooks, FailsToHold}
use Rattle.host_drill.specs.Parts.{Outcome, Sold, TurnedAway, Busy, WithoutRow, Among, AllMinor, IsSale, IsTurnedAway, IsBusy, IsPart, on_leg, is_turned_away, is_busy, starts_in}
use Rattle.host_drill.specs.Fits.{HasPlaces, drill_retailer, numbers_from}
use Rattle.host_drill.specs.Worked.{ReservesLeg, leg_segment}
use Rattle.host_drill.proofs.Tries.{AllRefused, AreMinor, IsLooked, IsWinning, all_lost, among_right, contended_last, last_tried, looked, looks_minor, minor_append, no_items_won, refused_minor, seen_taken, starts_append, wins_last}

-- the numbers of the places

numbers_in : (first n place : ℕ) → first ≤ place → place < first + n → In place (numbers_from first n)
numbers_in first zero place from to = absurd (let e : ⊥ = omega (arith, from, to) in e)
numbers_in first (suc n) place from to = ⊎_elim inl (λ (other : place ≡ first → ⊥). inr (numbers_in (first + 1) n place
    (let e : first + 1 ≤ place = omega (arith, from, other) in e) (let e : place < first + 1 + n = omega (arith, to) in e))) (cases_eq place first)

numbers_within : (first n place : ℕ) → In place (numbers_from first n) → place < first + n
numbers_within first zero place at = absurd at
numbers_within first (suc n) place (inl is) = (let e : place < first + suc n = omega (arith, is) in e)
numbers_within first (suc n) place (inr more) =
    let rest = numbers_within (first + 1) n place more in
    let e : place < first + suc n = omega (arith, rest) in e

-- one leg lies in one half
leg_piece : (leg : ℕ) → IsPiece (on_leg leg)
leg_piece leg = ⊎_elim
    (λ (low : leg < word_legs). inl (let e : leg + 1 ≤ word_legs = omega (arith, low) in e))
    (λ (high : word_legs ≤ leg). inr high)
    (cases_lt leg word_legs)

-- starting the hold

misses_minor : (misses : Misses) → AreMinor (misses_steps misses) 0
misses_minor [] = (tt, refl)
misses_minor ((row, word) ∷ misses) =
    let rest = misses_minor misses in
    let none = rest.1 in
    ((refl, rest.0), (let e : 0 + starts_in (misses_steps misses) ≡ 0 = omega (arith, none) in e))

-- minor steps with at most one start
abbrev StartsOne : List Step → Type 0
StartsOne es = (n : ℕ) × (n ≤ 1) × AreMinor es n

searched_minor : (row : ℕ) (passed : List Passed) → AreMinor (search_steps row passed) 0
searched_minor row [] = (tt, refl)
searched_minor row ((n, None) ∷ ps) =
    let rest = searched_minor (suc row) ps in
    let none = rest.1 in
    ((refl, rest.0), (let e : 0 + starts_in (search_steps (suc row) ps) ≡ 0 = omega (arith, none) in e))
searched_minor row ((n, Some m) ∷ ps) =
    let rest = searched_minor (suc row) ps in
    let none = rest.1 in
    ((refl, (refl, rest.0)), (let e : 0 + (0 + starts_in (search_steps (suc row) ps)) ≡ 0 = omega (arith, none) in e))

starts_one : (old new : DeskView) (row : RowNo) (es : List Step) → StartsHold old new (Some row) es → StartsOne es
starts_one old new row es (inl makes) = (0, (let e : 0 ≤ 1 = omega arith in e), subst (λ (l : List Step). AreMinor l 0) (sym makes.1) (tt, refl))
starts_one old new row es (inr (inl (none, first, least, (misses, are, is)))) = (
  1,
  (let e : 1 ≤ 1 = omega arith in e),
  subst (λ (l : List Step). AreMinor l 1) (sym is) (minor_append (misses_steps misses) (Start row.row 0 ∷ []) 0 1 (misses_minor misses) ((refl, tt), refl)),
)
starts_one old new row es (inr (inr (none, full, (misses, rest, are, (n, may, next, (passed, many, each, steps)), is)))) =
    let again = SawRow row.row 0 n ∷ Start row.row row.generation ∷ [] in
    let searched = subst (λ (l : List Step). AreMinor l 1) (sym steps) (minor_append (search_steps 0 passed) again 0 1 (searched_minor 0 passed) ((refl, (refl, tt)), refl)) in (
      1,
      (let e : 1 ≤ 1 = omega arith in e),
      subst (λ (l : List Step). AreMinor l 1) (sym is) (minor_append (misses_steps misses) rest 0 1 (misses_minor misses) searched),
    )

-- a front of the steps that starts at most one row, and then no other
few_starts : (front back : List Step) → StartsOne front → AreMinor back 0 → AllMinor (front ++ back) × (starts_in (front ++ back) ≤ 1)
few_starts front back started minor =
    let both = minor_append front back started.0 0 started.2 minor in
    let count = both.1 in
    let few = started.1 in
    (both.0, (let e : starts_in (front ++ back) ≤ 1 = omega (arith, count, few) in e))

-- a sale

sale : (places leg row place : ℕ) (started adds : List Step) (d : Detail) (count : ℕ) → place < places → StartsOne started → IsWinning row place (on_leg leg) adds
    → IsSale places leg (started ++ (adds ++ (detail_notes row d count ++ Seal row Prebooked ∷ [])))
sale places leg row place started adds d count within one w = record {
  front = front;
  middle = middle;
  row = row;
  place = place;
  within = within;
  are = are;
  minor = (minor.0, (refl, (refl, (refl, (refl, (refl, tt))))));
  starts = (let e : starts_in (started ++ (adds ++ end)) ≤ 1 = omega (arith, whole, counted, few_front) in e);
}
  where
    end : List Step
    end = detail_notes row d count ++ Seal row Prebooked ∷ []

    front : List Step
    front = started ++ w.front

    middle : List Step
    middle = Note row w.at w.word ∷ detail_notes row d count

    back : List Step
    back = Take row place (on_leg leg) ∷ (middle ++ Seal row Prebooked ∷ [])

    are : started ++ (adds ++ end) ≡ front ++ back
    are =
        ap (λ (l : List Step). started ++ (l ++ end)) w.are
        ∙ (ap (λ (l : List Step). started ++ l) (append_assoc w.front (Take row place (on_leg leg) ∷ Note row w.at w.word ∷ []) end)
        ∙ sym (append_assoc started w.front back))

    minor : AllMinor front × (starts_in front ≤ 1)
    minor = few_starts started w.front one w.minor

    few_front : starts_in front ≤ 1
    few_front = minor.1

    whole : starts_in (started ++ (adds ++ end)) ≡ starts_in (front ++ back)
    whole = ap starts_in are

    counted : starts_in (front ++ back) ≡ starts_in front + 0
    counted = starts_append front back

-- what a placing of the one segment did

abbrev offer_on : ℕ → OfferView
offer_on leg = reserved (leg_segment leg) Second 1 0 0

abbrev candidates_on : CatalogueView → ℕ → List ℕ
candidates_on cat leg = candidates_in cat (offer_on leg) (leg_segment leg)

-- what the adding answered, by how the placing ended
abbrev pub EndsPlacing : Added → Placing → Type 0
EndsPlacing added.All placing = placing ≡ Whole
EndsPlacing (added.NoPlace won) placing = placing ≡ Short
EndsPlacing (added.Contended place) placing = placing ≡ Contended

-- places were added for the one segment
pub record AddsOne (cat : CatalogueView) (leg row : ℕ) (placing : Placing) (items : List Item) (old new : DeskView) : Type 0 where
  pub answer : Added
  pub ends : EndsPlacing answer placing
  pub steps : List Step
  pub adds : Adds row 0 (on_leg leg) 1 (candidates_on cat leg) answer items steps
  pub shape : AddsSteps old new steps

ends_by : (answer : Added) (placing : Placing) → placing ≡ placing_of answer → EndsPlacing answer placing
ends_by added.All placing is = is
ends_by (added.NoPlace won) placing is = is
ends_by (added.Contended place) placing is = is

adds_one : (cat : CatalogueView) (leg : ℕ) (row : RowNo) (placing : Placing) (items : List Item) (old new : DeskView) → placing ≢ NoMemory
    → PlacesAll cat (offer_on leg) false row [] (leg_segment leg ∷ []) placing items old new → AddsOne cat leg row.row placing items old new
adds_one cat leg row placing items old new memory (inl (mine, won, mid, (answer, means, (steps, adds, shape)), inl (all, (whole, are, same)))) = record {
  answer = answer;
  ends = ends_by answer placing (whole ∙ (sym all ∙ means));
  steps = steps;
  adds = subst (λ (l : List Item). Adds row.row 0 (on_leg leg) 1 (candidates_on cat leg) answer l steps) (sym are) adds;
  shape = subst (λ (d : DeskView). AddsSteps old d steps) (sym same) shape;
}
adds_one cat leg row placing items old new memory (inl (mine, won, mid, (answer, means, (steps, adds, shape)), inr (part, is, are, same))) = record {
  answer = answer;
  ends = ends_by answer placing (is ∙ means);
  steps = steps;
  adds = subst (λ (l : List Item). Adds row.row 0 (on_leg leg) 1 (candidates_on cat leg) answer l steps) (sym are) adds;
  shape = subst (λ (d : DeskView). AddsSteps old d steps) (sym same) shape;
}
adds_one cat leg row placing items old new memory (inr none) = absurd (memory none.0)

-- the adding of a whole placing, of a short one, and of a contended one

adding_whole : (leg : ℕ) (candidates : List ℕ) (tries : List Try) (answer : Added) → EndsPlacing answer Whole → IsAdding (on_leg leg) 1 candidates tries answer
    → IsAdding (on_leg leg) 1 candidates tries added.All
adding_whole leg candidates tries added.All ends is = is
adding_whole leg candidates tries (added.NoPlace won) ends is = absurd (let e : Whole ≡ Short = ends in cc)
adding_whole leg candidates tries (added.Contended place) ends is = absurd (let e : Whole ≡ Contended = ends in cc)

-- all candidates were tried, and each was refused
abbrev TriesInVain : ℕ → List ℕ → List Try → Type 0
TriesInVain leg candidates tries = AllRefused tries × (length (places_won tries) < 1) × (candidates ≡ tried tries)

adding_short : (leg : ℕ) (candidates : List ℕ) (tries : List Try) (answer : Added) → EndsPlacing answer Short → IsAdding (on_leg leg) 1 candidates tries answer
    → TriesInVain leg candidates tries
adding_short leg candidates tries added.All ends is = absurd (let e : Short ≡ Whole = ends in cc)
adding_short leg candidates tries (added.NoPlace won) ends (settled, many, few, are) =
    let less : length (places_won tries) < 1 = omega (arith, many, few) in
    let same : tries ++ [] ≡ tries = append-nil tries in (
      all_lost tries [] settled (subst (λ (ts : List Try). length (places_won ts) < 1) (sym same) less),
      less,
      are,
    )
adding_short leg candidates tries (added.Contended place) ends is = absurd (let e : Short ≡ Contended = ends in cc)

-- the last one is contended, and those before it were refused
pub record TriesUpTo (leg : ℕ) (candidates : List ℕ) (tries : List Try) : Type 0 where
  pub before : List Try
  pub last : Try
  pub left : List ℕ
  pub are : tries ≡ before ++ last ∷ []
  pub refused : AllRefused before
  pub contended : last.outcome ≡ outcome.Contended
  pub none : length (places_won tries) < 1
  pub candidates_are : candidates ≡ tried tries ++ left

adding_contended : (leg : ℕ) (candidates : List ℕ) (tries : List Try) (answer : Added) → EndsPlacing answer Contended → IsAdding (on_leg leg) 1 candidates tries answer
    → TriesUpTo leg candidates tries
adding_contended leg candidates tries added.All ends is = absurd (let e : Contended ≡ Whole = ends in cc)
adding_contended leg candidates tries (added.NoPlace won) ends is = absurd (let e : Contended ≡ Short = ends in cc)
adding_contended leg candidates tries (added.Contended place) ends ((with, at), few, (left, are)) = record {
  before = with.before;
  last = with.last;
  left = left;
  are = with.are;
  refused = all_lost with.before (with.last ∷ []) with.settled (subst (λ (ts : List Try). length (places_won ts) < 1) with.are few);
  contended = with.ends;
  none = few;
  candidates_are = are;
}

-- a candidate is one of the places
place_of : (cat : CatalogueView) (places leg : ℕ) (tries before : List Try) (last : Try) (left : List ℕ) → HasPlaces cat places
    → tries ≡ before ++ last ∷ [] → candidates_on cat leg ≡ tried tries ++ left → last.place < places
place_of cat places leg tries before last left has are candidates =
    let within = numbers_within 0 places last.place (subst (λ (ps : List ℕ). In last.place ps) has.candidates
    (subst (λ (ps : List ℕ). In last.place ps) (sym candidates)
    (subst (λ (ts : List Try). In last.place (tried ts ++ left)) (sym are) (last_tried before last left)))) in
    let e : last.place < places = omega (arith, within) in e

sold : (cat : CatalogueView) (places leg row : ℕ) (items : List Item) (old new : DeskView) (started : List Step) (d : Detail) → HasPlaces cat places
    → StartsOne started → (a : AddsOne cat leg row Whole items old new)
    → IsSale places leg (started ++ (a.steps ++ (detail_notes row d (length items) ++ Seal row Prebooked ∷ [])))
sold cat places leg row items old new started d has one a =
    let tries = a.adds.tries in
    let whole = adding_whole leg (candidates_on cat leg) tries a.answer a.ends a.adds.adding in
    let with = whole.0 in
    let won : length (places_won (with.before ++ with.last ∷ [])) ≡ 1 =
    subst (λ (ts : List Try). length (places_won ts) ≡ 1) with.are whole.1 in
    let each = subst (λ (ts : List Try). AllByRecursion (IsTry (on_leg leg)) ts) with.are a.adds.each in
    let wins = wins_last row 0 (on_leg leg) with.before with.last (leg_piece leg) each with.settled with.ends won in
    sale places leg row with.last.place started a.steps d (length items) (place_of cat places leg tries with.before with.last whole.2.0 has with.are whole.2.1) one
    (subst (λ (es : List Step). IsWinning row with.last.place (on_leg leg) es) (sym a.adds.steps)
    (subst (λ (ts : List Try). IsWinning row with.last.place (on_leg leg) (tries_steps row 0 (on_leg leg) ts)) (sym with.are) wins))

turned_away : (cat : CatalogueView) (places leg row : ℕ) (items : List Item) (old new : DeskView) (started : List Step) → HasPlaces cat places
    → StartsOne started → (a : AddsOne cat leg row Short items old new) → IsTurnedAway places leg (started ++ a.steps)
turned_away cat places leg row items old new started has one a = record {
  minor = both.0;
  starts = both.1;
  taken = λ place within. taken place within;
}
  where
    tries : List Try
    tries = a.adds.tries

    vain : TriesInVain leg (candidates_on cat leg) tries
    vain = adding_short leg (candidates_on cat leg) tries a.answer a.ends a.adds.adding

    minor : AreMinor a.steps 0
    minor = subst (λ (es : List Step). AreMinor es 0) (sym a.adds.steps) (refused_minor row 0 (on_leg leg) tries (leg_piece leg) a.adds.each vain.0)

    both : AllMinor (started ++ a.steps) × (starts_in (started ++ a.steps) ≤ 1)
    both = few_starts started a.steps one minor

    taken : (place : ℕ) → place < places → (word : ℕ) × Among (look_at place (on_leg leg) word) (started ++ a.steps) × (¬ IsClear word (on_leg leg))
    taken place within =
        let at : In place (tried tries) = subst (λ (ps : List ℕ). In place ps) (sym has.candidates ∙ vain.2)
        (numbers_in 0 places place (let e : 0 ≤ place = omega arith in e) (let e : place < 0 + places = omega (arith, within) in e)) in
        let seen = seen_taken row 0 (on_leg leg) tries place (leg_piece leg) a.adds.each vain.0 at in
        let look : Step = look_at place (on_leg leg) seen.0 in (
          seen.0,
          among_right look started a.steps (subst (Among look) (sym a.adds.steps) seen.1),
          seen.2,
        )

kept_busy : (cat : CatalogueView) (places leg row : ℕ) (items : List Item) (old new : DeskView) (started : List Step) → HasPlaces cat places
    → StartsOne started → (a : AddsOne cat leg row Contended items old new) → IsBusy places leg (started ++ a.steps)
kept_busy cat places leg row items old new started has one a = record {
  minor = both.0;
  starts = both.1;
  front = started ++ tries_steps row 0 (on_leg leg) up.before;
  back = [];
  place = up.last.place;
  within = place_of cat places leg tries up.before up.last up.left has up.are up.candidates_are;
  shown = mine.shown;
  are = ap (λ (l : List Step). started ++ l) steps ∙ sym (append_assoc started (tries_steps row 0 (on_leg leg) up.before) looks);
  all = is.0;
  moving = mine.moving;
  clear = is.1;
}
  where
    tries : List Try
    tries = a.adds.tries

    up : TriesUpTo leg (candidates_on cat leg) tries
    up = adding_contended leg (candidates_on cat leg) tries a.answer a.ends a.adds.adding

    each : AllByRecursion (IsTry (on_leg leg)) up.before × IsTry (on_leg leg) up.last
    each =
        let all = subst (λ (ts : List Try). AllByRecursion (IsTry (on_leg leg)) ts) up.are a.adds.each in
        (All-left (IsTry (on_leg leg)) up.before (up.last ∷ []) all, (All-right (IsTry (on_leg leg)) up.before (up.last ∷ []) all).0)

    mine : IsLooked (on_leg leg) up.last.place up.last.parts up.last.outcome
    mine = looked (on_leg leg) up.last (leg_piece leg) each.1

    looks : List Step
    looks = looks_at up.last.place (on_leg leg) mine.shown ++ []

    steps : a.steps ≡ tries_steps row 0 (on_leg leg) up.before ++ looks
    steps =
        a.adds.steps ∙ (ap (λ (ts : List Try). tries_steps row 0 (on_leg leg) ts) up.are
        ∙ contended_last row 0 (on_leg leg) up.before up.last mine up.contended)

    minor : AreMinor a.steps 0
    minor = subst (λ (es : List Step). AreMinor es 0) (sym steps)
        (minor_append (tries_steps row 0 (on_leg leg) up.before) looks 0 0 (refused_minor row 0 (on_leg leg) up.before (leg_piece leg) each.0 up.refused)
        (minor_append (looks_at up.last.place (on_leg leg) mine.shown) [] 0 0 (looks_minor up.last.place (on_leg leg) mine.shown) (tt, refl)))

    both : AllMinor (started ++ a.steps) × (starts_in (started ++ a.steps) ≤ 1)
    both = few_starts started a.steps one minor

    is : IsOutcome (on_leg leg) mine.shown outcome.Contended
    is = subst (λ (o : TryOutcome). IsOutcome (on_leg leg) mine.shown o) up.contended mine.outcome

-- nothing was won, and nothing is given back

gives_none : (row : ℕ) (items : List Item) (mid new : DeskView) → items ≡ [] → AddsSteps mid new (gives_back row (length items)) → AddsSteps mid new []
gives_none row items mid new none did = subst (λ (l : List Item). AddsSteps mid new (gives_back row (length l))) none did

then_none : (a b c : DeskView) (es : List Step) → AddsSteps a b es → AddsSteps b c [] → AddsSteps a c es
then_none a b c es first second = subst (λ (l : List Step). AddsSteps a c l) (append-nil es) (shape_then a b c es [] first second)

some_is : (p q : Problem) → Some p ≡ Some q → p ≡ q
some_is p q same = cc

-- the request is one part of the history, which came to what it was answered
pub record IsOnePart (g : Layout) (history : List Entry) (places leg : ℕ) (old new : DeskView) (reply : Reply) : Type 0 where
  pub outcome : Outcome
  pub steps : List Step
  pub part : IsPart g history places leg outcome steps
  pub shape : AddsSteps old new steps
  pub refused : is_turned_away outcome ≡ (status_of reply == 409)
  pub busy : is_busy outcome ≡ (status_of reply == 503)

module _ (cat : CatalogueView) (g : Layout) (history : List Entry) (places leg : ℕ) (has : HasPlaces cat places) where
  prebooked : (old new : DeskView) (reply : Reply) → Prebooks cat drill_retailer 0 (offer_on leg) false old new reply → IsOnePart g history places leg old new reply
  prebooked old new reply (row, items, mid, (first, (started, starts, begun), placed), sealed, answered) =
      let a = adds_one cat leg row Whole items first mid (λ none. let e : Whole ≡ NoMemory = none in cc) placed in
      let d = detail_of cat (offer_on leg) drill_retailer 0 in
      let end = detail_notes row.row d (length items) ++ Seal row.row Prebooked ∷ [] in
      subst (λ (r : Reply). IsOnePart g history places leg old new r) (sym answered) (record {
        outcome = Sold;
        steps = started ++ (a.steps ++ end);
        part = sold cat places leg row.row items first mid started d has (starts_one old first row started starts) a;
        shape = shape_then old first new started (a.steps ++ end) begun (shape_then first mid new a.steps end a.shape sealed);
        refused = refl;
        busy = refl;
      })

  without_row : (old new : DeskView) (reply : Reply) → new.layout ≡ g → IsPrefix new.seen history → FindsNoRow old new → reply ≡ problem problems.RowsFull
      → IsOnePart g history places leg old new reply
  without_row old new reply layout front (steps, (none, full, (misses, rest, are, (passed, many, each, searched), is)), shape) answered =
      let behind = subst (λ (es : List Step). AreMinor es 0) (sym searched) (searched_minor 0 passed) in
      let minor = subst (λ (es : List Step). AreMinor es 0) (sym is) (minor_append (misses_steps misses) rest 0 0 (misses_minor misses) behind) in
      let starts = minor.1 in
      subst (λ (r : Reply). IsOnePart g history places leg old new r) (sym answered) (record {
        outcome = WithoutRow;
        steps = steps;
        part = record {
          minor = minor.0;
          starts = (let e : starts_in steps ≤ 1 = omega (arith, starts) in e);
          seen = new.seen;
          front = front;
          full = subst (λ (l : Layout). IsLeastFree (state_of l new.seen) l.rows) layout full;
        };
        shape = shape;
        refused = refl;
        busy = refl;
      })

  -- a placing that held none, by what is wrong with it
  held_none : (row : RowNo) (placing : Placing) (reason : Problem) (items : List Item) (old first mid new : DeskView) (started : List Step) → StartsOne started
      → AddsSteps old first started → PlacesAll cat (offer_on leg) false row [] (leg_segment leg ∷ []) placing items first mid → problem_of placing ≡ Some reason
      → AddsSteps mid new (gives_back row.row (length items)) → problem reason ≢ problem problems.NoMemory → IsOnePart g history places leg old new (problem reason)
  held_none row Whole reason items old first mid new started one begun placed wrong gave memory = absurd (let e : ◌≡◌ {A = Option Problem} None (Some reason) = wrong in cc)
  held_none row Short reason items old first mid new started one begun placed wrong gave memory =
      let a = adds_one cat leg row Short items first mid (λ none. let e : Short ≡ NoMemory = none in cc) placed in
      let vain = adding_short leg (candidates_on cat leg) a.adds.tries a.answer a.ends a.adds.adding in
      let none = a.adds.items ∙ no_items_won (on_leg leg) a.adds.tries vain.1 in
      subst (λ (p : Problem). IsOnePart g history places leg old new (problem p)) (some_is problems.NoPlace reason wrong) (record {
        outcome = TurnedAway;
        steps = started ++ a.steps;
        part = turned_away cat places leg row.row items first mid started has one a;
        shape = shape_then old first new started a.steps begun (then_none first mid new a.steps a.shape (gives_none row.row items mid new none gave));
        refused = refl;
        busy = refl;
      })
  held_none row Contended reason items old first mid new started one begun placed wrong gave memory =
      let a = adds_one cat leg row Contended items first mid (λ none. let e : Contended ≡ NoMemory = none in cc) placed in
      let up = adding_contended leg (candidates_on cat leg) a.adds.tries a.answer a.ends a.adds.adding in
      let none = a.adds.items ∙ no_items_won (on_leg leg) a.adds.tries up.none in
      subst (λ (p : Problem). IsOnePart g history places leg old new (problem p)) (some_is problems.Contended reason wrong) (record {
        outcome = Busy;
        steps = started ++ a.steps;
        part = kept_busy cat places leg row.row items first mid started has one a;
        shape = shape_then old first new started a.steps begun (then_none first mid new a.steps a.shape (gives_none row.row items mid new none gave));
        refused = refl;
        busy = refl;
      })
  held_none row NoMemory reason items old first mid new started one begun placed wrong gave memory =
      absurd (memory (ap problem (sym (some_is problems.NoMemory reason wrong))))

  failed : (old new : DeskView) (reply : Reply) → new.layout ≡ g → IsPrefix new.seen history → reply ≢ problem problems.NoMemory
      → FailsToHold cat (offer_on leg) false old new reply → IsOnePart g history places leg old new reply
  failed old new reply layout front memory (inl (none, answered)) = without_row old new reply layout front none answered
  failed old new reply layout front memory (inr (row, placing, reason, items, mid, (first, (started, starts, begun), placed), wrong, gave, answered)) =
      subst (λ (r : Reply). IsOnePart g history places leg old new r) (sym answered)
      (held_none row placing reason items old first mid new started (starts_one old first row started starts) begun placed wrong gave
      (λ same. memory (answered ∙ same)))

  -- a request that was carried out, with memory
  pub one_part : (old new : DeskView) (reply : Reply) → new.layout ≡ g → IsPrefix new.seen history → reply ≢ problem problems.NoMemory
      → ReservesLeg cat leg old new reply → IsOnePart g history places leg old new reply
  one_part old new reply layout front memory (inl (inl done)) = prebooked old new reply done
  one_part old new reply layout front memory (inl (inr (inl none))) = failed old new reply layout front memory none
  one_part old new reply layout front memory (inl (inr (inr falters))) = absurd (memory falters.1)
  one_part old new reply layout front memory (inr none) = absurd (memory none.1)
