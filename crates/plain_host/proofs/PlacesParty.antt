-- What a lone desk finds and takes for a party that wants to sit together.
use Rattle.std.proofs.Common.{◌≡◌, ◌≢◌, ℕ, ◌+◌, ◌≤◌, Bool, true, cond, Decides, List, [], ◌∷◌, ◌++◌, length, map, Some, None, refl, sym, ap, ◌∙◌, subst, ⊎_elim, inl, inr, arith, append-nil, length-append}
use Rattle.std.specs.Prelude.{find}
use Rattle.std.specs.List.{AllByRecursion, filter, flat_map}
use Rattle.std.proofs.lemmas.List.{length-map}
use mathlib.Core.List.{map-append}
use Rattle.rail_ids.specs.declared.RowNo.{RowNo}
use Rattle.leg_masks.specs.Interval.{Interval, items_at, pieces, PlacedSpan as Item}
use Rattle.place_map.specs.declared.coach.Place.{Place}
use Rattle.history_model.specs.declared.booking.BookedItem.{BookedItem}
use Rattle.history_model.specs.declared.entry.Step.{Step}
use Rattle.history_model.specs.Booking.{Layout, State, is_occupied}
use Rattle.history_model.specs.History.{IsLegalFrom}
use Rattle.history_model.specs.Laws.{IsWellFormed}
use Rattle.history_model.specs.Lists.{Across, Pairwise}
use Rattle.history_model.proofs.ListLemmas.{All-left, All-map, All-right, Pairwise-across, Pairwise-left, Pairwise-right}
use Rattle.claim_rule.specs.Rule.{DeskView, state_seen}
use Rattle.claim_rule.specs.Calls.{AddsStepsBy}
use Rattle.claim_rule.specs.Holds.{held}
use Rattle.hold_core.specs.declared.adds.Added.{Added}
use Rattle.hold_core.specs.declared.adds.Added.TheVariants as added
use Rattle.hold_core.specs.Tries.{Try, IsTry, try_steps}
use Rattle.hold_core.specs.Places.{Adds, IsAdding, tries_steps, tried, won_by}
use Rattle.party_places.specs.declared.party.PartyAdded.{PartyAdded}
use Rattle.party_places.specs.declared.party.PartyAdded.TheVariants as party
use Rattle.party_places.specs.Searches.{Looked, LooksAtEach, places_looked, Finds}
use Rattle.party_places.specs.Parties.{Party, TakesEach, Loses, gives_down, Fails, SitsTogether, SitsApart, answer_apart, EndsTries, TriesFrom, SeatsParty}
use Rattle.party_places.proofs.Seated.{taken_items}
use Rattle.lone_desk.specs.Lone.{IsAlone, entries_of, after_steps}
use Rattle.lone_desk.specs.Decided.{IsFreeAt}
use Rattle.lone_desk.proofs.Clear.{open_is_clear, same_open}
use Rattle.lone_desk.proofs.Following.{shape_follows}
use Rattle.lone_desk.proofs.Looking.{after-append, legal_parts, try_elsewhere}
use Rattle.plain_host.specs.Plain.{is_free, is_free_stretch, neighbours}
use Rattle.plain_host.specs.Settled.{IsStanding}
use Rattle.plain_host.specs.Found.{FindsFree, stretch_of, SeatsFree}
use Rattle.plain_host.proofs.PlacesFree.{AreElsewhere}
use Rattle.plain_host.proofs.PlacesTries.{Tells, finds_none, finds_free}
use Rattle.plain_host.proofs.PlacesRows.{IsMaking, beside}
use Rattle.plain_host.proofs.PlacesHeld.{more_held, adds_making, tells_free, FitsAt}
use Rattle.plain_host.proofs.PlacesLooks.{both_leave, pieces_leave, two_parts, same_answer, pieces_show}
use Rattle.plain_host.proofs.PlacesStretches.{ShowsBy, stretch_free, found_around, finds_first_stretch, finds_no_stretch}

-- ---- looks at candidates

looked_leave : (s : State) (desk : ℕ) (span : Interval) (looked : List Looked) (es : List Step) → LooksAtEach span looked es → after_steps s desk es ≡ s
looked_leave s desk span [] es is = ap (after_steps s desk) is
looked_leave s desk span (l ∷ rest) es (mine, more, here, others, is) =
    both_leave s desk mine more es is (pieces_leave s desk l.place (pieces span) l.free mine here) (looked_leave s desk span rest more others)

looked_shows : (free : ℕ → Bool) (g : Layout) (s : State) (desk : ℕ) (span : Interval) (looked : List Looked) (es : List Step) → FitsAt span (places_looked looked)
    → Tells free s span (places_looked looked) → IsLegalFrom g s (entries_of desk es) → LooksAtEach span looked es → AllByRecursion (ShowsBy free) looked
looked_shows free g s desk span [] es fits says legal is = tt
looked_shows free g s desk span (l ∷ rest) es (inl none) says legal did = absurd (omega (arith, ap length none))
looked_shows free g s desk span (l ∷ rest) es (inr fits) says legal (mine, more, here, others, is) =
    let both = two_parts g s desk mine more es is (pieces_leave s desk l.place (pieces span) l.free mine here) legal in
    let shown = pieces_show g s desk l.place (pieces span) l.free mine both.0 here in
    let words = open_is_clear s l.place span fits in (
      same_answer l.free (free l.place) (IsFreeAt s span l.place) says.0 (λ e. words.0 (shown.0 e), λ is_open. shown.1 (words.1 is_open)),
      looked_shows free g s desk span rest more (inr fits) says.1 both.1 others,
    )

-- ---- places taken one by one

-- tries change nothing at other places
tries_elsewhere : (g : Layout) (s : State) (desk row k : ℕ) (span : Interval) (ts : List Try) (q : ℕ) → AllByRecursion (IsTry span) ts → AllByRecursion (λ p. q ≢ p) (tried ts)
    → IsLegalFrom g s (entries_of desk (tries_steps row k span ts)) → (leg : ℕ) → is_occupied (after_steps s desk (tries_steps row k span ts)) q leg ≡ is_occupied s q leg
tries_elsewhere g s desk row k span [] q each other legal leg = refl
tries_elsewhere g s desk row k span (t ∷ ts) q each other legal leg =
    let steps = try_steps row k t in
    let rest = tries_steps row (k + length (won_by span t)) span ts in
    let both = legal_parts g s desk steps rest legal in
    ap (λ (u : State). is_occupied u q leg) (after-append s desk steps rest)
    ∙ (tries_elsewhere g (after_steps s desk steps) desk row (k + length (won_by span t)) span ts q each.1 other.1 both.1 leg
    ∙ try_elsewhere g s desk row k q span t each.0 other.0 both.0 leg)

-- what is so of each candidate is so of those tried
all_tried : (P : ℕ → Type 0) (span : Interval) (count : ℕ) (candidates : List ℕ) (tries : List Try) (answer : Added) → IsAdding span count candidates tries answer
    → AllByRecursion P candidates → AllByRecursion P (tried tries)
all_tried P span count candidates tries added.All adding all = All-left P (tried tries) adding.2.0 (subst (AllByRecursion P) adding.2.1 all)
all_tried P span count candidates tries (added.NoPlace n) adding all = subst (AllByRecursion P) adding.3 all
all_tried P span count candidates tries (added.Contended p) adding all = All-left P (tried tries) adding.2.0 (subst (AllByRecursion P) adding.2.1 all)

adds_elsewhere : (g : Layout) (s : State) (desk row k count : ℕ) (span : Interval) (candidates : List ℕ) (answer : Added) (won : List Item) (es : List Step) (q : ℕ)
    → Adds row k span count candidates answer won es → AllByRecursion (λ p. q ≢ p) candidates → IsLegalFrom g s (entries_of desk es)
    → (leg : ℕ) → is_occupied (after_steps s desk es) q leg ≡ is_occupied s q leg
adds_elsewhere g s desk row k count span candidates answer won es q did other legal leg =
    ap (λ (l : List Step). is_occupied (after_steps s desk l) q leg) did.steps
    ∙ tries_elsewhere g s desk row k span did.tries q did.each (all_tried (λ p. q ≢ p) span count candidates did.tries answer did.adding other)
    (subst (λ (l : List Step). IsLegalFrom g s (entries_of desk l)) did.steps legal) leg

-- where nothing changes at places, the test still tells what is free of them
tells_still : (free : ℕ → Bool) (s t : State) (span : Interval) (qs : List ℕ) → AllByRecursion (λ q. (leg : ℕ) → is_occupied t q leg ≡ is_occupied s q leg) qs
    → Tells free s span qs → Tells free t span qs
tells_still free s t span [] same says = tt
tells_still free s t span (q ∷ qs) same says = (
  (λ e. same_open s t q span same.0 (says.0.0 e), λ is_open. says.0.1 (same_open t s q span (λ leg. sym (same.0 leg)) is_open)),
  tells_still free s t span qs same.1 says.1,
)

takes_tell : (free : ℕ → Bool) (g : Layout) (s : State) (desk row k : ℕ) (span : Interval) (ps : List ℕ) (won : List Item) (es : List Step) (qs : List ℕ)
    → TakesEach row k span ps won es → Across (λ p q. p ≢ q) ps qs → IsLegalFrom g s (entries_of desk es) → Tells free s span qs → Tells free (after_steps s desk es) span qs
takes_tell free g s desk row k span [] won es qs (none, are) apart legal says = subst (λ (l : List Step). Tells free (after_steps s desk l) span qs) (sym are) says
takes_tell free g s desk row k span (p ∷ ps) won es qs (mine, more, first, others, adds, rest, is, are) apart legal says =
    let both = legal_parts g s desk first others (subst (λ (l : List Step). IsLegalFrom g s (entries_of desk l)) are legal) in
    let mid : State = after_steps s desk first in
    let one : Tells free mid span qs =
    tells_still free s mid span qs
    (All-map (λ q other. adds_elsewhere g s desk row k 1 span (p ∷ []) added.All mine first q adds ((λ e. other (sym e)), tt) both.0) qs apart.0) says in
    subst (λ (t : State). Tells free t span qs) (sym (ap (after_steps s desk) are ∙ after-append s desk first others))
    (takes_tell free g mid desk row (k + length mine) span ps more others qs rest apart.1 both.1 one)

-- a free place that is the only candidate for one is won
one_free : (free : ℕ → Bool) (span : Interval) (p : ℕ) (answer : Added) (won : List Item) → free p ≡ true → answer ≢ added.All → FindsFree free span 1 (p ∷ []) answer won → ⊥
one_free free span p added.All won is stopped found = stopped refl
one_free free span p (added.NoPlace n) won is stopped found =
    let one : length (filter free (p ∷ [])) ≡ 1 = ap (λ (t : Bool). length (cond t (p ∷ []) [])) is in
    omega (arith, found, one)
one_free free span p (added.Contended q) won is stopped found = found

-- so of different places that are all free none is lost
none_lost : (free : ℕ → Bool) (g : Layout) (s : State) (desk row k : ℕ) (span : Interval) (stretch : List ℕ) (won : List Item) (es : List Step) → span.to ≤ 126
    → Pairwise (λ p q. p ≢ q) stretch → AllByRecursion (λ p. free p ≡ true) stretch → Tells free s span stretch → IsLegalFrom g s (entries_of desk es)
    → Loses row k span stretch won es → ⊥
none_lost free g s desk row k span stretch won es fits differ clear says legal l =
    let back : List ℕ = l.place ∷ l.behind in
    let both = legal_parts g s desk l.takes l.last (subst (λ (e : List Step). IsLegalFrom g s (entries_of desk e)) l.are legal) in
    let across = Pairwise-across (λ p q. p ≢ q) l.before back (subst (Pairwise (λ p q. p ≢ q)) l.stretch_is differ) in
    let told = All-right (λ p. Decides (free p) (IsFreeAt s span p)) l.before back (subst (Tells free s span) l.stretch_is says) in
    let mine = All-right (λ p. free p ≡ true) l.before back (subst (AllByRecursion (λ p. free p ≡ true)) l.stretch_is clear) in
    let still = takes_tell free g s desk row k span l.before won l.takes back l.takes_are across both.0 told in
    one_free free span l.place l.answer [] mine.0 l.stopped
    (finds_free g (after_steps s desk l.takes) desk row (k + length won) 1 span (l.place ∷ []) free l.answer [] l.last fits (tt, tt) (still.0, tt) both.1 l.last_are)

-- ---- a party's tries

-- The test tells what is free of the party's candidates, which are different places.
pub record IsAsked (g : Party) (free : ℕ → Bool) (s : State) : Type 0 where
  pub fits : FitsAt g.span g.candidates
  pub differ : Pairwise (λ p q. p ≢ q) g.candidates
  pub says : Tells free s g.span g.candidates

-- What a search of all candidates that found comes to.
record HasFound (g : Party) (free : ℕ → Bool) (s : State) (stretch : List ℕ) : Type 0 where
  first : stretch_of g free ≡ Some stretch
  within : g.span.to ≤ 126
  differ : Pairwise (λ p q. p ≢ q) stretch
  clear : AllByRecursion (λ p. free p ≡ true) stretch
  says : Tells free s g.span stretch

-- the candidates of a search that found aren't none
found_some : (places : List Place) (count : ℕ) (here : List ℕ) (looked : List Looked) → Finds places count here looked → here ≢ []
found_some places count here looked f = λ none.
    let many = ap length (sym none ∙ f.candidates_are) in
    let some = ap length f.are ∙ length-append f.before (f.last ∷ []) in
    omega (arith, many, some, length-append (places_looked looked) f.left, length-map looked (λ (l : Looked). l.place))

has_found : (free : ℕ → Bool) (layout : Layout) (s : State) (desk : ℕ) (g : Party) (looked : List Looked) (looks : List Step) → IsAsked g free s
    → IsLegalFrom layout s (entries_of desk looks) → LooksAtEach g.span looked looks → (f : Finds g.places g.count g.candidates looked)
    → HasFound g free s (places_looked f.ends.stretch)
has_found free layout s desk g looked looks asked legal did f =
    let within : g.span.to ≤ 126 =
    ⊎_elim (λ (none : g.candidates ≡ []). absurd (found_some g.places g.count g.candidates looked f none)) (λ (fits : g.span.to ≤ 126). fits) asked.fits in
    let front : List ℕ = places_looked f.ends.front in
    let stretch : List ℕ = places_looked f.ends.stretch in
    let Told = λ (p : ℕ). Decides (free p) (IsFreeAt s g.span p) in
    let around = found_around g.places g.count g.candidates looked f in
    let all : Tells free s g.span (places_looked looked) =
    All-left Told (places_looked looked) f.left (subst (Tells free s g.span) f.candidates_are asked.says) in
    let shown = looked_shows free layout s desk g.span looked looks (inr within) all legal did in
    let mine : AllByRecursion (ShowsBy free) f.ends.stretch = All-right (ShowsBy free) f.ends.front f.ends.stretch (subst (AllByRecursion (ShowsBy free)) f.ends.are shown) in
    record {
      first = finds_first_stretch g.places g.count free g.candidates looked shown f;
      within = within;
      differ = Pairwise-left (λ p q. p ≢ q) stretch f.left (Pairwise-right (λ p q. p ≢ q) front (stretch ++ f.left) (subst (Pairwise (λ p q. p ≢ q)) around asked.differ));
      clear = stretch_free free f.ends.stretch mine f.ends.free;
      says = All-left Told stretch f.left (All-right Told front (stretch ++ f.left) (subst (Tells free s g.span) around asked.says));
    }

none_fails : (free : ℕ → Bool) (layout : Layout) (s : State) (desk : ℕ) (g : Party) (left : List ℕ) (es : List Step) → IsAsked g free s
    → IsLegalFrom layout s (entries_of desk es) → Fails g g.candidates left es → ⊥
none_fails free layout s desk g left es asked legal f =
    let stretch : List ℕ = places_looked f.found.ends.stretch in
    let gives : List Step = gives_down g.row g.items (length f.won) in
    let both = two_parts layout s desk f.looks (f.tries ++ gives) es f.are (looked_leave s desk g.span f.looked f.looks f.looks_are) legal in
    let takes = legal_parts layout s desk f.tries gives both.1 in
    let has = has_found free layout s desk g f.looked f.looks asked both.0 f.looks_are f.found in
    none_lost free layout s desk g.row g.items g.span stretch f.won f.tries has.within has.differ has.clear has.says takes.0 f.loses

-- there is one try, since none fails
one_try : (free : ℕ → Bool) (layout : Layout) (s : State) (desk : ℕ) (g : Party) (lefts : List (List ℕ)) (answer : PartyAdded) (won : List Item) (es : List Step) → IsAsked g free s
    → IsLegalFrom layout s (entries_of desk es) → TriesFrom g g.candidates lefts answer won es → EndsTries g g.candidates answer won es
one_try free layout s desk g [] answer won es asked legal tries = tries
one_try free layout s desk g (left ∷ lefts) answer won es asked legal (mine, more, fails, rest, is) =
    let both = legal_parts layout s desk mine more (subst (λ (l : List Step). IsLegalFrom layout s (entries_of desk l)) is legal) in
    absurd (none_fails free layout s desk g left mine asked both.0 fails)

-- ---- what is found

together_free : (free : ℕ → Bool) (layout : Layout) (s : State) (desk : ℕ) (g : Party) (first : ℕ) (won : List Item) (es : List Step) → IsAsked g free s
    → IsLegalFrom layout s (entries_of desk es) → SitsTogether g g.candidates first won es
    → (others : List ℕ) × (stretch_of g free ≡ Some (first ∷ others)) × (won ≡ flat_map (items_at g.span) (first ∷ others))
together_free free layout s desk g first won es asked legal sits =
    let stretch : List ℕ = places_looked sits.found.ends.stretch in
    let both = two_parts layout s desk sits.looks sits.takes es sits.are (looked_leave s desk g.span sits.looked sits.looks sits.looks_are) legal in
    let has = has_found free layout s desk g sits.looked sits.looks asked both.0 sits.looks_are sits.found in
    let taken = taken_items g.row g.items g.span stretch won sits.takes sits.takes_are in (
      sits.others,
      has.first ∙ ap (λ (ps : List ℕ). Some ps) sits.stretch_is,
      taken ∙ ap (flat_map (items_at g.span)) sits.stretch_is,
    )

apart_free : (free : ℕ → Bool) (layout : Layout) (s : State) (desk : ℕ) (g : Party) (answer : PartyAdded) (won : List Item) (es : List Step) → IsAsked g free s
    → IsLegalFrom layout s (entries_of desk es) → SitsApart g g.candidates answer won es → SeatsFree g free answer won
apart_free free layout s desk g answer won es asked legal sits =
    let both = two_parts layout s desk sits.looks sits.adds es sits.are (looked_leave s desk g.span sits.looked sits.looks sits.looks_are) legal in
    let shown = looked_shows free layout s desk g.span sits.looked sits.looks (subst (FitsAt g.span) sits.none.all asked.fits)
    (subst (Tells free s g.span) sits.none.all asked.says) both.0 sits.looks_are in
    let none : stretch_of g free ≡ None =
    subst (λ (cs : List ℕ). find (is_free_stretch g.places free g.count) (neighbours g.count cs) ≡ None) (sym sits.none.all)
    (finds_no_stretch g.places g.count free sits.looked sits.none.none shown) in
    subst (λ (a : PartyAdded). SeatsFree g free a won) (sym sits.is) (by none sits.added
    (⊎_elim
    (λ (empty : g.candidates ≡ []). subst (λ (cs : List ℕ). FindsFree free g.span g.count cs sits.added won) (sym empty)
    (finds_none g.row g.items g.count g.span free sits.added won sits.adds
    (subst (λ (cs : List ℕ). Adds g.row g.items g.span g.count cs sits.added won sits.adds) empty sits.adds_are)))
    (λ (fits : g.span.to ≤ 126). finds_free layout s desk g.row g.items g.count g.span g.candidates free sits.added won sits.adds fits asked.differ asked.says both.1 sits.adds_are)
    asked.fits))
  where
    by : stretch_of g free ≡ None → (a : Added) → FindsFree free g.span g.count g.candidates a won → SeatsFree g free (answer_apart a) won
    by none added.All found = (none, found)
    by none (added.NoPlace n) found = (none, found)
    by none (added.Contended p) found = absurd found

ends_free : (free : ℕ → Bool) (layout : Layout) (s : State) (desk : ℕ) (g : Party) (answer : PartyAdded) (won : List Item) (es : List Step) → IsAsked g free s
    → IsLegalFrom layout s (entries_of desk es) → EndsTries g g.candidates answer won es → SeatsFree g free answer won
ends_free free layout s desk g (party.Together first) won es asked legal sits = together_free free layout s desk g first.0 won es asked legal sits
ends_free free layout s desk g party.Apart won es asked legal sits = apart_free free layout s desk g party.Apart won es asked legal sits
ends_free free layout s desk g (party.NoPlace n) won es asked legal sits = apart_free free layout s desk g (party.NoPlace n) won es asked legal sits
ends_free free layout s desk g (party.Contended p) won es asked legal sits = apart_free free layout s desk g (party.Contended p) won es asked legal sits

-- A party gets the first stretch that is free, or, where there is none, the first free places.
pub seats_free : (free : ℕ → Bool) (layout : Layout) (s : State) (desk : ℕ) (g : Party) (answer : PartyAdded) (won : List Item) (es : List Step) → IsAsked g free s
    → IsLegalFrom layout s (entries_of desk es) → SeatsParty g answer won es → SeatsFree g free answer won
seats_free free layout s desk g answer won es asked legal (lefts, tries) =
    ends_free free layout s desk g answer won es asked legal (one_try free layout s desk g lefts answer won es asked legal tries)

-- ---- what is left

takes_making : (standing : State) (row : RowNo) (desk k : ℕ) (span : Interval) (ps : List ℕ) (won : List Item) (es : List Step) (items : List BookedItem) (s : State)
    → TakesEach row.row k span ps won es → IsMaking standing row items s → IsMaking standing row (items ++ map held won) (after_steps s desk es)
takes_making standing row desk k span [] won es items s (none, are) m =
    subst (λ (l : List Step). IsMaking standing row (items ++ map held won) (after_steps s desk l)) (sym are)
    (subst (λ (l : List Item). IsMaking standing row (items ++ map held l) s) (sym none) (subst (λ (l : List BookedItem). IsMaking standing row l s) (sym (append-nil items)) m))
takes_making standing row desk k span (p ∷ ps) won es items s (mine, more, first, others, adds, rest, is, are) m =
    let mid : State = after_steps s desk first in
    let one = adds_making standing row desk k span 1 (p ∷ []) added.All mine first items s adds m in
    let all = takes_making standing row desk (k + length mine) span ps more others (items ++ map held mine) mid rest one in
    subst (λ (l : List Item). IsMaking standing row (items ++ map held l) (after_steps s desk es)) (sym is)
    (subst (IsMaking standing row (items ++ map held (mine ++ more))) (sym (ap (after_steps s desk) are ∙ after-append s desk first others))
    (subst (λ (l : List BookedItem). IsMaking standing row l (after_steps mid desk others)) (more_held items mine more) all))

-- behind looks that leave the state
behind_making : (standing : State) (row : RowNo) (desk : ℕ) (looks steps es : List Step) (items : List BookedItem) (s : State) → es ≡ looks ++ steps → after_steps s desk looks ≡ s
    → IsMaking standing row items (after_steps s desk steps) → IsMaking standing row items (after_steps s desk es)
behind_making standing row desk looks steps es items s is same m =
    subst (IsMaking standing row items) (sym (ap (after_steps s desk) is ∙ (after-append s desk looks steps ∙ ap (λ (t : State). after_steps t desk steps) same))) m

together_making : (standing : State) (row : RowNo) (desk : ℕ) (g : Party) (first : ℕ) (won : List Item) (es : List Step) (items : List BookedItem) (s : State) → g.row ≡ row.row
    → SitsTogether g g.candidates first won es → IsMaking standing row items s → IsMaking standing row (items ++ map held won) (after_steps s desk es)
together_making standing row desk g first won es items s same sits m =
    let stretch : List ℕ = places_looked sits.found.ends.stretch in
    behind_making standing row desk sits.looks sits.takes es (items ++ map held won) s sits.are (looked_leave s desk g.span sits.looked sits.looks sits.looks_are)
    (takes_making standing row desk g.items g.span stretch won sits.takes items s (subst (λ (r : ℕ). TakesEach r g.items g.span stretch won sits.takes) same sits.takes_are) m)

apart_making : (standing : State) (row : RowNo) (desk : ℕ) (g : Party) (answer : PartyAdded) (won : List Item) (es : List Step) (items : List BookedItem) (s : State) → g.row ≡ row.row
    → SitsApart g g.candidates answer won es → IsMaking standing row items s → IsMaking standing row (items ++ map held won) (after_steps s desk es)
apart_making standing row desk g answer won es items s same sits m =
    behind_making standing row desk sits.looks sits.adds es (items ++ map held won) s sits.are (looked_leave s desk g.span sits.looked sits.looks sits.looks_are)
    (adds_making standing row desk g.items g.span g.count g.candidates sits.added won sits.adds items s
    (subst (λ (r : ℕ). Adds r g.items g.span g.count g.candidates sits.added won sits.adds) same sits.adds_are) m)

ends_making : (standing : State) (row : RowNo) (desk : ℕ) (g : Party) (answer : PartyAdded) (won : List Item) (es : List Step) (items : List BookedItem) (s : State) → g.row ≡ row.row
    → EndsTries g g.candidates answer won es → IsMaking standing row items s → IsMaking standing row (items ++ map held won) (after_steps s desk es)
ends_making standing row desk g (party.Together first) won es items s same sits m = together_making standing row desk g first.0 won es items s same sits m
ends_making standing row desk g party.Apart won es items s same sits m = apart_making standing row desk g party.Apart won es items s same sits m
ends_making standing row desk g (party.NoPlace n) won es items s same sits m = apart_making standing row desk g (party.NoPlace n) won es items s same sits m
ends_making standing row desk g (party.Contended p) won es items s same sits m = apart_making standing row desk g (party.Contended p) won es items s same sits m

-- What seating a party on the row finds and leaves, where the items before are at no candidate.
pub record HasSeated (standing : State) (row : RowNo) (items : List Item) (g : Party) (answer : PartyAdded) (won : List Item) (new : DeskView) : Type 0 where
  pub alone : IsAlone new
  pub making : IsMaking standing row (map held (items ++ won)) (state_seen new)
  pub found : SeatsFree g (is_free (beside standing row) g.span) answer won

pub has_seated : (standing : State) (row : RowNo) (items : List Item) (g : Party) (answer : PartyAdded) (won : List Item) (old new : DeskView) → g.row ≡ row.row
    → FitsAt g.span g.candidates → Pairwise (λ p q. p ≢ q) g.candidates → AllByRecursion (λ p. AreElsewhere p (map held items)) g.candidates → AllByRecursion IsStanding standing
    → IsAlone old → IsWellFormed old.layout (state_seen old) → IsMaking standing row (map held items) (state_seen old)
    → AddsStepsBy (SeatsParty g answer won) old new → HasSeated standing row items g answer won new
has_seated standing row items g answer won old new same fits apart other each alone well m (steps, (lefts, tries), did) =
    let f = shape_follows old new steps alone did in
    let s = state_seen old in
    let free = is_free (beside standing row) g.span in
    let asked : IsAsked g free s =
    record { fits = fits; differ = apart; says = tells_free old.layout standing row (map held items) s g.span g.candidates each well m other } in
    let ends = one_try free old.layout s old.number g lefts answer won steps asked f.legal tries in
    record {
      alone = f.alone;
      making = subst (IsMaking standing row (map held (items ++ won))) (sym f.state)
          (subst (λ (is : List BookedItem). IsMaking standing row is (after_steps s old.number steps)) (sym (map-append held items won))
          (ends_making standing row old.number g answer won steps (map held items) s same ends m));
      found = ends_free free old.layout s old.number g answer won steps asked f.legal ends;
    }
