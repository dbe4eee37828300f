-- Adding places for a party that wants to sit together.
use Rattle.std.specs.Prelude.{◌≡◌, ◌≢◌, ℕ, zero, suc, ◌+◌, ◌<◌, ◌≤◌, All, List, [], ◌∷◌, ◌++◌, length, map, slice_index}
use Rattle.leg_masks.specs.Interval.{Interval, PlacedSpan as Item}
use Rattle.rail_ids.specs.declared.PlaceNo.{PlaceNo}
use Rattle.place_map.specs.declared.coach.Place.{Place}
use Rattle.history_model.specs.declared.entry.Step.{Step}
use Rattle.history_model.specs.declared.entry.Step.TheVariants.{Give}
use Rattle.claim_rule.specs.Rule.{DeskView}
use Rattle.claim_rule.specs.Calls.{Calls, AddsStepsBy}
use Rattle.claim_rule.specs.Holds.{HoldView}
use Rattle.hold_core.specs.declared.adds.Added.{Added}
use Rattle.hold_core.specs.declared.adds.Added.TheVariants as added
use Rattle.hold_core.specs.Places.{Adds}
use Rattle.hold_core.specs.Tries.{place_number, with_items}
use Rattle.party_places.specs.declared.party.PartyAdded.{PartyAdded}
use Rattle.party_places.specs.declared.party.PartyAdded.TheVariants.{Together, Apart, NoPlace, Contended}
use Rattle.party_places.specs.Searches.{Looked, LooksAtEach, Finds, FindsNone, places_looked}

-- what is asked for: that many of the candidates for the span, for a hold of this row that has that many items
pub record Party : Type 0 where
  pub places : List Place
  pub row : ℕ
  pub items : ℕ
  pub span : Interval
  pub count : ℕ
  pub candidates : List ℕ

abbrev pub asked : List Place → HoldView → Interval → ℕ → List PlaceNo → Party
asked places hold span count candidates = record {
  places = places;
  row = hold.row.row;
  items = length hold.items;
  span = span;
  count = count;
  candidates = map place_number candidates;
}

-- each is a place of the books, which have this many legs at each, and has all legs of the span
abbrev pub AreCandidates : List ℕ → Interval → List PlaceNo → Type 0
AreCandidates legs span candidates = All (λ p. (p.0 < length legs) × (span.to ≤ slice_index legs p.0)) candidates

-- each of the places is added, as the only candidate for one; the first item won would have the number k
abbrev pub TakesEach : ℕ → ℕ → Interval → List ℕ → List Item → List Step → Type 0
TakesEach row k span [] won es = (won ≡ []) × (es ≡ [])
TakesEach row k span (p ∷ rest) won es =
    (mine : List Item) × (more : List Item) × (first : List Step) × (others : List Step)
    × Adds row k span 1 (p ∷ []) added.All mine first × TakesEach row (k + length mine) span rest more others
    × (won ≡ mine ++ more) × (es ≡ first ++ others)

-- that many items from the number k on are given back, the last first
abbrev pub gives_down : ℕ → ℕ → ℕ → List Step
gives_down row k zero = []
gives_down row k (suc n) = Give row (k + n) ∷ gives_down row k n

-- The places are taken so in order, up to one that isn't won.
pub record Loses (row k : ℕ) (span : Interval) (stretch : List ℕ) (won : List Item) (es : List Step) : Type 0 where
  pub before : List ℕ
  pub place : ℕ
  pub behind : List ℕ
  pub stretch_is : stretch ≡ before ++ place ∷ behind
  pub answer : Added
  pub stopped : answer ≢ added.All
  pub takes : List Step
  pub last : List Step
  pub takes_are : TakesEach row k span before won takes
  pub last_are : Adds row (k + length won) span 1 (place ∷ []) answer [] last
  pub are : es ≡ takes ++ last

-- all of them are taken so for a hold, which has their items then
abbrev pub Takes : HoldView → Interval → List PlaceNo → DeskView → DeskView → HoldView → Type 0
Takes hold span stretch old new held =
    (won : List Item)
    × AddsStepsBy (TakesEach hold.row.row (length hold.items) span (map place_number stretch) won) old new
    × (held ≡ with_items hold won)

-- the one that isn't won is the n-th
abbrev pub LosesAt : ℕ → ℕ → Interval → List ℕ → ℕ → List Item → Calls
LosesAt row k span stretch n won es = (loses : Loses row k span stretch won es) × (length loses.before ≡ n)

-- they are taken up to that one for a hold, which has the items won then
abbrev pub LosesOne : HoldView → Interval → List PlaceNo → ℕ → DeskView → DeskView → HoldView → Type 0
LosesOne hold span stretch n old new held =
    (won : List Item)
    × AddsStepsBy (LosesAt hold.row.row (length hold.items) span (map place_number stretch) n won) old new
    × (held ≡ with_items hold won)

-- and what was won is given back
abbrev pub GivesUpAt : ℕ → ℕ → Interval → List ℕ → ℕ → Calls
GivesUpAt row k span stretch n es =
    (won : List Item) × (tries : List Step) × LosesAt row k span stretch n won tries
    × (es ≡ tries ++ gives_down row k (length won))

-- so that the hold has what it had
abbrev pub GivesUp : HoldView → Interval → List PlaceNo → ℕ → DeskView → DeskView → HoldView → Type 0
GivesUp hold span stretch n old new held =
    AddsStepsBy (GivesUpAt hold.row.row (length hold.items) span (map place_number stretch) n) old new × (held ≡ hold)

-- A try from these candidates on that failed: a free stretch was found, and its places taken up to one that wasn't won;
-- what was won is given back, and the candidates after that one are left.
pub record Fails (g : Party) (here left : List ℕ) (es : List Step) : Type 0 where
  pub looked : List Looked
  pub found : Finds g.places g.count here looked
  pub won : List Item
  pub looks : List Step
  pub tries : List Step
  pub looks_are : LooksAtEach g.span looked looks
  pub loses : Loses g.row g.items g.span (places_looked found.ends.stretch) won tries
  pub left_is : left ≡ loses.behind ++ found.left
  pub are : es ≡ looks ++ (tries ++ gives_down g.row g.items (length won))

-- a try that found a free stretch, all of whose places were taken
pub record SitsTogether (g : Party) (here : List ℕ) (first : ℕ) (won : List Item) (es : List Step) : Type 0 where
  pub looked : List Looked
  pub found : Finds g.places g.count here looked
  pub others : List ℕ
  pub stretch_is : places_looked found.ends.stretch ≡ first ∷ others
  pub looks : List Step
  pub takes : List Step
  pub looks_are : LooksAtEach g.span looked looks
  pub takes_are : TakesEach g.row g.items g.span (places_looked found.ends.stretch) won takes
  pub are : es ≡ looks ++ takes

-- what the call answers, where places were added of all candidates
abbrev pub answer_apart : Added → PartyAdded
answer_apart added.All = Apart
answer_apart (added.NoPlace won) = NoPlace won
answer_apart (added.Contended place) = Contended place

-- a try that found no free stretch; then places were added of all candidates
pub record SitsApart (g : Party) (here : List ℕ) (answer : PartyAdded) (won : List Item) (es : List Step) : Type 0 where
  pub looked : List Looked
  pub none : FindsNone g.places g.count here looked
  pub added : Added
  pub is : answer ≡ answer_apart added
  pub looks : List Step
  pub adds : List Step
  pub looks_are : LooksAtEach g.span looked looks
  pub adds_are : Adds g.row g.items g.span g.count g.candidates added won adds
  pub are : es ≡ looks ++ adds

-- the last try, from these candidates on
abbrev pub EndsTries : Party → List ℕ → PartyAdded → List Item → List Step → Type 0
EndsTries g here (Together first) won es = SitsTogether g here first.0 won es
EndsTries g here answer won es = SitsApart g here answer won es

-- the tries from these candidates on, of which those that failed left these candidates
abbrev pub TriesFrom : Party → List ℕ → List (List ℕ) → PartyAdded → List Item → List Step → Type 0
TriesFrom g here [] answer won es = EndsTries g here answer won es
TriesFrom g here (left ∷ lefts) answer won es =
    (mine : List Step) × (more : List Step) × Fails g here left mine × TriesFrom g left lefts answer won more
    × (es ≡ mine ++ more)

-- the steps of tries from these candidates on, with the items won
abbrev pub SeatsFrom : Party → List ℕ → PartyAdded → List Item → Calls
SeatsFrom g here answer won es = (lefts : List (List ℕ)) × TriesFrom g here lefts answer won es

-- and of the call, which tries from the first candidate on
abbrev pub SeatsParty : Party → PartyAdded → List Item → Calls
SeatsParty g answer won = SeatsFrom g g.candidates answer won
