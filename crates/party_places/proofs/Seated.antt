-- The places of a party that has as many as it asked for.
use Rattle.std.proofs.Common.{◌≡◌, ◌≢◌, ◌∙◌, inl, inr, ℕ, ◌+◌, List, [], ◌∷◌, ◌++◌, length, refl, sym, ap, subst, arith, append_assoc, append-nil}
use Rattle.std.specs.List.{AllByRecursion, flat_map}
use Rattle.std.proofs.lemmas.List.{length-map}
use mathlib.Core.List.{map-append}
use Rattle.leg_masks.specs.Interval.{Interval, items_at, PlacedSpan as Item}
use Rattle.history_model.specs.Lists.{Pairwise}
use Rattle.history_model.specs.declared.entry.Step.{Step}
use Rattle.history_model.proofs.ListLemmas.{All-append, All-map, Pairwise-left, Pairwise-right}
use Rattle.hold_core.specs.declared.adds.Added.{Added}
use Rattle.hold_core.specs.declared.adds.Added.TheVariants as added
use Rattle.hold_core.specs.declared.tries.Outcome.{Outcome}
use Rattle.hold_core.specs.declared.tries.Outcome.TheVariants as outcome
use Rattle.hold_core.specs.Tries.{Try}
use Rattle.hold_core.specs.Places.{Adds, place_won, places_won, tried}
use Rattle.hold_core.proofs.Adding.{items_by_place}
use Rattle.party_places.specs.declared.party.PartyAdded.{PartyAdded}
use Rattle.party_places.specs.declared.party.PartyAdded.TheVariants.{Together, Apart, NoPlace, Contended}
use Rattle.party_places.specs.Causes.{IsIn}
use Rattle.party_places.specs.Searches.{Looked, places_looked, Finds}
use Rattle.party_places.specs.Parties.{Party, TakesEach, Fails, SitsTogether, answer_apart, TriesFrom, SeatsParty}

-- so many places of the candidates, no two of them one, and the items won are those of the span at each in turn
pub record HasSeats (span : Interval) (count : ℕ) (candidates : List ℕ) (won : List Item) : Type 0 where
  pub places : List ℕ
  pub many : length places ≡ count
  pub among : AllByRecursion (λ p. IsIn p candidates) places
  pub different : Pairwise (λ p q. p ≢ q) places
  pub are : won ≡ flat_map (items_at span) places

-- places that were added one by one

-- what is so of each place tried is so of each place won
won_among : (P : ℕ → Type 0) (ts : List Try) → AllByRecursion P (tried ts) → AllByRecursion P (places_won ts)
won_among P [] all = tt
won_among P (t ∷ ts) all = All-append P (place_won t.place t.outcome) (places_won ts) (one t.place t.outcome all.0) (won_among P ts all.1)
  where
    one : (p : ℕ) (o : Outcome) → P p → AllByRecursion P (place_won p o)
    one p outcome.Won is = (is, tt)
    one p outcome.Refused is = tt
    one p outcome.Contended is = tt

-- where the places tried differ, those won do
won_apart : (ts : List Try) → Pairwise (λ p q. p ≢ q) (tried ts) → Pairwise (λ p q. p ≢ q) (places_won ts)
won_apart [] all = tt
won_apart (t ∷ ts) all = one t.place t.outcome (places_won ts) (won_among (λ q. t.place ≢ q) ts all.0) (won_apart ts all.1)
  where
    one : (p : ℕ) (o : Outcome) (rest : List ℕ) → AllByRecursion (λ q. p ≢ q) rest → Pairwise (λ p q. p ≢ q) rest → Pairwise (λ p q. p ≢ q) (place_won p o ++ rest)
    one p outcome.Won rest others apart = (others, apart)
    one p outcome.Refused rest others apart = apart
    one p outcome.Contended rest others apart = apart

-- each of the first is one of all, and each of the last
first_in : (xs ys : List ℕ) → AllByRecursion (λ p. IsIn p (xs ++ ys)) xs
first_in [] ys = tt
first_in (x ∷ xs) ys = (inl refl, All-map (λ p at. inr at) xs (first_in xs ys))

last_in : (xs ys zs : List ℕ) → AllByRecursion (λ p. IsIn p ys) zs → AllByRecursion (λ p. IsIn p (xs ++ ys)) zs
last_in [] ys zs all = all
last_in (x ∷ xs) ys zs all = All-map (λ p at. inr at) zs (last_in xs ys zs all)

pub adds_seats : (row k : ℕ) (span : Interval) (count : ℕ) (candidates : List ℕ) (won : List Item) (es : List Step) → Pairwise (λ p q. p ≢ q) candidates
    → Adds row k span count candidates added.All won es → HasSeats span count candidates won
adds_seats row k span count candidates won es differ a =
    let left = a.adding.2.0 in
    let front = a.adding.2.1 in
    record {
      places = places_won a.tries;
      many = a.adding.1;
      among = won_among (λ p. IsIn p candidates) a.tries (subst (λ (l : List ℕ). AllByRecursion (λ p. IsIn p l) (tried a.tries)) (sym front) (first_in (tried a.tries) left));
      different = won_apart a.tries (Pairwise-left (λ p q. p ≢ q) (tried a.tries) left (subst (Pairwise (λ p q. p ≢ q)) front differ));
      are = a.items ∙ items_by_place span a.tries;
    }

-- places of a stretch

-- the tries of one place alone, by which it is won
one_won : (p : ℕ) (ts : List Try) (left : List ℕ) → p ∷ [] ≡ tried ts ++ left → length (places_won ts) ≡ 1 → places_won ts ≡ p ∷ []
one_won p [] left is many = absurd (omega (arith, many))
one_won p (t ∷ u ∷ ts) left is many = absurd (let l = ap length is in omega (arith, l))
one_won p (t ∷ []) left is many = by t.outcome many
  where
    here : p ≡ t.place
    here = cc

    by : (o : Outcome) → length (place_won t.place o ++ []) ≡ 1 → place_won t.place o ++ [] ≡ p ∷ []
    by outcome.Won one = ap (λ (q : ℕ). q ∷ []) (sym here)
    by outcome.Refused none = absurd (omega (arith, none))
    by outcome.Contended none = absurd (omega (arith, none))

one_taken : (row k : ℕ) (span : Interval) (p : ℕ) (mine : List Item) (es : List Step) → Adds row k span 1 (p ∷ []) added.All mine es → mine ≡ items_at span p
one_taken row k span p mine es a =
    a.items ∙ (items_by_place span a.tries ∙ (ap (flat_map (items_at span)) (one_won p a.tries a.adding.2.0 a.adding.2.1 a.adding.1) ∙ append-nil (items_at span p)))

pub taken_items : (row k : ℕ) (span : Interval) (ps : List ℕ) (won : List Item) (es : List Step) → TakesEach row k span ps won es → won ≡ flat_map (items_at span) ps
taken_items row k span [] won es takes = takes.0
taken_items row k span (p ∷ ps) won es (mine, more, first, others, adds, rest, is, are) =
    is ∙ (λ i. one_taken row k span p mine first adds i ++ taken_items row (k + length mine) span ps more others rest i)

-- the last of the party's candidates
abbrev AreLast : Party → List ℕ → Type 0
AreLast g here = (front : List ℕ) × (g.candidates ≡ front ++ here)

-- those of a search are the last of them that it looked at
found_places : (g : Party) (here : List ℕ) (looked : List Looked) (f : Finds g.places g.count here looked)
    → here ≡ places_looked f.ends.front ++ (places_looked f.ends.stretch ++ f.left)
found_places g here looked f =
    f.candidates_are ∙ (ap (λ (ls : List Looked). places_looked ls ++ f.left) f.ends.are
    ∙ (ap (λ (ps : List ℕ). ps ++ f.left) (map-append (λ (l : Looked). l.place) f.ends.front f.ends.stretch)
    ∙ append_assoc (places_looked f.ends.front) (places_looked f.ends.stretch) f.left))

-- a try that failed leaves the last of those that it began with
fails_last : (g : Party) (here left : List ℕ) (es : List Step) → Fails g here left es → AreLast g here → AreLast g left
fails_last g here left es f (front, is) =
    let first : List ℕ = places_looked f.found.ends.front in
    let taken : List ℕ = f.loses.before ++ f.loses.place ∷ [] in
    let whole : here ≡ first ++ (taken ++ left) =
    found_places g here f.looked f.found ∙ (ap (λ (ps : List ℕ). first ++ (ps ++ f.found.left)) f.loses.stretch_is
    ∙ (ap (λ (ps : List ℕ). first ++ ps) (append_assoc f.loses.before (f.loses.place ∷ f.loses.behind) f.found.left
    ∙ sym (append_assoc f.loses.before (f.loses.place ∷ []) (f.loses.behind ++ f.found.left)))
    ∙ ap (λ (ps : List ℕ). first ++ (taken ++ ps)) (sym f.left_is))) in
    (front ++ (first ++ taken), is ∙ (ap (λ (ps : List ℕ). front ++ ps) (whole ∙ sym (append_assoc first taken left)) ∙ sym (append_assoc front (first ++ taken) left)))

together_seats : (g : Party) (here : List ℕ) (first : ℕ) (won : List Item) (es : List Step) → Pairwise (λ p q. p ≢ q) g.candidates → AreLast g here
    → SitsTogether g here first won es → HasSeats g.span g.count g.candidates won
together_seats g here first won es differ (front, is) s =
    let ends = s.found.ends in
    let before : List ℕ = front ++ places_looked ends.front in
    let stretch : List ℕ = places_looked ends.stretch in
    let whole : g.candidates ≡ before ++ (stretch ++ s.found.left) =
    is ∙ (ap (λ (ps : List ℕ). front ++ ps) (found_places g here s.looked s.found) ∙ sym (append_assoc front (places_looked ends.front) (stretch ++ s.found.left))) in
    record {
      places = stretch;
      many = length-map ends.stretch (λ (l : Looked). l.place) ∙ ends.many;
      among = subst (λ (ps : List ℕ). AllByRecursion (λ p. IsIn p ps) stretch) (sym whole) (last_in before (stretch ++ s.found.left) stretch (first_in stretch s.found.left));
      different = Pairwise-left (λ p q. p ≢ q) stretch s.found.left (Pairwise-right (λ p q. p ≢ q) before (stretch ++ s.found.left) (subst (Pairwise (λ p q. p ≢ q)) whole differ));
      are = taken_items g.row g.items g.span stretch won s.takes s.takes_are;
    }

-- whether the party has as many places as it asked for
abbrev pub IsWhole : PartyAdded → Type 0
IsWhole (Together first) = Unit {0}
IsWhole Apart = Unit {0}
IsWhole (NoPlace won) = ⊥
IsWhole (Contended place) = ⊥

apart_all : (a : Added) → Apart ≡ answer_apart a → a ≡ added.All
apart_all added.All e = refl
apart_all (added.NoPlace won) e = absurd (let f : Apart ≡ NoPlace won = e in cc)
apart_all (added.Contended place) e = absurd (let f : Apart ≡ Contended place = e in cc)

tries_seats : (g : Party) (here : List ℕ) (lefts : List (List ℕ)) (answer : PartyAdded) (won : List Item) (es : List Step) → Pairwise (λ p q. p ≢ q) g.candidates → AreLast g here
    → IsWhole answer → TriesFrom g here lefts answer won es → HasSeats g.span g.count g.candidates won
tries_seats g here (left ∷ lefts) answer won es differ last whole (mine, more, fails, rest, is) =
    tries_seats g left lefts answer won more differ (fails_last g here left mine fails last) whole rest
tries_seats g here [] (Together first) won es differ last whole s = together_seats g here first.0 won es differ last s
tries_seats g here [] Apart won es differ last whole s =
    adds_seats g.row g.items g.span g.count g.candidates won s.adds differ (subst (λ (a : Added). Adds g.row g.items g.span g.count g.candidates a won s.adds) (apart_all s.added s.is) s.adds_are)
tries_seats g here [] (NoPlace n) won es differ last whole s = absurd whole
tries_seats g here [] (Contended p) won es differ last whole s = absurd whole

-- a whole party, whose candidates differ, has its places
pub party_seats : (g : Party) (answer : PartyAdded) (won : List Item) (es : List Step) → Pairwise (λ p q. p ≢ q) g.candidates → IsWhole answer
    → SeatsParty g answer won es → HasSeats g.span g.count g.candidates won
party_seats g answer won es differ whole (lefts, tries) = tries_seats g g.candidates lefts answer won es differ ([], refl) whole tries
