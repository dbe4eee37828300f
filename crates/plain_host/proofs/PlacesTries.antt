-- The tries of a lone desk win the first candidates that are free.
use Rattle.std.proofs.Common.{◌≡◌, ◌≢◌, ℕ, ◌≤◌, Bool, cond, Decides, List, [], ◌∷◌, ◌++◌, length, take, refl, sym, ap, ◌∙◌, subst, arith, length-append}
use Rattle.std.specs.List.{AllByRecursion, filter, flat_map}
use Rattle.std.proofs.lemmas.Bool.{false_from_ne_true}
use Rattle.std.proofs.lemmas.List.{length-map}
use Rattle.std.proofs.lemmas.List.Elements.{filter-append}
use Rattle.std.proofs.Math.Seq.{take-append_seam}
use Rattle.leg_masks.specs.Interval.{Interval, items_at, PlacedSpan as Item}
use Rattle.history_model.specs.declared.entry.Step.{Step}
use Rattle.history_model.specs.Lists.{Pairwise}
use Rattle.history_model.specs.Booking.{Layout, State}
use Rattle.history_model.specs.History.{IsLegalFrom}
use Rattle.history_model.proofs.ListLemmas.{All-left}
use Rattle.hold_core.specs.declared.tries.Outcome.{Outcome}
use Rattle.hold_core.specs.declared.tries.Outcome.TheVariants.{Won, Refused, Contended}
use Rattle.hold_core.specs.declared.adds.Added.{Added}
use Rattle.hold_core.specs.declared.adds.Added.TheVariants as added
use Rattle.hold_core.specs.Tries.{Try}
use Rattle.hold_core.specs.Places.{Adds, EndsWith, place_won, places_won, tried}
use Rattle.hold_core.proofs.Adding.{items_by_place}
use Rattle.lone_desk.specs.Lone.{entries_of}
use Rattle.lone_desk.specs.Decided.{EndsBy, IsDecided, IsFreeAt}
use Rattle.lone_desk.proofs.Finding.{adds_decided, none_contended}
use Rattle.plain_host.specs.Found.{FindsFree}

-- the test says of each of the places whether it is free on the span
abbrev pub Tells : (ℕ → Bool) → State → Interval → List ℕ → Type 0
Tells free s span places = AllByRecursion (λ p. Decides (free p) (IsFreeAt s span p)) places

won_at : (P : Type 0) (place : ℕ) (t : Bool) (o : Outcome) (rest places : List ℕ) → EndsBy P o → Decides t P → rest ≡ places → place_won place o ++ rest ≡ cond t (place ∷ places) places
won_at P place t Won rest places is says same = ap (λ (l : List ℕ). place ∷ l) same ∙ ap (λ (u : Bool). cond u (place ∷ places) places) (sym (says.1 is))
won_at P place t Refused rest places not says same = same ∙ ap (λ (u : Bool). cond u (place ∷ places) places) (sym (false_from_ne_true t (λ e. not (says.0 e))))
won_at P place t Contended rest places never says same = absurd never

-- the places won are the free ones among those tried
won_are_free : (s : State) (span : Interval) (free : ℕ → Bool) (ts : List Try) → AllByRecursion (IsDecided s span) ts → Tells free s span (tried ts)
    → places_won ts ≡ filter free (tried ts)
won_are_free s span free [] all says = refl
won_are_free s span free (t ∷ ts) all says =
    won_at (IsFreeAt s span t.place) t.place (free t.place) t.outcome (places_won ts) (filter free (tried ts)) all.0.ends says.0 (won_are_free s span free ts all.1 says.1)

all_won : (s : State) (span : Interval) (free : ℕ → Bool) (count : ℕ) (candidates : List ℕ) (tries : List Try) (left : List ℕ) (won : List Item)
    → AllByRecursion (IsDecided s span) tries → Tells free s span candidates → candidates ≡ tried tries ++ left → won ≡ flat_map (items_at span) (places_won tries)
    → length (places_won tries) ≡ count → FindsFree free span count candidates added.All won
all_won s span free count candidates tries left won all says at is many =
    let mine = filter free (tried tries) in
    let more = filter free left in
    let says_left : Tells free s span (tried tries) =
    All-left (λ p. Decides (free p) (IsFreeAt s span p)) (tried tries) left (subst (Tells free s span) at says) in
    let places : places_won tries ≡ mine = won_are_free s span free tries all says_left in
    let size : count ≡ length mine = sym many ∙ ap length places in
    let parts : filter free candidates ≡ mine ++ more = ap (filter free) at ∙ filter-append free (tried tries) left in
    let first : take count (filter free candidates) ≡ mine =
    ap (λ (l : List ℕ). take count l) parts ∙ (ap (λ (n : ℕ). take n (mine ++ more)) size ∙ take-append_seam mine more) in (
      is ∙ ap (flat_map (items_at span)) (places ∙ sym first),
      omega (arith, size, ap length parts, length-append mine more),
    )

-- of no candidates none is tried
nothing_ends : (tries : List Try) (left : List ℕ) (o : Outcome) → [] ≡ tried tries ++ left → EndsWith tries o → ⊥
nothing_ends tries left o at ends =
    let none = ap length at ∙ length-append (tried tries) left in
    let some = ap length ends.are ∙ length-append ends.before (ends.last ∷ []) in
    absurd (omega (arith, none, some, length-map tries (λ (t : Try). t.place)))

pub finds_none : (row k count : ℕ) (span : Interval) (free : ℕ → Bool) (answer : Added) (won : List Item) (steps : List Step)
    → Adds row k span count [] answer won steps → FindsFree free span count [] answer won
finds_none row k count span free added.All won steps did = absurd (nothing_ends did.tries did.adding.2.0 Won did.adding.2.1 did.adding.0)
finds_none row k count span free (added.NoPlace n) won steps did = omega (arith, did.adding.2)
finds_none row k count span free (added.Contended p) won steps did = absurd (nothing_ends did.tries did.adding.2.0 Contended did.adding.2.1 did.adding.0.0)

-- Of so many wanted the first free candidates are won, or too few are free.
pub finds_free : (g : Layout) (s : State) (desk row k count : ℕ) (span : Interval) (candidates : List ℕ) (free : ℕ → Bool) (answer : Added) (won : List Item) (steps : List Step)
    → span.to ≤ 126 → Pairwise (λ p q. p ≢ q) candidates → Tells free s span candidates → IsLegalFrom g s (entries_of desk steps)
    → Adds row k span count candidates answer won steps → FindsFree free span count candidates answer won
finds_free g s desk row k count span candidates free added.All won steps fits apart says legal did =
    let a = did.adding in
    all_won s span free count candidates did.tries a.2.0 won (adds_decided g s desk row k count span candidates added.All won steps fits apart legal did) says a.2.1
    (did.items ∙ items_by_place span did.tries) a.1
finds_free g s desk row k count span candidates free (added.NoPlace n) won steps fits apart says legal did =
    let a = did.adding in
    let all = adds_decided g s desk row k count span candidates (added.NoPlace n) won steps fits apart legal did in
    let places = won_are_free s span free did.tries all (subst (Tells free s span) a.3 says) in
    omega (arith, a.1, a.2, ap length places, ap (λ (l : List ℕ). length (filter free l)) a.3)
finds_free g s desk row k count span candidates free (added.Contended p) won steps fits apart says legal did =
    none_contended s span did.tries (adds_decided g s desk row k count span candidates (added.Contended p) won steps fits apart legal did) did.adding.0.0
