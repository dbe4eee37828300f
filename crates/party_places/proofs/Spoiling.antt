-- Why each stretch is spoilt where the party doesn't sit together.
use Rattle.std.proofs.Common.{◌≡◌, ◌≢◌, ◌∙◌, ◌⊎◌, inl, inr, ℕ, ◌+◌, ◌<◌, ◌≤◌, Bool, true, false, ◌&&◌, List, [], ◌∷◌, ◌++◌, length, refl, sym, ap, subst, arith, append_assoc, append-nil, length-append}
use Rattle.std.specs.Prelude.{IsTrue}
use mathlib.Core.List.{map-append}
use Rattle.std.specs.List.{AllByRecursion}
use Rattle.std.proofs.lemmas.List.{length-map}
use Rattle.leg_masks.specs.Interval.{Interval, IsClear, pieces, PlacedSpan as Item}
use Rattle.place_map.specs.declared.coach.Place.{Place}
use Rattle.rail_ids.specs.declared.PlaceNo.{PlaceNo}
use Rattle.history_model.specs.declared.entry.Step.{Step}
use Rattle.history_model.specs.Looks.{look_at}
use Rattle.availability.specs.Looks.{LooksPieces}
use Rattle.hold_core.specs.declared.tries.Outcome.{Outcome}
use Rattle.hold_core.specs.declared.tries.Outcome.TheVariants.{Won, Refused, Contended}
use Rattle.hold_core.specs.declared.adds.Added.{Added}
use Rattle.hold_core.specs.declared.adds.Added.TheVariants as added
use Rattle.hold_core.specs.Tries.{Part, Try, AreParts, IsOutcome, IsPart, IsTry, looks_at, part_steps, parts_steps, undone, try_steps, won_steps}
use Rattle.hold_core.specs.Places.{Adds, place_won, places_won, tried, tries_steps}
use Rattle.party_places.specs.declared.party.PartyAdded.{PartyAdded}
use Rattle.party_places.specs.declared.party.PartyAdded.TheVariants as party
use Rattle.party_places.specs.Stretches.{AreSideBySide, IsStretch}
use Rattle.party_places.specs.Searches.{Looked, places_looked, LooksAtEach, EndsFree, ShowsNone}
use Rattle.party_places.specs.Parties.{Party, Fails, Loses, SeatsParty, SitsApart, TriesFrom, gives_down}
use Rattle.party_places.specs.Causes.{IsIn, StandIn, ShowsTaken, WasContended, IsSpoilt, SpoilsAll}
use Rattle.party_places.proofs.Rows.{by_last, same_last, split_looked}

-- steps that stand among some stand among more

stand_right : (mine es before : List Step) → StandIn mine es → StandIn mine (before ++ es)
stand_right mine es before (front, back, is) =
    (before ++ front, back, ap (λ (l : List Step). before ++ l) is ∙ sym (append_assoc before front (mine ++ back)))

stand_left : (mine es behind : List Step) → StandIn mine es → StandIn mine (es ++ behind)
stand_left mine es behind (front, back, is) =
    (front, back ++ behind, ap (λ (l : List Step). l ++ behind) is ∙ (append_assoc front (mine ++ back) behind ∙ ap (λ (l : List Step). front ++ l) (append_assoc mine back behind)))

abbrev Spoils : Interval → ℕ → List Step → Type 0
Spoils span place es = ShowsTaken span place es ⊎ WasContended span place es

-- the same of these pieces

abbrev TakenIn : List Interval → ℕ → List Step → Type 0
TakenIn ps place es = (piece : Interval) × (word : ℕ) × IsIn piece ps × (¬ IsClear word piece) × StandIn (look_at place piece word ∷ []) es

abbrev ContendedIn : List Interval → ℕ → List Step → Type 0
ContendedIn ps place es =
    (piece : Interval) × (shown : List ℕ) × IsIn piece ps × IsPart (record { piece = piece; shown = shown; outcome = Contended }) × StandIn (looks_at place piece shown) es

spoils_by : (span : Interval) (place : ℕ) (es fs : List Step) → ((mine : List Step) → StandIn mine es → StandIn mine fs) → Spoils span place es → Spoils span place fs
spoils_by span place es fs more (inl (piece, word, among, taken, at)) = inl (piece, word, among, taken, more (look_at place piece word ∷ []) at)
spoils_by span place es fs more (inr (piece, shown, among, part, at)) = inr (piece, shown, among, part, more (looks_at place piece shown) at)

spoilt_by : (span : Interval) (es fs : List Step) (stretch : List ℕ) → ((mine : List Step) → StandIn mine es → StandIn mine fs) → IsSpoilt span es stretch → IsSpoilt span fs stretch
spoilt_by span es fs stretch more (place, at, spoils) = (place, at, spoils_by span place es fs more spoils)

-- looks that did not show a place free

not_true : (b : Bool) → b ≡ false → IsTrue b → ⊥
not_true b e t = absurd (let f : false ≡ true = sym e ∙ t in cc)

pieces_taken : (place : ℕ) (ps : List Interval) (free : Bool) (es : List Step) → LooksPieces place ps free es → free ≡ false → TakenIn ps place es
pieces_taken place [] free es looks lost = absurd (let e : true ≡ false = sym looks.0 ∙ lost in cc)
pieces_taken place (piece ∷ ps) free es (word, here, others, more, says, rest, is, are) lost = by here refl (pieces_taken place ps others more rest)
  where
    by : (b : Bool) → here ≡ b → (others ≡ false → TakenIn ps place more) → TakenIn (piece ∷ ps) place es
    by false e later = (piece, word, inl refl, (λ clear. not_true here e (says.1 clear)), ([], more, are))
    by true e later =
        let none : others ≡ false = sym (ap (λ (b : Bool). b && others) e) ∙ (sym is ∙ lost) in
        let r = later none in
        (r.0, r.1, inr r.2, r.3, subst (StandIn (look_at place r.0 r.1 ∷ [])) (sym are) (stand_right (look_at place r.0 r.1 ∷ []) more (look_at place piece word ∷ []) r.4))

-- one of a list that showed not free

in_places : (l : Looked) (looked : List Looked) → IsIn l looked → IsIn l.place (places_looked looked)
in_places l [] at = absurd at
in_places l (x ∷ looked) (inl is) = inl (ap (λ (y : Looked). y.place) is)
in_places l (x ∷ looked) (inr more) = inr (in_places l looked more)

all_or_not : (looked : List Looked) → AllByRecursion (λ l. l.free ≡ true) looked ⊎ ((l : Looked) × IsIn l looked × (l.free ≡ false))
all_or_not [] = inl tt
all_or_not (l ∷ looked) = by l.free refl (all_or_not looked)
  where
    by : (b : Bool) → l.free ≡ b → AllByRecursion (λ x. x.free ≡ true) looked ⊎ ((x : Looked) × IsIn x looked × (x.free ≡ false))
        → AllByRecursion (λ x. x.free ≡ true) (l ∷ looked) ⊎ ((x : Looked) × IsIn x (l ∷ looked) × (x.free ≡ false))
    by false e rest = inr (l, inl refl, e)
    by true e (inl all) = inl (e, all)
    by true e (inr (x, at, lost)) = inr (x, inr at, lost)

looked_taken : (span : Interval) (looked : List Looked) (es : List Step) (l : Looked) → LooksAtEach span looked es → IsIn l looked → l.free ≡ false → ShowsTaken span l.place es
looked_taken span [] es l looks at lost = absurd at
looked_taken span (x ∷ looked) es l (mine, more, one, rest, is) (inl here) lost =
    let r = pieces_taken x.place (pieces span) x.free mine one (sym (ap (λ (y : Looked). y.free) here) ∙ lost) in
    let t : ShowsTaken span x.place es = (r.0, r.1, r.2, r.3, subst (StandIn (look_at x.place r.0 r.1 ∷ [])) (sym is) (stand_left (look_at x.place r.0 r.1 ∷ []) mine more r.4)) in
    subst (λ (y : Looked). ShowsTaken span y.place es) (sym here) t
looked_taken span (x ∷ looked) es l (mine, more, one, rest, is) (inr at) lost =
    let r = looked_taken span looked more l rest at lost in
    (r.0, r.1, r.2, r.3, subst (StandIn (look_at l.place r.0 r.1 ∷ [])) (sym is) (stand_right (look_at l.place r.0 r.1 ∷ []) more mine r.4))

in_right : {X : Type 0} (x : X) (xs ys : List X) → IsIn x ys → IsIn x (xs ++ ys)
in_right x [] ys at = at
in_right x (y ∷ xs) ys at = inr (in_right x xs ys at)

in_left : {X : Type 0} (x : X) (xs ys : List X) → IsIn x xs → IsIn x (xs ++ ys)
in_left x [] ys at = absurd at
in_left x (y ∷ xs) ys (inl is) = inl is
in_left x (y ∷ xs) ys (inr more) = inr (in_left x xs ys more)

-- a stretch of those looked at, of which no front ends free, has one that did not show free
stretch_looked : (places : List Place) (count : ℕ) (span : Interval) (whole looked rest : List Looked) (es : List Step) (front stretch back : List ℕ) → LooksAtEach span whole es → whole ≡ looked ++ rest
    → ShowsNone places count looked → places_looked looked ≡ front ++ (stretch ++ back) → length stretch ≡ count → AreSideBySide places stretch → IsSpoilt span es stretch
stretch_looked places count span whole looked rest es front stretch back looks are none is many beside =
    let one = split_looked looked front (stretch ++ back) is in
    let two = split_looked one.1 stretch back one.4 in
    by one.0 two.0 two.1 (one.2 ∙ ap (λ (l : List Looked). one.0 ++ l) two.2) two.3 (all_or_not two.0)
  where
    by : (a s b : List Looked) → looked ≡ a ++ (s ++ b) → places_looked s ≡ stretch → AllByRecursion (λ l. l.free ≡ true) s ⊎ ((l : Looked) × IsIn l s × (l.free ≡ false)) → IsSpoilt span es stretch
    by a s b at same (inl all) = absurd (none (a ++ s) b (at ∙ sym (append_assoc a s b)) (record {
      front = a;
      stretch = s;
      are = refl;
      many = sym (length-map s (λ (l : Looked). l.place)) ∙ (ap length same ∙ many);
      free = all;
      beside = subst (AreSideBySide places) (sym same) beside;
    }))
    by a s b at same (inr (l, inside, lost)) =
        let there : IsIn l whole = subst (IsIn l) (sym are) (in_left l looked rest (subst (IsIn l) (sym at) (in_right l a (s ++ b) (in_left l s b inside)))) in
        (l.place, subst (IsIn l.place) same (in_places l s inside), inl (looked_taken span whole es l looks there lost))

-- a place that was added alone, and wasn't won

parts_spoil : (row k place : ℕ) (ps : List Interval) (ts : List Part) (o : Outcome) → AreParts ps ts o → o ≢ Won
    → TakenIn ps place (parts_steps row k place ts) ⊎ ContendedIn ps place (parts_steps row k place ts)
parts_spoil row k place [] [] o are lost = absurd (lost are)
parts_spoil row k place [] (t ∷ ts) o are lost = absurd are
parts_spoil row k place (p ∷ ps) [] o are lost = absurd are
parts_spoil row k place (p ∷ ps) (t ∷ ts) o (at, part, inl (won, more)) lost = later (parts_spoil row (k + 1) place ps ts o more lost)
  where
    behind : List Step
    behind = parts_steps row (k + 1) place ts

    later : TakenIn ps place behind ⊎ ContendedIn ps place behind → TakenIn (p ∷ ps) place (parts_steps row k place (t ∷ ts)) ⊎ ContendedIn (p ∷ ps) place (parts_steps row k place (t ∷ ts))
    later (inl (piece, word, among, taken, stands)) = inl (piece, word, inr among, taken, stand_right (look_at place piece word ∷ []) behind (part_steps row k place t) stands)
    later (inr (piece, shown, among, is, stands)) = inr (piece, shown, inr among, is, stand_right (looks_at place piece shown) behind (part_steps row k place t) stands)
parts_spoil row k place (p ∷ ps) (t ∷ ts) o (at, part, inr (not_won, none, same)) lost = by t.outcome refl
  where
    in_all : (mine : List Step) → StandIn mine (looks_at place t.piece t.shown) → StandIn mine (parts_steps row k place (t ∷ ts))
    in_all mine stands =
        stand_left mine (part_steps row k place t) (parts_steps row (k + 1) place ts)
        (stand_left mine (looks_at place t.piece t.shown) (won_steps row k place t.piece t.outcome) stands)

    by : (q : Outcome) → t.outcome ≡ q → TakenIn (p ∷ ps) place (parts_steps row k place (t ∷ ts)) ⊎ ContendedIn (p ∷ ps) place (parts_steps row k place (t ∷ ts))
    by Won e = absurd (not_won e)
    by Refused e =
        let taken = (subst (IsOutcome t.piece t.shown) e part.outcome).1 in
        let last = look_at place t.piece taken.1 in
        let looks : looks_at place t.piece t.shown ≡ looks_at place t.piece taken.0 ++ last ∷ [] =
        ap (looks_at place t.piece) taken.4 ∙ map-append (λ (word : ℕ). look_at place t.piece word) taken.0 (taken.1 ∷ []) in
        inl (t.piece, taken.1, inl at, taken.3, in_all (last ∷ []) (looks_at place t.piece taken.0, [], looks))
    by Contended e = inr (
      t.piece,
      t.shown,
      inl at,
      record { some = part.some; moving = part.moving; outcome = subst (IsOutcome t.piece t.shown) e part.outcome },
      in_all (looks_at place t.piece t.shown) ([], [], sym (append-nil (looks_at place t.piece t.shown))),
    )

try_spoils : (span : Interval) (row k : ℕ) (t : Try) → IsTry span t → t.outcome ≢ Won → Spoils span t.place (try_steps row k t)
try_spoils span row k t is lost = by (parts_spoil row k t.place (pieces span) t.parts t.outcome is lost)
  where
    by : TakenIn (pieces span) t.place (parts_steps row k t.place t.parts) ⊎ ContendedIn (pieces span) t.place (parts_steps row k t.place t.parts) → Spoils span t.place (try_steps row k t)
    by (inl (piece, word, among, taken, stands)) =
        inl (piece, word, among, taken, stand_left (look_at t.place piece word ∷ []) (parts_steps row k t.place t.parts) (undone row k t.outcome t.parts) stands)
    by (inr (piece, shown, among, part, stands)) =
        inr (piece, shown, among, part, stand_left (looks_at t.place piece shown) (parts_steps row k t.place t.parts) (undone row k t.outcome t.parts) stands)

one_lost : (span : Interval) (row k place : ℕ) (tries : List Try) (left : List ℕ) → place ∷ [] ≡ tried tries ++ left → 1 ≤ length tries → length (places_won tries) < 1 → AllByRecursion (IsTry span) tries
    → Spoils span place (tries_steps row k span tries)
one_lost span row k place [] left is some none each = absurd (omega (arith, some))
one_lost span row k place (t ∷ u ∷ tries) left is some none each = absurd (let l = ap length is in let m = length-append (tried tries) left in omega (arith, l, m))
one_lost span row k place (t ∷ []) left is some none each =
    let same : place ≡ t.place = cc in
    let lost = λ (won : t.outcome ≡ Won). not_none t.place t.outcome won none in
    subst (λ (p : ℕ). Spoils span p (tries_steps row k span (t ∷ []))) (sym same)
    (spoils_by span t.place (try_steps row k t) (try_steps row k t ++ []) (λ mine. stand_left mine (try_steps row k t) []) (try_spoils span row k t each.0 lost))
  where
    not_none : (place : ℕ) (o : Outcome) → o ≡ Won → length (place_won place o ++ []) < 1 → ⊥
    not_none place Won e none = omega (arith, none)
    not_none place Refused e none = absurd (let f : Refused ≡ Won = e in cc)
    not_none place Contended e none = absurd (let f : Contended ≡ Won = e in cc)

adds_spoil : (span : Interval) (row k place : ℕ) (answer : Added) (won : List Item) (es : List Step) → Adds row k span 1 (place ∷ []) answer won es → answer ≢ added.All → Spoils span place es
adds_spoil span row k place added.All won es a stopped = absurd (stopped refl)
adds_spoil span row k place (added.NoPlace n) won es a stopped =
    let is : place ∷ [] ≡ tried a.tries ++ [] = a.adding.3 ∙ sym (append-nil (tried a.tries)) in
    let some : 1 ≤ length a.tries = let l = ap length a.adding.3 in let m = length-map a.tries (λ (t : Try). t.place) in omega (arith, l, m) in
    let none : length (places_won a.tries) < 1 = let many = a.adding.1 in let few = a.adding.2 in omega (arith, many, few) in
    subst (Spoils span place) (sym a.steps) (one_lost span row k place a.tries [] is some none a.each)
adds_spoil span row k place (added.Contended p) won es a stopped =
    let ends = a.adding.0.0 in
    let some : 1 ≤ length a.tries = let l = ap length ends.are in let m = length-append ends.before (ends.last ∷ []) in omega (arith, l, m) in
    subst (Spoils span place) (sym a.steps) (one_lost span row k place a.tries a.adding.2.0 a.adding.2.1 some a.adding.1 a.each)

-- where a stretch lies, by a place among the candidates: behind it, over it, or in front

ends_by : (s back xs left : List ℕ) (p : ℕ) → s ++ back ≡ xs ++ p ∷ left → IsIn p s ⊎ ((b : List ℕ) × (xs ≡ s ++ b))
ends_by [] back xs left p e = inr (xs, refl)
ends_by (y ∷ s) back [] left p e = inl (inl (let f : p ≡ y = cc in f))
ends_by (y ∷ s) back (x ∷ xs) left p e =
    let first : y ≡ x = cc in
    let rest : s ++ back ≡ xs ++ p ∷ left = cc in
    further first (ends_by s back xs left p rest)
  where
    further : y ≡ x → IsIn p s ⊎ ((b : List ℕ) × (xs ≡ s ++ b)) → IsIn p (y ∷ s) ⊎ ((b : List ℕ) × (x ∷ xs ≡ (y ∷ s) ++ b))
    further first (inl at) = inl (inr at)
    further first (inr (b, is)) = inr (b, (λ i. sym first i ∷ is i))

abbrev LiesBehind : List ℕ → List ℕ → List ℕ → Type 0
LiesBehind s back left = (f : List ℕ) × (left ≡ f ++ (s ++ back))

abbrev LiesBefore : List ℕ → List ℕ → List ℕ → Type 0
LiesBefore f s xs = (b : List ℕ) × (xs ≡ f ++ (s ++ b))

lies : (f s back xs left : List ℕ) (p : ℕ) → f ++ (s ++ back) ≡ xs ++ p ∷ left → LiesBehind s back left ⊎ (IsIn p s ⊎ LiesBefore f s xs)
lies [] s back xs left p e = by (ends_by s back xs left p e)
  where
    by : IsIn p s ⊎ ((b : List ℕ) × (xs ≡ s ++ b)) → LiesBehind s back left ⊎ (IsIn p s ⊎ LiesBefore [] s xs)
    by (inl at) = inr (inl at)
    by (inr before) = inr (inr before)
lies (y ∷ f) s back [] left p e = inl (f, (let g : left ≡ f ++ (s ++ back) = cc in g))
lies (y ∷ f) s back (x ∷ xs) left p e =
    let first : y ≡ x = cc in
    let rest : f ++ (s ++ back) ≡ xs ++ p ∷ left = cc in
    further first (lies f s back xs left p rest)
  where
    further : y ≡ x → LiesBehind s back left ⊎ (IsIn p s ⊎ LiesBefore f s xs) → LiesBehind s back left ⊎ (IsIn p s ⊎ LiesBefore (y ∷ f) s (x ∷ xs))
    further first (inl behind) = inl behind
    further first (inr (inl at)) = inr (inl at)
    further first (inr (inr (b, is))) = inr (inr (b, (λ i. sym first i ∷ is i)))

-- over the tries

apart_spoils : (g : Party) (here : List ℕ) (answer : PartyAdded) (won : List Item) (es : List Step) → SitsApart g here answer won es → (s : List ℕ) → IsStretch g.places g.count here s → IsSpoilt g.span es s
apart_spoils g here answer won es a s is =
    let looks = stretch_looked g.places g.count g.span a.looked a.looked [] a.looks is.front s is.back a.looks_are (sym (append-nil a.looked)) a.none.none (sym a.none.all ∙ is.are) is.many is.beside in
    spoilt_by g.span a.looks es s (λ mine at. subst (StandIn mine) (sym a.are) (stand_left mine a.looks a.adds at)) looks

-- a try that failed: a stretch of the candidates behind it, or one that is spoilt
fails_spoils : (g : Party) (here left : List ℕ) (es : List Step) → Fails g here left es → (s : List ℕ) → IsStretch g.places g.count here s → IsStretch g.places g.count left s ⊎ IsSpoilt g.span es s
fails_spoils g here left es f s is = by (lies is.front s is.back front left l.place at)
  where
    ends : EndsFree g.places g.count f.looked
    ends = f.found.ends

    l : Loses g.row g.items g.span (places_looked ends.stretch) f.won f.tries
    l = f.loses

    -- what was looked at in front of the place that was lost
    front : List ℕ
    front = places_looked ends.front ++ l.before

    looked_is : places_looked f.looked ≡ front ++ l.place ∷ l.behind
    looked_is =
        ap places_looked ends.are ∙ (map-append (λ (x : Looked). x.place) ends.front ends.stretch
        ∙ (ap (λ (ps : List ℕ). places_looked ends.front ++ ps) l.stretch_is ∙ sym (append_assoc (places_looked ends.front) l.before (l.place ∷ l.behind))))

    at : is.front ++ (s ++ is.back) ≡ front ++ l.place ∷ left
    at =
        sym is.are ∙ (f.found.candidates_are ∙ (ap (λ (ps : List ℕ). ps ++ f.found.left) looked_is
        ∙ (append_assoc front (l.place ∷ l.behind) f.found.left ∙ ap (λ (ps : List ℕ). front ++ l.place ∷ ps) (sym f.left_is))))

    in_tries : (mine : List Step) → StandIn mine l.last → StandIn mine es
    in_tries mine stands =
        let tries = subst (StandIn mine) (sym l.are) (stand_right mine l.last l.takes stands) in
        subst (StandIn mine) (sym f.are) (stand_right mine (f.tries ++ gives_down g.row g.items (length f.won)) f.looks (stand_left mine f.tries (gives_down g.row g.items (length f.won)) tries))

    in_looks : (mine : List Step) → StandIn mine f.looks → StandIn mine es
    in_looks mine stands = subst (StandIn mine) (sym f.are) (stand_left mine f.looks (f.tries ++ gives_down g.row g.items (length f.won)) stands)

    -- they lie in front of the last one looked at
    before_last : (b : List ℕ) → front ≡ is.front ++ (s ++ b) → (c : List ℕ) × (places_looked f.found.before ≡ is.front ++ (s ++ c))
    before_last b are = by_end (by_last (l.place ∷ l.behind))
      where
        whole : (ps : List ℕ) (p : ℕ) → l.place ∷ l.behind ≡ ps ++ p ∷ [] → places_looked f.found.before ++ f.found.last.place ∷ [] ≡ (front ++ ps) ++ p ∷ []
        whole ps p e =
            sym (map-append (λ (x : Looked). x.place) f.found.before (f.found.last ∷ []))
            ∙ (sym (ap places_looked f.found.are) ∙ (looked_is ∙ (ap (λ (qs : List ℕ). front ++ qs) e ∙ sym (append_assoc front ps (p ∷ [])))))

        by_end : (l.place ∷ l.behind ≡ []) ⊎ ((ps : List ℕ) × (p : ℕ) × (l.place ∷ l.behind ≡ ps ++ p ∷ [])) → (c : List ℕ) × (places_looked f.found.before ≡ is.front ++ (s ++ c))
        by_end (inl none) = absurd (let e : l.place ∷ l.behind ≡ [] = none in cc)
        by_end (inr (ps, p, e)) = (
          b ++ ps,
          (same_last (places_looked f.found.before) (front ++ ps) f.found.last.place p (whole ps p e)).0
              ∙ (ap (λ (qs : List ℕ). qs ++ ps) are ∙ (append_assoc is.front (s ++ b) ps ∙ ap (λ (qs : List ℕ). is.front ++ qs) (append_assoc s b ps))),
        )

    by : LiesBehind s is.back left ⊎ (IsIn l.place s ⊎ LiesBefore is.front s front) → IsStretch g.places g.count left s ⊎ IsSpoilt g.span es s
    by (inl (a, are)) = inl (record { front = a; back = is.back; are = are; many = is.many; beside = is.beside })
    by (inr (inl inside)) = inr (
      l.place,
      inside,
      spoils_by g.span l.place l.last es in_tries (adds_spoil g.span g.row (g.items + length f.won) l.place l.answer [] l.last l.last_are l.stopped),
    )
    by (inr (inr (b, are))) =
        let c = before_last b are in
        inr (spoilt_by g.span f.looks es s in_looks
        (stretch_looked g.places g.count g.span f.looked f.found.before (f.found.last ∷ []) f.looks is.front s c.0 f.looks_are f.found.are f.found.none c.1 is.many is.beside))

tries_spoil : (g : Party) (here : List ℕ) (lefts : List (List ℕ)) (answer : PartyAdded) (won : List Item) (es : List Step) → TriesFrom g here lefts answer won es
    → ((first : PlaceNo) → answer ≢ party.Together first) → (s : List ℕ) → IsStretch g.places g.count here s → IsSpoilt g.span es s
tries_spoil g here [] (party.Together first) won es did apart s is = absurd (apart first refl)
tries_spoil g here [] party.Apart won es did apart s is = apart_spoils g here party.Apart won es did s is
tries_spoil g here [] (party.NoPlace n) won es did apart s is = apart_spoils g here (party.NoPlace n) won es did s is
tries_spoil g here [] (party.Contended p) won es did apart s is = apart_spoils g here (party.Contended p) won es did s is
tries_spoil g here (left ∷ lefts) answer won es (mine, more, fails, rest, are) apart s is = by (fails_spoils g here left mine fails s is) (tries_spoil g left lefts answer won more rest apart s)
  where
    by : IsStretch g.places g.count left s ⊎ IsSpoilt g.span mine s → (IsStretch g.places g.count left s → IsSpoilt g.span more s) → IsSpoilt g.span es s
    by (inl further) later = spoilt_by g.span more es s (λ steps at. subst (StandIn steps) (sym are) (stand_right steps more mine at)) (later further)
    by (inr spoilt) later = spoilt_by g.span mine es s (λ steps at. subst (StandIn steps) (sym are) (stand_left steps mine more at)) spoilt

-- what the call answers has its cause
pub spoils_all : (g : Party) (answer : PartyAdded) (won : List Item) (es : List Step) → SeatsParty g answer won es → SpoilsAll g answer es
spoils_all g (party.Together first) won es did = tt
spoils_all g party.Apart won es did = tries_spoil g g.candidates did.0 party.Apart won es did.1 (λ first e. let f : party.Apart ≡ party.Together first = e in cc)
spoils_all g (party.NoPlace n) won es did = tries_spoil g g.candidates did.0 (party.NoPlace n) won es did.1 (λ first e. let f : party.NoPlace n ≡ party.Together first = e in cc)
spoils_all g (party.Contended p) won es did = tries_spoil g g.candidates did.0 (party.Contended p) won es did.1 (λ first e. let f : party.Contended p ≡ party.Together first = e in cc)
