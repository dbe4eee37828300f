-- The bounds of rides: what is noted of them, which stations are marked, and what is gathered for a station's board.
use Rattle.std.proofs.Common.{◌≡◌, ◌∙◌, ℕ, ◌+◌, ◌-◌, ◌*◌, ◌<◌, ◌≤◌, ◌⊎◌, inl, inr, Bool, true, false, true≢false, List, [], ◌∷◌, length, Option, refl, sym, ap, subst, arith, get_or, set, min, nat_lt, if◌then◌else◌}
use Rattle.std.specs.Option.{option_map_or}
use Rattle.std.proofs.lemmas.Bool.{cases_lt}
use Rattle.std.proofs.lemmas.Bool.Decides.{nat_tests}
use Rattle.std.proofs.lemmas.List.{get_or-set_same, get_or-set_other}
use Rattle.std.proofs.lemmas.Nat.{same_from_place}
use Rattle.std.proofs.lemmas.Option.{slice_get_past}
use Rattle.train_runs.specs.declared.segment.Segment.{Segment}
use Rattle.train_runs.specs.declared.run.Stop.{Stop}
use Rattle.train_runs.specs.Stops.{RunView, stop_at}
use Rattle.train_runs.specs.Runs.{RunsView, stops_of}
use Rattle.train_runs.specs.declared.wish.TripWish.{TripWish}
use Rattle.trip_builder.specs.declared.ranks.FirstTwo.{FirstTwo}
use Rattle.trip_builder.specs.declared.rides.Rides.{Rides}
use Rattle.trip_builder.specs.Segments.{first_stop}
use Rattle.trip_builder.specs.Bounds.{unknown, LeadsTo, rank_of, RanksView, AreRanks, Precede, FirstsOfRide, FirstsOfStop, IsMarkedRun, AreMarked, KeepMarks, AreRides, AreUnknown}
use Rattle.trip_builder.proofs.Bounding.{unknown_precede}

-- ---- what is noted of the rides

pub unknown_rides : (r : RunsView) (w : TripWish) (v : RanksView) (changes : ℕ) (rides : Rides) → AreRanks r w v → AreUnknown rides → AreRides r w v changes rides
unknown_rides r w v changes rides ranks none = record {
  firsts = λ run stop s rest is_run is_stop count leads. subst (λ (x : FirstTwo). Precede x (rank_of v s rest)) (sym (none.firsts run stop)) (unknown_precede r w v ranks s rest leads);
  whole = λ is. absurd (true≢false (sym is ∙ none.all));
}

-- in a list of so many numbers for each run
abbrev in_width : ℕ → List FirstTwo → ℕ → ℕ → FirstTwo
in_width width firsts run stop = if nat_lt stop width then get_or firsts (run * width + stop) unknown else unknown

-- where two are set, the others stay
pub set_in : (width : ℕ) (firsts : List FirstTwo) (run stop : ℕ) (two : FirstTwo) → stop < width → run * width + stop < length firsts → (k n : ℕ)
    → (in_width width (set firsts (run * width + stop) two) k n ≡ in_width width firsts k n) ⊎ ((k ≡ run) × ((n ≡ stop) × (in_width width (set firsts (run * width + stop) two) k n ≡ two)))
set_in width firsts run stop two small inside k n = by_test (nat_lt n width) refl
  where
    place : ℕ
    place = run * width + stop

    new : List FirstTwo
    new = set firsts place two

    by_place : n < width → (k * width + n < place) ⊎ (place ≤ k * width + n) → (place < k * width + n) ⊎ (k * width + n ≤ place)
        → (get_or new (k * width + n) unknown ≡ get_or firsts (k * width + n) unknown) ⊎ ((k ≡ run) × ((n ≡ stop) × (get_or new (k * width + n) unknown ≡ two)))
    by_place low (inl less) other = inl (get_or-set_other firsts place (k * width + n) two unknown (λ is. omega (arith, less, is)))
    by_place low (inr past) (inl more) = inl (get_or-set_other firsts place (k * width + n) two unknown (λ is. omega (arith, more, is)))
    by_place low (inr past) (inr high) =
        let at : k * width + n ≡ place = omega (arith, past, high) in
        let same = same_from_place k n run stop width low small at in
        inr (same.0, (same.1, ap (λ m. get_or new m unknown) at ∙ get_or-set_same firsts place two unknown inside))

    by_test : (b : Bool) → nat_lt n width ≡ b
        → ((if b then get_or new (k * width + n) unknown else unknown) ≡ (if b then get_or firsts (k * width + n) unknown else unknown))
        ⊎ ((k ≡ run) × ((n ≡ stop) × ((if b then get_or new (k * width + n) unknown else unknown) ≡ two)))
    by_test true test = let low : n < width = grind (arith, nat_tests) in by_place low (cases_lt (k * width + n) place) (cases_lt place (k * width + n))
    by_test false test = inl refl

pub firsts_put : (r : RunsView) (w : TripWish) (v : RanksView) (changes : ℕ) (width : ℕ) (firsts : List FirstTwo) (run stop place : ℕ) (two : FirstTwo) → place ≡ run * width + stop → stop < width → place < length firsts
    → ((k n : ℕ) → FirstsOfRide r w v changes k n (in_width width firsts k n)) → FirstsOfRide r w v changes run stop two
    → (k n : ℕ) → FirstsOfRide r w v changes k n (in_width width (set firsts place two) k n)
firsts_put r w v changes width firsts run stop place two at small inside are own k n s rest is_run is_stop count leads =
    subst (λ p. Precede (in_width width (set firsts p two) k n) (rank_of v s rest)) (sym at) (by_place (set_in width firsts run stop two small (omega (arith, at, inside)) k n))
  where
    new : FirstTwo
    new = in_width width (set firsts (run * width + stop) two) k n

    by_place : (new ≡ in_width width firsts k n) ⊎ ((k ≡ run) × ((n ≡ stop) × (new ≡ two))) → Precede new (rank_of v s rest)
    by_place (inl same) = subst (λ (x : FirstTwo). Precede x (rank_of v s rest)) (sym same) (are k n s rest is_run is_stop count leads)
    by_place (inr here) = subst (λ (x : FirstTwo). Precede x (rank_of v s rest)) (sym here.1.1) (own s rest (is_run ∙ here.0) (is_stop ∙ here.1.0) count leads)

-- ---- marks

pub still_so : (r : RunsView) (w : TripWish) (v : RanksView) (changes run : ℕ) (old new : List Bool) → KeepMarks old new → IsMarkedRun r w v changes run old → IsMarkedRun r w v changes run new
still_so r w v changes run old new keep was s rest is count leads less = keep (first_stop r s).station.0 (was s rest is count leads less)

-- a run that isn't known has no stop
pub past_marked : (r : RunsView) (w : TripWish) (v : RanksView) (changes count : ℕ) (marks : List Bool) → count ≡ length r.runs → ((run : ℕ) → run < count → IsMarkedRun r w v changes run marks)
    → AreMarked r w v changes marks
past_marked r w v changes count marks is each run = by_place (cases_lt run count)
  where
    by_place : (run < count) ⊎ (count ≤ run) → IsMarkedRun r w v changes run marks
    by_place (inl less) = each run less
    by_place (inr past) = λ s rest is_run many leads low. absurd (
        let none : length (stops_of r run) ≡ 0 = ap (λ (o : Option RunView). length (option_map_or (λ (it : RunView). it.stops) o [])) (slice_get_past r.runs run (omega (arith, is, past))) in
        let ends : s.span.to < length (stops_of r run) = subst (λ n. s.span.to < length (stops_of r n)) is_run leads.known.0.ends in
        omega (arith, none, ends)
        )

-- ---- a run, from its last stop on

-- what gets off the run at one of its last stops
abbrev pub FirstsFrom : RunsView → TripWish → RanksView → ℕ → ℕ → ℕ → FirstTwo → ℕ → Type 0
FirstsFrom r w v changes run stops two back = (s : Segment) (rest : List Segment) → s.run.0 ≡ run → s.span.to < stops → stops ≤ s.span.to + back → length rest ≡ changes → LeadsTo r w s rest → Precede two (rank_of v s rest)

pub ride_firsts : (r : RunsView) (w : TripWish) (v : RanksView) (changes run stops : ℕ) (two : FirstTwo) (back stop : ℕ) → stops ≡ length (stops_of r run) → back < stops → stop ≡ stops - 1 - back
    → FirstsFrom r w v changes run stops two back → FirstsOfRide r w v changes run stop two
ride_firsts r w v changes run stops two back stop whole fits at further s rest is_run is_stop count leads =
    let up = leads.known.0.rises in
    let ends : s.span.to < length (stops_of r run) = subst (λ n. s.span.to < length (stops_of r n)) is_run leads.known.0.ends in
    further s rest is_run (omega (arith, ends, whole)) (omega (arith, up, is_stop, at, fits)) count leads

pub firsts_more : (r : RunsView) (w : TripWish) (v : RanksView) (changes run stops : ℕ) (old new : FirstTwo) (back stop : ℕ) (off : Stop) → back < stops → stop ≡ stops - 1 - back → stop_at (stops_of r run) stop ≡ off
    → ((rank : ℕ) → Precede old rank → Precede new rank) → FirstsOfStop r w v changes off new → FirstsFrom r w v changes run stops old back → FirstsFrom r w v changes run stops new (back + 1)
firsts_more r w v changes run stops old new back stop off fits at there left own further s rest is_run inside low count leads = by_place (cases_lt stop s.span.to)
  where
    by_place : (stop < s.span.to) ⊎ (s.span.to ≤ stop) → Precede new (rank_of v s rest)
    by_place (inl past) = left (rank_of v s rest) (further s rest is_run inside (omega (arith, past, fits, at)) count leads)
    by_place (inr less) =
        let here : s.span.to ≡ stop = omega (arith, less, low, fits, at) in
        own s rest (ap (λ n. stop_at (stops_of r n) s.span.to) is_run ∙ (ap (λ n. stop_at (stops_of r run) n) here ∙ there)) count leads

-- the stations of the last stops, where something leaves in time, are marked
abbrev pub MarkedFrom : RunsView → TripWish → RanksView → ℕ → ℕ → ℕ → List Bool → ℕ → Type 0
MarkedFrom r w v changes run stops marks back = (s : Segment) (rest : List Segment) → s.run.0 ≡ run → stops ≤ s.span.from + back → length rest ≡ changes → LeadsTo r w s rest → rank_of v s rest < v.late
    → get_or marks (first_stop r s).station.0 true ≡ true

pub marked_more : (r : RunsView) (w : TripWish) (v : RanksView) (changes run stops : ℕ) (old new : List Bool) (two : FirstTwo) (back stop late : ℕ) (off : Stop) → back < stops → stop ≡ stops - 1 - back
    → stop_at (stops_of r run) stop ≡ off → late ≡ v.late → FirstsOfRide r w v changes run stop two → KeepMarks old new → (two.first < late → get_or new off.station.0 true ≡ true)
    → MarkedFrom r w v changes run stops old back → MarkedFrom r w v changes run stops new (back + 1)
marked_more r w v changes run stops old new two back stop late off fits at there last own stay mark further s rest is_run low count leads less = by_place (cases_lt stop s.span.from)
  where
    by_place : (stop < s.span.from) ⊎ (s.span.from ≤ stop) → get_or new (first_stop r s).station.0 true ≡ true
    by_place (inl past) = stay (first_stop r s).station.0 (further s rest is_run (omega (arith, past, fits, at)) count leads less)
    by_place (inr high) =
        let here : s.span.from ≡ stop = omega (arith, high, low, fits, at) in
        let is : first_stop r s ≡ off = ap (λ n. stop_at (stops_of r n) s.span.from) is_run ∙ (ap (λ n. stop_at (stops_of r run) n) here ∙ there) in
        let first = (own s rest is_run here count leads).1.0 in
        subst (λ (x : Stop). get_or new x.station.0 true ≡ true) (sym is) (mark (omega (arith, first, less, last)))

pub run_marked : (r : RunsView) (w : TripWish) (v : RanksView) (changes run stops : ℕ) (marks : List Bool) (back : ℕ) → stops ≤ back → MarkedFrom r w v changes run stops marks back → IsMarkedRun r w v changes run marks
run_marked r w v changes run stops marks back all further s rest is_run count leads less = further s rest is_run (omega (arith, all)) count leads less

-- ---- a ride, from its next stop on

-- what takes the run at the one stop and gets off before the other
abbrev pub FirstsBelow : RunsView → TripWish → RanksView → ℕ → ℕ → ℕ → ℕ → FirstTwo → Type 0
FirstsBelow r w v changes run from below two = (s : Segment) (rest : List Segment) → s.run.0 ≡ run → s.span.from ≡ from → s.span.to < below → length rest ≡ changes → LeadsTo r w s rest → Precede two (rank_of v s rest)

pub below_more : (r : RunsView) (w : TripWish) (v : RanksView) (changes run from stop : ℕ) (old new : FirstTwo) (off : Stop) → stop_at (stops_of r run) stop ≡ off → ((rank : ℕ) → Precede old rank → Precede new rank)
    → FirstsOfStop r w v changes off new → FirstsBelow r w v changes run from stop old → FirstsBelow r w v changes run from (stop + 1) new
below_more r w v changes run from stop old new off there left own before s rest is_run is_stop high count leads = by_place (cases_lt s.span.to stop)
  where
    by_place : (s.span.to < stop) ⊎ (stop ≤ s.span.to) → Precede new (rank_of v s rest)
    by_place (inl less) = left (rank_of v s rest) (before s rest is_run is_stop less count leads)
    by_place (inr past) =
        let here : s.span.to ≡ stop = omega (arith, high, past) in
        own s rest (ap (λ n. stop_at (stops_of r n) s.span.to) is_run ∙ (ap (λ n. stop_at (stops_of r run) n) here ∙ there)) count leads

pub below_all : (r : RunsView) (w : TripWish) (v : RanksView) (changes run from below : ℕ) (two : FirstTwo) → length (stops_of r run) ≤ below → FirstsBelow r w v changes run from below two → FirstsOfRide r w v changes run from two
below_all r w v changes run from below two all before s rest is_run is_stop count leads =
    let ends : s.span.to < length (stops_of r run) = subst (λ n. s.span.to < length (stops_of r n)) is_run leads.known.0.ends in
    before s rest is_run is_stop (omega (arith, ends, all)) count leads

-- ---- a run without a change

pub least_is : (many a b : ℕ) → many ≡ min a b → (many ≡ a) ⊎ (many ≡ b)
least_is many a b is = by_place (cases_lt a b)
  where
    by_place : (a < b) ⊎ (b ≤ a) → (many ≡ a) ⊎ (many ≡ b)
    by_place (inl less) = inl (omega (arith, is, less))
    by_place (inr past) = inr (omega (arith, is, past))

pub last_marked : (r : RunsView) (w : TripWish) (v : RanksView) (run last : ℕ) (stops : List Stop) (marks : List Bool) (many : ℕ) → stops ≡ stops_of r run
    → ((s : Segment) → s.run.0 ≡ run → LeadsTo r w s [] → rank_of v s [] < v.late → s.span.to ≡ last) → (many ≡ last) ⊎ (many ≡ length stops)
    → ((k : ℕ) → k < many → get_or marks (stop_at stops k).station.0 true ≡ true) → IsMarkedRun r w v 0 run marks
last_marked r w v run last stops marks many same ends_at is marked s (t ∷ rest) is_run count leads less = absurd (omega (arith, count))
last_marked r w v run last stops marks many same ends_at is marked s [] is_run count leads less =
    let at = ends_at s is_run leads less in
    let up = leads.known.0.rises in
    let ends : s.span.to < length stops = subst (λ (l : List Stop). s.span.to < length l) (sym same) (subst (λ n. s.span.to < length (stops_of r n)) is_run leads.known.0.ends) in
    let here : stop_at stops s.span.from ≡ first_stop r s = ap (λ (l : List Stop). stop_at l s.span.from) same ∙ ap (λ n. stop_at (stops_of r n) s.span.from) (sym is_run) in
    subst (λ (x : Stop). get_or marks x.station.0 true ≡ true) here (marked s.span.from (by_size at up ends is))
  where
    by_size : s.span.to ≡ last → s.span.from < s.span.to → s.span.to < length stops → (many ≡ last) ⊎ (many ≡ length stops) → s.span.from < many
    by_size at up ends (inl e) = omega (arith, at, up, e)
    by_size at up ends (inr e) = omega (arith, up, ends, e)
