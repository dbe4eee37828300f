-- How many steps a command has that takes places.
use Rattle.std.proofs.Common.{◌≡◌, ℕ, zero, suc, ◌+◌, ◌-◌, ◌*◌, ◌≤◌, ◌<◌, inl, inr, Bool, true, false, List, [], ◌∷◌, ◌++◌, length, None, Some, refl, sym, ap, ◌∙◌, subst, arith, append-nil, append_assoc, length-append}
use Rattle.std.proofs.lemmas.List.{length-map}
use Rattle.std.proofs.Math.Nat.{mul-le-mul_left, mul-le-mul_right}
use Rattle.leg_masks.specs.Interval.{Interval, pieces}
use Rattle.leg_masks.specs.Interval.{PlacedSpan as Item}
use Rattle.leg_masks.proofs.HalfLegs.{pieces_some}
use Rattle.rail_ids.specs.declared.RowNo.{RowNo}
use Rattle.history_model.specs.History.{IsLegal, IsLegalFrom, entry, state_of}
use Rattle.history_model.specs.declared.entry.Entry.{Entry}
use Rattle.history_model.specs.declared.entry.Step.{Step}
use Rattle.history_model.specs.declared.entry.Step.TheVariants.{SawRow, Seal, Start}
use Rattle.history_model.specs.declared.phase.Phase.TheVariants.{Prebooked}
use Rattle.history_model.proofs.Forward.{legal_right}
use Rattle.history_model.proofs.Seen.{legal-rest}
use Rattle.claim_rule.specs.Rule.{DeskView}
use Rattle.claim_rule.specs.Desks.{AddsAtMost, AddsSteps}
use Rattle.claim_rule.proofs.Shapes.{adds_length, shape_rest}
use Rattle.booking_rows.specs.Notes.{detail_notes}
use Rattle.booking_rows.specs.Starts.{AreMissesFrom, Misses, Passed, StartsHold, misses_steps, search_steps}
use Rattle.hold_core.specs.Places.{Adds, IsAdding, gives_back, items_won, tried, tries_steps, won_by}
use Rattle.hold_core.specs.Tries.{Try, items_tried}
use Rattle.hold_core.specs.declared.adds.Added.{Added}
use Rattle.hold_core.specs.declared.adds.Added.TheVariants as added
use Rattle.hold_core.specs.declared.tries.Outcome.{Outcome}
use Rattle.hold_core.specs.declared.tries.Outcome.TheVariants.{Won, Refused, Contended}
use Rattle.hold_core.proofs.Adding.{tries_length}
use Rattle.party_places.specs.Parties.{EndsTries, Fails, Party, SitsApart, SitsTogether, TakesEach, TriesFrom, gives_down}
use Rattle.party_places.specs.Searches.{Looked, LooksAtEach, places_looked}
use Rattle.party_places.specs.declared.party.PartyAdded.{PartyAdded}
use Rattle.party_places.specs.declared.party.PartyAdded.TheVariants as party
use Rattle.train_runs.specs.declared.segment.Segment.{Segment}
use Rattle.offer_codes.specs.Offers.{OfferView, offer_view}
use Rattle.offer_codes.specs.Exchanges.{ExchangeView, exchange_view}
use Rattle.catalogue_contents.specs.Contents.{CatalogueView}
use Rattle.osdm_texts.specs.Answers.{Reply}
use Rattle.reservation_service.specs.Holding.{AddsSegment, GivesUp, HoldsPlaces, PlacesAll, candidates_in, party_at}
use Rattle.reservation_service.specs.Reserving.{FailsToHold, Reserves, detail_of, reserved}
use Rattle.reservation_service.specs.declared.holding.Placing.{Placing}
use Rattle.exchange_core.specs.Ready.{ReadyView}
use Rattle.exchange_core.specs.declared.readying.Readied.TheVariants as readied
use Rattle.exchange_core.proofs.Exchanging.{exchange_bound}
use Rattle.trade_service.specs.Exchanges.{AnswersAcceptedExchange, CarriesOut, DecidesOrNot, ready_of}
use Rattle.service_laws.specs.Bounded.{CommandsAreBounded, booked_most, candidates_on, placed_most, segment_most, starts_most}
use Rattle.service_rules.specs.Ordered as order
use Rattle.booking_service.specs.Deciding.{ConfirmsFound, FulfilsFound, ReleasesFound, shows}
use Rattle.trade_service.specs.Refunds.{RefundsFound}
use Rattle.service_laws.proofs.Bounding.{at_most, confirms_few, exchange_quotes_few, fulfils_few, lists_few, most_then, no_more, on_booking, pieces_looked, readies_few, refund_quotes_few, refunds_few, releases_few, searches_few, shows_few, sweep_few}
use Rattle.expiry_sweeper.proofs.Own.{around}

-- adding places

won_few : (span : Interval) (ts : List Try) → length (items_won span ts) ≤ 2 * length ts
won_few span [] = omega arith
won_few span (t ∷ ts) =
    let a = length-append (won_by span t) (items_won span ts) in
    let b = one t.place t.outcome in
    let c = won_few span ts in
    omega (arith, a, b, c)
  where
    one : (p : ℕ) (o : Outcome) → length (items_tried p span o) ≤ 2
    one p Won = let a = (pieces_some span).1 in let f : Interval → Item = λ piece. record { place = p; span = piece } in let b = length-map (pieces span) f in omega (arith, a, b)
    one p Refused = omega arith
    one p Contended = omega arith

tried_few : (ts : List Try) (left cs : List ℕ) → cs ≡ tried ts ++ left → length ts ≤ length cs
tried_few ts left cs is =
    let a : length cs ≡ length (tried ts) + length left = ap length is ∙ length-append (tried ts) left in
    let b = length-map ts (λ (t : Try). t.place) in
    omega (arith, a, b)

adding_few : (span : Interval) (count : ℕ) (cs : List ℕ) (ts : List Try) (a : Added) → IsAdding span count cs ts a → length ts ≤ length cs
adding_few span count cs ts added.All (ends, many, (left, is)) = tried_few ts left cs is
adding_few span count cs ts (added.NoPlace won) (settled, many, few, is) = tried_few ts [] cs (is ∙ sym (append-nil (tried ts)))
adding_few span count cs ts (added.Contended place) (ends, few, (left, is)) = tried_few ts left cs is

adds_few : (row k : ℕ) (span : Interval) (count : ℕ) (cs : List ℕ) (a : Added) (won : List Item) (es : List Step) → Adds row k span count cs a won es → (length es ≤ 20 * length cs) × (length won ≤ 2 * length cs)
adds_few row k span count cs a won es so =
    let few = adding_few span count cs so.tries a so.adding in
    let b = tries_length row k span so.tries so.each in
    let c : length es ≡ length (tries_steps row k span so.tries) = ap length so.steps in
    let d = won_few span so.tries in
    let e : length won ≡ length (items_won span so.tries) = ap length so.items in
    (omega (arith, few, b, c), omega (arith, few, d, e))

-- a party

takes_few : (row k : ℕ) (span : Interval) (ps : List ℕ) (won : List Item) (es : List Step) → TakesEach row k span ps won es → (length es ≤ 20 * length ps) × (length won ≤ 2 * length ps)
takes_few row k span [] won es (none, is) = (subst (λ (l : List Step). length l ≤ 0) (sym is) (omega arith), subst (λ (l : List Item). length l ≤ 0) (sym none) (omega arith))
takes_few row k span (p ∷ ps) won es (mine, more, first, others, one, rest, is, are) =
    let a = adds_few row k span 1 (p ∷ []) added.All mine first one in
    let b = takes_few row (k + length mine) span ps more others rest in
    let c : length es ≡ length first + length others = ap length are ∙ length-append first others in
    let d : length won ≡ length mine + length more = ap length is ∙ length-append mine more in
    let a0 = a.0 in
    let a1 = a.1 in
    let b0 = b.0 in
    let b1 = b.1 in
    (omega (arith, a0, b0, c), omega (arith, a1, b1, d))

down_few : (row k n : ℕ) → length (gives_down row k n) ≡ n
down_few row k zero = refl
down_few row k (suc n) = ap suc (down_few row k n)

each_few : (span : Interval) (ls : List Looked) (es : List Step) → LooksAtEach span ls es → length es ≤ 2 * length ls
each_few span [] es is = subst (λ (l : List Step). length l ≤ 0) (sym is) (omega arith)
each_few span (l ∷ ls) es (mine, more, one, rest, is) =
    let a = pieces_looked l.place (pieces span) l.free mine one in
    let b = (pieces_some span).1 in
    let c = each_few span ls more rest in
    let d : length es ≡ length mine + length more = ap length is ∙ length-append mine more in
    omega (arith, a, b, c, d)

-- a stretch that was found lies within the candidates that were looked at
found_few : (here left : List ℕ) (front stretch looked : List Looked) → here ≡ places_looked looked ++ left → looked ≡ front ++ stretch → length here ≡ length front + length (places_looked stretch) + length left
found_few here left front stretch looked is are =
    let a : length here ≡ length (places_looked looked) + length left = ap length is ∙ length-append (places_looked looked) left in
    let b = length-map looked (λ (l : Looked). l.place) in
    let c : length looked ≡ length front + length stretch = ap length are ∙ length-append front stretch in
    let d = length-map stretch (λ (l : Looked). l.place) in
    omega (arith, a, b, c, d)

fails_few : (g : Party) (here left : List ℕ) (es : List Step) → Fails g here left es → (length es ≤ 24 * length here) × (length left < length here)
fails_few g here left es so =
    let l = so.loses in
    let ends = so.found.ends in
    let stretch = places_looked ends.stretch in
    let a = found_few here so.found.left ends.front ends.stretch so.looked so.found.candidates_are ends.are in
    let b : length stretch ≡ length l.before + suc (length l.behind) = ap length l.stretch_is ∙ length-append l.before (l.place ∷ l.behind) in
    let c : length left ≡ length l.behind + length so.found.left = ap length so.left_is ∙ length-append l.behind so.found.left in
    let d = each_few g.span so.looked so.looks so.looks_are in
    let e : length so.looked ≡ length ends.front + length ends.stretch = ap length ends.are ∙ length-append ends.front ends.stretch in
    let f = length-map ends.stretch (λ (x : Looked). x.place) in
    let t = takes_few g.row g.items g.span l.before so.won l.takes l.takes_are in
    let t0 = t.0 in
    let t1 = t.1 in
    let m = (adds_few g.row (g.items + length so.won) g.span 1 (l.place ∷ []) l.answer [] l.last l.last_are).0 in
    let n : length so.tries ≡ length l.takes + length l.last = ap length l.are ∙ length-append l.takes l.last in
    let down = gives_down g.row g.items (length so.won) in
    let k = down_few g.row g.items (length so.won) in
    let p : length es ≡ length so.looks + length (so.tries ++ down) = ap length so.are ∙ length-append so.looks (so.tries ++ down) in
    let q = length-append so.tries down in
    (omega (arith, a, b, d, e, f, t0, t1, m, n, k, p, q), omega (arith, a, b, c))

together_few : (g : Party) (here : List ℕ) (first : ℕ) (won : List Item) (es : List Step) → SitsTogether g here first won es → (length es ≤ 22 * length here) × (length won ≤ 2 * length here)
together_few g here first won es so =
    let ends = so.found.ends in
    let a = found_few here so.found.left ends.front ends.stretch so.looked so.found.candidates_are ends.are in
    let d = each_few g.span so.looked so.looks so.looks_are in
    let e : length so.looked ≡ length ends.front + length ends.stretch = ap length ends.are ∙ length-append ends.front ends.stretch in
    let f = length-map ends.stretch (λ (x : Looked). x.place) in
    let t = takes_few g.row g.items g.span (places_looked ends.stretch) won so.takes so.takes_are in
    let t0 = t.0 in
    let t1 = t.1 in
    let p : length es ≡ length so.looks + length so.takes = ap length so.are ∙ length-append so.looks so.takes in
    (omega (arith, a, d, e, f, t0, p), omega (arith, a, t1))

apart_few : (g : Party) (here : List ℕ) (answer : PartyAdded) (won : List Item) (es : List Step) → length here ≤ length g.candidates → SitsApart g here answer won es → (length es ≤ 22 * length g.candidates) × (length won ≤ 2 * length g.candidates)
apart_few g here answer won es within so =
    let d = each_few g.span so.looked so.looks so.looks_are in
    let a : length here ≡ length so.looked = ap length so.none.all ∙ length-map so.looked (λ (x : Looked). x.place) in
    let t = adds_few g.row g.items g.span g.count g.candidates so.added won so.adds so.adds_are in
    let t0 = t.0 in
    let t1 = t.1 in
    let p : length es ≡ length so.looks + length so.adds = ap length so.are ∙ length-append so.looks so.adds in
    (omega (arith, a, d, t0, p, within), t1)

ends_few : (g : Party) (here : List ℕ) (answer : PartyAdded) (won : List Item) (es : List Step) → length here ≤ length g.candidates → EndsTries g here answer won es → (length es ≤ 22 * length g.candidates) × (length won ≤ 2 * length g.candidates)
ends_few g here (party.Together first) won es within so = let t = together_few g here first.0 won es so in let t0 = t.0 in let t1 = t.1 in (omega (arith, t0, within), omega (arith, t1, within))
ends_few g here party.Apart won es within so = apart_few g here party.Apart won es within so
ends_few g here (party.NoPlace n) won es within so = apart_few g here (party.NoPlace n) won es within so
ends_few g here (party.Contended place) won es within so = apart_few g here (party.Contended place) won es within so

square : (h k : ℕ) → k < h → k * k + h ≤ h * h
square zero k less = absurd (omega (arith, less))
square (suc h) k less =
    let few : k ≤ h = omega (arith, less) in
    let a = mul-le-mul_right k few in
    let b = mul-le-mul_left h few in
    omega (arith, a, b)

tries_few : (g : Party) (here : List ℕ) (lefts : List (List ℕ)) (answer : PartyAdded) (won : List Item) (es : List Step) → length here ≤ length g.candidates → TriesFrom g here lefts answer won es → (length es ≤ 24 * (length here * length here) + 22 * length g.candidates) × (length won ≤ 2 * length g.candidates)
tries_few g here [] answer won es within so = let t = ends_few g here answer won es within so in let t0 = t.0 in (omega (arith, t0), t.1)
tries_few g here (left ∷ lefts) answer won es within (mine, more, fails, rest, is) =
    let a = fails_few g here left mine fails in
    let a0 = a.0 in
    let a1 = a.1 in
    let b = tries_few g left lefts answer won more (omega (arith, a1, within)) rest in
    let b0 = b.0 in
    let c = square (length here) (length left) a1 in
    let d : length es ≡ length mine + length more = ap length is ∙ length-append mine more in
    (omega (arith, a0, b0, c, d), b.1)

-- a segment, and all of them

segment_few : (cat : CatalogueView) (o : OfferView) (together : Bool) (row : RowNo) (items : List Item) (s : Segment) (p : Placing) (won : List Item) (old new : DeskView) → AddsSegment cat o together row items s p won old new
    → AddsAtMost (segment_most cat o together s) old new × (length won ≤ 2 * length (candidates_in cat o s)) × (new.number ≡ old.number)
segment_few cat o false row items s p won old new (answer, is, (es, so, did)) =
    let t = adds_few row.row (length items) s.span _ (candidates_in cat o s) answer won es so in
    (adds_length old new es (20 * length (candidates_in cat o s)) did t.0, t.1, did.same.2)
segment_few cat o true row items s p won old new (answer, is, (es, (lefts, so), did), spoils) =
    let c = candidates_in cat o s in
    let t = tries_few (party_at cat o row (length items) s) c lefts answer won es (omega arith) so in
    (adds_length old new es (24 * (length c * length c) + 22 * length c) did t.0, t.1, did.same.2)

placed_few : (cat : CatalogueView) (o : OfferView) (together : Bool) (row : RowNo) (items : List Item) (ss : List Segment) (p : Placing) (all : List Item) (old new : DeskView) → PlacesAll cat o together row items ss p all old new
    → AddsAtMost (placed_most cat o together ss) old new × (length all ≤ length items + 2 * candidates_on cat o ss) × (new.number ≡ old.number)
placed_few cat o together row items [] p all old new (whole, same, is) =
    (subst (AddsAtMost 0 old) (sym is) (no_more old 0), subst (λ (l : List Item). length l ≤ length items + 2 * 0) (sym same) (omega arith), ap (λ (d : DeskView). d.number) is)
placed_few cat o together row items (s ∷ ss) p all old new (inl (mine, won, mid, one, inl (whole, rest))) =
    let a = segment_few cat o together row items s mine won old mid one in
    let b = placed_few cat o together row (items ++ won) ss p all mid new rest in
    let a1 = a.1 in
    let b1 = b.1 in
    let c = length-append items won in
    (most_then old mid new (segment_most cat o together s) (placed_most cat o together ss) a.2 a.0 b.0, omega (arith, a1, b1, c), b.2 ∙ a.2)
placed_few cat o together row items (s ∷ ss) p all old new (inl (mine, won, mid, one, inr (short, is, are, same))) =
    let a = segment_few cat o together row items s mine won old mid one in
    let a1 = a.1 in
    let c : length all ≡ length items + length won = ap length are ∙ length-append items won in
    let few = at_most old mid (segment_most cat o together s) (segment_most cat o together s + placed_most cat o together ss) (omega arith) a.0 in
    (subst (AddsAtMost (segment_most cat o together s + placed_most cat o together ss) old) (sym same) few, omega (arith, a1, c), ap (λ (d : DeskView). d.number) same ∙ a.2)
placed_few cat o together row items (s ∷ ss) p all old new (inr (none, same, is, party, wish)) = (
  subst (AddsAtMost (segment_most cat o together s + placed_most cat o together ss) old) (sym is) (no_more old (segment_most cat o together s + placed_most cat o together ss)),
  subst (λ (l : List Item). length l ≤ length items + 2 * (length (candidates_in cat o s) + candidates_on cat o ss)) (sym same) (omega arith),
  ap (λ (d : DeskView). d.number) is,
)

-- a row

misses_few : (from last : ℕ) (ms : Misses) → AreMissesFrom from last ms → length ms ≤ last - from
misses_few from last [] are = omega arith
misses_few from last ((row, word) ∷ ms) (a, b, c, rest) = let d = misses_few (row + 1) last ms rest in omega (arith, a, b, d)

missed : (ms : Misses) → length (misses_steps ms) ≡ length ms
missed [] = refl
missed ((row, word) ∷ ms) = ap suc (missed ms)

passed_few : (row : ℕ) (ps : List Passed) → length (search_steps row ps) ≤ 2 * length ps
passed_few row [] = omega arith
passed_few row ((n, None) ∷ ps) = let a = passed_few (suc row) ps in omega (arith, a)
passed_few row ((n, Some m) ∷ ps) = let a = passed_few (suc row) ps in omega (arith, a)

-- a row that was started is one of the books
started_row : (old new : DeskView) (xs ys : List Step) (row generation : ℕ) → AddsSteps old new (xs ++ Start row generation ∷ ys) → row < new.layout.rows
started_row old new xs ys row generation did =
    let g = new.layout in
    let d = old.number in
    let start = Start row generation in
    let x = shape_rest old new (xs ++ start ∷ ys) did in
    let a = around d did.front.0 xs start ys x.1 in
    let s = state_of g old.seen in
    let l : IsLegalFrom g s (a.before ++ entry d start ∷ a.after) = subst (λ (k : List Entry). IsLegalFrom g s k) a.is (legal-rest g old.seen did.front.0 (subst (IsLegal g) (sym did.front.1) did.legal)) in
    (legal_right g s a.before (entry d start ∷ a.after) l).0.0

start_few : (old new : DeskView) (row : RowNo) (es : List Step) → AddsSteps old new es → StartsHold old new (Some row) es → length es ≤ 3 * new.layout.rows + 2
start_few old new row es did (inl (makes, is)) = subst (λ (l : List Step). length l ≤ 3 * new.layout.rows + 2) (sym is) (omega arith)
start_few old new row es did (inr (inl (none, first, least, (ms, are, is)))) =
    let here = started_row old new (misses_steps ms) [] row.row 0 (subst (AddsSteps old new) is did) in
    let a = misses_few old.past row.row ms are in
    let b = missed ms in
    let c : length es ≡ length (misses_steps ms) + 1 = ap length is ∙ length-append (misses_steps ms) (Start row.row 0 ∷ []) in
    omega (arith, here, a, b, c)
start_few old new row es did (inr (inr (none, full, (ms, rest, are, (n, may, next, (passed, many, each, steps)), is)))) =
    let looks = misses_steps ms ++ (search_steps 0 passed ++ SawRow row.row 0 n ∷ []) in
    let whole : es ≡ looks ++ Start row.row row.generation ∷ [] = is ∙ (ap (λ (l : List Step). misses_steps ms ++ l) (steps ∙ sym (append_assoc (search_steps 0 passed) (SawRow row.row 0 n ∷ []) (Start row.row row.generation ∷ [])))
    ∙ sym (append_assoc (misses_steps ms) (search_steps 0 passed ++ SawRow row.row 0 n ∷ []) (Start row.row row.generation ∷ []))) in
    let here = started_row old new looks [] row.row row.generation (subst (AddsSteps old new) whole did) in
    let a = misses_few old.past new.layout.rows ms are in
    let b = missed ms in
    let c = passed_few 0 passed in
    let d : length es ≡ length (misses_steps ms) + length rest = ap length is ∙ length-append (misses_steps ms) rest in
    let e : length rest ≡ length (search_steps 0 passed) + 2 = ap length steps ∙ length-append (search_steps 0 passed) (SawRow row.row 0 n ∷ Start row.row row.generation ∷ []) in
    omega (arith, here, a, b, c, d, e, many)

no_start : (old new : DeskView) (es : List Step) → StartsHold old new None es → length es ≤ 3 * new.layout.rows + 2
no_start old new es (none, full, (ms, rest, are, (passed, many, each, steps), is)) =
    let a = misses_few old.past new.layout.rows ms are in
    let b = missed ms in
    let c = passed_few 0 passed in
    let d : length es ≡ length (misses_steps ms) + length rest = ap length is ∙ length-append (misses_steps ms) rest in
    let e : length rest ≡ length (search_steps 0 passed) = ap length steps in
    omega (arith, a, b, c, d, e, many)

-- the places of an offer

held_few : (cat : CatalogueView) (o : OfferView) (together : Bool) (ss : List Segment) (row : RowNo) (p : Placing) (items : List Item) (rows : ℕ) (old new : DeskView) → old.layout.rows ≡ rows → HoldsPlaces cat o together ss row p items old new
    → AddsAtMost (starts_most rows + placed_most cat o together ss) old new × (length items ≤ 2 * candidates_on cat o ss) × (new.number ≡ old.number)
held_few cat o together ss row p items rows old new size (mid, (es, starts, did), placed) =
    let a = start_few old mid row es did starts in
    let n : mid.layout.rows ≡ rows = ap (λ l. l.rows) did.same.1 ∙ size in
    let few = adds_length old mid es (starts_most rows) did (subst (λ (k : ℕ). length es ≤ 3 * k + 2) n a) in
    let b = placed_few cat o together row [] ss p items mid new placed in
    let b1 = b.1 in
    (most_then old mid new (starts_most rows) (placed_most cat o together ss) did.same.2 few b.0, omega (arith, b1), b.2 ∙ did.same.2)

gave_few : (row n : ℕ) → length (gives_back row n) ≡ n
gave_few row zero = refl
gave_few row (suc n) = ap suc (gave_few row n)

back_few : (row : RowNo) (items : List Item) (n : ℕ) (old new : DeskView) → length items ≤ n → GivesUp row items old new → AddsAtMost n old new
back_few row items n old new few did = adds_length old new (gives_back row.row (length items)) n did (let a = gave_few row.row (length items) in omega (arith, a, few))

module _ (cat : CatalogueView) (o : OfferView) (together : Bool) (old new : DeskView) (size : old.layout.rows ≡ cat.rows) where
  gives_up_few : (row : RowNo) (p : Placing) (items : List Item) (mid : DeskView) → HoldsPlaces cat o together o.segments row p items old mid → GivesUp row items mid new → AddsAtMost (booked_most cat o together) old new
  gives_up_few row p items mid held back =
      let a = held_few cat o together o.segments row p items cat.rows old mid size held in
      most_then old mid new (starts_most cat.rows + placed_most cat o together o.segments) (2 * candidates_on cat o o.segments + 5) a.2 a.0
      (at_most mid new (2 * candidates_on cat o o.segments) (2 * candidates_on cat o o.segments + 5) (omega arith) (back_few row items (2 * candidates_on cat o o.segments) mid new a.1 back))

  pub fails_to_hold_few : (reply : Reply) → FailsToHold cat o together old new reply → AddsAtMost (booked_most cat o together) old new
  fails_to_hold_few reply (inl ((es, none, did), is)) =
      let a = no_start old new es none in
      let n : new.layout.rows ≡ cat.rows = ap (λ l. l.rows) did.same.1 ∙ size in
      adds_length old new es (booked_most cat o together) did (let b : length es ≤ 3 * cat.rows + 2 = subst (λ (k : ℕ). length es ≤ 3 * k + 2) n a in omega (arith, b))
  fails_to_hold_few reply (inr (row, p, reason, items, mid, held, why, back, is)) = gives_up_few row p items mid held back

  pub reserves_few : (retailer now : ℕ) (reply : Reply) → Reserves cat retailer now o together old new reply → AddsAtMost (booked_most cat o together) old new
  reserves_few retailer now reply (inl (row, items, mid, held, did, is)) =
      let a = held_few cat o together o.segments row _ items cat.rows old mid size held in
      let notes = detail_notes row.row (detail_of cat o retailer now) (length items) ++ Seal row.row Prebooked ∷ [] in
      most_then old mid new (starts_most cat.rows + placed_most cat o together o.segments) (2 * candidates_on cat o o.segments + 5) a.2 a.0
      (adds_length mid new notes (2 * candidates_on cat o o.segments + 5) did (omega arith))
  reserves_few retailer now reply (inr (inl short)) = fails_to_hold_few reply short
  reserves_few retailer now reply (inr (inr ((row, items, mid, held, back), is))) = gives_up_few row _ items mid held back

-- an exchange

decides_few : (cat : CatalogueView) (ready : ReadyView) (row : RowNo) (items : List Item) (n : ℕ) (d : _) (old new : DeskView) (reply : Reply) → length items ≤ n → DecidesOrNot ready row items d old new reply → AddsAtMost (n + 108) old new
decides_few cat ready row items n d old new reply few (inr (back, is)) = at_most old new n (n + 108) (omega arith) (back_few row items n old new few back)
decides_few cat ready row items n d old new reply few (inl (noted, did, inl (made, difference, accepts, seals, is))) =
    let a = adds_length old noted (detail_notes row.row d (length items)) 4 did (omega arith) in
    at_most old new 107 (n + 108) (omega arith) (most_then old noted new 4 103 did.same.2 a (exchange_bound noted new ready row made difference accepts))
decides_few cat ready row items n d old new reply few (inl (noted, did, inr (shown, hold, lost, (es, loses, more), back, is))) =
    let a = adds_length old noted (detail_notes row.row d (length items)) 4 did (omega arith) in
    let b = adds_length noted lost es 1 more (let k : length es ≡ 1 = ap length loses.3 in omega (arith, k)) in
    let c = most_then old lost new 5 n (more.same.2 ∙ did.same.2) (most_then old noted lost 4 1 did.same.2 a b) (back_few row items n lost new few back) in
    at_most old new (5 + n) (n + 108) (omega arith) c

carries_few : (cat : CatalogueView) (ready : ReadyView) (old new : DeskView) (reply : Reply) → old.layout.rows ≡ cat.rows → CarriesOut cat ready old new reply → AddsAtMost (booked_most cat ready.code.offer false + 103) old new
carries_few cat ready old new reply size (inl fails) =
    let o = ready.code.offer in
    at_most old new (booked_most cat o false) (booked_most cat o false + 103) (omega arith) (fails_to_hold_few cat o false old new size reply fails)
carries_few cat ready old new reply size (inr (row, items, held, holds, decides)) =
    let o = ready.code.offer in
    let a = held_few cat o false o.segments row _ items cat.rows old held size holds in
    let n = 2 * candidates_on cat o o.segments in
    at_most old new (starts_most cat.rows + placed_most cat o false o.segments + (n + 108)) (booked_most cat o false + 103) (omega arith)
    (most_then old held new (starts_most cat.rows + placed_most cat o false o.segments) (n + 108) a.2 a.0 (decides_few cat ready row items n _ held new reply a.1 decides))

exchanges_few : (cat : CatalogueView) (retailer now : ℕ) (code : ExchangeView) (old new : DeskView) (reply : Reply) → old.layout.rows ≡ cat.rows → AnswersAcceptedExchange cat cat.rows retailer code now old new reply → AddsAtMost (57 + (booked_most cat code.offer false + 103)) old new
exchanges_few cat retailer now code old new reply size (inl (a, p, (es, so, did), why, is)) =
    at_most old new 57 (57 + (booked_most cat code.offer false + 103)) (omega arith) (adds_length old new es 57 did (readies_few cat cat.rows retailer code now a es old new did so))
exchanges_few cat retailer now code old new reply size (inr (mid, (es, so, did), carries)) =
    most_then old mid new 57 (booked_most cat code.offer false + 103) did.same.2 (adds_length old mid es 57 did (readies_few cat cat.rows retailer code now (readied.Fine (ready_of retailer code now)) es old mid did so))
    (carries_few cat (ready_of retailer code now) mid new reply (ap (λ l. l.rows) did.same.1 ∙ size) carries)

-- the commands

pub commands_bounded : CommandsAreBounded
commands_bounded cat books retailer now (order.offers wish) reply old new of rows did = searches_few cat wish now old new reply did
commands_bounded cat books retailer now (order.book code together) reply old new of rows did =
    reserves_few cat (offer_view code) together old new (ap (λ l. l.rows) of.layout ∙ sym rows) retailer now reply did
commands_bounded cat books retailer now (order.reserve r) reply old new of rows did =
    reserves_few cat (reserved r.segment r.class r.count r.traits now) r.together old new (ap (λ l. l.rows) of.layout ∙ sym rows) retailer now reply did
commands_bounded cat books retailer now (order.show row) reply old new of rows did =
    on_booking cat.rows row retailer (shows row) 0 old new reply (λ v mid does. shows_few row reply v mid new does) did
commands_bounded cat books retailer now (order.release row) reply old new of rows did =
    on_booking cat.rows row retailer (ReleasesFound cat.rows row retailer now) 105 old new reply (λ v mid does. releases_few cat.rows row retailer now reply v mid new does) did
commands_bounded cat books retailer now (order.confirm row) reply old new of rows did =
    on_booking cat.rows row retailer (ConfirmsFound cat.rows row retailer now) 6 old new reply (λ v mid does. confirms_few cat.rows row retailer now reply v mid new does) did
commands_bounded cat books retailer now (order.fulfil row) reply old new of rows did =
    on_booking cat.rows row retailer (FulfilsFound cat.rows row retailer) 6 old new reply (λ v mid does. fulfils_few cat.rows row retailer reply v mid new does) did
commands_bounded cat books retailer now (order.quote_refund row) reply old new of rows did = refund_quotes_few cat cat.rows row retailer now old new reply did
commands_bounded cat books retailer now (order.accept_refund code) reply old new of rows did =
    on_booking cat.rows code.row retailer (RefundsFound cat cat.rows retailer code now) 159 old new reply (λ v mid does. refunds_few cat cat.rows retailer code now reply v mid new does) did
commands_bounded cat books retailer now (order.quote_exchange row code) reply old new of rows did = exchange_quotes_few cat cat.rows row retailer (offer_view code) now old new reply did
commands_bounded cat books retailer now (order.accept_exchange code) reply old new of rows did =
    exchanges_few cat retailer now (exchange_view code) old new reply (ap (λ l. l.rows) of.layout ∙ sym rows) did
commands_bounded cat books retailer now (order.places segment) reply old new of rows did = lists_few cat segment old new reply did
commands_bounded cat books retailer now order.sweep reply old new of rows did = sweep_few cat.rows now old new reply did
