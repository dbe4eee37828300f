-- A catalogue out of an outline and the runs beside it.
use Rattle.std.proofs.Common.{◌≡◌, ℕ, suc, ◌≤◌, List, [], ◌∷◌, length, get_or, codes, Option, Some, None, MatchOption, IfSome, is_some, true, Result, Ok, Err, IfOk, option_map, option_and_then, IsUtf8, refl, sym, ap, ◌∙◌, arith}
use Rattle.std.specs.Option.{option_map_or}
use Rattle.serde_json.specs.Data.{Data, array, Items as DataItems, no_items, item}
use Rattle.serde_json.specs.Events.{items_len}
use Rattle.serde_json.specs.Find.{get, as_object}
use Rattle.json_text.specs.declared.items.Items.{Items}
use Rattle.json_text.specs.Ahead.{ahead, IsListOf}
use Rattle.json_text.specs.Outlines.{IsOutline}
use Rattle.tariff.specs.Refunds.{RefundTerms}
use Rattle.train_runs.specs.Stations.{StationView}
use Rattle.rail_catalogue.specs.declared.fault.CatalogueFault.{CatalogueFault}
use Rattle.rail_catalogue.specs.Faults.{Fault, Refuses, fault_of, field, need, after}
use Rattle.rail_catalogue.specs.Format.{HeadingView, NetworkView, heading_of, network_from, network_of, contents_in, catalogue_of}
use Rattle.rail_catalogue.specs.Json.{data_of, list_of, if_so_many}
use Rattle.rail_catalogue.specs.Listed.{all_ahead, AreListed}
use Rattle.rail_catalogue.specs.Networks.{front_in, start_of, runs_at, with_runs}
use Rattle.catalogue_contents.specs.Retailers.{RetailerView}
use Rattle.rail_catalogue.specs.Retailers.{retailers_of}
use Rattle.rail_catalogue.specs.Stations.{stations_of}
use Rattle.rail_catalogue.specs.Steps.{terms_of}
use Rattle.rail_catalogue.proofs.JsonFacts.{json_of-some}

need_same : {A C : Type 0} (path : List ℕ) (a b : Option A) (r : Result C Fault) → is_some a ≡ is_some b → need path a (λ _. r) ≡ need path b (λ _. r)
need_same path None None r e = refl
need_same path None (Some y) r e = absurd (cc)
need_same path (Some x) None r e = absurd (cc)
need_same path (Some x) (Some y) r e = refl

module _ {text : List ℕ} {kept : Data} {place : Option ℕ} (o : IsOutline (codes "runs") text kept place) where
  currency_same : get (codes "currency") o.whole ≡ get (codes "currency") kept
  currency_same = o.others (codes "currency") (λ h. let letters : 99 ≡ 114 = ap (λ (l : List ℕ). get_or l 0 0) h in omega (arith, letters))

  rows_same : get (codes "rows") o.whole ≡ get (codes "rows") kept
  rows_same = o.others (codes "rows") (λ h. let letters : 111 ≡ 117 = ap (λ (l : List ℕ). get_or l 1 0) h in omega (arith, letters))

  confirm_same : get (codes "confirmSeconds") o.whole ≡ get (codes "confirmSeconds") kept
  confirm_same = o.others (codes "confirmSeconds") (λ h. let letters : 111 ≡ 117 = ap (λ (l : List ℕ). get_or l 1 0) h in omega (arith, letters))

  retailers_same : get (codes "retailers") o.whole ≡ get (codes "retailers") kept
  retailers_same = o.others (codes "retailers") (λ h. let letters : 101 ≡ 117 = ap (λ (l : List ℕ). get_or l 1 0) h in omega (arith, letters))

  stations_same : get (codes "stations") o.whole ≡ get (codes "stations") kept
  stations_same = o.others (codes "stations") (λ h. let letters : 116 ≡ 117 = ap (λ (l : List ℕ). get_or l 1 0) h in omega (arith, letters))

  steps_same : get (codes "refundSteps") o.whole ≡ get (codes "refundSteps") kept
  steps_same = o.others (codes "refundSteps") (λ h. let letters : 101 ≡ 117 = ap (λ (l : List ℕ). get_or l 1 0) h in omega (arith, letters))

  ticket_same : get (codes "ticketFee") o.whole ≡ get (codes "ticketFee") kept
  ticket_same = o.others (codes "ticketFee") (λ h. let letters : 105 ≡ 117 = ap (λ (l : List ℕ). get_or l 1 0) h in omega (arith, letters))

  exchange_same : get (codes "exchangeFee") o.whole ≡ get (codes "exchangeFee") kept
  exchange_same = o.others (codes "exchangeFee") (λ h. let letters : 120 ≡ 117 = ap (λ (l : List ℕ). get_or l 1 0) h in omega (arith, letters))

  heading_same : heading_of o.whole ≡ heading_of kept
  heading_same = rw (currency_same, rows_same, confirm_same) (need_same [] (as_object o.whole) (as_object kept) _ o.kind)

  terms_same : (confirm : ℕ) → terms_of confirm o.whole ≡ terms_of confirm kept
  terms_same confirm = rw (steps_same, ticket_same, exchange_same)

split_terms : (h : HeadingView) (r : List RetailerView) (s : List StationView) (terms : Result RefundTerms Fault) (member : Option Data)
    → after terms (λ t. with_runs (record { heading = h; retailers = r; stations = s; terms = t }) member)
    ≡ after (after terms (λ t. Ok (record { heading = h; retailers = r; stations = s; terms = t }))) (λ f. with_runs f member)
split_terms h r s (Err e) member = refl
split_terms h r s (Ok t) member = refl

-- what is read one after another, and the runs last
split : (heading : Result HeadingView Fault) (retailers : Result (List RetailerView) Fault) (stations : Result (List StationView) Fault) (terms : ℕ → Result RefundTerms Fault) (member : Option Data)
    → after heading (λ h. after retailers (λ r. after stations (λ s. after (terms h.confirm_seconds) (λ t. with_runs (record { heading = h; retailers = r; stations = s; terms = t }) member))))
    ≡ after (after heading (λ h. after retailers (λ r. after stations (λ s. after (terms h.confirm_seconds) (λ t. Ok (record { heading = h; retailers = r; stations = s; terms = t })))))) (λ f. with_runs f member)
split (Err e) retailers stations terms member = refl
split (Ok h) (Err e) stations terms member = refl
split (Ok h) (Ok r) (Err e) terms member = refl
split (Ok h) (Ok r) (Ok s) terms member = split_terms h r s (terms h.confirm_seconds) member

module _ {text : List ℕ} {kept : Data} {place : Option ℕ} (o : IsOutline (codes "runs") text kept place) where
  front_same : front_in o.whole ≡ front_in kept
  front_same = rw (heading_same o, retailers_same o, stations_same o, steps_same o, ticket_same o, exchange_same o)

  pub front_read : IsUtf8 text → catalogue_of text ≡ after (front_in kept) (λ f. with_runs f (runs_at place text))
  front_read utf8 =
      ap contents_in (json_of-some text o.whole utf8 o.read)
      ∙ split (heading_of o.whole) (retailers_of (get (codes "retailers") o.whole)) (stations_of (get (codes "stations") o.whole)) (λ c. terms_of c o.whole) (get (codes "runs") o.whole)
      ∙ ap (λ m. after (front_in o.whole) (λ f. with_runs f m)) o.left
      ∙ ap (λ r. after r (λ f. with_runs f (runs_at place text))) front_same

-- ---- the list of runs

length-data_of : (ds : DataItems) → length (data_of ds) ≡ items_len ds
length-data_of no_items = refl
length-data_of (item d ds) = ap suc (length-data_of ds)

there_at : (member : Option Data) (o : Option DataItems) → is_some member ≡ true → member ≡ option_map array o → is_some o ≡ true
there_at member None h e = sym (ap is_some e) ∙ h
there_at member (Some ds) h e = refl

list_at : (member : Option Data) (o : Option DataItems) → is_some member ≡ true → member ≡ option_map array o → list_of member ≡ Some (option_map_or data_of o [])
list_at member None h e = absurd (cc)
list_at member (Some ds) h e = ap list_of e

few_at : (o : Option DataItems) → IfSome o (λ ds. items_len ds ≤ 9_223_372_036_854_775_807) → length (option_map_or data_of o []) ≤ 9_223_372_036_854_775_807
few_at None h = omega arith
few_at (Some ds) h = omega (arith, h, length-data_of ds)

pub found : (l : Option Items) (member : Option Data) → is_some member ≡ true → IsListOf member l → IfSome (option_and_then ahead l) (λ ds. items_len ds ≤ 9_223_372_036_854_775_807)
    → MatchOption l (list_of member ≡ None) (λ i. AreListed member i)
found None member h e few = ap (option_map data_of) e
found (Some l) member h e few = record {
  there = there_at member (ahead l) h e;
  list = list_at member (ahead l) h e;
  few = few_at (ahead l) few;
}

-- what holds of each answer, out of two things that do
pub of_answer : {A E : Type 0} (P S Q : A → Type 0) → ((a : A) → P a → S a → Q a) → (r : Result A E) → IfOk r P → IfOk r S → IfOk r Q
of_answer P S Q h (Ok a) p s = h a p s
of_answer P S Q h (Err e) p s = tt

pub none_left : (l : Items) → ahead l ≡ Some no_items → all_ahead l ≡ []
none_left l e = ap (λ o. option_map_or data_of o []) e

one_less : (a b : Option DataItems) (d : Data) → is_some a ≡ true → a ≡ option_map (item d) b → option_map_or data_of a [] ≡ d ∷ option_map_or data_of b []
one_less a None d h e = absurd (cc)
one_less a (Some ds) d h e = ap (λ o. option_map_or data_of o []) e

so_many : (ds : List Data) → 1 ≤ length ds → length ds ≤ 9_223_372_036_854_775_807 → if_so_many 1 9_223_372_036_854_775_807 ds ≡ Some ds
so_many ds h i = grind arith

pub network_all : (stations : List StationView) (member : Option Data) (l : Items) → AreListed member l → 1 ≤ length (all_ahead l) → network_of stations member ≡ network_from (start_of stations) 0 (all_ahead l)
network_all stations member l a h =
    ap (λ m. need (codes "runs") (option_and_then (if_so_many 1 9_223_372_036_854_775_807) m) (network_from (start_of stations) 0)) a.list
    ∙ ap (λ m. need (codes "runs") m (network_from (start_of stations) 0)) (so_many (all_ahead l) h a.few)

no_runs : (ds : List Data) → length ds ≡ 0 → if_so_many 1 9_223_372_036_854_775_807 ds ≡ None
no_runs [] h = refl
no_runs (d ∷ ds) h = let never : ⊥ = omega arith in absurd never

some_run : (start : NetworkView) (ds : List Data) (f : Fault) → network_from start 0 ds ≡ Err f → 1 ≤ length ds
some_run start [] f e = absurd (cc)
some_run start (d ∷ ds) f e = omega arith

pub network_refused : (stations : List StationView) (member : Option Data) (l : Items) (f : Fault) → AreListed member l → network_from (start_of stations) 0 (all_ahead l) ≡ Err f → network_of stations member ≡ Err f
network_refused stations member l f a e = network_all stations member l a (some_run (start_of stations) (all_ahead l) f e) ∙ e

-- ---- faults

pub passes_on : (o : Option Fault) (P Q : Fault → Type 0) → ((f : Fault) → P f → Q f) → IfSome o P → IfSome o Q
passes_on None P Q h p = tt
passes_on (Some f) P Q h p = h f p

pub refuses_on : {A B C : Type 0} (a : Result A Fault) (b : Result B Fault) → ((f : Fault) → a ≡ Err f → b ≡ Err f) → (r : Result C CatalogueFault) → Refuses a r → Refuses b r
refuses_on a b h (Ok x) p = tt
refuses_on a b h (Err e) p = passes_on (fault_of e) (λ f. a ≡ Err f) (λ f. b ≡ Err f) h p

pub front_refused : {text : List ℕ} {kept : Data} {place : Option ℕ} (o : IsOutline (codes "runs") text kept place) → IsUtf8 text → (f : Fault) → front_in kept ≡ Err f → catalogue_of text ≡ Err f
front_refused {text} {kept} {place} o utf8 f e = front_read o utf8 ∙ ap (λ r. after r (λ x. with_runs x (runs_at place text))) e
