-- Codes of stations are texts, and each is found under its number.
use Rattle.std.proofs.Common.{◌≡◌, ℕ, suc, ◌+◌, ◌<◌, ◌&&◌, Bool, true, false, List, [], ◌∷◌, ◌++◌, length, Option, Some, None, refl, cond, length-append, sym, ap, ◌∙◌, subst, arith, nat_le, true≢false, if◌then◌else◌}
use Rattle.std.specs.List.{list_all}
use Rattle.std.specs.Str.{bytes_eq, IsUtf8}
use Rattle.std.proofs.lemmas.Bool.Decides.{nat_tests}
use Rattle.std.proofs.lemmas.Slice.Eq.{bytes_eq-Decides}
use Rattle.std.proofs.lemmas.Str.{IsUtf8-from_ascii}
use Rattle.std.proofs.lemmas.Str.Ascii.{IsAscii-from_all}
use Rattle.std.proofs.lemmas.List.Sums.{AllPass-from_list_all}
use Rattle.std.specs.Option.{option_or}
use Rattle.std.specs.Prelude.{IfSome}
use Rattle.rail_ids.specs.declared.StationNo.{StationNo}
use Rattle.train_runs.specs.Stops.{RunView, IsRun}
use Rattle.train_runs.specs.Runs.{RunsView, AreSound}
use Rattle.train_runs.specs.Stations.{StationView, is_code, is_code_byte, number_from, station_with}

pub both : (a b : Bool) → (a && b) ≡ true → (a ≡ true) × (b ≡ true)
both true b h = (refl, h)
both false b h = absurd (true≢false (sym h))

low : (b : ℕ) → is_code_byte b ≡ true → b < 128
low b h = grind (arith, nat_tests)

pub text_of_code : (code : List ℕ) → is_code code ≡ true → IsUtf8 code
text_of_code code h =
    let few = both (nat_le 1 (length code)) _ h in
    let bytes = both (nat_le (length code) 8) (list_all is_code_byte code) few.1 in
    IsUtf8-from_ascii code (IsAscii-from_all code (λ k d inside. low _ (AllPass-from_list_all is_code_byte code bytes.1 k d inside)))

abbrev last_of : ℕ → List ℕ → StationView → Option StationNo
last_of n code last = if bytes_eq last.code code then Some (record { 0 = n }) else None

-- a code is found among stations and a further one, where it isn't found before, as that one's
pub number_from-append : (n : ℕ) (code : List ℕ) (stations : List StationView) (last : StationView)
    → number_from n code (stations ++ last ∷ []) ≡ option_or (number_from n code stations) (last_of (n + length stations) code last)
number_from-append n code [] last = let e : n + 0 ≡ n = omega arith in rw e refl
number_from-append n code (s ∷ rest) last =
    let e : n + 1 + length rest ≡ n + length (s ∷ rest) = omega arith in
    by_test (bytes_eq s.code code) (number_from-append (n + 1) code rest last ∙ ap (λ (k : ℕ). option_or (number_from (n + 1) code rest) (last_of k code last)) e)
  where
    by_test : (b : Bool) → number_from (n + 1) code (rest ++ last ∷ []) ≡ option_or (number_from (n + 1) code rest) (last_of (n + length (s ∷ rest)) code last)
        → (if b then Some (record { 0 = n }) else number_from (n + 1) code (rest ++ last ∷ [])) ≡ option_or (if b then Some (record { 0 = n }) else number_from (n + 1) code rest) (last_of (n + length (s ∷ rest)) code last)
    by_test true later = refl
    by_test false later = later

or_none : (o : Option StationNo) → o ≡ option_or o None
or_none None = refl
or_none (Some x) = refl

-- the map that finds each code's number, with a further station
pub finds : (code : List ℕ) (stations : List StationView) (last : StationView) (old new : Option StationNo) → station_with last.code stations ≡ None
    → old ≡ station_with code stations → new ≡ cond (bytes_eq last.code code) (Some (record { 0 = length stations })) old → new ≡ station_with code (stations ++ last ∷ [])
finds code stations last old new fresh was is =
    let z : 0 + length stations ≡ length stations = omega arith in
    is ∙ (by_test (bytes_eq last.code code) refl ∙ sym (number_from-append 0 code stations last ∙ ap (λ (k : ℕ). option_or (station_with code stations) (last_of k code last)) z))
  where
    by_test : (b : Bool) → bytes_eq last.code code ≡ b → cond b (Some (record { 0 = length stations })) old ≡ option_or (station_with code stations) (if b then Some (record { 0 = length stations }) else None)
    by_test true e = let same : last.code ≡ code = (bytes_eq-Decides last.code code).0 e in let none : station_with code stations ≡ None = subst (λ (c : List ℕ). station_with c stations ≡ None) same fresh in rw none refl
    by_test false e = was ∙ or_none (station_with code stations)

codes_grow : (stations : List StationView) (last : StationView) → list_all (λ s. is_code s.code) stations ≡ true → is_code last.code ≡ true → list_all (λ s. is_code s.code) (stations ++ last ∷ []) ≡ true
codes_grow [] last all fine = rw fine refl
codes_grow (s ∷ rest) last all fine =
    let parts = both (is_code s.code) (list_all (λ (t : StationView). is_code t.code) rest) all in rw parts.0 (codes_grow rest last parts.1 fine)

known_grows : (n : ℕ) (run : RunView) → IsRun n run → IsRun (n + 1) run
known_grows n run r = record { few = r.few; many = r.many; risen = r.risen; apart = r.apart; known = λ k d h. let below = r.known k d h in omega arith }

-- the stations and runs stay sound with a further station
pub grows : (r : RunsView) (last : StationView) → AreSound r → length r.stations < 65_536 → is_code last.code ≡ true → AreSound (record { stations = r.stations ++ last ∷ []; runs = r.runs })
grows r last sound room fine =
    let n : length (r.stations ++ last ∷ []) ≡ length r.stations + 1 = length-append r.stations (last ∷ []) in
    record {
      stations = rw n (omega arith);
      runs = sound.runs;
      codes = codes_grow r.stations last sound.codes fine;
      each = λ k d h. rw n (known_grows (length r.stations) _ (sound.each k d h));
    }

below_test : (b : Bool) (n rest : ℕ) (k : StationNo) (later : Option StationNo) → (if b then Some (record { 0 = n }) else later) ≡ Some k → (later ≡ Some k → k.0 < n + 1 + rest) → k.0 < n + suc rest
below_test true n rest k later e h = let it : n ≡ k.0 = cc in omega arith
below_test false n rest k later e h = let below = h e in omega arith

-- the number that a code has is a station's
pub number_below : (n : ℕ) (code : List ℕ) (stations : List StationView) (k : StationNo) → number_from n code stations ≡ Some k → k.0 < n + length stations
number_below n code [] k e = absurd cc
number_below n code (s ∷ rest) k e = below_test (bytes_eq s.code code) n (length rest) k (number_from (n + 1) code rest) e (number_below (n + 1) code rest k)

pub known_of : (found : Option StationNo) (code : List ℕ) (stations : List StationView) → found ≡ station_with code stations → IfSome found (λ n. n.0 < length stations)
known_of None code stations e = tt
known_of (Some k) code stations e = let below = number_below 0 code stations k (sym e) in omega arith
