-- A station that is added is one more.
use Rattle.std.proofs.Common.{◌≡◌, ℕ, ◌+◌, Bool, true, false, List, [], ◌∷◌, ◌++◌, length, if◌then◌else◌, Result, Ok, Err, sym, ap, ◌∙◌, length-append, is_some}
use Rattle.std.specs.Prelude.{nat_le}
use Rattle.std.specs.Result.{result_unwrap_or}
use Rattle.train_runs.specs.declared.station.StationFault.{StationFault}
use Rattle.train_runs.specs.declared.station.StationFault.TheVariants.{BadCode, DoubleCode, TooManyStations}
use Rattle.train_runs.specs.Stations.{StationView, is_code, station_with, with_station}

one_more : (a b c : Bool) (s : StationView) (ss ts : List StationView)
    → (if a then (if b then Err DoubleCode else (if c then Err TooManyStations else Ok (ss ++ s ∷ []))) else Err BadCode) ≡ Ok ts → length ts ≡ length ss + 1
one_more true true c s ss ts h = absurd cc
one_more true false true s ss ts h = absurd cc
one_more true false false s ss ts h = sym (ap (λ (r : Result (List StationView) StationFault). length (result_unwrap_or r [])) h) ∙ length-append ss (s ∷ [])
one_more false b c s ss ts h = absurd cc

pub length-with_station : (ss ts : List StationView) (code : List ℕ) (change : ℕ) → with_station ss code change ≡ Ok ts → length ts ≡ length ss + 1
length-with_station ss ts code change h = one_more (is_code code) (is_some (station_with code ss)) (nat_le 65_536 (length ss)) (record { code = code; change = change }) ss ts h
