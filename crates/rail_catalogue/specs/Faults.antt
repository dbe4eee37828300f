-- Faults as contracts see them, with their paths as texts, and how a reading goes on or ends.
use Rattle.std.specs.Prelude.{ℕ, List, ◌++◌, Option, Some, None, Result, Ok, Err, codes, decimal, string_bytes, ◌≡◌, IfErr, IfSome}
use Rattle.place_map.specs.declared.coach.PlaceFault.{PlaceFault}
use Rattle.tariff.specs.declared.terms.TermsFault.{TermsFault}
use Rattle.train_runs.specs.declared.run.RunFault.{RunFault}
use Rattle.rail_catalogue.specs.declared.fault.CatalogueFault.{CatalogueFault}
use Rattle.rail_catalogue.specs.declared.fault.CatalogueFault.TheVariants as variants

pub data Fault : Type 0 where
  not_json : Fault
  field : List ℕ → Fault
  run : RunFault → Fault
  place : PlaceFault → Fault
  tariff : TermsFault → Fault
  unknown_station : List ℕ → Fault
  double_key : Fault

-- the fault of the text; lack of memory is none
abbrev pub fault_of : CatalogueFault → Option Fault
fault_of variants.NotJson = Some not_json
fault_of (variants.Field path) = Some (field (string_bytes path))
fault_of (variants.Run e) = Some (run e)
fault_of (variants.Place e) = Some (place e)
fault_of (variants.Tariff e) = Some (tariff e)
fault_of (variants.UnknownStation code) = Some (unknown_station (string_bytes code))
fault_of variants.DoubleKey = Some double_key
fault_of variants.NoMemory = None

-- an error is the fault of what was to be read, unless memory ran out
abbrev pub Refuses : {A B : Type 0} → Result A Fault → Result B CatalogueFault → Type 0
Refuses read result = IfErr result (λ e. IfSome (fault_of e) (λ f. read ≡ Err f))

-- a member that is needed: without it the reading ends with the fault at its path
abbrev pub need : {A B : Type 0} → List ℕ → Option A → (A → Result B Fault) → Result B Fault
need path None next = Err (field path)
need path (Some x) next = next x

-- a part that may end the reading
abbrev pub after : {A B : Type 0} → Result A Fault → (A → Result B Fault) → Result B Fault
after (Err f) next = Err f
after (Ok x) next = next x

-- paths, each with what follows an item of a list

abbrev pub item_path : List ℕ → ℕ → List ℕ → List ℕ
item_path list n rest = list ++ codes "[" ++ decimal n ++ codes "]" ++ rest

abbrev pub run_item_path : ℕ → List ℕ → ℕ → List ℕ → List ℕ
run_item_path i list j rest =
    codes "runs[" ++ decimal i ++ codes "]." ++ list ++ codes "[" ++ decimal j ++ codes "]" ++ rest

abbrev pub group_path : ℕ → ℕ → ℕ → List ℕ → List ℕ
group_path i j k rest =
    codes "runs[" ++ decimal i ++ codes "].coaches[" ++ decimal j ++ codes "].places[" ++ decimal k ++ codes "]" ++ rest

abbrev pub trait_path : ℕ → ℕ → ℕ → ℕ → List ℕ
trait_path i j k t =
    codes "runs[" ++ decimal i ++ codes "].coaches[" ++ decimal j ++ codes "].places[" ++ decimal k ++ codes "].traits["
    ++ decimal t ++ codes "]"
