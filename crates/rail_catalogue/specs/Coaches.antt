-- The coaches of a run.
use Rattle.std.specs.Prelude.{ℕ, ◌+◌, List, [], ◌∷◌, ◌++◌, length, codes, bit_or, if◌then◌else◌, Option, Some, None, option_and_then, Result, Ok, Err}
use Rattle.std.specs.Str.{bytes_eq}
use Rattle.serde_json.specs.Data.{Data}
use Rattle.serde_json.specs.Find.{get, as_object, as_str}
use Rattle.place_map.specs.declared.coach.Class.{Class}
use Rattle.place_map.specs.declared.coach.Class.TheVariants.{First, Second}
use Rattle.place_map.specs.declared.coach.Place.{Place}
use Rattle.place_map.specs.declared.coach.PlaceFault.{PlaceFault}
use Rattle.place_map.specs.Seats.{Seats}
use Rattle.place_map.specs.Places.{with_places, coach_places}
use Rattle.rail_catalogue.specs.Json.{whole_in, list_of, list_in, text_of}
use Rattle.rail_catalogue.specs.Faults.{Fault, place, need, after, run_item_path, group_path, trait_path}

-- `FIRST` or `SECOND`
abbrev pub class_named : List ℕ → Option Class
class_named name =
    if bytes_eq name (codes "FIRST") then Some First
    else (if bytes_eq name (codes "SECOND") then Some Second else None)

-- the bit of a trait
abbrev pub trait_named : List ℕ → Option ℕ
trait_named name =
    if bytes_eq name (codes "WINDOW") then Some 1
    else (if bytes_eq name (codes "AISLE") then Some 2
    else (if bytes_eq name (codes "TABLE") then Some 4
    else (if bytes_eq name (codes "QUIET") then Some 8
    else (if bytes_eq name (codes "POWER") then Some 16 else None))))

-- the traits found so far with those of the items left, of which the first has the index t
abbrev pub traits_from : ℕ → ℕ → ℕ → ℕ → ℕ → List Data → Result ℕ Fault
traits_from i j k t found [] = Ok found
traits_from i j k t found (d ∷ ds) =
    need (trait_path i j k t) (option_and_then trait_named (as_str d))
    (λ bit. traits_from i j k (t + 1) (bit_or found bit) ds)

-- the traits of the optional member
abbrev pub traits_of : ℕ → ℕ → ℕ → Option Data → Result ℕ Fault
traits_of i j k None = Ok 0
traits_of i j k (Some d) = need (group_path i j k (codes ".traits")) (list_of (Some d)) (traits_from i j k 0 0)

-- the k-th group of the j-th coach of the i-th run
abbrev pub group_at : ℕ → ℕ → ℕ → Data → Result Seats Fault
group_at i j k d = let at : List ℕ → List ℕ = group_path i j k in
    need (at []) (as_object d) (λ _.
    need (at (codes ".first")) (whole_in 1 9_999 (get (codes "first") d)) (λ first.
    need (at (codes ".last")) (whole_in first 9_999 (get (codes "last") d)) (λ last.
    after (traits_of i j k (get (codes "traits") d)) (λ traits.
    Ok (record { first = first; last = last; traits = traits })))))

abbrev pub groups_from : ℕ → ℕ → List Seats → List Data → Result (List Seats) Fault
groups_from i j found [] = Ok found
groups_from i j found (d ∷ ds) = after (group_at i j (length found) d) (λ g. groups_from i j (found ++ g ∷ []) ds)

pub record CoachView : Type 0 where
  pub number : ℕ
  pub class : Class
  pub groups : List Seats

-- the j-th coach of the i-th run
abbrev pub coach_at : ℕ → ℕ → Data → Result CoachView Fault
coach_at i j d = let at : List ℕ → List ℕ = run_item_path i (codes "coaches") j in
    need (at []) (as_object d) (λ _.
    need (at (codes ".coach")) (whole_in 1 999 (get (codes "coach") d)) (λ number.
    need (at (codes ".class")) (option_and_then class_named (text_of (get (codes "class") d))) (λ class.
    need (at (codes ".places")) (list_in 1 9_223_372_036_854_775_807 (get (codes "places") d)) (λ items.
    after (groups_from i j [] items) (λ groups.
    Ok (record { number = number; class = class; groups = groups }))))))

abbrev pub placed : Result (List Place) PlaceFault → Result (List Place) Fault
placed (Ok places) = Ok places
placed (Err e) = Err (place e)

-- the places with those of the coaches left, of which the first has the index j
abbrev pub coaches_from : ℕ → ℕ → List Place → List Data → Result (List Place) Fault
coaches_from i j places [] = Ok places
coaches_from i j places (d ∷ ds) =
    after (coach_at i j d) (λ c.
    after (placed (with_places i places (coach_places i c.number c.class c.groups))) (λ more.
    coaches_from i (j + 1) more ds))
