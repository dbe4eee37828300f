-- The kinds of member that bodies have, and how a reading goes on or ends.
use Rattle.std.specs.Prelude.{ℕ, ◌+◌, min, Bool, false, List, [], ◌∷◌, bit_or, if◌then◌else◌, Option, Some, None, option_and_then, Result, Ok, Err}
use Rattle.std.specs.Result.{result_ok}
use Rattle.std.specs.Str.{bytes_eq}
use Rattle.serde_json.specs.Data.{Data}
use Rattle.serde_json.specs.Find.{as_bool, as_object, as_str}
use Rattle.rail_ids.specs.declared.StationNo.{StationNo}
use Rattle.rail_time.specs.Moments.{last_second, moment_of}
use Rattle.place_map.specs.declared.coach.Class.{Class}
use Rattle.place_map.specs.declared.coach.Class.TheVariants.{Second}
use Rattle.rail_catalogue.specs.Json.{if_in_range, list_of, text_of}
use Rattle.rail_catalogue.specs.Coaches.{class_named, trait_named}
use Rattle.osdm_parts.specs.declared.field.FieldName.{FieldName}
use Rattle.osdm_parts.specs.declared.field.FieldName.TheVariants.{Body}
use Rattle.osdm_json.specs.declared.fault.BodyFault.{BodyFault}
use Rattle.osdm_json.specs.declared.fault.BodyFault.TheVariants.{NotJson, Field, UnknownStation}

-- a field that is needed: without it the reading ends with the field's name
abbrev pub need : {A B : Type 0} → FieldName → Option A → (A → Result B BodyFault) → Result B BodyFault
need name None next = Err (Field name)
need name (Some x) next = next x

-- a station that has to be known
abbrev pub known : {B : Type 0} → FieldName → Option StationNo → (StationNo → Result B BodyFault) → Result B BodyFault
known name None next = Err (UnknownStation name)
known name (Some station) next = next station

-- a part that may end the reading
abbrev pub after : {A B : Type 0} → Result A BodyFault → (A → Result B BodyFault) → Result B BodyFault
after (Err fault) next = Err fault
after (Ok x) next = next x

-- a body that is to be an object
abbrev pub in_object : {B : Type 0} → Option Data → (Data → Result B BodyFault) → Result B BodyFault
in_object None next = Err NotJson
in_object (Some d) next = need Body (as_object d) (λ _. next d)

-- `FIRST` or `SECOND`, and second where the member is missing
abbrev pub class_in : Option Data → Option Class
class_in None = Some Second
class_in (Some d) = option_and_then class_named (as_str d)

-- true or false, and false where the member is missing
abbrev pub flag_in : Option Data → Option Bool
flag_in None = Some false
flag_in (Some d) = as_bool d

-- the traits found so far with those of the items left
abbrev pub traits_from : ℕ → List Data → Option ℕ
traits_from found [] = Some found
traits_from found (d ∷ ds) =
    option_and_then (λ bit. traits_from (bit_or found bit) ds) (option_and_then trait_named (as_str d))

-- a list of traits as the sum of their bits, and none where the member is missing
abbrev pub traits_in : Option Data → Option ℕ
traits_in None = Some 0
traits_in (Some d) = option_and_then (traits_from 0) (list_of (Some d))

-- a text other than this one
abbrev pub unlike : List ℕ → List ℕ → Option (List ℕ)
unlike other text = if bytes_eq text other then None else Some text

abbrev pub moment_in : Option Data → Option ℕ
moment_in member = option_and_then (λ (text : List ℕ). result_ok (moment_of text)) (text_of member)

-- a moment from the earliest one to two days after it, and a day after it where the member is missing
abbrev pub latest_in : ℕ → Option Data → Option ℕ
latest_in earliest None = Some (min (earliest + 86_400) last_second)
latest_in earliest (Some d) = option_and_then (if_in_range earliest (earliest + 172_800)) (moment_in (Some d))
