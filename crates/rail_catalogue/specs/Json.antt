-- What a text is as JSON, and the kinds of member that the reader takes from it.
use Rattle.std.specs.Prelude.{ℕ, List, [], ◌∷◌, length, ◌&&◌, Bool, nat_le, if◌then◌else◌, Option, Some, None, option_map, option_and_then}
use Rattle.std.specs.Str.{is_utf8}
use Rattle.serde_json.specs.Data.{Data, Items, no_items, item}
use Rattle.serde_json.specs.Read.{read}
use Rattle.serde_json.specs.Find.{as_number, as_u64, as_array, as_str}
use Rattle.std.specs.Borrow.{Bor}
use Rattle.json_text.specs.declared.value.Value.{Value}
use Rattle.json_text.specs.View.{view}

-- the value that the bytes are, if they are UTF-8 and JSON
abbrev pub json_of : List ℕ → Option Data
json_of text = if is_utf8 text then read text else None

-- what a member stands for, if it is there
abbrev pub member_data : Option (Bor Value) → Option Data
member_data member = option_map (λ v. view v.now) member

abbrev pub if_in_range : ℕ → ℕ → ℕ → Option ℕ
if_in_range least most n = if nat_le least n && nat_le n most then Some n else None

-- a whole number without fraction and exponent, from `least` to `most`
abbrev pub whole_in : ℕ → ℕ → Option Data → Option ℕ
whole_in least most member =
    option_and_then (if_in_range least most) (option_and_then as_u64 (option_and_then as_number member))

-- the same, where the member may be missing
abbrev pub whole_or : ℕ → ℕ → ℕ → Option Data → Option ℕ
whole_or default least most None = Some default
whole_or default least most (Some d) = whole_in least most (Some d)

abbrev pub data_of : Items → List Data
data_of no_items = []
data_of (item d ds) = d ∷ data_of ds

abbrev pub if_so_many : ℕ → ℕ → List Data → Option (List Data)
if_so_many least most ds = if nat_le least (length ds) && nat_le (length ds) most then Some ds else None

abbrev pub list_of : Option Data → Option (List Data)
list_of member = option_map data_of (option_and_then as_array member)

-- a list of `least` to `most` items
abbrev pub list_in : ℕ → ℕ → Option Data → Option (List Data)
list_in least most member = option_and_then (if_so_many least most) (list_of member)

abbrev pub text_of : Option Data → Option (List ℕ)
text_of member = option_and_then as_str member

abbrev pub if_passes : (List ℕ → Bool) → List ℕ → Option (List ℕ)
if_passes rule text = if rule text then Some text else None

-- a text by a rule
abbrev pub text_by : (List ℕ → Bool) → Option Data → Option (List ℕ)
text_by rule member = option_and_then (if_passes rule) (text_of member)
