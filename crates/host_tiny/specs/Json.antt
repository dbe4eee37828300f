-- What bytes are as JSON (RFC 8259), and its whole numbers.
use Rattle.std.specs.Prelude.{ℕ, List, ◌&&◌, nat_le, if◌then◌else◌, Option, Some, None, option_and_then}
use Rattle.std.specs.Str.{is_utf8}
use Rattle.serde_json.specs.Data.{Data}
use Rattle.serde_json.specs.Read.{read}
use Rattle.serde_json.specs.Find.{as_number, as_u64}

-- the value that the bytes are, if they are UTF-8 and JSON
abbrev pub json_of : List ℕ → Option Data
json_of text = if is_utf8 text then read text else None

abbrev pub in_range : ℕ → ℕ → ℕ → Option ℕ
in_range least most n = if nat_le least n && nat_le n most then Some n else None

-- a whole number without fraction, exponent and sign, from `least` to `most`
abbrev pub whole_in : ℕ → ℕ → Option Data → Option ℕ
whole_in least most member =
    option_and_then (in_range least most) (option_and_then as_u64 (option_and_then as_number member))
