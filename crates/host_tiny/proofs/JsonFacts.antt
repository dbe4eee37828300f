-- What bytes are as JSON, from what the reader says of them.
use Rattle.std.proofs.Common.{◌≡◌, ℕ, List, Option, Some, None, Bool, true, false, refl, IsUtf8, if◌then◌else◌}
use Rattle.std.specs.Str.{is_utf8}
use Rattle.std.proofs.lemmas.Str.{IsUtf8-from_is_utf8, is_utf8-from_IsUtf8}
use Rattle.serde_json.specs.Data.{Data}
use Rattle.serde_json.specs.Read.{read}
use Rattle.host_tiny.specs.Json.{json_of}

pub json_of-some : (text : List ℕ) (d : Data) → IsUtf8 text → read text ≡ Some d → json_of text ≡ Some d
json_of-some text d utf8 is = rw (is_utf8-from_IsUtf8 text utf8) is

none_at : (b : Bool) (o : Option Data) → (b ≡ true → o ≡ None) → (if b then o else None) ≡ None
none_at true o h = h refl
none_at false o h = refl

pub json_of-none : (text : List ℕ) → (IsUtf8 text → read text ≡ None) → json_of text ≡ None
json_of-none text h = none_at (is_utf8 text) (read text) (λ b. h (IsUtf8-from_is_utf8 text b))
