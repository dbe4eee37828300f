-- What the bytes are as JSON, from what their reader says of them.
use Rattle.std.proofs.Common.{◌≡◌, ℕ, List, [], ◌∷◌, map, Option, Some, None, option_map, Bool, true, false, Bor, refl, sym, ap, ◌∙◌, IsUtf8, if◌then◌else◌}
use Rattle.std.specs.Str.{is_utf8}
use Rattle.std.proofs.lemmas.Str.{IsUtf8-from_is_utf8, is_utf8-from_IsUtf8}
use Rattle.serde_json.specs.Data.{Data, Items}
use Rattle.serde_json.specs.Read.{read}
use Rattle.rail_catalogue.specs.Json.{json_of, data_of}
use Rattle.serde_json.specs.View.{items_of}
use Rattle.json_text.specs.View.{view, items_view}
use Rattle.json_text.specs.declared.value.Value.{Value}

pub json_of-some : (text : List ℕ) (d : Data) → IsUtf8 text → read text ≡ Some d → json_of text ≡ Some d
json_of-some text d utf8 is = rw (is_utf8-from_IsUtf8 text utf8) is

none_at : (b : Bool) (o : Option Data) → (b ≡ true → o ≡ None) → (if b then o else None) ≡ None
none_at true o h = h refl
none_at false o h = refl

pub json_of-none : (text : List ℕ) → (IsUtf8 text → read text ≡ None) → json_of text ≡ None
json_of-none text h = none_at (is_utf8 text) (read text) (λ b. h (IsUtf8-from_is_utf8 text b))

-- the items of a list are its values, as data
pub data_of-items_of : (ds : List Data) → data_of (items_of ds) ≡ ds
data_of-items_of [] = refl
data_of-items_of (d ∷ ds) = ap (λ (l : List Data). d ∷ l) (data_of-items_of ds)

-- the slice that a list lies in, as data
pub listed : (r : Option (Bor (List Value))) (o : Option Items) → option_map (λ v. items_view v.now) r ≡ o → option_map (λ v. map view v.now) r ≡ option_map data_of o
listed None o e = ap (option_map data_of) e
listed (Some v) o e = ap (λ (ds : List Data). Some ds) (sym (data_of-items_of (map view v.now))) ∙ ap (option_map data_of) e
