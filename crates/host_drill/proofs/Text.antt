-- What the catalogue's text reads as.
use Rattle.std.proofs.Common.{◌≡◌, ◌∙◌, ℕ, ◌^◌, ◌<◌, ◌≤◌, true, List, [], ◌++◌, Option, Some, decimal, refl, sym, ap, arith, rules, append-nil}
use Rattle.std.specs.Prelude.{option_map, option_and_then}
use Rattle.std.specs.Char.{encode_utf8}
use Rattle.std.specs.Fmt.{digits}
use Rattle.std.specs.Str.{is_utf8, chars}
use Rattle.std.proofs.lemmas.Fmt.{IsAscii-decimal}
use Rattle.std.proofs.lemmas.Str.{IsUtf8-append, IsUtf8-from_ascii, IsUtf8-from_is_utf8, is_utf8-from_IsUtf8}
use Rattle.json.specs.Token.{Token}
use Rattle.json.specs.Json as json
use Rattle.json.specs.Lex.{tokens}
use Rattle.json.specs.Print.{IsNumber}
use Rattle.json.specs.Tree.{json_tokens, depth, HasNumbers}
use Rattle.json.proofs.Printed.Decimals.{IsNumber-decimal}
use Rattle.json.proofs.Printed.Tokens.{tokens-print}
use Rattle.json.proofs.Printed.Trees.{ArePrintable-json_tokens, value-json_tokens}
use Rattle.serde_json.specs.Data.{Num, unsigned, Data, number}
use Rattle.serde_json.specs.Read.{read, of_json, max_depth}
use Rattle.serde_json.specs.Written.{outline, number_text, compact_text}
use Rattle.serde_json.proofs.Numbers.{number_of-decimal}
use Rattle.serde_json.proofs.OnLiterals.{serde_json_on_literals}
use Rattle.serde_json.proofs.Texts.{print-outline}
use Rattle.rail_catalogue.specs.Json.{json_of}
use Rattle.host_drill.specs.Generator.{catalogue_front, catalogue_end, catalogue_text}
use Rattle.host_drill.proofs.Value.{coach_data, run_data, catalogue_data, drill_data}

-- ---- a value that is what its JSON says is read back from its compact text

abbrev IsReadBack : Data → Type 0
IsReadBack d = of_json (outline d) ≡ Some d

read-compact_text : (d : Data) → HasNumbers (outline d) → depth (outline d) ≤ max_depth → IsReadBack d → read (compact_text d) ≡ Some d
read-compact_text d numbers shallow back =
    let j = outline d in
    let lexed : tokens (compact_text d) ≡ json_tokens j = ap tokens (sym (print-outline d)) ∙ tokens-print (json_tokens j) (ArePrintable-json_tokens j numbers) in
    ap (λ (o : Option (json.Json × List Token)). option_and_then of_json (option_and_then (λ p. json.if_last p.0 p.1) o))
    (ap (json.value max_depth) (lexed ∙ sym (append-nil (json_tokens j))) ∙ value-json_tokens j max_depth [] shallow)
    ∙ back

-- ---- so is the drill's

coach_back : (last : Num) → IsReadBack (number last) → IsReadBack (coach_data last)
unfolding serde_json_on_literals digits
coach_back last back = rw back

run_back : (coach : Data) → IsReadBack coach → IsReadBack (run_data coach)
unfolding serde_json_on_literals digits
run_back coach back = rw back

catalogue_back : (run : Data) → IsReadBack run → IsReadBack (catalogue_data run)
unfolding serde_json_on_literals digits
catalogue_back run back = rw back

drill_back : (last : Num) → IsReadBack (number last) → IsReadBack (drill_data last)
drill_back last back = catalogue_back (run_data (coach_data last)) (run_back (coach_data last) (coach_back last back))

HasNumbers-drill_data : (last : Num) → IsNumber (number_text last) → HasNumbers (outline (drill_data last))
unfolding serde_json_on_literals digits
HasNumbers-drill_data last spelled = search (rules, spelled) depth 40

depth-drill_data : (last : Num) → depth (outline (drill_data last)) ≤ max_depth
depth-drill_data last = omega arith

-- ---- and its compact text is the catalogue's

compact_text-drill_data : (last : Num) → compact_text (drill_data last) ≡ catalogue_front ++ (number_text last ++ catalogue_end)
unfolding serde_json_on_literals digits
compact_text-drill_data last = sym (print-outline (drill_data last))

is_utf8-front : is_utf8 catalogue_front ≡ true
unfolding is_utf8 chars encode_utf8
is_utf8-front = refl

is_utf8-end : is_utf8 catalogue_end ≡ true
unfolding is_utf8 chars encode_utf8
is_utf8-end = refl

is_utf8-catalogue_text : (places : ℕ) → places < 2 ^ 64 → is_utf8 (catalogue_text places) ≡ true
is_utf8-catalogue_text places few =
    let front = IsUtf8-from_is_utf8 catalogue_front is_utf8-front in
    let middle = IsUtf8-from_ascii (decimal places) (IsAscii-decimal places few) in
    let end = IsUtf8-from_is_utf8 catalogue_end is_utf8-end in
    is_utf8-from_IsUtf8 (catalogue_text places) (IsUtf8-append catalogue_front (decimal places ++ catalogue_end) front (IsUtf8-append (decimal places) catalogue_end middle end))

pub json_of-catalogue_text : (places : ℕ) → places < 2 ^ 64 → json_of (catalogue_text places) ≡ Some (drill_data (unsigned places))
json_of-catalogue_text places few =
    let last = unsigned places in
    let back : IsReadBack (number last) = ap (option_map number) (number_of-decimal places few) in
    rw (is_utf8-catalogue_text places few)
    (ap read (sym (compact_text-drill_data last)) ∙ read-compact_text (drill_data last) (HasNumbers-drill_data last (IsNumber-decimal places few)) (depth-drill_data last) (drill_back last back))
