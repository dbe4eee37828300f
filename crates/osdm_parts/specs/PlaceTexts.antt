-- The pieces of a place's text.
use Rattle.std.specs.Prelude.{ℕ, ◌==◌, ◌||◌, Bool, false, List, [], ◌++◌, bit_and, if◌then◌else◌, codes, decimal}
use Rattle.serde_json.specs.Written.{comma_if}
use Rattle.place_map.specs.declared.coach.Class.{Class}
use Rattle.osdm_parts.specs.Places.{class_name}

-- what stands before the number of the coach
abbrev pub class_line : Bool → Class → List ℕ
class_line later class = comma_if later ++ (codes "{\"class\":\"" ++ (class_name class ++ codes "\",\"coach\":"))

-- what stands between the number of the coach and that of the place
abbrev pub free_line : Bool → List ℕ
free_line free = if free then codes ",\"free\":true,\"place\":" else codes ",\"free\":false,\"place\":"

-- what stands before the number of the place
abbrev pub front_line : Bool → Class → ℕ → Bool → List ℕ
front_line later class coach free = class_line later class ++ (decimal coach ++ free_line free)

-- a quoted name that is given, after a comma where another stands before
abbrev pub named_line : Bool → Bool → List ℕ → List ℕ
named_line later given name = if given then comma_if later ++ name else []

abbrev pub has_trait : ℕ → ℕ → Bool
has_trait traits bit = bit_and traits bit == bit

-- the traits, and the end of the place
abbrev pub traits_text : ℕ → List ℕ
traits_text traits =
    let a = has_trait traits 1 in
    let b = has_trait traits 2 in
    let c = has_trait traits 4 in
    let d = has_trait traits 8 in
    codes ",\"traits\":[" ++ (named_line false a (codes "\"WINDOW\"") ++ (named_line a b (codes "\"AISLE\"")
    ++ (named_line (a || b) c (codes "\"TABLE\"") ++ (named_line ((a || b) || c) d (codes "\"QUIET\"")
    ++ (named_line (((a || b) || c) || d) (has_trait traits 16) (codes "\"POWER\"") ++ codes "]}")))))

-- the first three traits
abbrev pub first_line : Bool → Bool → Bool → List ℕ
first_line a b c =
    codes ",\"traits\":["
    ++ (named_line false a (codes "\"WINDOW\"")
    ++ (named_line a b (codes "\"AISLE\"") ++ named_line (a || b) c (codes "\"TABLE\"")))

-- the last two, and the end of the place
abbrev pub last_line : Bool → Bool → Bool → List ℕ
last_line later d e =
    named_line later d (codes "\"QUIET\"") ++ (named_line (later || d) e (codes "\"POWER\"") ++ codes "]}")
