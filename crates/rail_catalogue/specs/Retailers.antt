-- The retailers of a catalogue, as the file lists them.
use Rattle.std.specs.Prelude.{ℕ, ◌==◌, ◌&&◌, ◌||◌, nat_le, Bool, List, [], ◌∷◌, ◌++◌, length, codes, if◌then◌else◌, Option, Result, Ok, Err, is_some}
use Rattle.std.specs.List.{list_all}
use Rattle.serde_json.specs.Data.{Data}
use Rattle.serde_json.specs.Find.{get, as_object}
use Rattle.catalogue_contents.specs.Retailers.{RetailerView, has_number, retailer_with}
use Rattle.rail_catalogue.specs.Json.{whole_in, text_by, list_in}
use Rattle.rail_catalogue.specs.Faults.{Fault, double_key, need, after, item_path}

-- a letter, a digit, `-` or `_`, in ASCII
abbrev pub is_key_byte : ℕ → Bool
is_key_byte b =
    (nat_le 65 b && nat_le b 90)
    || ((nat_le 97 b && nat_le b 122) || ((nat_le 48 b && nat_le b 57) || (b == 45 || b == 95)))

-- one to 32 of them
abbrev pub is_key : List ℕ → Bool
is_key key = nat_le 1 (length key) && (nat_le (length key) 32 && list_all is_key_byte key)

-- the retailers with the next item of the list
abbrev pub with_retailer : List RetailerView → Data → Result (List RetailerView) Fault
with_retailer found d = let at : List ℕ → List ℕ = item_path (codes "retailers") (length found) in
    need (at []) (as_object d) (λ _.
    need (at (codes ".number")) (whole_in 1 4_294_967_295 (get (codes "number") d)) (λ number.
    if has_number number found then Err double_key else
    need (at (codes ".key")) (text_by is_key (get (codes "key") d)) (λ key.
    if is_some (retailer_with key found) then Err double_key else
    Ok (found ++ (record { number = number; key = key }) ∷ []))))

abbrev pub retailers_from : List RetailerView → List Data → Result (List RetailerView) Fault
retailers_from found [] = Ok found
retailers_from found (d ∷ ds) = after (with_retailer found d) (λ more. retailers_from more ds)

-- the retailers of the member
abbrev pub retailers_of : Option Data → Result (List RetailerView) Fault
retailers_of member = need (codes "retailers") (list_in 1 65_536 member) (retailers_from [])
