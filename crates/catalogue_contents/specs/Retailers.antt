-- The retailers of a catalogue.
use Rattle.std.specs.Prelude.{ℕ, ◌==◌, Bool, List, [], ◌∷◌, if◌then◌else◌, Option, Some, None}
use Rattle.std.specs.List.{list_any}
use Rattle.std.specs.Str.{bytes_eq}
use Rattle.rail_ids.specs.declared.RetailerNo.{RetailerNo}

pub record RetailerView : Type 0 where
  pub number : ℕ
  pub key : List ℕ

abbrev pub has_number : ℕ → List RetailerView → Bool
has_number number retailers = list_any (λ r. number == r.number) retailers

-- the number of the retailer with the key
abbrev pub retailer_with : List ℕ → List RetailerView → Option RetailerNo
retailer_with key [] = None
retailer_with key (r ∷ rest) = if bytes_eq key r.key then Some (record { 0 = r.number }) else retailer_with key rest
