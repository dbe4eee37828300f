-- The runs that are still to come, while they are read one by one.
use Rattle.std.specs.Prelude.{◌≡◌, ◌≤◌, List, [], length, Option, Some, true, is_some}
use Rattle.std.specs.Option.{option_map_or}
use Rattle.serde_json.specs.Data.{Data}
use Rattle.json_text.specs.declared.items.Items.{Items}
use Rattle.json_text.specs.Ahead.{ahead}
use Rattle.rail_catalogue.specs.Json.{data_of, list_of}

abbrev pub all_ahead : Items → List Data
all_ahead l = option_map_or data_of (ahead l) []

-- the member is the list of those that are to come
pub record AreListed (member : Option Data) (l : Items) : Type 0 where
  pub there : is_some (ahead l) ≡ true
  pub list : list_of member ≡ Some (all_ahead l)
  pub few : length (all_ahead l) ≤ 9_223_372_036_854_775_807
