-- The items that are still to come.
use Rattle.std.specs.Prelude.{◌≡◌, Option, None, MatchOption, option_map, option_and_then}
use Rattle.serde_json.specs.Data.{Data, array, Items as DataItems}
use Rattle.serde_json.specs.Find.{as_array}
use Rattle.json_text.specs.Outlines.{items_ahead}
use Rattle.json_text.specs.declared.items.Items.{Items}

-- the items up to the bracket that closes their list, whatever stands after it; none where an item is no JSON or that
-- bracket is missing
abbrev pub ahead : Items → Option DataItems
ahead l = items_ahead l.reader

-- Where the list was opened, the value is the list of what is to come, and there is no value where that is no end of a
-- list. Where none was, the value is no list, or there is none.
abbrev pub IsListOf : Option Data → Option Items → Type 0
IsListOf value items =
    MatchOption items (option_and_then as_array value ≡ None) (λ l. value ≡ option_map array (ahead l))
