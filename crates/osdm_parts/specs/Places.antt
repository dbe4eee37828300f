-- The JSON of places.
use Rattle.std.specs.Prelude.{ℕ, ◌==◌, Bool, List, [], ◌∷◌, ◌++◌, bit_and, if◌then◌else◌, codes}
use Rattle.serde_json.specs.Data.{Data, boolean, string, array, object, no_members, member}
use Rattle.serde_json.specs.View.{items_of}
use Rattle.place_map.specs.declared.coach.Class.{Class}
use Rattle.place_map.specs.declared.coach.Class.TheVariants.{First, Second}
use Rattle.place_map.specs.declared.coach.Place.{Place}
use Rattle.osdm_parts.specs.Amounts.{count_tree}

abbrev pub class_name : Class → List ℕ
class_name First = codes "FIRST"
class_name Second = codes "SECOND"

-- a trait is named where its bit is set
abbrev pub named_if : ℕ → ℕ → List ℕ → List Data
named_if traits bit name = if bit_and traits bit == bit then string name ∷ [] else []

abbrev pub trait_trees : ℕ → List Data
trait_trees traits =
    named_if traits 1 (codes "WINDOW") ++ (named_if traits 2 (codes "AISLE") ++ (named_if traits 4 (codes "TABLE")
    ++ (named_if traits 8 (codes "QUIET") ++ named_if traits 16 (codes "POWER"))))

-- a place, and whether it is free
abbrev pub place_tree : Place → Bool → Data
place_tree p free =
    object (member (codes "class") (string (class_name p.class)) (member (codes "coach") (count_tree p.coach)
    (member (codes "free") (boolean free)
    (member (codes "place") (count_tree p.number)
    (member (codes "traits") (array (items_of (trait_trees p.traits))) no_members)))))

abbrev pub place_trees : List Place → List Bool → List Data
place_trees [] free = []
place_trees (p ∷ rest) [] = []
place_trees (p ∷ rest) (free ∷ more) = place_tree p free ∷ place_trees rest more

-- the list of places
abbrev pub place_list_tree : List Place → List Bool → Data
place_list_tree places free = object (member (codes "places") (array (items_of (place_trees places free))) no_members)
