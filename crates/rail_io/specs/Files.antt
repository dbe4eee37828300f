-- Files by name, as a shelf tells them: the content of each name that has one.
use Rattle.std.specs.Prelude.{◌≡◌, ◌≤◌, ◌<◌, ℕ, List, length, Option, Some, None, ⊤}
use Rattle.rail_io.specs.declared.shelf.Fetched.{Fetched}
use Rattle.rail_io.specs.declared.shelf.Fetched.TheVariants.{Got, Missing, TooLarge, Failed, NoMemory}

-- What a fetch of the name answers, where there is room for that many bytes.
abbrev pub Fetches : (List ℕ → Option (List ℕ)) → List ℕ → ℕ → Fetched → Type 0
Fetches files name room (Got content) = (files name ≡ Some content.items) × (length content.items ≤ room)
Fetches files name room Missing = files name ≡ None
Fetches files name room TooLarge = (content : List ℕ) × (files name ≡ Some content) × (room < length content)
Fetches files name room Failed = ⊤
Fetches files name room NoMemory = ⊤
