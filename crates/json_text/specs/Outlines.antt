-- An object without the members of one name, and where among a text's tokens those stand.
use Rattle.std.specs.Prelude.{◌≡◌, ℕ, zero, suc, List, [], ◌∷◌, length, true, Option, Some, None, is_some, IfSome, option_map, option_and_then}
use Rattle.json.specs.Token.{Token}
use Rattle.json.specs.Lex.{tokens}
use Rattle.json.specs.Json.{items, members, value, skip_value, read_key}
use Rattle.serde_json.specs.Data.{Data, Items, Members, no_members}
use Rattle.serde_json.specs.Find.{get, get_member, as_object}
use Rattle.serde_json.specs.Read.{of_json, of_items, of_members, converted, read}

-- what follows the brace that opens an object, where one stands
abbrev pub after_brace : List Token → Option (List Token)
after_brace [] = None
after_brace (Token.begin_object ∷ ts) = Some ts
after_brace (Token.end_object ∷ ts) = None
after_brace (Token.begin_array ∷ ts) = None
after_brace (Token.end_array ∷ ts) = None
after_brace (Token.key s ∷ ts) = None
after_brace (Token.string s ∷ ts) = None
after_brace (Token.number s ∷ ts) = None
after_brace (Token.boolean b ∷ ts) = None
after_brace (Token.null ∷ ts) = None
after_brace (Token.bad ∷ ts) = None

-- what follows the bracket that opens a list, where one stands
abbrev pub after_bracket : List Token → Option (List Token)
after_bracket [] = None
after_bracket (Token.begin_object ∷ ts) = None
after_bracket (Token.end_object ∷ ts) = None
after_bracket (Token.begin_array ∷ ts) = Some ts
after_bracket (Token.end_array ∷ ts) = None
after_bracket (Token.key s ∷ ts) = None
after_bracket (Token.string s ∷ ts) = None
after_bracket (Token.number s ∷ ts) = None
after_bracket (Token.boolean b ∷ ts) = None
after_bracket (Token.null ∷ ts) = None
after_bracket (Token.bad ∷ ts) = None

-- ---- passing over

-- what follows a value
abbrev pub behind : ℕ → List Token → Option (List Token)
behind depth ts = option_map (λ p. p.1) (converted of_json (value depth ts))

abbrev pub behind_items : ℕ → List Token → Option (List Token)
behind_items depth ts = option_map (λ p. p.1) (converted of_items (items (value depth) (length ts) ts))

abbrev pub behind_members : ℕ → List Token → Option (List Token)
behind_members depth ts =
    option_map (λ p. p.1) (converted (λ ms. of_members ms no_members) (members (value depth) (length ts) ts))

-- What follows that many members, whatever their names, and however large their numbers. A closing brace passes for a
-- name too: a value that stands after it counts as one more member. After the outermost object of a text that is JSON
-- none stands, so there it has no more members than are written.
unfoldable pub behind_so_many : ℕ → ℕ → List Token → Option (List Token)
behind_so_many depth zero ts = Some ts
behind_so_many depth (suc n) ts =
    option_and_then (λ k. option_and_then (behind_so_many depth n) (skip_value depth k.1)) (read_key ts)

-- ---- the members of the outermost object

-- What follows the name of the member at this place. At the place after the last member it is what follows the closing
-- brace, and so no value where the text is JSON and the object its outermost.
abbrev pub value_tokens : ℕ → List Token → Option (List Token)
value_tokens place ts = option_map (λ k. k.1) (option_and_then read_key (behind_so_many 126 place ts))

abbrev pub member_tokens : ℕ → List Token → Option (List Token)
member_tokens place ts = option_and_then (value_tokens place) (after_brace ts)

-- the value that comes first
abbrev pub data_at : List Token → Option Data
data_at ts = option_map (λ p. p.0) (converted of_json (value 126 ts))

-- the value of the member at this place, counted from 0
abbrev pub member_at : ℕ → List ℕ → Option Data
member_at place text = option_and_then data_at (member_tokens place (tokens text))

-- the object that the tokens after its brace are
abbrev pub members_of : List Token → Option (Members × List Token)
members_of ts = converted (λ ms. of_members ms no_members) (members (value 126) (length ts) ts)

-- The tokens after a brace are an object with the members `found`, and then `rest`. In the object `kept` each other
-- name finds what it finds in `found`, and the name nothing. What the name finds in `found` stands at the place (it may
-- stand at others too), and there is no place where it finds nothing.
pub record IsOutlineOf (name : List ℕ) (ts : List Token) (kept : Data) (place : Option ℕ)
    (rest : List Token) : Type 0 where
  pub found : Members
  pub read : members_of ts ≡ Some (found, rest)
  pub kind : is_some (as_object kept) ≡ true
  pub others : (q : List ℕ) → (q ≡ name → ⊥) → get_member q found ≡ get q kept
  pub gone : get name kept ≡ None
  pub left : get_member name found ≡ option_and_then (λ i. option_and_then data_at (value_tokens i ts)) place
  pub there : IfSome place (λ i. is_some (option_and_then data_at (value_tokens i ts)) ≡ true)

-- The text's value is `whole`. Where that is an object, `kept` is one in which each other name finds what it finds in
-- `whole`, and the name nothing. What the name finds in `whole` stands at the place, and there is no place where it
-- finds nothing. Where `whole` is no object there is no place, and `kept` is no object either; which value it is isn't
-- said.
pub record IsOutline (name : List ℕ) (text : List ℕ) (kept : Data) (place : Option ℕ) : Type 0 where
  pub whole : Data
  pub read : read text ≡ Some whole
  pub kind : is_some (as_object whole) ≡ is_some (as_object kept)
  pub others : (q : List ℕ) → (q ≡ name → ⊥) → get q whole ≡ get q kept
  pub gone : get name kept ≡ None
  pub left : get name whole ≡ option_and_then (λ i. member_at i text) place
  pub there : IfSome place (λ i. is_some (member_at i text) ≡ true)

-- ---- a list, item by item

-- the tokens after the bracket of the list at this place
abbrev pub list_tokens : ℕ → List Token → Option (List Token)
list_tokens place ts = option_and_then after_bracket (member_tokens place ts)

-- the items up to the bracket that closes their list
abbrev pub items_ahead : List Token → Option Items
items_ahead ts = option_map (λ p. p.0) (converted of_items (items (value 125) (length ts) ts))
