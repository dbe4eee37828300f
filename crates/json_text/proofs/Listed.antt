-- A list item by item: what is still to come, and how many items there are.
use Rattle.std.proofs.Common.{◌≡◌, ℕ, zero, suc, ◌-◌, ◌<◌, ◌≤◌, List, [], ◌∷◌, length, Option, Some, None, IfSome, option_map, option_and_then, refl, sym, ap, ◌∙◌, arith}
use Rattle.json.specs.Token.{Token}
use Rattle.json.specs.Json as json
use Rattle.json.specs.Json.{Parse, parse_map, after_end_array, items_step, items, members, value}
use Rattle.json.specs.Lex.{tokens}
use Rattle.json.proofs.Grammar.{left, Takes, skip_value-shorter, value_is, value-begin_array, value-begin_object}
use Rattle.serde_json.specs.Data.{Data, number, array, object, Items, item, Members, no_members}
use Rattle.serde_json.specs.Events.{items_len}
use Rattle.serde_json.specs.Find.{as_array}
use Rattle.serde_json.specs.Read.{of_json, of_items, of_members, converted, number_of}
use Rattle.json_text.specs.Outlines.{after_bracket, data_at, member_tokens, member_at, list_tokens, items_ahead}
use Rattle.json_text.proofs.Turns.{converted-array, converted-object, item_read}

abbrev pub first_of : {A : Type 0} → Option (A × List Token) → Option A
first_of o = option_map (λ p. p.0) o

-- ---- more turns than are needed

module _ (p : Parse json.Json) (takes : Takes p) where
  none_first : (n : ℕ) (o : Option (json.Json × List Token)) → p [] ≡ o → option_and_then (λ q. parse_map (json.item q.0) (items p n q.1)) o ≡ None
  none_first n None e = refl
  none_first n (Some q) e = let never : ⊥ = omega (arith, takes [] q.1 (ap left e)) in absurd never

  nothing : (n : ℕ) (ts : List Token) → length ts ≤ 0 → items p (suc n) ts ≡ None
  unfolding items
  nothing n [] h = none_first n (p []) refl
  nothing n (t ∷ ts) h = let never : ⊥ = omega arith in absurd never

  first : (n m : ℕ) (ts : List Token) (o : Option (json.Json × List Token)) → p ts ≡ o → length ts ≤ suc n → length ts ≤ suc m
      → ((us : List Token) → length us ≤ n → length us ≤ m → items p n us ≡ items p m us)
      → option_and_then (λ q. parse_map (json.item q.0) (items p n q.1)) o ≡ option_and_then (λ q. parse_map (json.item q.0) (items p m q.1)) o
  first n m ts None e h i more = refl
  first n m ts (Some q) e h i more =
      let less = takes ts q.1 (ap left e) in
      ap (parse_map (json.item q.0)) (more q.1 (omega (arith, less, h)) (omega (arith, less, i)))

  turn : (n m : ℕ) (ts : List Token) (o : Option (List Token)) → length ts ≤ suc n → length ts ≤ suc m
      → ((us : List Token) → length us ≤ n → length us ≤ m → items p n us ≡ items p m us) → items_step p (items p n) ts o ≡ items_step p (items p m) ts o
  turn n m ts (Some rest) h i more = refl
  turn n m ts None h i more = first n m ts (p ts) refl h i more

  pub enough : (n m : ℕ) (ts : List Token) → length ts ≤ n → length ts ≤ m → items p n ts ≡ items p m ts
  unfolding items
  enough zero zero ts h i = refl
  enough zero (suc m) ts h i = sym (nothing m ts h)
  enough (suc n) zero ts h i = nothing n ts i
  enough (suc n) (suc m) ts h i = turn n m ts (after_end_array ts) h i (enough n m)

first_of-parse_map : {A B : Type 0} (f : A → B) (o : Option (A × List Token)) → first_of (parse_map f o) ≡ option_map f (first_of o)
first_of-parse_map f None = refl
first_of-parse_map f (Some q) = refl

-- an item that is read stands before those that are still to come
pub ahead_one : (ts r : List Token) (d : Data) → after_end_array ts ≡ None → converted of_json (value 125 ts) ≡ Some (d, r) → length r < length ts → items_ahead ts ≡ option_map (item d) (items_ahead r)
ahead_one ts r d going e less =
    let n = length ts in
    ap first_of (item_read (value 125) n ts r d (omega (arith, less)) going e) ∙ first_of-parse_map (item d) (converted of_items (items (value 125) (n - 1) r))
    ∙ ap (λ o. option_map (item d) (first_of (converted of_items o))) (enough (value 125) (skip_value-shorter 125) (n - 1) (length r) r (omega (arith, less)) (omega arith))

-- ---- a list among the members

abbrev seen : Option (json.Json × List Token) → Option Items
seen o = option_and_then as_array (first_of (converted of_json o))

of_list : (o : Option (Items × List Token)) → option_and_then as_array (first_of (parse_map array o)) ≡ first_of o
of_list None = refl
of_list (Some q) = refl

of_object : (o : Option (Members × List Token)) → option_and_then as_array (first_of (parse_map object o)) ≡ None
of_object None = refl
of_object (Some q) = refl

of_number : (r : List Token) (o : Option Data) → option_and_then as_array (first_of (option_map (λ b. (b, r)) o)) ≡ option_and_then as_array o
of_number r None = refl
of_number r (Some d) = refl

no_list : {A : Type 0} (f : A → Data) → ((a : A) → as_array (f a) ≡ None) → (o : Option A) → option_and_then as_array (option_map f o) ≡ None
no_list f h None = refl
no_list f h (Some a) = h a

listed_at : (ts : List Token) → option_and_then as_array (data_at ts) ≡ option_and_then items_ahead (after_bracket ts)
listed_at [] = ap seen (value_is 126 [])
listed_at (Token.begin_object ∷ ts) =
    ap seen (value-begin_object 126 ts (omega arith))
    ∙ ap (λ o. option_and_then as_array (first_of o)) (converted-object (members (value 125) (length ts) ts))
    ∙ of_object (converted (λ ms. of_members ms no_members) (members (value 125) (length ts) ts))
listed_at (Token.end_object ∷ ts) = ap seen (value_is 126 (Token.end_object ∷ ts))
listed_at (Token.begin_array ∷ ts) =
    ap seen (value-begin_array 126 ts (omega arith))
    ∙ ap (λ o. option_and_then as_array (first_of o)) (converted-array (items (value 125) (length ts) ts))
    ∙ of_list (converted of_items (items (value 125) (length ts) ts))
listed_at (Token.end_array ∷ ts) = ap seen (value_is 126 (Token.end_array ∷ ts))
listed_at (Token.key s ∷ ts) = ap seen (value_is 126 (Token.key s ∷ ts))
listed_at (Token.string s ∷ ts) = ap seen (value_is 126 (Token.string s ∷ ts))
listed_at (Token.number s ∷ ts) = ap seen (value_is 126 (Token.number s ∷ ts)) ∙ of_number ts (option_map number (number_of s)) ∙ no_list number (λ n. refl) (number_of s)
listed_at (Token.boolean b ∷ ts) = ap seen (value_is 126 (Token.boolean b ∷ ts))
listed_at (Token.null ∷ ts) = ap seen (value_is 126 (Token.null ∷ ts))
listed_at (Token.bad ∷ ts) = ap seen (value_is 126 (Token.bad ∷ ts))

no_list_in : (o : Option (List Token)) → option_and_then after_bracket o ≡ None → option_and_then as_array (option_and_then data_at o) ≡ None
no_list_in None e = refl
no_list_in (Some ts) e = listed_at ts ∙ ap (option_and_then items_ahead) e

pub not_listed : (place : ℕ) (text : List ℕ) → list_tokens place (tokens text) ≡ None → option_and_then as_array (member_at place text) ≡ None
not_listed place text e = no_list_in (member_tokens place (tokens text)) e

abbrev rest : Option (List Token) → List Token
rest None = []
rest (Some ts) = ts

list_data : (ts us : List Token) → after_bracket ts ≡ Some us → data_at ts ≡ option_map array (items_ahead us)
list_data [] us e = absurd (cc)
list_data (Token.begin_object ∷ ts) us e = absurd (cc)
list_data (Token.end_object ∷ ts) us e = absurd (cc)
list_data (Token.begin_array ∷ ts) us e =
    ap (λ o. first_of (converted of_json o)) (value-begin_array 126 ts (omega arith))
    ∙ ap first_of (converted-array (items (value 125) (length ts) ts))
    ∙ first_of-parse_map array (converted of_items (items (value 125) (length ts) ts))
    ∙ ap (λ o. option_map array (items_ahead (rest o))) e
list_data (Token.end_array ∷ ts) us e = absurd (cc)
list_data (Token.key s ∷ ts) us e = absurd (cc)
list_data (Token.string s ∷ ts) us e = absurd (cc)
list_data (Token.number s ∷ ts) us e = absurd (cc)
list_data (Token.boolean b ∷ ts) us e = absurd (cc)
list_data (Token.null ∷ ts) us e = absurd (cc)
list_data (Token.bad ∷ ts) us e = absurd (cc)

list_in : (o : Option (List Token)) (us : List Token) → option_and_then after_bracket o ≡ Some us → option_and_then data_at o ≡ option_map array (items_ahead us)
list_in None us e = absurd (cc)
list_in (Some ts) us e = list_data ts us e

pub listed : (place : ℕ) (text : List ℕ) (us : List Token) → list_tokens place (tokens text) ≡ Some us → member_at place text ≡ option_map array (items_ahead us)
listed place text us e = list_in (member_tokens place (tokens text)) us e

-- ---- each item takes a token

one_more : (r : List Token) (a b : ℕ) (d : Option Data) (ds : Option Items) → a < b → IfSome (first_of (option_map (λ x. (x, r)) ds)) (λ x. items_len x ≤ a)
    → IfSome (first_of (option_map (λ x. (x, r)) (option_and_then (λ e. option_map (item e) ds) d))) (λ x. items_len x ≤ b)
one_more r a b None ds less h = tt
one_more r a b (Some d) None less h = tt
one_more r a b (Some d) (Some ds) less h = omega (arith, less, h)

with_more : (j : json.Json) (o : Option (json.Items × List Token)) (a b : ℕ) → a < b → IfSome (first_of (converted of_items o)) (λ x. items_len x ≤ a)
    → IfSome (first_of (converted of_items (parse_map (json.item j) o))) (λ x. items_len x ≤ b)
with_more j None a b less h = tt
with_more j (Some q) a b less h = one_more q.1 a b (of_json j) (of_items q.0) less h

module _ (p : Parse json.Json) (takes : Takes p) where
  after_first : (n : ℕ) (ts : List Token) (o : Option (json.Json × List Token)) → p ts ≡ o
      → ((us : List Token) → IfSome (first_of (converted of_items (items p n us))) (λ x. items_len x ≤ length us))
      → IfSome (first_of (converted of_items (option_and_then (λ q. parse_map (json.item q.0) (items p n q.1)) o))) (λ x. items_len x ≤ length ts)
  after_first n ts None e more = tt
  after_first n ts (Some q) e more = with_more q.0 (items p n q.1) (length q.1) (length ts) (takes ts q.1 (ap left e)) (more q.1)

  at_turn : (n : ℕ) (ts : List Token) (o : Option (List Token)) → ((us : List Token) → IfSome (first_of (converted of_items (items p n us))) (λ x. items_len x ≤ length us))
      → IfSome (first_of (converted of_items (items_step p (items p n) ts o))) (λ x. items_len x ≤ length ts)
  at_turn n ts (Some rest) more = omega arith
  at_turn n ts None more = after_first n ts (p ts) refl more

  few_items : (n : ℕ) (ts : List Token) → IfSome (first_of (converted of_items (items p n ts))) (λ x. items_len x ≤ length ts)
  unfolding items
  few_items zero ts = tt
  few_items (suc n) ts = at_turn n ts (after_end_array ts) (few_items n)

looser : (o : Option Items) (a b : ℕ) → a ≤ b → IfSome o (λ x. items_len x ≤ a) → IfSome o (λ x. items_len x ≤ b)
looser None a b le h = tt
looser (Some ds) a b le h = omega (arith, le, h)

pub few_ahead : (ts : List Token) (most : ℕ) → length ts ≤ most → IfSome (items_ahead ts) (λ x. items_len x ≤ most)
few_ahead ts most le = looser (items_ahead ts) (length ts) most le (few_items (value 125) (skip_value-shorter 125) (length ts) ts)
