-- Passing over values and members, a turn at a time.
use Rattle.std.proofs.Common.{◌≡◌, ℕ, zero, suc, ◌-◌, ◌<◌, List, Option, Some, None, option_and_then, refl, ap, ◌∙◌, arith}
use Rattle.json.specs.Token.{Token}
use Rattle.json.specs.Json as json
use Rattle.json.specs.Json.{Parse, after_end_array, read_key, items, members, value, skip_value}
use Rattle.json.proofs.Grammar.{left, left-parse_map, left_some}
use Rattle.serde_json.specs.Data.{Data, item, Members, put}
use Rattle.serde_json.specs.Read.{of_json, of_items, of_members, converted}
use Rattle.json_text.specs.Outlines.{behind_so_many}
use Rattle.json_text.proofs.Turns.{converted_some, item_read, member_read}

pub skipped : (depth : ℕ) (ts r : List Token) (d : Data) → converted of_json (value depth ts) ≡ Some (d, r) → skip_value depth ts ≡ Some r
skipped depth ts r d e = ap left (converted_some of_json (value depth ts) d r e).1

module _ (p : Parse json.Json) where
  pub item_passed : (n : ℕ) (ts r : List Token) → 0 < n → after_end_array ts ≡ None → left (converted of_json (p ts)) ≡ Some r
      → left (converted of_items (items p n ts)) ≡ left (converted of_items (items p (n - 1) r))
  item_passed n ts r some going e =
      let d = left_some (converted of_json (p ts)) r e in
      ap left (item_read p n ts r d.0 some going d.1) ∙ left-parse_map (item d.0) (converted of_items (items p (n - 1) r))

  pub member_passed : (old : Members) (n : ℕ) (k : List ℕ) (ts s r : List Token) → 0 < n → read_key ts ≡ Some (Some k, s) → (d : left (converted of_json (p s)) ≡ Some r)
      → left (converted (λ ms. of_members ms old) (members p n ts)) ≡ left (converted (λ ms. of_members ms (put k (left_some (converted of_json (p s)) r d).0 old)) (members p (n - 1) r))
  member_passed old n k ts s r some key e =
      let d = left_some (converted of_json (p s)) r e in
      ap left (member_read p old n k ts s r d.0 some key d.1)

-- ---- so many members

module _ (depth : ℕ) where
  pub so_many_more : (n : ℕ) (ts s r : List Token) (k : Option (List ℕ)) → 0 < n → read_key ts ≡ Some (k, s) → skip_value depth s ≡ Some r → behind_so_many depth n ts ≡ behind_so_many depth (n - 1) r
  unfolding behind_so_many
  so_many_more zero ts s r k h e f = let never : ⊥ = omega arith in absurd never
  so_many_more (suc n) ts s r k h e f =
      let less : n ≡ suc n - 1 = omega arith in
      ap (option_and_then (λ q. option_and_then (behind_so_many depth n) (skip_value depth q.1))) e ∙ ap (option_and_then (behind_so_many depth n)) f ∙ ap (λ m. behind_so_many depth m r) less

  pub so_many_no_key : (n : ℕ) (ts : List Token) → 0 < n → read_key ts ≡ None → behind_so_many depth n ts ≡ None
  unfolding behind_so_many
  so_many_no_key zero ts h e = let never : ⊥ = omega arith in absurd never
  so_many_no_key (suc n) ts h e = ap (option_and_then (λ q. option_and_then (behind_so_many depth n) (skip_value depth q.1))) e

  pub so_many_no_value : (n : ℕ) (ts s : List Token) (k : Option (List ℕ)) → 0 < n → read_key ts ≡ Some (k, s) → skip_value depth s ≡ None → behind_so_many depth n ts ≡ None
  unfolding behind_so_many
  so_many_no_value zero ts s k h e f = let never : ⊥ = omega arith in absurd never
  so_many_no_value (suc n) ts s k h e f = ap (option_and_then (λ q. option_and_then (behind_so_many depth n) (skip_value depth q.1))) e ∙ ap (option_and_then (behind_so_many depth n)) f

  pub so_many_none : (ts : List Token) → behind_so_many depth 0 ts ≡ Some ts
  unfolding behind_so_many
  so_many_none ts = refl

  past : (n : ℕ) (o : Option (List Token)) → ((x : List Token) → behind_so_many depth (suc n) x ≡ option_and_then (behind_so_many depth 1) (behind_so_many depth n x))
      → option_and_then (behind_so_many depth (suc n)) o ≡ option_and_then (behind_so_many depth 1) (option_and_then (behind_so_many depth n) o)
  past n None h = refl
  past n (Some x) h = h x

  past_key : (n : ℕ) (o : Option (Option (List ℕ) × List Token)) → ((x : List Token) → behind_so_many depth (suc n) x ≡ option_and_then (behind_so_many depth 1) (behind_so_many depth n x))
      → option_and_then (λ q. option_and_then (behind_so_many depth (suc n)) (skip_value depth q.1)) o
      ≡ option_and_then (behind_so_many depth 1) (option_and_then (λ q. option_and_then (behind_so_many depth n) (skip_value depth q.1)) o)
  past_key n None h = refl
  past_key n (Some q) h = past n (skip_value depth q.1) h

  one_behind : (n : ℕ) (ts : List Token) → behind_so_many depth (suc n) ts ≡ option_and_then (behind_so_many depth 1) (behind_so_many depth n ts)
  unfolding behind_so_many
  one_behind zero ts = refl
  one_behind (suc n) ts = past_key n (read_key ts) (one_behind n)

  pub so_many_and_one : (n : ℕ) (ts us s r : List Token) (k : Option (List ℕ)) → behind_so_many depth n ts ≡ Some us → read_key us ≡ Some (k, s) → skip_value depth s ≡ Some r → behind_so_many depth (suc n) ts ≡ Some r
  so_many_and_one n ts us s r k e f g =
      one_behind n ts ∙ ap (option_and_then (behind_so_many depth 1)) e ∙ so_many_more 1 us s r k (omega arith) f g ∙ so_many_none r
