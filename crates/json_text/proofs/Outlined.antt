-- The members of an object as far as they are read, without those of one name.
use Rattle.std.proofs.Common.{◌≡◌, ℕ, suc, ◌+◌, ◌-◌, ◌<◌, ◌≤◌, List, [], ◌∷◌, ◌++◌, length, drop, true, false, cond, Vec, Global, Option, Some, None, IfSome, is_some, option_map, option_and_then, refl, sym, ap, ◌∙◌, subst, arith}
use Rattle.std.specs.Str.{bytes_eq}
use Rattle.json.specs.Token.{Token}
use Rattle.json.specs.declared.token.Token as reader
use Rattle.json.specs.Reads.{token_of, Yields}
use Rattle.json.specs.Json as json
use Rattle.json.specs.Json.{Parse, parse_map, read_key, items, members, value, value_with}
use Rattle.json.specs.Lex.{tokens}
use Rattle.json.proofs.Grammar.{left, left_some, read_key-shorter, value_is, value-begin_object}
use Rattle.serde_json.specs.Data.{Data, number, array, object, Members, no_members, put}
use Rattle.serde_json.specs.Find.{get, get_member, as_object}
use Rattle.serde_json.specs.Read.{of_json, of_items, of_members, converted, number_of, read}
use Rattle.serde_json.proofs.Views.{get_member-put, get_member-put_other}
use Rattle.json_text.specs.View.{view, members_view}
use Rattle.json_text.specs.declared.value.Value.{Object}
use Rattle.json_text.specs.Outlines.{after_brace, behind_so_many, value_tokens, member_tokens, data_at, members_of, IsOutlineOf, IsOutline}
use Rattle.json_text.proofs.Trees.{Entry, view-Object, members_view-push, found_at}
use Rattle.json_text.proofs.Turns.{member_read, members_over, converted-object, whole, whole_read}
use Rattle.json_text.proofs.Passed.{skipped, so_many_none, so_many_and_one}

abbrev pub value_at : List Token → ℕ → Option Data
value_at ts i = option_and_then data_at (value_tokens i ts)

-- after `count` members of those that `ts` begins with, `now` follows
pub record IsSoFar (name : List ℕ) (ts : List Token) (kept : List Entry) (place : Option ℕ) (count : ℕ) (now : List Token) : Type 0 where
  pub acc : Members
  pub n : ℕ
  pub enough : length now ≤ n
  pub whole : members_of ts ≡ converted (λ ms. of_members ms acc) (members (value 126) n now)
  pub passed : behind_so_many 126 count ts ≡ Some now
  pub others : (q : List ℕ) → (q ≡ name → ⊥) → get_member q acc ≡ get_member q (members_view kept)
  pub gone : get_member name (members_view kept) ≡ None
  pub left : get_member name acc ≡ option_and_then (value_at ts) place
  pub there : IfSome place (λ i. is_some (value_at ts i) ≡ true)
  pub room : count + length now ≤ length ts

pub begun : (name : List ℕ) (ts : List Token) → IsSoFar name ts [] None 0 ts
begun name ts = record {
  acc = no_members;
  n = length ts;
  enough = omega arith;
  whole = refl;
  passed = so_many_none 126 ts;
  others = λ q h. refl;
  gone = refl;
  left = refl;
  there = tt;
  room = omega arith;
}

alike : (q k : List ℕ) (d : Data) (xs ys : Members) → get_member q xs ≡ get_member q ys → get_member q (put k d xs) ≡ get_member q (put k d ys)
alike q k d xs ys e =
    found_at (bytes_eq k q) q k d xs refl ∙ ap (λ (o : Option Data). cond (bytes_eq k q) (Some d) o) e ∙ sym (found_at (bytes_eq k q) q k d ys refl)

next_count : (count : ℕ) (ts r : List Token) → behind_so_many 126 (suc count) ts ≡ Some r → behind_so_many 126 (count + 1) ts ≡ Some r
next_count count ts r e = let same : count + 1 ≡ suc count = omega arith in ap (λ m. behind_so_many 126 m ts) same ∙ e

-- a member of another name is kept
pub kept_one : {name : List ℕ} {ts : List Token} {kept : List Entry} {place : Option ℕ} {count : ℕ} {now : List Token} (so : IsSoFar name ts kept place count now) (e : Entry) (s r : List Token)
    → read_key now ≡ Some (Some e.0.now, s) → (e.0.now ≡ name → ⊥) → converted of_json (value 126 s) ≡ Some (view e.1, r) → length r < length s
    → IsSoFar name ts (kept ++ e ∷ []) place (count + 1) r
kept_one {name} {ts} {kept} {place} {count} {now} so e s r key apart is less =
    let k = e.0.now in
    let d = view e.1 in
    let shorter = read_key-shorter now (Some k) s key in
    record {
      acc = put k d so.acc;
      n = so.n - 1;
      enough = omega (arith, so.enough, shorter, less);
      whole = so.whole ∙ member_read (value 126) so.acc so.n k now s r d (omega (arith, so.enough, shorter)) key is;
      passed = next_count count ts r (so_many_and_one 126 count ts now s r (Some k) so.passed key (skipped 126 s r d is));
      others = λ q h. alike q k d so.acc (members_view kept) (so.others q h) ∙ ap (get_member q) (sym (members_view-push kept e));
      gone = ap (get_member name) (members_view-push kept e) ∙ get_member-put_other name k d (members_view kept) (λ h. apart (sym h)) ∙ so.gone;
      left = get_member-put_other name k d so.acc (λ h. apart (sym h)) ∙ so.left;
      there = so.there;
      room = omega (arith, so.room, shorter, less);
    }

-- a member of the name is passed over
pub passed_one : {name : List ℕ} {ts : List Token} {kept : List Entry} {place : Option ℕ} {count : ℕ} {now : List Token} (so : IsSoFar name ts kept place count now) (k : List ℕ) (s r : List Token)
    → read_key now ≡ Some (Some k, s) → k ≡ name → left (converted of_json (value 126 s)) ≡ Some r → length r < length s
    → IsSoFar name ts kept (Some count) (count + 1) r
passed_one {name} {ts} {kept} {place} {count} {now} so k s r key same is less =
    let found = left_some (converted of_json (value 126 s)) r is in
    let d = found.0 in
    let shorter = read_key-shorter now (Some k) s key in
    let at : value_tokens count ts ≡ Some s = ap (λ o. option_map (λ q. q.1) (option_and_then read_key o)) so.passed ∙ ap (option_map (λ q. q.1)) key in
    let here : value_at ts count ≡ Some d = ap (option_and_then data_at) at ∙ ap (option_map (λ p. p.0)) found.1 in
    record {
      acc = put k d so.acc;
      n = so.n - 1;
      enough = omega (arith, so.enough, shorter, less);
      whole = so.whole ∙ member_read (value 126) so.acc so.n k now s r d (omega (arith, so.enough, shorter)) key found.1;
      passed = next_count count ts r (so_many_and_one 126 count ts now s r (Some k) so.passed key (skipped 126 s r d found.1));
      others = λ q h. get_member-put_other q k d so.acc (λ i. h (i ∙ same)) ∙ so.others q h;
      gone = so.gone;
      left = ap (λ m. get_member m (put k d so.acc)) (sym same) ∙ get_member-put k d so.acc ∙ sym here;
      there = ap is_some here;
      room = omega (arith, so.room, shorter, less);
    }

pub ended : {name : List ℕ} {ts : List Token} {kept : List Entry} {place : Option ℕ} {count : ℕ} {now : List Token} (so : IsSoFar name ts kept place count now) (v : Vec Entry Global) (r : List Token)
    → v.items ≡ kept → read_key now ≡ Some (None, r) → IsOutlineOf name ts (view (Object v)) place r
ended {name} {ts} {kept} {place} {count} {now} so v r same key =
    let seen : view (Object v) ≡ object (members_view kept) = view-Object v ∙ ap (λ es. object (members_view es)) same in
    record {
      found = so.acc;
      read = so.whole ∙ members_over (value 126) so.acc so.n now r so.enough key;
      kind = ap (λ d. is_some (as_object d)) seen;
      others = λ q h. so.others q h ∙ sym (ap (get q) seen);
      gone = ap (get name) seen ∙ so.gone;
      left = so.left;
      there = so.there;
    }

-- ---- the whole text

pub object_read : (us : List Token) → converted of_json (value 127 (Token.begin_object ∷ us)) ≡ parse_map object (members_of us)
object_read us = ap (converted of_json) (value-begin_object 127 us (omega arith)) ∙ converted-object (members (value 126) (length us) us)

pub outlined : {name : List ℕ} {kept : Data} {place : Option ℕ} (text : List ℕ) (us : List Token) → tokens text ≡ Token.begin_object ∷ us → IsOutlineOf name us kept place [] → IsOutline name text kept place
outlined {name} {kept} {place} text us opened o = record {
  whole = object o.found;
  read = whole_read (value 127 (tokens text)) (object o.found) (ap (λ ts. converted of_json (value 127 ts)) opened ∙ object_read us ∙ ap (parse_map object) o.read);
  kind = sym o.kind;
  others = o.others;
  gone = o.gone;
  left = o.left ∙ ap (λ ts. option_and_then (λ i. option_and_then data_at (member_tokens i ts)) place) (sym opened);
  there = subst (λ ts. IfSome place (λ i. is_some (option_and_then data_at (member_tokens i ts)) ≡ true)) (sym opened) o.there;
}

-- ---- a text that is no object

module _ (name : List ℕ) where
  mapped : {A : Type 0} (f : A → Data) → ((a : A) → get name (f a) ≡ None) → (x : Option A) (d : Data) → option_map f x ≡ Some d → get name d ≡ None
  mapped f h None d e = absurd (cc)
  mapped f h (Some a) d e = ap (option_and_then (get name)) (sym e) ∙ h a

  flat : (j : json.Json) (ts : List Token) (d : Data) → ((e : Data) → of_json j ≡ Some e → get name e ≡ None) → whole (Some (j, ts)) ≡ Some d → get name d ≡ None
  flat j [] d h e = h d e
  flat j (t ∷ ts) d h e = absurd (cc)

  list : (o : Option (json.Items × List Token)) (d : Data) → whole (parse_map json.array o) ≡ Some d → get name d ≡ None
  list None d e = absurd (cc)
  list (Some q) d e = flat (json.array q.0) q.1 d (λ x. mapped array (λ ds. refl) (of_items q.0) x) e

  no_object_with : (a : Parse json.Items) (o : Parse json.Members) (ts : List Token) (d : Data) → is_some (after_brace ts) ≡ false → whole (value_with a o ts) ≡ Some d → get name d ≡ None
  no_object_with a o [] d h e = absurd (cc)
  no_object_with a o (Token.begin_object ∷ ts) d h e = absurd (cc)
  no_object_with a o (Token.end_object ∷ ts) d h e = absurd (cc)
  no_object_with a o (Token.begin_array ∷ ts) d h e = list (a ts) d e
  no_object_with a o (Token.end_array ∷ ts) d h e = absurd (cc)
  no_object_with a o (Token.key s ∷ ts) d h e = absurd (cc)
  no_object_with a o (Token.string s ∷ ts) d h e = flat (json.string s) ts d (λ x i. ap (option_and_then (get name)) (sym i)) e
  no_object_with a o (Token.number s ∷ ts) d h e = flat (json.number s) ts d (λ x. mapped number (λ n. refl) (number_of s) x) e
  no_object_with a o (Token.boolean b ∷ ts) d h e = flat (json.boolean b) ts d (λ x i. ap (option_and_then (get name)) (sym i)) e
  no_object_with a o (Token.null ∷ ts) d h e = flat json.null ts d (λ x i. ap (option_and_then (get name)) (sym i)) e
  no_object_with a o (Token.bad ∷ ts) d h e = absurd (cc)

  pub no_object : (text : List ℕ) (d : Data) → is_some (after_brace (tokens text)) ≡ false → read text ≡ Some d → IsOutline name text d None
  no_object text d h e = let none = no_object_with _ _ (tokens text) d h (ap whole (sym (value_is 127 (tokens text))) ∙ e) in record {
    whole = d;
    read = e;
    kind = refl;
    others = λ q i. refl;
    gone = none;
    left = none;
    there = tt;
  }

pub opened_object : (ts : List Token) → is_some (after_brace ts) ≡ true → (us : List Token) × (ts ≡ Token.begin_object ∷ us)
opened_object [] h = absurd (cc)
opened_object (Token.begin_object ∷ ts) h = (ts, refl)
opened_object (Token.end_object ∷ ts) h = absurd (cc)
opened_object (Token.begin_array ∷ ts) h = absurd (cc)
opened_object (Token.end_array ∷ ts) h = absurd (cc)
opened_object (Token.key s ∷ ts) h = absurd (cc)
opened_object (Token.string s ∷ ts) h = absurd (cc)
opened_object (Token.number s ∷ ts) h = absurd (cc)
opened_object (Token.boolean b ∷ ts) h = absurd (cc)
opened_object (Token.null ∷ ts) h = absurd (cc)
opened_object (Token.bad ∷ ts) h = absurd (cc)

-- ---- what a reader hands out

pub rest_is : (r : Option reader.Token) (old new us : List Token) → Yields old r new → old ≡ Token.begin_object ∷ us → new ≡ us
rest_is None old new us h e = absurd (cc)
rest_is (Some t) old new us h e = ap (drop 1) (sym h ∙ e)

pub some_token : (r : Option reader.Token) (old new : List Token) → Yields old r new → is_some r ≡ true → (t : Token) × (old ≡ t ∷ new)
some_token None old new h e = absurd (cc)
some_token (Some t) old new h e = (token_of t, h)

pub no_token : (r : Option reader.Token) (old new : List Token) → Yields old r new → is_some r ≡ false → old ≡ []
no_token None old new h e = h.0
no_token (Some t) old new h e = absurd (cc)
