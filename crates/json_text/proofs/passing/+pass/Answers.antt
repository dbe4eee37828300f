use Rattle.std.proofs.Common.{◌≡◌, ◌-◌, ◌<◌, [], ◌∷◌, length, Some, None, refl, ap, ap₂, ◌∙◌, arith}
use Rattle.json.specs.Token.{Token}
use Rattle.json.specs.Json.{after_end_array, read_key, items, members, value}
use Rattle.json.specs.Reads.{token_of}
use Rattle.json.proofs.Grammar.{left, left-parse_map, left_none, left_some, value_is, value-begin_array, value-begin_object, read_key-shorter}
use Rattle.serde_json.specs.Data.{array, object, no_members, put}
use Rattle.serde_json.specs.Read.{of_json, converted}
use Rattle.json_text.specs.Outlines.{behind, behind_items, behind_members}
use Rattle.json_text.proofs.Turns.{converted-array, converted-object, item_refused, items_over, member_refused, key_refused, members_over}
use Rattle.json_text.proofs.Passed.{item_passed, member_passed}
use Rattle.json_text.proofs.passing.+pass.Goals as goal

pub pass-returns-in_err-token-clause-value : goal.pass-returns-in_err-token-clause-value
pass-returns-in_err-token-clause-value t c =
    let empty : c.args.reader.now ≡ [] = grind arith in
    let none : behind c.args.depth c.args.reader.now ≡ None = ap (behind c.args.depth) empty ∙ ap (λ o. left (converted of_json o)) (value_is c.args.depth []) in
    grind (arith, none)

pub pass-returns-then-depth-eq0-clause-value : goal.pass-returns-then-depth-eq0-clause-value
unfolding value
pass-returns-then-depth-eq0-clause-value t c =
    let first : c.args.reader.now ≡ token_of c.in_ok-token.token ∷ c.next.new.self = grind arith in
    let none : c.args.depth ≡ 0 = omega arith in
    ap₂ behind none (first ∙ ap (λ k. token_of k ∷ c.next.new.self) c.in-BeginArray.is)

pub pass-returns-then-depth-eq0-2-clause-value : goal.pass-returns-then-depth-eq0-2-clause-value
unfolding value
pass-returns-then-depth-eq0-2-clause-value t c =
    let first : c.args.reader.now ≡ token_of c.in_ok-token.token ∷ c.next.new.self = grind arith in
    let none : c.args.depth ≡ 0 = omega arith in
    ap₂ behind none (first ∙ ap (λ k. token_of k ∷ c.next.new.self) c.in-BeginObject.is)

pub pass-returns-in-String-clause-value : goal.pass-returns-in-String-clause-value
pass-returns-in-String-clause-value t c =
    let first : c.args.reader.now ≡ token_of c.in_ok-token.token ∷ c.next.new.self = grind arith in
    rw (value_is c.args.depth c.args.reader.now, first) (grind arith)

pub pass-returns-in-EndObject-clause-value : goal.pass-returns-in-EndObject-clause-value
pass-returns-in-EndObject-clause-value t c =
    let first : c.args.reader.now ≡ token_of c.in_ok-token.token ∷ c.next.new.self = grind arith in
    rw (value_is c.args.depth c.args.reader.now, first) (grind arith)

pub pass-returns-in-Some-clause-value : goal.pass-returns-in-Some-clause-value
pass-returns-in-Some-clause-value t c =
    let first : c.args.reader.now ≡ token_of c.in_ok-token.token ∷ c.next.new.self = grind arith in
    let is : c.args.reader.now ≡ Token.number c.in-Number.text.now ∷ c.next.new.self = grind (arith, first) in
    ap (λ o. left (converted of_json o)) (ap (value c.args.depth) is ∙ value_is c.args.depth _) ∙ rw (← c.in-Some.ensures)

pub pass-returns-in-None-clause-value : goal.pass-returns-in-None-clause-value
pass-returns-in-None-clause-value t c =
    let first : c.args.reader.now ≡ token_of c.in_ok-token.token ∷ c.next.new.self = grind arith in
    let is : c.args.reader.now ≡ Token.number c.in-Number.text.now ∷ c.next.new.self = grind (arith, first) in
    ap (λ o. left (converted of_json o)) (ap (value c.args.depth) is ∙ value_is c.args.depth _) ∙ rw (← c.in-None.ensures)

pub pass-returns-else-depth-eq0-clause-value : goal.pass-returns-else-depth-eq0-clause-value
pass-returns-else-depth-eq0-clause-value t c =
    let first : c.args.reader.now ≡ token_of c.in_ok-token.token ∷ c.next.new.self = grind arith in
    let opened : c.args.reader.now ≡ Token.begin_array ∷ c.next.new.self = first ∙ ap (λ k. token_of k ∷ c.next.new.self) c.in-BeginArray.is in
    let same : behind c.args.depth c.args.reader.now ≡ behind_items (c.args.depth - 1) c.next.new.self =
    ap (behind c.args.depth) opened ∙ ap (λ o. left (converted of_json o)) (value-begin_array c.args.depth c.next.new.self (omega arith))
    ∙ ap left (converted-array (items (value (c.args.depth - 1)) (length c.next.new.self) c.next.new.self)) ∙ left-parse_map array _ in
    rw same c.pass_items.ensures.value

pub pass-returns-else-depth-eq0-2-clause-value : goal.pass-returns-else-depth-eq0-2-clause-value
pass-returns-else-depth-eq0-2-clause-value t c =
    let first : c.args.reader.now ≡ token_of c.in_ok-token.token ∷ c.next.new.self = grind arith in
    let opened : c.args.reader.now ≡ Token.begin_object ∷ c.next.new.self = first ∙ ap (λ k. token_of k ∷ c.next.new.self) c.in-BeginObject.is in
    let same : behind c.args.depth c.args.reader.now ≡ behind_members (c.args.depth - 1) c.next.new.self =
    ap (behind c.args.depth) opened ∙ ap (λ o. left (converted of_json o)) (value-begin_object c.args.depth c.next.new.self (omega arith))
    ∙ ap left (converted-object (members (value (c.args.depth - 1)) (length c.next.new.self) c.next.new.self)) ∙ left-parse_map object _ in
    rw same c.pass_members.ensures.value

pub pass_items-items-preserved : goal.pass_items-items-preserved
pass_items-items-preserved t c =
    let p = value c.args.depth in
    let l = c.items in
    let n = l.invariant.0 in
    let going : (after_end_array l.reader ≡ None) × (c.take_end_array.new.self ≡ l.reader) = grind arith in
    let less : length c.pass.new.reader < length l.reader = rw (← going.1) c.in_ok-pass.ensures.shorter in
    (n - 1, omega (arith, l.invariant.1), l.invariant.2 ∙ item_passed p n l.reader _ (omega (arith, l.invariant.1)) going.0 (rw (← going.1) c.in_ok-pass.ensures.value), omega (arith, l.invariant.3))

pub pass_items-returns-in_err-pass-clause-value : goal.pass_items-returns-in_err-pass-clause-value
pass_items-returns-in_err-pass-clause-value t c =
    let p = value c.args.depth in
    let l = c.items in
    let n = l.invariant.0 in
    let going : (after_end_array l.reader ≡ None) × (c.take_end_array.new.self ≡ l.reader) = grind arith in
    let none = l.invariant.2 ∙ ap left (item_refused p n l.reader going.0 (left_none _ (rw (← going.1) c.in_err-pass.ensures.value))) in
    grind (arith, none)

pub pass_items-returns-clause-value : goal.pass_items-returns-clause-value
pass_items-returns-clause-value t c =
    let p = value c.args.depth in
    let l = c.items in
    let n = l.invariant.0 in
    l.invariant.2 ∙ ap left (items_over p n l.reader c.take_end_array.new.self l.invariant.1 (grind arith))

pub pass_members-members-init : goal.pass_members-members-init
pass_members-members-init t c = (length c.args.reader.now, no_members, omega arith, refl, omega arith)

pub pass_members-returns-in_err-next_key-clause-value : goal.pass_members-returns-in_err-next_key-clause-value
pass_members-returns-in_err-next_key-clause-value t c =
    let p = value c.args.depth in
    let l = c.members in
    let n = l.invariant.0 in
    let none = l.invariant.3 ∙ ap left (key_refused p l.invariant.1 n l.reader c.in_err-next_key.ensures.value) in
    grind (arith, none)

pub pass_members-members-preserved : goal.pass_members-members-preserved
pass_members-members-preserved t c =
    let p = value c.args.depth in
    let l = c.members in
    let n = l.invariant.0 in
    let old = l.invariant.1 in
    let k = c.in-Some.field-0.now in
    let s = c.next_key.new.self in
    let r = c.pass.new.reader in
    let key : read_key l.reader ≡ Some (Some k, s) = grind arith in
    let less = read_key-shorter l.reader (Some k) s key in
    let lesser = c.in_ok-pass.ensures.shorter in
    let is = c.in_ok-pass.ensures.value in
    (n - 1, put k (left_some (converted of_json (p s)) r is).0 old, omega (arith, l.invariant.2), l.invariant.3 ∙ member_passed p old n k l.reader s r (omega (arith, l.invariant.2)) key is, omega (arith, l.invariant.4))

pub pass_members-returns-in_err-pass-clause-value : goal.pass_members-returns-in_err-pass-clause-value
pass_members-returns-in_err-pass-clause-value t c =
    let p = value c.args.depth in
    let l = c.members in
    let n = l.invariant.0 in
    let k = c.in-Some.field-0.now in
    let s = c.next_key.new.self in
    let key : read_key l.reader ≡ Some (Some k, s) = grind arith in
    let none = l.invariant.3 ∙ ap left (member_refused p l.invariant.1 n k l.reader s key (left_none _ c.in_err-pass.ensures.value)) in
    grind (arith, none)

pub pass_members-returns-clause-value : goal.pass_members-returns-clause-value
pass_members-returns-clause-value t c =
    let p = value c.args.depth in
    let l = c.members in
    let n = l.invariant.0 in
    l.invariant.3 ∙ ap left (members_over p l.invariant.1 n l.reader c.next_key.new.self l.invariant.2 (grind arith))
