use Rattle.std.proofs.Common.{◌≡◌, [], ◌∷◌, ◌++◌, true, false, true≢false, Some, refl, sym, ◌∙◌, rules, arith}
use Rattle.std.specs.Str.{bytes_eq}
use Rattle.std.proofs.lemmas.Slice.Eq.{bytes_eq-Decides}
use Rattle.json.specs.Json.{read_key, value}
use Rattle.json.proofs.Grammar.{left_none}
use Rattle.json_text.proofs.Turns.{key_refused, member_refused}
use Rattle.json_text.proofs.Outlined.{begun, kept_one, passed_one, ended}
use Rattle.json_text.proofs.outline.outline_of_members.Goals as goal

pub members-init : goal.members-init
members-init c = rw c.in_ok-kept.ensures.items (begun _ _)

pub returns-in_err-key-clause-err : goal.returns-in_err-key-clause-err
returns-in_err-key-clause-err c refused =
    let so = c.members.invariant in
    so.whole ∙ key_refused (value 126) so.acc so.n c.members.reader c.in_err-key.ensures.value

pub returns-in_err-pass-clause-err : goal.returns-in_err-pass-clause-err
returns-in_err-pass-clause-err c refused =
    let so = c.members.invariant in
    let k = c.in-Some.key.now in
    let s = c.next_key.new.self in
    let named : read_key c.members.reader ≡ Some (Some k, s) = grind arith in
    so.whole ∙ member_refused (value 126) so.acc so.n k c.members.reader s named (left_none _ c.in_err-pass.ensures.value)

pub members-preserved-then-eq : goal.members-preserved-then-eq
members-preserved-then-eq c =
    let k = c.in-Some.key.now in
    let s = c.next_key.new.self in
    let named : read_key c.members.reader ≡ Some (Some k, s) = grind arith in
    let same : bytes_eq k c.args.name.now ≡ true = grind arith in
    passed_one c.members.invariant k s _ named ((bytes_eq-Decides k c.args.name.now).0 same) c.in_ok-pass.ensures.value c.in_ok-pass.ensures.shorter

pub returns-in_err-member-clause-err : goal.returns-in_err-member-clause-err
returns-in_err-member-clause-err c refused =
    let so = c.members.invariant in
    let k = c.in-Some.key.now in
    let s = c.next_key.new.self in
    let named : read_key c.members.reader ≡ Some (Some k, s) = grind arith in
    so.whole ∙ member_refused (value 126) so.acc so.n k c.members.reader s named (c.read.ensures.err (grind arith))

pub members-preserved : goal.members-preserved
members-preserved c =
    let k = c.in-Some.key.now in
    let s = c.next_key.new.self in
    let v = c.in_ok-member.member in
    let named : read_key c.members.reader ≡ Some (Some k, s) = grind arith in
    let other : bytes_eq k c.args.name.now ≡ false = grind arith in
    let pushed : c.push.new.self.items ≡ c.members.kept.items ++ (c.in-Some.key, v) ∷ [] = search rules in
    rw pushed
    (kept_one c.members.invariant (c.in-Some.key, v) s _ named (λ h. true≢false (sym ((bytes_eq-Decides k c.args.name.now).1 h) ∙ other)) c.in_ok-member.ensures.ok c.in_ok-member.ensures.shorter)

pub returns-clause-ok : goal.returns-clause-ok
returns-clause-ok c = ended c.members.invariant c.members.kept c.next_key.new.self refl (grind arith)
