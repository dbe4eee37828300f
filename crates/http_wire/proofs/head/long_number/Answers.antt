use Rattle.std.proofs.Common.{◌≡◌, ◌≤◌, true, length, sym, ◌∙◌, ap, arith}
use Rattle.std.specs.Char.{is_ascii_digit}
use Rattle.std.specs.Str.Parse.{digits_value_after}
use Rattle.std.proofs.lemmas.Grind.{common_steps}
use Rattle.std.proofs.lemmas.List.{drop_all}
use Rattle.std.proofs.lemmas.List.Elements.{All-from_get_or}
use Rattle.http_wire.proofs.head.long_number.Goals as goal

pub returns-clause-some : goal.returns-clause-some
returns-clause-some c =
    let past : length c.args.digits.now ≤ c.loop-digit.digit-index = omega arith in
    record {
      some = grind (arith, common_steps);
      few = omega arith;
      each = All-from_get_or (λ b. is_ascii_digit b ≡ true) c.args.digits.now 0 (λ i lt. c.loop-digit.invariant.each i (omega (arith, lt)));
      is = ap (digits_value_after 10 c.loop-digit.number) (sym (drop_all c.loop-digit.digit-index c.args.digits.now past))
          ∙ c.loop-digit.invariant.rest;
    }
