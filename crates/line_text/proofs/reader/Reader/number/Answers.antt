use Rattle.std.proofs.Common.{◌+◌, ◌*◌, sym, subst, ◌∙◌, arith}
use Rattle.line_text.specs.Reads.{IsCut}
use Rattle.line_text.proofs.Numbers.{digit_behind, first_digit, more_is, more_none, none_is, number_is, too_great, zero_is}
use Rattle.line_text.proofs.reader.Reader.number.Goals as goal

pub returns-then-eat : goal.returns-then-eat
returns-then-eat c = zero_is _ _ (c.eat.ensures.found c.if-eat.true)

pub returns-in_err-number : goal.returns-in_err-number
returns-in_err-number c =
    let same = (c.eat.ensures.none c.if-eat.false).0 in
    rw c.from_residual.ensures (none_is _ _ (subst IsCut same c.in_err-number.ensures.0))

pub loop-digit-init : goal.loop-digit-init
loop-digit-init c =
    let e = c.eat.ensures.none c.if-eat.false in
    let h = first_digit c.in_ok-number.number c.args.self.now.rest.now c.digit.new.self.rest.now c.in_ok-number.ensures.0
    (sym e.0 ∙ c.in_ok-number.ensures.1) e.1 in
    record { some = h.0; fits = omega arith; is = h.1 }

pub returns-in_err-number-2 : goal.returns-in_err-number-2
returns-in_err-number-2 c =
    let inv = c.loop-digit.invariant in
    let n = c.loop-digit.number in let d = c.in-Some.digit in
    let is = digit_behind n d _ _ _ inv.some inv.fits c.in-Some.ensures.0 inv.is c.in-Some.ensures.1 in
    let great = more_none n d c.in_err-number-2.ensures in
    rw c.from_residual-in_err-number-2.ensures (too_great (n * 10 + d) _ _ _ great (omega arith) is)

pub loop-digit-preserved : goal.loop-digit-preserved
loop-digit-preserved c =
    let inv = c.loop-digit.invariant in
    let n = c.loop-digit.number in let d = c.in-Some.digit in
    let is = digit_behind n d _ _ _ inv.some inv.fits c.in-Some.ensures.0 inv.is c.in-Some.ensures.1 in
    let more = more_is n d c.in_ok-number-2.number c.in_ok-number-2.ensures in
    record { some = omega arith; fits = more.1; is = rw more.0 is }

pub returns : goal.returns
returns c =
    let inv = c.loop-digit.invariant in
    let is = inv.is in
    rw c.in_default.ensures.1 (number_is c.loop-digit.number _ _ inv.fits c.in_default.ensures.0 inv.is)
