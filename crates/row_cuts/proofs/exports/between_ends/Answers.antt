use Rattle.std.proofs.Common.{◌≡◌, ◌∙◌, ℕ, length, Option, Some, subst, sym}
use Rattle.memchr.specs.Find.{IsLastByte, is_byte}
use Rattle.row_cuts.proofs.Ends.{found_first, most_is, no_lines, rest_is, some_lines}
use Rattle.row_cuts.proofs.exports.between_ends.Goals as goal

pub returns-in-Some-memrchr : goal.returns-in-Some-memrchr
returns-in-Some-memrchr c first last lines w =
    let text = c.args.text.now in
    let one : Some c.in-Some.first ≡ Some (length first) = sym c.in-Some.is ∙ found_first text first lines last w c.memchr.result c.memchr.ensures in
    let at : c.in-Some.first ≡ length first = cc in
    let rest = rest_is text first lines last w c.in-Some.first c.split_at.result.1.now at c.split_at.ensures.back in
    let most = most_is text first lines last w c.split_at.result.1.now c.split_at-2.result.0.now rest c.split_at-2.ensures.front in
    c.split_at-in-Some-memrchr.ensures.front
    ∙ some_lines lines last c.split_at-2.result.0.now c.in-Some-memrchr.last w.ends most
    (subst (λ (r : Option ℕ). IsLastByte (is_byte 10) c.split_at-2.result.0.now r) c.in-Some-memrchr.is c.memrchr.ensures)

pub returns-in-None : goal.returns-in-None
returns-in-None c first last lines w =
    let text = c.args.text.now in
    let one : Some c.in-Some.first ≡ Some (length first) = sym c.in-Some.is ∙ found_first text first lines last w c.memchr.result c.memchr.ensures in
    let at : c.in-Some.first ≡ length first = cc in
    let rest = rest_is text first lines last w c.in-Some.first c.split_at.result.1.now at c.split_at.ensures.back in
    let most = most_is text first lines last w c.split_at.result.1.now c.split_at-2.result.0.now rest c.split_at-2.ensures.front in
    no_lines lines last c.split_at-2.result.0.now w.ends most
    (subst (λ (r : Option ℕ). IsLastByte (is_byte 10) c.split_at-2.result.0.now r) c.in-None.is c.memrchr.ensures)
