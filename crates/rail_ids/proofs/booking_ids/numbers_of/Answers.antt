use Rattle.std.proofs.Common.{rules, ◌≡◌, ◌++◌, ◌-◌, ℕ, ◌<◌, ◌^◌, length, decimal, replicate, Some, arith, sym, ap, ◌∙◌}
use Rattle.rail_ids.specs.Spelling.{generation_text}
use Rattle.rail_ids.proofs.booking_ids.numbers_of.Goals as goal

pub returns-in_err-parse-2 : goal.returns-in_err-parse-2
returns-in_err-parse-2 c = λ row generation h most is.
    let rest : c.in_ok-numbers.numbers.now ≡ replicate (6 - length (decimal row)) 48 ++ (decimal row ++ generation_text generation) = search rules in
    let parts = c.parts_of.ensures (6 - length (decimal row)) row generation h rest in
    let read = c.parse-2.ensures 0 generation (omega arith) parts.1 in
    search rules

pub returns : goal.returns
returns c = λ row generation h most is.
    let rest : c.in_ok-numbers.numbers.now ≡ replicate (6 - length (decimal row)) 48 ++ (decimal row ++ generation_text generation) = search rules in
    let parts = c.parts_of.ensures (6 - length (decimal row)) row generation h rest in
    let first = c.parse.ensures (6 - length (decimal row)) row h parts.0 in
    let second = c.parse-2.ensures 0 generation (omega arith) parts.1 in
    search rules
