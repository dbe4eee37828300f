use Rattle.std.proofs.Common.{◌≡◌, ◌++◌, replicate, decimal, ◌∙◌, arith}
use Rattle.rail_ids.proofs.Padded.{parse-padded, IsUtf8-padded}
use Rattle.osdm_json.proofs.spellings.value_of_digits.Goals as goal

pub returns-in-Ok-parse : goal.returns-in-Ok-parse
returns-in-Ok-parse c = λ k n h is.
    let text : c.in-Ok.text.now ≡ replicate k 48 ++ decimal n = c.in-Ok.ensures.cases.0 ∙ is in
    let read = parse-padded 64 (omega arith) k n _ _ h text c.parse.ensures.value.0 in cc

pub returns-in-Err-parse : goal.returns-in-Err-parse
returns-in-Err-parse c = λ k n h is.
    let text : c.in-Ok.text.now ≡ replicate k 48 ++ decimal n = c.in-Ok.ensures.cases.0 ∙ is in
    let read = parse-padded 64 (omega arith) k n _ _ h text c.parse.ensures.value.0 in cc

pub returns-in-Err : goal.returns-in-Err
returns-in-Err c = λ k n h is. absurd (c.in-Err.ensures.cases.0 (IsUtf8-padded k n _ h is))
