use Rattle.std.proofs.Common.{Bool, ◌||◌, sym, ◌∙◌, ap}
use Rattle.http_wire.specs.HeadLines.{says_close}
use Rattle.http_wire.proofs.WordLemmas.{says_next, says_end}
use Rattle.http_wire.proofs.served.says_close.Goals as goal

pub returns-in_default : goal.returns-in_default
returns-in_default c =
    c.word_closes.ensures
    ∙ says_end c.words.rest.now c.split_at.result.0.now c.split_at.result.1.now c.word_length-at.result c.word_length-at.ensures.place
    c.word_length-at.ensures.within c.split_at.ensures.front c.split_at.ensures.back c.in_default.ensures.cases
    ∙ c.words.invariant

pub returns-then-word_closes : goal.returns-then-word_closes
returns-then-word_closes c =
    ap (λ (b : Bool). b || says_close c.in-Some.after.now) c.if-word_closes.ensures
    ∙ sym (says_next c.words.rest.now c.split_at.result.0.now c.split_at.result.1.now c.in-Some.after.now c.in-Some.field-0-0.now c.word_length-at.result
    c.word_length-at.ensures.place c.split_at.ensures.front c.split_at.ensures.back c.in-Some.ensures.cases.0)
    ∙ c.words.invariant

pub words-preserved : goal.words-preserved
words-preserved c =
    ap (λ (b : Bool). b || says_close c.in-Some.after.now) c.if-word_closes.ensures
    ∙ sym (says_next c.words.rest.now c.split_at.result.0.now c.split_at.result.1.now c.in-Some.after.now c.in-Some.field-0-0.now c.word_length-at.result
    c.word_length-at.ensures.place c.split_at.ensures.front c.split_at.ensures.back c.in-Some.ensures.cases.0)
    ∙ c.words.invariant
