use Rattle.std.proofs.Common.{ℕ, ◌<◌}
use Rattle.host_words.specs.Tiny.{IsNumber}
use Rattle.host_words.proofs.tiny.number_spelled.Given as goal

abbrev pub invariant-loop-number : goal.invariant-loop-number
invariant-loop-number l = (n : ℕ) → n < l.number → IsNumber l.word l.most n → ⊥
