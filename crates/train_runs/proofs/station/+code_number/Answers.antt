use Rattle.std.proofs.Common.{◌<◌, arith, ℕ, subst, sym, ap, ◌∙◌}
use Rattle.std.proofs.lemmas.List.{take_rest}
use Rattle.train_runs.specs.Stations.{code_number as number_of}
use Rattle.train_runs.proofs.Numbers.{below_seven}
use Rattle.train_runs.proofs.station.+code_number.Goals as goal

pub overflow_mul-result : goal.overflow_mul-result
overflow_mul-result t c =
    let same = c.code_number.ensures ∙ ap number_of (take_rest c.args.code.now 1) in
    let small : c.code_number.result < 72_057_594_037_927_936 = subst (λ (n : ℕ). n < 72_057_594_037_927_936) (sym same) (below_seven c.args.code.now c.requires.letters c.requires.few) in omega arith

pub overflow_add-result : goal.overflow_add-result
overflow_add-result t c =
    let same = c.code_number.ensures ∙ ap number_of (take_rest c.args.code.now 1) in
    let small : c.code_number.result < 72_057_594_037_927_936 = subst (λ (n : ℕ). n < 72_057_594_037_927_936) (sym same) (below_seven c.args.code.now c.requires.letters c.requires.few) in omega arith
