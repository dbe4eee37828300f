use Rattle.std.proofs.Common.{◌≡◌, ◌∙◌, ◌^◌, ◌<◌, ◌+◌, length, decimal, sym, ap, arith, true≢false}
use Rattle.std.proofs.lemmas.Slice.Eq.{bytes_eq-Decides}
use Rattle.osdm_json.proofs.Finding.{run_from-none, run_from-some}
use Rattle.osdm_json.proofs.spellings.run_of.Goals as goal
use Rattle.osdm_json.proofs.spellings.run_of.Goals.{else-number-count-via-then-number-count+else-eq, else-number-count-via-else-number-count}

pub returns-in_err-number-clause-value : goal.returns-in_err-number-clause-value
returns-in_err-number-clause-value c =
    c.from_residual.ensures ∙ sym (run_from-none 0 c.args.text.now c.args.runs.now.runs (λ m low high is.
    (let small : m < 2 ^ 64 = omega (arith, c.count.ensures.value, c.count.ensures.most) in
    let none = c.in_err-number.ensures 0 m small is in absurd (cc))))

pub returns-then-eq-clause-value : goal.returns-then-eq-clause-value
returns-then-eq-clause-value c =
    let same : c.as_bytes.result.now ≡ c.args.text.now = (bytes_eq-Decides c.as_bytes.result.now c.args.text.now).0 (sym c.eq.ensures ∙ c.if-eq.true) in
    let is : c.args.text.now ≡ decimal c.in_ok-number.number = sym same ∙ c.as_bytes.ensures.value ∙ c.format.ensures.text in
    let small : c.in_ok-number.number < 0 + length c.args.runs.now.runs = omega (arith, c.count.ensures.value, c.from-count.ensures, c.if-number-count.true) in
    sym (run_from-some 0 c.in_ok-number.number c.args.text.now c.args.runs.now.runs (omega arith) small is
    (λ i within spelled.
    (let low : i < 2 ^ 64 = omega (arith, c.count.ensures.value, c.count.ensures.most) in
    let read = c.in_ok-number.ensures 0 i low spelled in cc)))

pub returns-else-number-count-clause-value : goal.returns-else-number-count-clause-value
returns-else-number-count-clause-value c =
    elim c.else-number-count.branch [
      | else-number-count-via-then-number-count+else-eq w ↦
          sym (run_from-none 0 c.args.text.now c.args.runs.now.runs (λ m low high is.
          (let small : m < 2 ^ 64 = omega (arith, c.count.ensures.value, c.count.ensures.most) in
          let read = c.in_ok-number.ensures 0 m small is in
          let number : c.in_ok-number.number ≡ m = cc in
          let same : w.as_bytes.result.now ≡ c.args.text.now = w.as_bytes.ensures.value ∙ w.format.ensures.text ∙ ap decimal number ∙ sym is in
          true≢false (sym ((bytes_eq-Decides w.as_bytes.result.now c.args.text.now).1 same) ∙ sym w.eq.ensures ∙ w.if-eq.false))))
      | else-number-count-via-else-number-count w ↦
          sym (run_from-none 0 c.args.text.now c.args.runs.now.runs (λ m low high is.
          (let small : m < 2 ^ 64 = omega (arith, c.count.ensures.value, c.count.ensures.most) in
          let read = c.in_ok-number.ensures 0 m small is in
          let number : c.in_ok-number.number ≡ m = cc in
          omega (arith, c.count.ensures.value, c.from-count.ensures, w.if-number-count.false))))
    ]
