use Rattle.std.proofs.Common.{refl}
use Rattle.line_text.specs.Reads.{IsHeadSaid}
use Rattle.line_text.proofs.Parts.{behind_word, phase_of, retailer_of, rows_of, total_of}
use Rattle.line_text.proofs.Steps.{all_read, eat_then, part_fails, part_then}
use Rattle.line_text.proofs.reader.Reader.head.Goals as goal

pub returns-in_err-row : goal.returns-in_err-row
returns-in_err-row c =
    rw c.from_residual.ensures
    (eat_then {tail = behind_word} c.if-not-eat.ensures (λ h. refl) (part_fails rows_of (λ h j. j) c.in_err-row.ensures))

pub returns-in_err-phase : goal.returns-in_err-phase
returns-in_err-phase c =
    rw c.from_residual-in_err-phase.ensures
    (eat_then {tail = behind_word} c.if-not-eat.ensures (λ h. refl)
    (part_then rows_of (λ h j. j) c.in_ok-row.ensures (part_fails phase_of (λ h j. j.0) c.in_err-phase.ensures)))

pub returns-in_err-retailer : goal.returns-in_err-retailer
returns-in_err-retailer c =
    rw c.from_residual-in_err-retailer.ensures
    (eat_then {tail = behind_word} c.if-not-eat.ensures (λ h. refl)
    (part_then rows_of (λ h j. j) c.in_ok-row.ensures
    (part_then phase_of (λ h j. j.0) c.in_ok-phase.ensures
    (part_fails retailer_of (λ h j. j.0.0) c.in_err-retailer.ensures))))

pub returns-in_err-total : goal.returns-in_err-total
returns-in_err-total c =
    rw c.from_residual-in_err-total.ensures
    (eat_then {tail = behind_word} c.if-not-eat.ensures (λ h. refl)
    (part_then rows_of (λ h j. j) c.in_ok-row.ensures
    (part_then phase_of (λ h j. j.0) c.in_ok-phase.ensures
    (part_then retailer_of (λ h j. j.0.0) c.in_ok-retailer.ensures
    (part_fails total_of (λ h j. j.0.0.0) c.in_err-total.ensures)))))

pub returns : goal.returns
returns c =
    let rows = c.in_ok-row.ensures in let phase = c.in_ok-phase.ensures in
    let retailer = c.in_ok-retailer.ensures in let total = c.in_ok-total.ensures in
    let is : IsHeadSaid (record {
      row = c.in_ok-row.row;
      generation = c.in_ok-row.generation;
      phase = c.in_ok-phase.phase;
      retailer = c.in_ok-retailer.retailer;
      limit = c.in_ok-retailer.limit;
      total = c.in_ok-total.total;
      count = c.in_ok-total.count;
    }) =
    record {
      row = rows.found.0.0;
      generation = rows.found.0.1;
      phase = phase.found.0;
      retailer = retailer.found.0.0;
      limit = retailer.found.0.1;
      total = total.found.0.0;
      count = total.found.0.1;
    } in
    eat_then {tail = behind_word} c.if-not-eat.ensures (λ h. refl)
    (part_then rows_of (λ h j. j) rows
    (part_then phase_of (λ h j. j.0) phase
    (part_then retailer_of (λ h j. j.0.0) retailer
    (part_then total_of (λ h j. j.0.0.0) total
    (all_read ((((is, refl), refl), refl), refl) (λ h j i. record {
      row = (j.0.0.0.1 i).0;
      generation = (j.0.0.0.1 i).1;
      phase = j.0.0.1 i;
      retailer = (j.0.1 i).0;
      limit = (j.0.1 i).1;
      total = (j.1 i).0;
      count = (j.1 i).1;
    }))))))
