use Rattle.std.proofs.Common.{◌∙◌, ap, length, map}
use Rattle.std.proofs.lemmas.List.{length-map}
use Rattle.line_text.specs.Lines.{booking_line, first_line, last_line}
use Rattle.row_cuts.proofs.Ends.{count_is, export_within}
use Rattle.row_cuts.proofs.exports.export_rows.Goals as goal

pub returns : goal.returns
returns c places rows said is =
    let w = export_within c.args.export.now places rows said is in
    let lines = map booking_line said in
    let text = c.between_ends-lines.ensures (first_line places rows) (last_line (length said)) lines w in
    let count = c.count.ensures ∙ (ap length c.memchr_iter.ensures.value ∙ (count_is lines c.between_ends-lines.result.now w.each text ∙ length-map said booking_line)) in
    (text, count)
