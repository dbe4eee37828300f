use Rattle.std.proofs.Common.{◌≡◌, ◌∙◌, ap, rules}
use Rattle.std.proofs.lemmas.Option.{IfSome_then}
use Rattle.serde_json.specs.Written.{compact_text}
use Rattle.history_model.specs.declared.phase.Phase.TheVariants as phase
use Rattle.osdm_texts.specs.Answers.{telling}
use Rattle.osdm_texts.specs.Bookings.{booking_tree}
use Rattle.osdm_texts.specs.Seen.{made_view}
use Rattle.osdm_texts.proofs.Telling.{of_created}
use Rattle.osdm_texts.proofs.written.write_prebooked.Goals as goal

pub returns : goal.returns
returns c =
    let cat = c.args.cat.now in
    let view = made_view phase.Prebooked c.args.detail.now c.args.items.now in
    let text : c.in_ok-ok.field-0.items ≡ compact_text (booking_tree cat c.args.row view) = search rules in
    record {
      told = IfSome_then c.written_of.result c.written_of.ensures.told (λ written e. e ∙ (ap (telling 201) text ∙ of_created cat c.args.row view));
    }
