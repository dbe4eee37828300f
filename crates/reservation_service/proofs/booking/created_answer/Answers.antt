use Rattle.std.proofs.Common.{◌∙◌, List, ap, subst, sym}
use Rattle.std.proofs.lemmas.Option.{IfSome_then}
use Rattle.rail_ids.specs.declared.RowNo.{RowNo}
use Rattle.leg_masks.specs.Interval.{PlacedSpan as Item}
use Rattle.history_model.specs.declared.phase.Phase.TheVariants as phase
use Rattle.osdm_parts.specs.Ids.{HasId}
use Rattle.osdm_texts.specs.Answers.{created, reply_told}
use Rattle.osdm_texts.specs.Seen.{made_view}
use Rattle.reservation_service.proofs.booking.created_answer.Goals as goal

pub write_prebooked-requires : goal.write_prebooked-requires
write_prebooked-requires c = record { id = subst HasId (sym c.row.ensures) c.requires.id }

pub returns : goal.returns
returns c =
    let cat = c.args.shop.now.cat.now in
    let detail = c.args.detail.now in
    let row = ap (λ (r : RowNo). reply_told cat (created r (made_view phase.Prebooked detail c.items.result.now))) c.row.ensures in
    let items = ap (λ (l : List Item). reply_told cat (created c.args.hold.now.row (made_view phase.Prebooked detail l))) c.items.ensures.items in
    record {
      told = IfSome_then c.write_prebooked.result c.write_prebooked.ensures.told (λ written e. e ∙ (row ∙ items));
    }
