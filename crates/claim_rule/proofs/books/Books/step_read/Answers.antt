use Rattle.std.proofs.Common.{ap, ◌∙◌, refl}
use Rattle.claim_rule.specs.Rule.{DeskView}
use Rattle.claim_rule.proofs.Moves.{looks}
use Rattle.claim_rule.specs.Seats.{desk_view}
use Rattle.claim_rule.proofs.Holding.{still_of}
use Rattle.claim_rule.proofs.Desks.{steps_as, sound_after}
use Rattle.claim_rule.proofs.books.Books.step_read.Goals as goal
use Rattle.history_model.specs.declared.entry.Step.TheVariants.{SawRow}
use Rattle.history_model.specs.declared.word.Word.TheVariants.{Row}

pub load_as-requires : goal.load_as-requires
load_as-requires c = record {
  own = (ap (λ (d : DeskView). d.table) c.desk.view_is ∙ c.requires.own.table, refl, c.desk.invariant.fresh);
  word = c.requires.row;
  step = looks c.args.self.now.layout c.desk.inside.seat.me.0 (Row c.args.row.row c.args.word) c.requires.row;
}

pub invariant_of-desk : goal.invariant_of-desk
invariant_of-desk c = sound_after c.args.self.now.layout (SawRow c.args.row.row c.args.word c.load_as.result) c.desk.inside.seat c.load_as.new.seat (ap (λ (d : DeskView). d.layout) c.desk.view_is ∙ c.requires.own.layout) c.desk.invariant c.load_as.ensures

pub returns : goal.returns
returns c = let did = steps_as c.args.self.now.layout (SawRow c.args.row.row c.args.word c.load_as.result) c.desk.inside.seat c.load_as.new.seat c.desk.inside.kept c.desk.inside.past c.args.desk.now c.desk.view_is (ap (λ (d : DeskView). d.layout) c.desk.view_is ∙ c.requires.own.layout) c.load_as.ensures in
    record { own = still_of (SawRow c.args.row.row c.args.word c.load_as.result) c.args.self.now c.args.desk.now (desk_view c.load_as.new.seat c.desk.inside.kept c.desk.inside.past) refl (λ r e. refl) did c.requires.own; look = did }
