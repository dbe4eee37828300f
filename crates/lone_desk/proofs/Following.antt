-- What a desk that is alone has seen is what it did.
use Rattle.std.proofs.Common.{◌≡◌, List, ◌++◌, ap, ◌∙◌, subst, arith}
use Rattle.history_model.specs.declared.entry.Step.{Step}
use Rattle.history_model.specs.Booking.{Layout}
use Rattle.history_model.specs.History.{IsLegal, state_of}
use Rattle.history_model.proofs.Seen.{legal-rest, state_of-append}
use Rattle.claim_rule.specs.Rule.{DeskView, IsWhole}
use Rattle.claim_rule.specs.Desks.{AddsSteps}
use Rattle.lone_desk.specs.Lone.{IsAlone, Follows, entries_of}

alone_is_whole : (desk : DeskView) → IsAlone desk → IsWhole desk.number desk.parted desk.joined
alone_is_whole desk is = (is.number, λ j some few. absurd (omega (arith, some, few, is.parted)))

pub shape_follows : (old new : DeskView) (steps : List Step) → IsAlone old → AddsSteps old new steps → Follows old new steps
shape_follows old new steps alone did =
    let more = entries_of old.number steps in
    let seen : new.seen ≡ old.seen ++ more = did.whole (alone_is_whole old alone) in
    let layout : new.layout ≡ old.layout = did.same.1 in
    let legal : IsLegal old.layout (old.seen ++ more) = subst (λ (g : Layout). IsLegal g (old.seen ++ more)) layout (subst (IsLegal new.layout) seen did.legal) in
    record {
      legal = legal-rest old.layout old.seen more legal;
      state = ap (λ (g : Layout). state_of g new.seen) layout ∙ (ap (state_of old.layout) seen ∙ state_of-append old.layout old.seen more);
      layout = layout;
      alone = record { number = did.same.2 ∙ alone.number; parted = did.same.4 ∙ alone.parted };
    }
