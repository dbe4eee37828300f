-- Each fault is that of the draft's bookings, whichever they are.
use Rattle.std.proofs.Common.{◌≡◌, ℕ, Option, Some, None, refl, sym, ap, ◌∙◌, subst}
use Rattle.cold_store.specs.Drafts.{DraftView}
use Rattle.cold_store.proofs.Sound.{none_fault, overlap_fault, own_fault}
use Rattle.cold_store.proofs.import.fault_of.Goals as goal

pub returns-in-Some-overlap-clause-some : goal.returns-in-Some-overlap-clause-some
returns-in-Some-overlap-clause-some c =
    overlap_fault c.args.draft.now c.in-Some-overlap.place c.in_default.ensures.none (sym (ap (λ (d : DraftView). d.overlap) c.draft.view_is) ∙ c.in-Some-overlap.is)

pub returns-in-Some-own_successor-clause-some : goal.returns-in-Some-own_successor-clause-some
returns-in-Some-own_successor-clause-some c =
    own_fault c.args.draft.now c.in-Some-own_successor.row c.in_default.ensures.none (sym (ap (λ (d : DraftView). d.overlap) c.draft.view_is) ∙ c.in_default-overlap.is) c.in-Some-own_successor.ensures.some

pub returns-clause-none : goal.returns-clause-none
returns-clause-none c =
    none_fault c.args.draft.now c.in_default.ensures.none (sym (ap (λ (d : DraftView). d.overlap) c.draft.view_is) ∙ c.in_default-overlap.is) c.in_default-own_successor.ensures.none
