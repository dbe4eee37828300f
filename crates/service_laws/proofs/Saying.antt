-- What a command tells of a booking is so in what was seen.
use Rattle.std.proofs.Common.{◌≡◌, ℕ, inl, inr, Bool, cond, List, [], ◌∷◌, ◌++◌, map, Option, None, Some, IsSomeAnd, refl, sym, ap, ◌∙◌, subst, append_assoc, append-nil, eq-eqb}
use Rattle.std.specs.List.{AllByRecursion}
use Rattle.rail_ids.specs.declared.RowNo.{RowNo}
use Rattle.history_model.specs.declared.entry.Entry.{Entry}
use Rattle.history_model.specs.declared.entry.Step.{Step}
use Rattle.history_model.specs.declared.entry.Step.TheVariants.{SawRow}
use Rattle.history_model.specs.declared.phase.Phase.{Phase}
use Rattle.history_model.specs.declared.phase.Phase.TheVariants.{Confirmed, Fulfilled, Ended}
use Rattle.history_model.specs.declared.phase.EndKind.TheVariants.{Refund, Release}
use Rattle.history_model.specs.Phase.{is_sealed}
use Rattle.history_model.specs.Booking.{Booking, booking_at, present}
use Rattle.history_model.specs.Allowed.{AllGiven}
use Rattle.history_model.specs.History.{IsLegal, IsLegalFrom, entry, own, state_after, state_of}
use Rattle.history_model.specs.Life.LeadsTo.{leads_here}
use Rattle.history_model.proofs.Forward.{legal_left, legal_right}
use Rattle.history_model.proofs.Generations.{present_key}
use Rattle.history_model.proofs.Keeping.{found}
use Rattle.history_model.proofs.Seen.{legal-rest}
use Rattle.history_model.proofs.Writing.{booking_of_word}
use Rattle.claim_rule.specs.Rule.{DeskView, OnBooking, state_seen}
use Rattle.claim_rule.specs.Desks.{AddsSteps}
use Rattle.claim_rule.specs.Turns.{IsPresentIn}
use Rattle.claim_rule.proofs.Shapes.{shape_rest}
use Rattle.booking_rows.specs.Views.{LooksRow, RowSeen, saw_phase, saw_words}
use Rattle.booking_rows.proofs.ViewLemmas.{sealed_not_free}
use Rattle.refund_core.specs.Quotes.{SeesOwn}
use Rattle.confirm_core.specs.declared.confirming.Confirmed.TheVariants as confirmed
use Rattle.confirm_core.specs.declared.fulfilling.Fulfilment.TheVariants as fulfilled
use Rattle.refund_core.specs.declared.releasing.Released.TheVariants as released
use Rattle.refund_core.specs.declared.refunding.Refunded.TheVariants as refunded
use Rattle.osdm_texts.specs.Answers.{booking}
use Rattle.booking_rows.specs.Aims.{end_of}
use Rattle.booking_rows.specs.declared.turns.Aim.TheVariants as aim
use Rattle.booking_service.specs.Deciding.{at_end}
use Rattle.service_laws.specs.Told.{HasCome, StandsFrom, ShownIsSo, ConfirmedIsSo, FulfilledIsSo, ReleasedIsSo, RefundedIsSo}
use Rattle.service_laws.proofs.Finding.{come_on, stands_on}
use Rattle.expiry_sweeper.proofs.Own.{around, steps_all}
use Rattle.expiry_sweeper.proofs.Standing.{ShowsSeal, seal_shown, stands_so}
use Rattle.service_laws.proofs.QuoteLemmas.{ShowsAll, shows_all, still_shown}

-- the booking that looks saw, where they began
pub record InView (row : RowNo) (v : RowSeen) (new : DeskView) : Type 0 where
  pub before : List Entry
  pub rest : List Entry
  pub whole : before ++ rest ≡ new.seen
  pub booking : Booking
  pub at : booking_at (state_of new.layout before) row.row row.generation ≡ Some booking
  pub phase : booking.phase ≡ v.phase
  pub shows : ShowsAll row.row booking v

-- also where other steps follow the looks
pub in_view : (row : RowNo) (v : RowSeen) (es fs : List Step) (old new : DeskView) → AddsSteps old new (es ++ fs) → LooksRow row (Some v) es → InView row v new
in_view row v es fs old new did (seen, (last, kept, is)) =
    let g = new.layout in
    let d = old.number in
    let first = saw_phase row v.phase in
    let words = saw_words row.row v in
    let looks = first ∷ words in
    let end = SawRow row.row 0 last in
    let x = shape_rest old new (es ++ fs) did in
    let are : es ++ fs ≡ looks ++ end ∷ fs = ap (λ (l : List Step). l ++ fs) is ∙ append_assoc looks (end ∷ []) fs in
    let mine : own did.front.0 d ≡ map (entry d) (looks ++ end ∷ fs) = subst (λ (l : List Step). own did.front.0 d ≡ map (entry d) l) are x.1 in
    let r = around d did.front.0 looks end fs mine in
    let a = around d r.before [] first words r.first in
    let before = old.seen ++ a.before in
    let front = entry d first ∷ a.after in
    let final = entry d end ∷ r.after in
    let rest : a.before ++ (front ++ final) ≡ did.front.0 = sym (append_assoc a.before front final) ∙ (ap (λ (l : List Entry). l ++ final) (sym a.is) ∙ sym r.is) in
    let whole : before ++ (front ++ final) ≡ new.seen = append_assoc old.seen a.before (front ++ final) ∙ (ap (λ (l : List Entry). old.seen ++ l) rest ∙ did.front.1) in
    let s = state_of g before in
    let l : IsLegalFrom g s (front ++ final) = legal-rest g before (front ++ final) (subst (IsLegal g) (sym whole) did.legal) in
    let then = legal_right g s front final l in
    let b = booking_of_word s row.row v.phase row.generation (sealed_not_free v.phase seen.sealed) (sym l.0.2) in
    let at : booking_at s row.row row.generation ≡ Some b.0 = subst (λ (n : ℕ). booking_at s row.row n ≡ Some b.0) b.3 (present_key s row.row b.0 b.1) in
    let still = still_shown (state_after s front) row last then.0.2 kept in
    let P = ShowsSeal row.row b.0 in
    let shows = seal_shown g s front row.row row.generation b.0 b.0 (legal_left g s front final l) at (ap is_sealed b.2 ∙ seen.sealed) (λ k _. refl) still in
    let own_looks : own front d ≡ map (entry d) looks = ap (λ (c : Bool). cond c (entry d first ∷ own a.after d) (own a.after d)) (eq-eqb d d refl) ∙ ap (λ (m : List Entry). entry d first ∷ m) a.last in
    record {
      before = before;
      rest = front ++ final;
      whole = whole;
      booking = b.0;
      at = at;
      phase = b.2;
      shows = shows_all row b.0 v [] (subst (AllByRecursion P) (sym (append-nil looks)) (steps_all P d front looks own_looks shows));
    }

-- a booking that was seen stands so
pub seen_own : (row : RowNo) (retailer : ℕ) (v : RowSeen) (es : List Step) (old new : DeskView) → AddsSteps old new es → SeesOwn row retailer v es → StandsFrom v.phase retailer new row
seen_own row retailer v es old new did sees =
    let g = new.layout in
    let x = in_view row v es [] old new (subst (AddsSteps old new) (sym (append-nil es)) did) sees.1 in
    let s = state_of g x.before in
    let come : HasCome v.phase retailer x.booking = (ap is_sealed x.phase ∙ sees.1.0.sealed, sym x.shows.retailer ∙ sees.0, leads_here x.booking.phase x.phase) in
    subst (λ (h : List Entry). OnBooking (state_of g h) row (HasCome v.phase retailer)) x.whole
    (come_on g x.before x.rest row v.phase retailer (subst (IsLegal g) (sym x.whole) did.legal) (stands_so s s row x.booking (HasCome v.phase retailer) refl x.at come))

-- a booking that stands, and of which it is known in which phase it is
in_this_phase : (row : RowNo) (phase q : Phase) (retailer : ℕ) (desk : DeskView) → StandsFrom phase retailer desk row → OnBooking (state_seen desk) row (λ b. b.phase ≡ q) → StandsFrom q retailer desk row
in_this_phase row phase q retailer desk on is =
    let s = state_seen desk in
    let o = booking_at s row.row row.generation in
    let f = found o (HasCome phase retailer) on in
    let in_it : f.0.phase ≡ q = subst (λ (x : Option Booking). IsSomeAnd x (λ b. b.phase ≡ q)) f.1 is in
    stands_so s s row f.0 (HasCome q retailer) refl f.1 (f.2.0, f.2.1, leads_here f.0.phase in_it)

present_phase : (desk : DeskView) (row : RowNo) (q : Phase) → IsPresentIn desk row q → OnBooking (state_seen desk) row (λ b. b.phase ≡ q)
present_phase desk row q on =
    let s = state_seen desk in
    let f = found (present s row.row) (λ b. (b.generation ≡ row.generation) × (b.phase ≡ q)) on in
    stands_so s s row f.0 (λ b. b.phase ≡ q) refl (subst (λ (n : ℕ). booking_at s row.row n ≡ Some f.0) f.2.0 (present_key s row.row f.0 f.1)) f.2.1

-- the booking that was found, after what was done with it
done : (row : RowNo) (retailer : ℕ) (u v : RowSeen) (q : Phase) (es fs : List Step) (old mid new : DeskView) → AddsSteps old mid es → SeesOwn row retailer u es → AddsSteps mid new fs → OnBooking (state_seen new) row (λ b. b.phase ≡ q) → v.phase ≡ q → StandsFrom v.phase retailer new row
done row retailer u v q es fs old mid new did sees more is told =
    subst (λ (p : Phase). StandsFrom p retailer new row) (sym told)
    (in_this_phase row u.phase q retailer new (stands_on row u.phase retailer mid new fs more (seen_own row retailer u es old mid did sees)) is)

pub shown_so : ShownIsSo
shown_so cat retailer now row v old new (inl (none, is)) = absurd cc
shown_so cat retailer now row v old new (inr (u, mid, (es, (in_row, sees), did), inl (same, is))) =
    let one : u ≡ v = cc in
    subst (λ (x : RowSeen). StandsFrom x.phase retailer new row) one (subst (λ (d : DeskView). StandsFrom u.phase retailer d row) (sym same) (seen_own row retailer u es old mid did sees))
shown_so cat retailer now row v old new (inr (u, mid, found, inr (same, is))) = absurd cc

told_phase : (row : RowNo) (v u : RowSeen) → booking row v ≡ booking row u → v.phase ≡ u.phase
told_phase row v u is = let one : v ≡ u = cc in ap (λ (x : RowSeen). x.phase) one

pub confirmed_so : ConfirmedIsSo
confirmed_so cat retailer now row v old new (inl (none, is)) here = absurd cc
confirmed_so cat retailer now row v old new (inr (u, mid, found, inr (same, is))) here = absurd cc
confirmed_so cat retailer now row v old new (inr (u, mid, (es, (in_row, sees), did), inl (confirmed.Done, (fs, so, more), is))) here =
    done row retailer u v Confirmed es fs old mid new did sees more (present_phase new row Confirmed here) (told_phase row v (record u { phase = Confirmed; ended = None }) is)
confirmed_so cat retailer now row v old new (inr (u, mid, found, inl (confirmed.Unknown, did, is))) here = absurd cc
confirmed_so cat retailer now row v old new (inr (u, mid, found, inl (confirmed.TooLate limit, did, is))) here = absurd cc
confirmed_so cat retailer now row v old new (inr (u, mid, found, inl (confirmed.WrongState seen, did, is))) here = absurd cc

pub fulfilled_so : FulfilledIsSo
fulfilled_so cat retailer now row v old new (inl (none, is)) here = absurd cc
fulfilled_so cat retailer now row v old new (inr (u, mid, found, inr (same, is))) here = absurd cc
fulfilled_so cat retailer now row v old new (inr (u, mid, (es, (in_row, sees), did), inl (fulfilled.Done, (fs, so, more), is))) here =
    done row retailer u v Fulfilled es fs old mid new did sees more (present_phase new row Fulfilled here) (told_phase row v (record u { phase = Fulfilled; ended = None }) is)
fulfilled_so cat retailer now row v old new (inr (u, mid, found, inl (fulfilled.Unknown, did, is))) here = absurd cc
fulfilled_so cat retailer now row v old new (inr (u, mid, found, inl (fulfilled.WrongState seen, did, is))) here = absurd cc

pub released_so : ReleasedIsSo
released_so cat retailer now row v old new (inl (none, is)) over = absurd cc
released_so cat retailer now row v old new (inr (u, mid, found, inr (same, is))) over = absurd cc
released_so cat retailer now row v old new (inr (u, mid, (es, (in_row, sees), did), inl (released.Done, (fs, so, more), is))) over =
    let s = state_seen new in
    let f = found (booking_at s row.row row.generation) (λ b. (b.phase ≡ Ended Release) × (b.end ≡ end_of (aim.Release now)) × AllGiven b) over in
    done row retailer u v (Ended Release) es fs old mid new did sees more (stands_so s s row f.0 (λ b. b.phase ≡ Ended Release) refl f.1 f.2.0) (told_phase row v (at_end Release (end_of (aim.Release now)) u) is)
released_so cat retailer now row v old new (inr (u, mid, found, inl (released.Unknown, did, is))) over = absurd cc
released_so cat retailer now row v old new (inr (u, mid, found, inl (released.WrongState seen, did, is))) over = absurd cc

pub refunded_so : RefundedIsSo
refunded_so cat retailer now code row v old new (inl (none, is)) over = absurd cc
refunded_so cat retailer now code row v old new (inr (u, mid, found, inr (same, is))) over = absurd cc
refunded_so cat retailer now code row v old new (inr (u, mid, (es, (in_row, sees), did), inl (refunded.Done amount, (fs, so, more), is))) over =
    let s = state_seen new in
    let end = end_of (aim.Refund now code.amount) in
    let one : row ≡ code.row = cc in
    let told : booking code.row v ≡ booking code.row (at_end Refund end u) = ap (λ (r : RowNo). booking r v) (sym one) ∙ is in
    let f = found (booking_at s code.row.row code.row.generation) (λ b. (b.phase ≡ Ended Refund) × (b.end ≡ end) × AllGiven b) over in
    subst (StandsFrom v.phase retailer new) (sym one) (done code.row retailer u v (Ended Refund) es fs old mid new did sees more (stands_so s s code.row f.0 (λ b. b.phase ≡ Ended Refund) refl f.1 f.2.0) (told_phase code.row v (at_end Refund end u) told))
refunded_so cat retailer now code row v old new (inr (u, mid, found, inl (refunded.Unknown, did, is))) over = absurd cc
refunded_so cat retailer now code row v old new (inr (u, mid, found, inl (refunded.WrongState shown, did, is))) over = absurd cc
refunded_so cat retailer now code row v old new (inr (u, mid, found, inl (refunded.QuoteStale made at, did, is))) over = absurd cc
refunded_so cat retailer now code row v old new (inr (u, mid, found, inl (refunded.QuoteWrong, did, is))) over = absurd cc
