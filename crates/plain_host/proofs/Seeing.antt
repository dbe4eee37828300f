-- What the looks of a quote show at a desk that is alone.
use Rattle.std.proofs.Common.{◌≡◌, ℕ, true, Option, Some, List, sym, ap, ◌∙◌, subst}
use Rattle.rail_ids.specs.declared.RowNo.{RowNo}
use Rattle.history_model.specs.declared.entry.Step.{Step}
use Rattle.history_model.specs.Phase.{is_sealed}
use Rattle.history_model.specs.Booking.{Booking, Layout, State, present, word_at}
use Rattle.history_model.specs.History.{IsLegalFrom}
use Rattle.history_model.specs.Laws.{IsWellFormed, AreInRange}
use Rattle.history_model.proofs.Ranges.{ranges_all}
use Rattle.claim_rule.specs.Rule.{DeskView, state_seen}
use Rattle.claim_rule.specs.Desks.{AddsSteps}
use Rattle.claim_rule.specs.Calls.{AddsStepsBy}
use Rattle.claim_rule.proofs.Moves.{is_sound}
use Rattle.booking_rows.specs.Views.{RowSeen}
use Rattle.booking_rows.specs.SealedRows.{FitWords}
use Rattle.booking_rows.proofs.Looked.{row_looked}
use Rattle.catalogue_contents.specs.Contents.{CatalogueView}
use Rattle.refund_core.specs.Quotes.{SeesOwn, SeesNone}
use Rattle.osdm_parts.specs.declared.problem.Problem.TheVariants.{UnknownBooking}
use Rattle.osdm_texts.specs.Answers.{Reply, problem}
use Rattle.lone_desk.specs.Lone.{entries_of}
use Rattle.lone_desk.proofs.Following.{shape_follows}
use Rattle.plain_host.specs.Plain.{Outcome, outcome, own_view}
use Rattle.plain_host.specs.Outcomes.{on_view, on_own}
use Rattle.plain_host.specs.PlainOf.{view_of, plain_in, plain_of}
use Rattle.plain_host.specs.Settled.{IsSettled}
use Rattle.plain_host.specs.Plainly.{IsLone}
use Rattle.plain_host.proofs.Staying.{StaysAlone, stays_by, still_lone}
use Rattle.plain_host.proofs.Standings.{own_is}
use Rattle.plain_host.proofs.Shown.{row_shown}
use Rattle.plain_host.proofs.Looks.{looks_stay}
use Rattle.plain_host.proofs.Commands.{unknown_comes}

pub record HasSeen (old new : DeskView) (row : RowNo) (retailer : ℕ) (v : RowSeen) : Type 0 where
  pub booking : Booking
  pub found : present (state_seen old) row.row ≡ Some booking
  pub generation : booking.generation ≡ row.generation
  pub sealed : is_sealed booking.phase ≡ true
  pub view : v ≡ view_of booking
  pub owned : own_view (plain_of old) row retailer ≡ Some v
  pub same : state_seen new ≡ state_seen old
  pub stays : StaysAlone old new

pub has_seen : (cat : CatalogueView) (row : RowNo) (retailer : ℕ) (v : RowSeen) (es : List Step) (old new : DeskView) → IsLone cat old → SeesOwn row retailer v es → AddsSteps old new es → HasSeen old new row retailer v
has_seen cat row retailer v es old new lone (mine, looks) did =
    let s = state_seen old in
    let f = shape_follows old new es lone.alone did in
    let good = is_sound old.layout old.seen lone.legal in
    let at = row_shown old.layout s old.number row v es good (ranges_all old.layout old.seen lone.legal) lone.fit looks f.legal in
    let b = at.booking in
    let retailers : word_at b 1 ≡ retailer = sym (ap (λ (x : RowSeen). x.retailer) at.view) ∙ mine in
    record {
      booking = b;
      found = at.found;
      generation = at.generation;
      sealed = at.sealed;
      view = at.view;
      owned = own_is old.layout s row retailer b good at.found at.generation at.sealed retailers ∙ ap (λ (x : RowSeen). Some x) (sym at.view);
      same = f.state ∙ looks_stay s old.number es (row_looked row (Some v) es looks);
      stays = stays_by old new es lone.alone did;
    }

-- the booking that stands in the row is seen
pub seen_again : (g : Layout) (s : State) (d : ℕ) (row : RowNo) (retailer : ℕ) (v : RowSeen) (b : Booking) (es : List Step) → IsWellFormed g s → AreInRange g s → FitWords g → SeesOwn row retailer v es
    → present s row.row ≡ Some b → IsLegalFrom g s (entries_of d es) → v ≡ view_of b
seen_again g s d row retailer v b es good ranges fit (mine, looks) at legal =
    let shown = row_shown g s d row v es good ranges fit looks legal in
    shown.view ∙ ap view_of (some_is shown.booking b (sym shown.found ∙ at))
  where
    some_is : (x y : Booking) → ◌≡◌ {A = Option Booking} (Some x) (Some y) → x ≡ y
    some_is x y e = cc

-- the reply and the list are the outcome's
abbrev pub IsBy : Outcome → DeskView → Reply → Type 0
IsBy o new reply = (reply ≡ o.reply) × (plain_of new ≡ o.plain)

pub stays_seen : (cat : CatalogueView) (row : RowNo) (retailer : ℕ) (v : RowSeen) (old new : DeskView) → IsLone cat old → HasSeen old new row retailer v → IsLone cat new
stays_seen cat row retailer v old new lone has = still_lone cat old new lone has.stays (subst IsSettled (sym has.same) lone.settled)

-- what is done with the booking that was seen changes nothing
pub seen_by : (cat : CatalogueView) (row : RowNo) (retailer : ℕ) (v : RowSeen) (does : RowSeen → Outcome) (r : Reply) (old new : DeskView) (reply : Reply) → IsLone cat old → HasSeen old new row retailer v
    → does v ≡ outcome r (plain_of old) → reply ≡ r → IsBy (on_own (plain_of old) row retailer does) new reply × IsLone cat new
seen_by cat row retailer v does r old new reply lone has is told = (
  subst (λ (o : Option RowSeen). IsBy (on_view does (plain_of old) o) new reply) (sym has.owned)
      (subst (λ (o : Outcome). IsBy o new reply) (sym is) (told, ap plain_in has.same)),
  stays_seen cat row retailer v old new lone has,
)

-- none was seen, and there is none
pub unseen_by : (cat : CatalogueView) (row : RowNo) (retailer : ℕ) (does : RowSeen → Outcome) (old new : DeskView) (reply : Reply) → IsLone cat old → AddsStepsBy (SeesNone cat.rows row retailer) old new
    → reply ≡ problem UnknownBooking → IsBy (on_own (plain_of old) row retailer does) new reply × IsLone cat new
unseen_by cat row retailer does old new reply lone did told =
    let none = unknown_comes cat row retailer old new lone did in (
      subst (λ (o : Option RowSeen). IsBy (on_view does (plain_of old) o) new reply) (sym none.0) (told, ap plain_in none.1),
      still_lone cat old new lone none.2 (subst IsSettled (sym none.1) lone.settled),
    )
