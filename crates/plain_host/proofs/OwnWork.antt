-- A desk that is alone and idle has settled bookings.
use Rattle.std.proofs.Common.{◌≡◌, ◌≢◌, ℕ, true, false, [], ◌∷◌, ◌++◌, Option, Some, None, IfSome, refl, sym, ap, ◌∙◌, subst, inl, inr, append_assoc}
use Rattle.std.specs.Prelude.{◌⊎◌, option_map}
use Rattle.std.specs.List.{AllByRecursion}
use Rattle.rail_ids.specs.declared.RowNo.{RowNo}
use Rattle.history_model.specs.declared.phase.Phase.{Phase}
use Rattle.history_model.specs.declared.phase.Phase.TheVariants.{Free, Making, Prebooked, Confirmed, Fulfilled, Ending, Ended}
use Rattle.history_model.specs.declared.phase.EndKind.{EndKind}
use Rattle.history_model.specs.Phase.{is_sealed, is_ended}
use Rattle.history_model.specs.Allowed.{IsMadeBy, IsBeingEndedBy}
use Rattle.history_model.specs.Booking.{Booking, Layout, State, booking_at, present}
use Rattle.history_model.specs.Laws.{IsWellFormed, IsSound, is_owners}
use Rattle.history_model.proofs.Generations.{stands_there, unended_present}
use Rattle.history_model.proofs.Owners.{on_row}
use Rattle.claim_rule.specs.OwnWork.{MakesLast}
use Rattle.claim_rule.specs.Rule.{BooksView, DeskView, state_seen}
use Rattle.claim_rule.specs.Desks.{IsOf}
use Rattle.claim_rule.specs.Holds.{StandsFor, empty_hold}
use Rattle.claim_rule.specs.Out.{IsIdle}
use Rattle.claim_rule.proofs.Moves.{is_sound}
use Rattle.claim_rule.proofs.OwnWork.{IsOwned}
use Rattle.booking_rows.specs.SealedRows.{FitWords}
use Rattle.catalogue_contents.specs.Contents.{CatalogueView, legs_in}
use Rattle.lone_desk.specs.Lone.{IsAlone}
use Rattle.plain_host.specs.Settled.{IsStanding, IsEmptyRow, IsSettled}
use Rattle.plain_host.specs.Plainly.{IsLone}

-- a booking that is not in the making, where none is ending
stands_still : (p : Phase) → p ≢ Free → p ≢ Making → ((kind : EndKind) → p ≢ Ending kind) → (is_sealed p ≡ true) × (is_owners p ≡ false)
stands_still Free a b c = absurd (a refl)
stands_still Making a b c = absurd (b refl)
stands_still Prebooked a b c = (refl, refl)
stands_still Confirmed a b c = (refl, refl)
stands_still Fulfilled a b c = (refl, refl)
stands_still (Ending kind) a b c = absurd (c kind refl)
stands_still (Ended kind) a b c = (refl, refl)

is_making : (p : Phase) → (p ≡ Making) ⊎ (p ≢ Making)
is_making Free = inr (λ e. absurd cc)
is_making Making = inl refl
is_making Prebooked = inr (λ e. absurd cc)
is_making Confirmed = inr (λ e. absurd cc)
is_making Fulfilled = inr (λ e. absurd cc)
is_making (Ending kind) = inr (λ e. absurd cc)
is_making (Ended kind) = inr (λ e. absurd cc)

kept_row : (o : Option RowNo) (row : ℕ) → option_map (λ (kept : RowNo). kept.row) o ≡ Some row → (r : RowNo) × (o ≡ Some r) × (r.row ≡ row)
kept_row None row e = absurd (let never : ◌≡◌ {A = Option ℕ} None (Some row) = e in cc)
kept_row (Some r) row e = (r, refl, (let same : r.row ≡ row = cc in same))

kept_empty : (desk : DeskView) (b : Booking) → IfSome desk.kept (λ r. StandsFor desk (empty_hold r)) → option_map (λ (kept : RowNo). kept.row) desk.kept ≡ Some b.row
    → present (state_seen desk) b.row ≡ Some b → b.items ≡ []
kept_empty desk b kept is at =
    let k = kept_row desk.kept b.row is in
    let stands : StandsFor desk (empty_hold k.0) = subst (λ (o : Option RowNo). IfSome o (λ r. StandsFor desk (empty_hold r))) k.1 kept in
    let same : Some b ≡ Some stands.booking = sym at ∙ (ap (present (state_seen desk)) (sym k.2) ∙ stands.found) in
    let one : b ≡ stands.booking = cc in
    ap (λ (x : Booking). x.items) one ∙ stands.items

stands_before : (b : Booking) (rest : State) → IsStanding b → IsSettled rest → IsSettled (b ∷ rest)
stands_before b rest stands more = record { standing = b ∷ more.standing; each = (stands, more.each); is = by more.is }
  where
    by : (rest ≡ more.standing) ⊎ ((e : Booking) × IsEmptyRow e × (rest ≡ more.standing ++ e ∷ []))
        → (b ∷ rest ≡ b ∷ more.standing) ⊎ ((e : Booking) × IsEmptyRow e × (b ∷ rest ≡ b ∷ (more.standing ++ e ∷ [])))
    by (inl same) = inl (ap (λ (l : State). b ∷ l) same)
    by (inr (e, empty, same)) = inr (e, empty, ap (λ (l : State). b ∷ l) same)

settles_from : (desk : DeskView) (front rest : State) → IsWellFormed desk.layout (state_seen desk) → IfSome desk.kept (λ r. StandsFor desk (empty_hold r)) → IsAlone desk → IsIdle desk
    → state_seen desk ≡ front ++ rest → AllByRecursion (IsSound desk.layout) rest → AllByRecursion IsOwned rest → MakesLast rest → IsSettled rest
settles_from desk front [] well kept alone idle is sound owned last = record { standing = []; each = tt; is = inl refl }
settles_from desk front (b ∷ rest) well kept alone idle is sound owned last =
    go (is_making b.phase)
    (settles_from desk (front ++ b ∷ []) rest well kept alone idle (is ∙ sym (append_assoc front (b ∷ []) rest)) sound.1 owned.1 last.1)
  where
    here : booking_at (state_seen desk) b.row b.generation ≡ Some b
    here = stands_there (state_seen desk) front b rest well.keys is

    at : is_ended b.phase ≡ false → present (state_seen desk) b.row ≡ Some b
    at open_yet = unended_present (state_seen desk) b.row b.generation b well.earlier here open_yet

    mine : is_owners b.phase ≡ true → b.owner ≡ desk.number
    mine owners = owned.0 owners ∙ sym alone.number

    go : (b.phase ≡ Making) ⊎ (b.phase ≢ Making) → IsSettled rest → IsSettled (b ∷ rest)
    go (inl making) more =
        let made = at (ap is_ended making) in
        let keeps = idle.0 b.row (on_row (state_seen desk) b.row b (IsMadeBy desk.number) made (making, mine (ap is_owners making))) in
        record {
          standing = [];
          each = tt;
          is = inr (b, record { making = making; owner = owned.0 (ap is_owners making); none = kept_empty desk b kept keeps made }, ap (λ (l : State). b ∷ l) (last.0 making));
        }
    go (inr other) more =
        let still = stands_still b.phase sound.0.started other
        (λ kind ending. idle.1 b.row (on_row (state_seen desk) b.row b (IsBeingEndedBy desk.number) (at (ap is_ended ending)) (kind, (ending, mine (ap is_owners ending))))) in
        stands_before b rest (record { sealed = still.0; still = still.1 }) more

pub alone_settles : (books : BooksView) (desk : DeskView) → IsOf books desk → IsAlone desk → IsIdle desk → IsSettled (state_seen desk)
alone_settles books desk of alone idle =
    let well = is_sound desk.layout desk.seen of.legal in
    let work = of.work alone.number alone.parted in
    settles_from desk [] (state_seen desk) well of.kept alone idle refl well.each work.owned work.last

-- So it is a lone one.
pub alone_is_lone : (cat : CatalogueView) (books : BooksView) (desk : DeskView) → IsOf books desk → IsAlone desk → IsIdle desk
    → books.layout.rows ≡ cat.rows → books.layout.legs ≡ legs_in cat → FitWords books.layout → IsLone cat desk
alone_is_lone cat books desk of alone idle rows legs fit = record {
  alone = alone;
  legal = of.legal;
  settled = alone_settles books desk of alone idle;
  rows = ap (λ (g : Layout). g.rows) of.layout ∙ rows;
  legs = ap (λ (g : Layout). g.legs) of.layout ∙ legs;
  fit = subst FitWords (sym of.layout) fit;
}
