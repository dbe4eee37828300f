-- What a turn leaves a desk with.
use Rattle.std.proofs.Common.{◌≡◌, ◌≢◌, ℕ, suc, ◌+◌, ◌≤◌, ℤ, pos, negsuc, true, false, not, ne_eqb, List, [], ◌∷◌, ◌++◌, length, Some, refl, sym, ap, ◌∙◌, subst, arith, ◌≤ℤ◌, FitsSigned, w64, to_z, of_z, to_z-of_z}
use Rattle.std.proofs.lemmas.Int.{ints, fits_signed_from_abs}
use Rattle.leg_masks.specs.Interval.{PlacedSpan as Item}
use Rattle.history_model.specs.declared.entry.Step.{Step}
use Rattle.history_model.specs.declared.entry.Step.TheVariants.{LostTurn}
use Rattle.history_model.specs.declared.phase.EndKind.{EndKind}
use Rattle.history_model.specs.declared.phase.EndKind.TheVariants as kind
use Rattle.history_model.specs.declared.phase.Phase.{Phase}
use Rattle.history_model.specs.declared.phase.Phase.TheVariants as phase
use Rattle.rail_ids.specs.declared.RowNo.{RowNo}
use Rattle.history_model.specs.Booking.{Booking, Layout, State, most_items, least_difference, greatest_difference, present, booking_at, limit_of}
use Rattle.history_model.specs.Phase.{is_live, is_sealed, phase_shown, row_word_of}
use Rattle.history_model.specs.Allowed.{IsAllowedStep, IsAmountOf, IsMadeBy, IsBeingEndedBy, TurnsWith}
use Rattle.history_model.specs.History.{IsLegal, entry, state_of}
use Rattle.history_model.specs.Work.{ends_row}
use Rattle.history_model.specs.Laws.{AreInRange, IsWellFormed}
use Rattle.history_model.specs.WholeEnds.{end_turn, end_at}
use Rattle.history_model.specs.declared.booking.End.{End}
use Rattle.history_model.proofs.Keeping.{found, turn_from}
use Rattle.history_model.proofs.Owners.{firm_ending}
use Rattle.history_model.proofs.Generations.{key_present, present_latest}
use Rattle.history_model.proofs.Ranges.{keys_in_range, turn_fits, ranges_all}
use Rattle.history_model.proofs.Seen.{legal-rest}
use Rattle.claim_rule.specs.Rule.{DeskView, BooksView, OnBooking, state_seen}
use Rattle.claim_rule.specs.Desks.{Stepped, AddsSteps, IsOf, CanTurn, AddsAtMost}
use Rattle.claim_rule.specs.Endings.{EndingView, IsEndingOf, item_looks, items_read}
use Rattle.claim_rule.specs.Out.{Makes, EndsRow, IsEnding, EndsNone, KeepsHolds, KeepsEndings, AllLooks}
use Rattle.claim_rule.specs.Turns.{HasTurned, IsPresentIn, IsTurned, IsTurnLost}
use Rattle.claim_rule.specs.Calls.{AddsStepsBy}
use Rattle.claim_rule.proofs.Holding.{legal_before, own_before}
use Rattle.claim_rule.proofs.Moves.{is_sound}
use Rattle.claim_rule.proofs.Out.{looks_holds, looks_endings, keeps_holds, keeps_endings, turned_only, ends_before, looks_quiet}
use Rattle.claim_rule.proofs.Shapes.{step_shape, shape_then, adds_length}
use Rattle.booking_rows.specs.declared.turns.Aim.{Aim}
use Rattle.booking_rows.specs.declared.turns.Aim.TheVariants.{Confirm, Fulfil, Release, Expire, Refund, Exchange}
use Rattle.booking_rows.specs.declared.turns.Turned.TheVariants.{Lost}
use Rattle.claim_rule.specs.declared.ending.StepTurned.{StepTurned}
use Rattle.claim_rule.specs.declared.ending.StepTurned.TheVariants as answer
use Rattle.booking_rows.specs.Aims.{aimed, end_of, turn_of, Turns}
use Rattle.booking_rows.specs.SealedRows.{IsSealedRow, IsStillPresent}
use Rattle.booking_rows.proofs.ViewLemmas.{at_key, still_before}

-- the end that a turn aims at is in range

at_most : (kind : EndKind) (a : ℤ) → IsAmountOf kind a → (least_difference ≤ℤ a) × (a ≤ℤ greatest_difference)
at_most kind.Release a is = subst (λ (z : ℤ). (least_difference ≤ℤ z) × (z ≤ℤ greatest_difference)) (sym is) (omega (arith, ints), omega (arith, ints))
at_most kind.Expire a is = subst (λ (z : ℤ). (least_difference ≤ℤ z) × (z ≤ℤ greatest_difference)) (sym is) (omega (arith, ints), omega (arith, ints))
at_most kind.Refund a is = let l : pos 0 ≤ℤ a = is.0 in let m : a ≤ℤ pos 99999999999 = is.1 in (omega (arith, ints), omega (arith, ints))
at_most kind.Exchange a is = is

aim_fits : (g : Layout) (s : State) (d limit : ℕ) (aim : Aim) → IsWellFormed g s → AreInRange g s → TurnsWith s d limit (aimed aim) (end_of aim)
    → (least_difference ≤ℤ (end_of aim).amount) × ((end_of aim).amount ≤ℤ greatest_difference)
aim_fits g s d limit (Confirm now) wf all may = (omega (arith, ints), omega (arith, ints))
aim_fits g s d limit Fulfil wf all may = (omega (arith, ints), omega (arith, ints))
aim_fits g s d limit (Release now) wf all may = (omega (arith, ints), omega (arith, ints))
aim_fits g s d limit (Expire now) wf all may = (omega (arith, ints), omega (arith, ints))
aim_fits g s d limit (Refund now amount) wf all may = at_most kind.Refund (pos amount) (turn_fits g s d limit kind.Refund (end_of (Refund now amount)) (keys_in_range g s wf all) may).0
aim_fits g s d limit (Exchange now difference successor) wf all may =
    at_most kind.Exchange difference (turn_fits g s d limit kind.Exchange (end_of (Exchange now difference successor)) (keys_in_range g s wf all) may).0

pub turn_in_range : (books : BooksView) (desk : DeskView) (row : RowNo) (from : Phase) (aim : Aim) → IsOf books desk → CanTurn books.layout desk.seen desk.number row from (aimed aim) (end_of aim)
    → (least_difference ≤ℤ (end_of aim).amount) × ((end_of aim).amount ≤ℤ greatest_difference)
turn_in_range books desk row from aim of can =
    let legal : IsLegal books.layout desk.seen = subst (λ (g : Layout). IsLegal g desk.seen) of.layout of.legal in
    let s = state_of books.layout desk.seen in
    let b = found (booking_at s row.row row.generation) (λ b. (is_sealed b.phase ≡ true) × TurnsWith s desk.number (limit_of b) (aimed aim) (end_of aim)) can.3 in
    aim_fits books.layout s desk.number (limit_of b.0) aim (is_sound books.layout desk.seen legal) (ranges_all books.layout desk.seen legal) b.2.1

-- a booking that is turned is its row's present one, so its row is none that the desk makes

turned_still : (desk : DeskView) (row : RowNo) (to : Phase) → IsPresentIn desk row to → IsStillPresent desk row
turned_still desk row to on =
    let b = found (present (state_seen desk) row.row) (λ b. (b.generation ≡ row.generation) × (b.phase ≡ to)) on in
    sym (present_latest (state_seen desk) row.row b.0 b.1).1 ∙ ap (λ (n : ℕ). n + 1) b.2.0

sealed_apart : (books : BooksView) (desk : DeskView) (row : RowNo) (q : ℕ) → IsSealedRow desk row → IsStillPresent desk row → Makes desk q → row.row ≡ q → ⊥
sealed_apart books desk row q on still made same =
    let s = state_seen desk in
    let a = found (booking_at s row.row row.generation) (λ b. is_sealed b.phase ≡ true) on in
    let here = key_present s row.row row.generation a.0 still a.1 in
    let b = found (present s q) (IsMadeBy desk.number) made in
    let is : a.0 ≡ b.0 = some_same a.0 b.0 (sym here ∙ (ap (present s) same ∙ b.1)) in
    let no : false ≡ true = sym (ap is_sealed b.2.0) ∙ (ap (λ (y : Booking). is_sealed y.phase) (sym is) ∙ a.2) in
    cc
  where
    some_same : (y z : Booking) → Some y ≡ Some z → y ≡ z
    some_same y z e = cc

-- a turn that can be made is one of a sealed booking
pub turn_sealed : (books : BooksView) (desk : DeskView) (row : RowNo) (from to : Phase) (end : End) → IsOf books desk → CanTurn books.layout desk.seen desk.number row from to end → IsSealedRow desk row
turn_sealed books desk row from to end of can =
    let P : Layout → Booking → Type 0 = λ l b. (is_sealed b.phase ≡ true) × TurnsWith (state_of l desk.seen) desk.number (limit_of b) to end in
    let on = subst (λ (l : Layout). OnBooking (state_of l desk.seen) row (P l)) (sym of.layout) can.3 in
    let b = found (booking_at (state_seen desk) row.row row.generation) (P desk.layout) on in
    at_key desk row b.0 (λ b. is_sealed b.phase ≡ true) b.1 b.2.0

pub turn_holds : (books : BooksView) (old new : DeskView) (row : RowNo) (from to : Phase) (end : End) → IsOf books old → CanTurn books.layout old.seen old.number row from to end → IsTurned row from to end old new → KeepsHolds old new
turn_holds books old new row from to end of can did =
    let st : Step = end_turn row.row from to end in
    let shape = step_shape st old new did.0 in
    let sealed = turn_sealed books old row from to end of can in
    let still = still_before old new (st ∷ []) row shape sealed (turned_still new row to did.1) in
    keeps_holds old new (st ∷ []) shape did.0.same.5
    (λ q made. (ap not (ne_eqb row.row q (sealed_apart books old row q sealed still made)), tt)) (λ q. (refl, tt))

-- a turn to no ending leaves the desk's ending

no_end : (q row : ℕ) (from to : Phase) (end : End) → ((k : EndKind) → to ≢ phase.Ending k) → ends_row q (end_turn row from to end) ≡ false
no_end q row from phase.Free end not_so = refl
no_end q row from phase.Making end not_so = refl
no_end q row from phase.Prebooked end not_so = refl
no_end q row from phase.Confirmed end not_so = refl
no_end q row from phase.Fulfilled end not_so = refl
no_end q row from (phase.Ending k) end not_so = absurd (not_so k refl)
no_end q row from (phase.Ended k) end not_so = refl

-- the row that is turned is none that the desk ends: it is in a phase that a turn starts from
turn_apart : (row q : ℕ) (from to : Phase) (end : End) (old new : DeskView) → Stepped (end_turn row from to end) old new → EndsRow old q → row ≡ q → ⊥
turn_apart row q from to end old new did on same =
    let st : Step = end_turn row from to end in
    let h = old.seen ++ did.between in
    let s = state_of old.layout h in
    let may : IsAllowedStep old.layout s old.number st = (legal-rest old.layout h (entry old.number st ∷ []) (legal_before st old new did)).0 in
    let e = found (present (state_seen old) q) (IsBeingEndedBy old.number) on in
    let there = own_before st old new did q e.0 e.1 e.2.1.1 (firm_ending e.0.phase e.2.0 e.2.1.0) in
    let b = found (present s row) (λ b. (b.phase ≡ from) × TurnsWith s old.number (limit_of b) to end) may.3 in
    let is : b.0 ≡ e.0 = some_same b.0 e.0 (sym b.1 ∙ (ap (present s) same ∙ there)) in
    let live : is_live (phase.Ending e.2.0) ≡ true = ap is_live (sym e.2.1.0 ∙ (ap (λ (y : Booking). y.phase) (sym is) ∙ b.2.0)) ∙ turn_from from to may.1 in
    let no : false ≡ true = live in
    cc
  where
    some_same : (y z : Booking) → Some y ≡ Some z → y ≡ z
    some_same y z e = cc

pub turn_endings : (row : ℕ) (from to : Phase) (end : End) (old new : DeskView) → ((k : EndKind) → to ≢ phase.Ending k) → Stepped (end_turn row from to end) old new → KeepsEndings old new
turn_endings row from to end old new not_so did =
    keeps_endings old new (end_turn row from to end ∷ []) (step_shape (end_turn row from to end) old new did) (λ q e. (ap not (ne_eqb row q (turn_apart row q from to end old new did e)), tt)) (λ q. (no_end q row from to end not_so, tt))

-- a lost turn leaves all

pub lost_holds : (row wanted shown : ℕ) (old new : DeskView) → Stepped (LostTurn row wanted shown) old new → KeepsHolds old new
lost_holds row wanted shown old new did = looks_holds old new (LostTurn row wanted shown ∷ []) (step_shape (LostTurn row wanted shown) old new did) did.same.5 (refl, tt)

pub lost_endings : (row wanted shown : ℕ) (old new : DeskView) → Stepped (LostTurn row wanted shown) old new → KeepsEndings old new
lost_endings row wanted shown old new did = looks_endings old new (LostTurn row wanted shown ∷ []) (step_shape (LostTurn row wanted shown) old new did) (refl, tt)

-- the items are read by looks

pub items_look : (row w : ℕ) (items : List Item) → AllLooks (item_looks row w items)
items_look row w [] = tt
items_look row w (i ∷ is) = (refl, items_look row (suc w) is)

pub items_holds : (old new : DeskView) (row : ℕ) (items : List Item) → AddsSteps old new (items_read row items) → new.kept ≡ old.kept → KeepsHolds old new
items_holds old new row items did kept = looks_holds old new (items_read row items) did kept (refl, items_look row 8 items)

pub items_only : (old new : DeskView) (row : ℕ) (items : List Item) (e now : EndingView) → AddsSteps old new (items_read row items) → now.row ≡ e.row → IsEnding old e → IsEndingOf new now → IsEnding new now
items_only old new row items e now did same is of = record {
  of = of;
  only = λ r m. is.only r (ends_before old new (items_read row items) r did (looks_quiet (items_read row items) r (refl, items_look row 8 items)).2 m) ∙ sym (ap (λ (r : RowNo). r.row) same);
}

length-items : (row w : ℕ) (items : List Item) → length (item_looks row w items) ≡ length items
length-items row w [] = refl
length-items row w (i ∷ is) = ap suc (length-items row (suc w) is)

-- how many entries there are at most

pub items_bound : (old new : DeskView) (st : Step) (row : ℕ) (items : List Item) → AddsSteps old new (st ∷ items_read row items) → length items ≤ most_items → AddsAtMost (most_items + 2) old new
items_bound old new st row items did few = adds_length old new (st ∷ items_read row items) (most_items + 2) did (let l = length-items row 8 items in omega arith)

-- the amount that a turn aims at fits its word

between : (z : ℤ) → least_difference ≤ℤ z → z ≤ℤ greatest_difference → FitsSigned w64 z
between (pos n) l m = fits_signed_from_abs w64 (pos n) (omega (arith, ints))
between (negsuc n) l m = fits_signed_from_abs w64 (negsuc n) (omega (arith, ints))

pub amount_fits : (amount z : ℤ) → least_difference ≤ℤ amount → amount ≤ℤ greatest_difference → z ≡ amount → to_z w64 (of_z w64 z) ≡ amount
amount_fits amount z l m is = to_z-of_z {w = w64} {z = z} (subst (FitsSigned w64) (sym is) (between amount l m)) ∙ is

-- what a turn answered, as the aim says it: its end was passed in its parts, the amount as a word
pub turned_as : (books : BooksView) (row : RowNo) (from p : Phase) (end : End) (aim : Aim) (old new : DeskView) (answer : StepTurned) → IsOf books old
    → CanTurn books.layout old.seen old.number row from (aimed aim) (end_of aim) → p ≡ aimed aim → end ≡ end_of aim
    → HasTurned row from p (end_at end.moment (to_z w64 (of_z w64 end.amount)) end.successor) old new answer → HasTurned row from (aimed aim) (end_of aim) old new answer
turned_as books row from p end aim old new answer of can is same did =
    let within = turn_in_range books old row from aim of can in
    let amount = amount_fits (end_of aim).amount end.amount within.0 within.1 (ap (λ (e : End). e.amount) same) in
    let whole : end_at end.moment (to_z w64 (of_z w64 end.amount)) end.successor ≡ end_of aim = λ i. end_at (same i).moment (amount i) (same i).successor in
    subst (λ (y : Phase × End). HasTurned row from y.0 y.1 old new answer) (λ i. (is i, whole i)) did

pub lost_entries : (row : RowNo) (n : ℕ) (from shown : Phase) (aim : Aim) (old new : DeskView) → shown ≡ phase_shown row.generation n → IsTurnLost row from n old new → AddsStepsBy (Turns row from aim (Lost shown)) old new
lost_entries row n from shown aim old new is lost =
    let wanted = row_word_of from row.generation in
    (LostTurn row.row wanted n ∷ [], (n, lost.0, is, refl), step_shape (LostTurn row.row wanted n) old new lost.1)

-- a turn to an ending leaves that ending out
pub turned_ending : (row : RowNo) (from : Phase) (aim : Aim) (e : EndingView) (old new : DeskView) → ((k : EndKind) → aimed aim ≡ phase.Ending k → EndsNone old) → HasTurned row from (aimed aim) (end_of aim) old new (answer.Ending e) → IsEnding new e
turned_ending row from aim e old new none t =
    let end = end_of aim in
    let did = subst (λ (ph : Phase). Stepped (end_turn row.row from ph end) old new) t.2 t.0.0 in
    record { of = t.1; only = λ r on. turned_only row.row from e.kind end old new (none e.kind t.2) did r on ∙ sym (ap (λ (v : EndingView). v.row.row) t.3) }

pub ending_shape : (row : RowNo) (from : Phase) (aim : Aim) (e now : EndingView) (old mid new : DeskView) → HasTurned row from (aimed aim) (end_of aim) old mid (answer.Ending e) → AddsSteps mid new (items_read e.row.row now.items) → AddsSteps old new (turn_of row.row from aim ∷ items_read row.row now.items)
ending_shape row from aim e now old mid new t seen =
    shape_then old mid new (turn_of row.row from aim ∷ []) (items_read row.row now.items) (step_shape (turn_of row.row from aim) old mid t.0.0)
    (subst (λ (r : ℕ). AddsSteps mid new (items_read r now.items)) (ap (λ (v : EndingView). v.row.row) t.3) seen)
