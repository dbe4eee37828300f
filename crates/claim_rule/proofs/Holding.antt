-- What a desk's step does to the rows that it owns.
use Rattle.std.proofs.Common.{eqb, append_assoc, ◌≤◌, ◌≡◌, inl, ℕ, ◌+◌, ◌-◌, ◌<◌, length-append, List, [], ◌∷◌, ◌++◌, map, take, length, true, false, not, Option, Some, None, IfSome, option_map, refl, sym, ap, ◌∙◌, subst, append-nil, arith, slice_get, ne_eqb}
use Rattle.std.proofs.lemmas.List.{length-map}
use mathlib.Core.List.{IsPrefix, map-append, append_cancel_left}
use Rattle.atomic_table.specs.declared.shared.Seat.{Seat}
use Rattle.claim_rule.specs.declared.rule.View.{View}
use Rattle.claim_rule.specs.Rule.{DeskView, BooksView, Each}
use Rattle.claim_rule.specs.Desks.{AreTaken, Stepped, HasMet, IsOf}
use Rattle.claim_rule.specs.Seats.{CanSeal, CanTake, CanGive, CanNote, desk_view}
use Rattle.claim_rule.specs.Holds.{HoldView, StandsFor, IsItem, with_one, held, empty_hold}
use Rattle.claim_rule.proofs.Meeting.{each_append, each_front}
use Rattle.rail_ids.specs.declared.RowNo.{RowNo}
use Rattle.history_model.specs.Laws.{stage}
use Rattle.history_model.specs.Booking.{phase_of_row}
use Rattle.claim_rule.proofs.Moves.{own_row, is_sound}
use Rattle.claim_rule.proofs.OwnWork.{is_start, step_keeps, start_keeps}
use Rattle.claim_rule.specs.Out.{HoldsNone, IsHolding}
use Rattle.claim_rule.proofs.Shapes.{stands_past}
use Rattle.claim_rule.specs.OwnWork.{IsOwnWork}
use Rattle.history_model.proofs.Generations.{present-changed, present-started}
use Rattle.history_model.proofs.Keeping.{found, given_making}
use Rattle.history_model.proofs.Owners.{firm_making, on_row, quiet_stays, quiet_step, taken_stays}
use Rattle.history_model.proofs.Seen.{legal-front, legal-rest, own-append, state_of-append}
use Rattle.history_model.specs.Allowed.{IsAllowedStep, IsMadeBy, IsMakerWord, MayGive, MayNote, OnRow, TurnsWith}
use Rattle.history_model.specs.Apply.{apply_step, given, noted, started, item_taken, words_of_row}
use Rattle.history_model.specs.Booking.{Booking, Layout, State, change, key_of, limit_of, most_items, present}
use Rattle.history_model.specs.History.{IsLegal, entry, own, state_of}
use Rattle.history_model.specs.Laws.{is_owners}
use Rattle.history_model.specs.Phase.{is_turn}
use Rattle.history_model.specs.Quiet.{AllQuiet, is_quiet}
use Rattle.history_model.specs.declared.booking.BookedItem.{BookedItem}
use Rattle.history_model.specs.declared.entry.Entry.{Entry}
use Rattle.history_model.specs.declared.entry.Step.{Step}
use Rattle.history_model.specs.declared.entry.Step.TheVariants.{Give, Met, Note, Seal, Start, Take}
use Rattle.history_model.specs.declared.phase.Phase.{Phase}
use Rattle.history_model.specs.declared.phase.Phase.TheVariants.{Making}
use Rattle.history_model.specs.WholeEnds.{end_turn}
use Rattle.history_model.specs.declared.booking.End.{End}
use Rattle.leg_masks.specs.Interval.{PlacedSpan as Item}

-- the state before the step, and after it
pub legal_before : (st : Step) (old new : DeskView) (did : Stepped st old new) → IsLegal old.layout ((old.seen ++ did.between) ++ entry old.number st ∷ [])
legal_before st old new did = subst (λ (l : Layout). IsLegal l ((old.seen ++ did.between) ++ entry old.number st ∷ [])) did.same.1 (subst (IsLegal new.layout) did.seen did.legal)

pub own_before : (st : Step) (old new : DeskView) (did : Stepped st old new) (r : ℕ) (b : Booking) → present (state_of old.layout old.seen) r ≡ Some b → b.owner ≡ old.number → is_owners b.phase ≡ true → present (state_of old.layout (old.seen ++ did.between)) r ≡ Some b
own_before st old new did r b at mine firm =
    own_row old.layout old.seen old.number (old.seen ++ did.between) r b (legal-front old.layout (old.seen ++ did.between) (entry old.number st ∷ []) (legal_before st old new did)) (did.between, refl)
    (sym (own-append old.seen did.between old.number ∙ (ap (λ l. own old.seen old.number ++ l) did.others ∙ append-nil (own old.seen old.number)))) at mine firm

pub state_then : (st : Step) (old new : DeskView) (did : Stepped st old new) → state_of new.layout new.seen ≡ apply_step (state_of old.layout (old.seen ++ did.between)) old.number st
state_then st old new did = ap (λ (l : Layout). state_of l new.seen) did.same.1 ∙ (ap (state_of old.layout) did.seen ∙ state_of-append old.layout (old.seen ++ did.between) (entry old.number st ∷ []))

-- a row of the desk's own, after a step that leaves it
pub own_stays : (st : Step) (old new : DeskView) (did : Stepped st old new) (r : ℕ) (b : Booking) → is_quiet r st ≡ true → present (state_of old.layout old.seen) r ≡ Some b → b.owner ≡ old.number → is_owners b.phase ≡ true → present (state_of new.layout new.seen) r ≡ Some b
own_stays st old new did r b quiet at mine firm = ap (λ (s : State). present s r) (state_then st old new did) ∙ quiet_step (state_of old.layout (old.seen ++ did.between)) r b old.number st (own_before st old new did r b at mine firm) quiet

-- and after one that changes it
pub own_changes : (st : Step) (old new : DeskView) (did : Stepped st old new) (r : ℕ) (b : Booking) (f : Booking → Booking) → ((s : State) → apply_step s old.number st ≡ change s r f) → ((x : Booking) → key_of (f x) ≡ key_of x) → present (state_of old.layout old.seen) r ≡ Some b → b.owner ≡ old.number → is_owners b.phase ≡ true
    → present (state_of new.layout new.seen) r ≡ Some (f b)
own_changes st old new did r b f is row at mine firm =
    ap (λ (s : State). present s r) (state_then st old new did ∙ is (state_of old.layout (old.seen ++ did.between)))
    ∙ present-changed (state_of old.layout (old.seen ++ did.between)) r f b row (own_before st old new did r b at mine firm)

-- the same hold, after a step that leaves its row
abbrev pub hold_stays : (st : Step) (old new : DeskView) (hold : HoldView) → is_quiet hold.row.row st ≡ true → Stepped st old new → StandsFor old hold → StandsFor new hold
hold_stays st old new hold quiet did is = record {
  booking = is.booking;
  found = own_stays st old new did hold.row.row is.booking quiet is.found is.owner (firm_making is.booking.phase is.making);
  generation = is.generation;
  owner = is.owner ∙ sym did.same.2;
  making = is.making;
  items = is.items;
  row = subst (λ (l : Layout). hold.row.row < l.rows) (sym did.same.1) is.row;
  within = subst (λ (l : Layout). Each (IsItem l) hold.items) (sym did.same.1) is.within;
}

kept_on : (st : Step) (old new : DeskView) (o : Option RowNo) → ((r : RowNo) → o ≡ Some r → is_quiet r.row st ≡ true) → Stepped st old new → IfSome o (λ r. StandsFor old (empty_hold r)) → IfSome o (λ r. StandsFor new (empty_hold r))
kept_on st old new None quiet did is = tt
kept_on st old new (Some r) quiet did is = hold_stays st old new (empty_hold r) (quiet r refl) did is

-- a row that isn't free stays so
stage_since : (g : Layout) (seen now : List Entry) (r : ℕ) → IsPrefix seen now → IsLegal g now → 1 ≤ stage (phase_of_row (state_of g seen) r) → 1 ≤ stage (phase_of_row (state_of g now) r)
stage_since g seen now r (rest, e) legal some =
    let whole : IsLegal g (seen ++ rest) = subst (IsLegal g) (sym e) legal in
    subst (λ (l : List Entry). 1 ≤ stage (phase_of_row (state_of g l) r)) e (subst (λ (s : State). 1 ≤ stage (phase_of_row s r)) (sym (state_of-append g seen rest))
    (taken_stays g (state_of g seen) rest r (is_sound g seen (legal-front g seen rest whole)) (legal-rest g seen rest whole) some))

-- so does each row below `past`
past_on : (old new : DeskView) → IsPrefix old.seen new.seen → IsLegal new.layout new.seen → new.layout ≡ old.layout → new.past ≡ old.past → ((r : ℕ) → r < old.past → 1 ≤ stage (phase_of_row (state_of old.layout old.seen) r)) → (r : ℕ) → r < new.past → 1 ≤ stage (phase_of_row (state_of new.layout new.seen) r)
past_on old new pre legal layout past taken r l =
    stage_since new.layout old.seen new.seen r pre legal (subst (λ (g : Layout). 1 ≤ stage (phase_of_row (state_of g old.seen) r)) (sym layout) (taken r (subst (λ (n : ℕ). r < n) past l)))

within_on : (old new : DeskView) → new.layout ≡ old.layout → new.past ≡ old.past → old.past ≤ old.layout.rows → new.past ≤ new.layout.rows
within_on old new layout past l = subst (λ (n : ℕ). n ≤ new.layout.rows) (sym past) (subst (λ (g : Layout). old.past ≤ g.rows) (sym layout) l)

-- a lone desk's step stands right behind what it had seen
alone_before : (st : Step) (old new : DeskView) (did : Stepped st old new) → old.number ≡ 0 → old.parted ≡ 0 → old.seen ++ did.between ≡ old.seen
alone_before st old new did number made =
    ap (λ (l : List Entry). old.seen ++ l) (did.none (number, λ j some few. absurd (omega (arith, some, few, made)))) ∙ append-nil old.seen

allowed_then : (st : Step) (old new : DeskView) (did : Stepped st old new) → old.number ≡ 0 → IsAllowedStep old.layout (state_of old.layout (old.seen ++ did.between)) 0 st
allowed_then st old new did number =
    let s = state_of old.layout (old.seen ++ did.between) in
    subst (λ (d : ℕ). IsAllowedStep old.layout s d st) number
    (legal-rest old.layout (old.seen ++ did.between) (entry old.number st ∷ []) (legal_before st old new did)).0

-- the work that a desk has while it is alone
abbrev HasWork : DeskView → Type 0
HasWork desk = desk.number ≡ 0 → desk.parted ≡ 0 → IsOwnWork (state_of desk.layout desk.seen)

-- is its own after each step that keeps it
work_by : (st : Step) (old new : DeskView) (did : Stepped st old new)
    → (old.number ≡ 0 → IsOwnWork (state_of old.layout (old.seen ++ did.between)) → IsOwnWork (apply_step (state_of old.layout (old.seen ++ did.between)) 0 st)) → HasWork old → HasWork new
work_by st old new did keeps work number made =
    let n : old.number ≡ 0 = sym did.same.2 ∙ number in
    let m : old.parted ≡ 0 = sym did.same.4 ∙ made in
    let s = state_of old.layout (old.seen ++ did.between) in
    let had : IsOwnWork s = subst (λ (l : List Entry). IsOwnWork (state_of old.layout l)) (sym (alone_before st old new did n m)) (work n m) in
    subst IsOwnWork (sym (state_then st old new did ∙ ap (λ (d : ℕ). apply_step s d st) n)) (keeps n had)

work_on : (st : Step) (old new : DeskView) → is_start st ≡ false → Stepped st old new → HasWork old → HasWork new
work_on st old new none did =
    work_by st old new did (λ n. step_keeps old.layout (state_of old.layout (old.seen ++ did.between)) st (allowed_then st old new did n) none)

still_by : (st : Step) (books : BooksView) (old new : DeskView) → ((r : RowNo) → old.kept ≡ Some r → is_quiet r.row st ≡ true) → Stepped st old new → IsOf books old → HasWork new → IsOf books new
still_by st books old new quiet did of work = record {
  table = did.same.0 ∙ of.table;
  layout = did.same.1 ∙ of.layout;
  legal = did.legal;
  kept = subst (λ (o : Option RowNo). IfSome o (λ r. StandsFor new (empty_hold r))) (sym did.same.5) (kept_on st old new old.kept quiet did of.kept);
  past = past_on old new (did.between ++ entry old.number st ∷ [], sym (append_assoc old.seen did.between (entry old.number st ∷ [])) ∙ sym did.seen) did.legal did.same.1 did.same.6 of.past;
  within = within_on old new did.same.1 did.same.6 of.within;
  work = work;
}

-- the desk is still of the books, and a row that it keeps is as it was
pub still_of : (st : Step) (books : BooksView) (old new : DeskView) → is_start st ≡ false → ((r : RowNo) → old.kept ≡ Some r → is_quiet r.row st ≡ true) → Stepped st old new → IsOf books old → IsOf books new
still_of st books old new none quiet did of = still_by st books old new quiet did of (work_on st old new none did of.work)

none_kept : (o : Option RowNo) (r : RowNo) (P : Type 0) → o ≡ None → o ≡ Some r → P
none_kept o r P n e = absurd (let no : ◌≡◌ {A = Option RowNo} None (Some r) = sym n ∙ e in cc)

-- the same for a desk that keeps no row
pub still_alone : (st : Step) (books : BooksView) (old new : DeskView) → is_start st ≡ false → old.kept ≡ None → Stepped st old new → IsOf books old → IsOf books new
still_alone st books old new none alone did of = still_of st books old new none (λ r e. none_kept old.kept r (is_quiet r.row st ≡ true) alone e) did of

-- a desk that keeps no row and holds none makes none
pub makes_none : (desk : DeskView) (r : ℕ) → desk.kept ≡ None → HoldsNone desk → OnRow (state_of desk.layout desk.seen) r (IsMadeBy desk.number) → ⊥
makes_none desk r alone holds on =
    let no : ◌≡◌ {A = Option ℕ} None (Some r) = sym (ap (λ (o : Option RowNo). option_map (λ (k : RowNo). k.row) o) alone) ∙ holds r on in cc

-- and for one that starts a row, where it makes none
pub still_started : (row j : ℕ) (books : BooksView) (old new : DeskView) → old.kept ≡ None → HoldsNone old → Stepped (Start row j) old new → IsOf books old → IsOf books new
still_started row j books old new alone holds did of =
    still_by (Start row j) books old new (λ r e. none_kept old.kept r (is_quiet r.row (Start row j) ≡ true) alone e) did of
    (λ number made.
    let before = alone_before (Start row j) old new did (sym did.same.2 ∙ number) (sym did.same.4 ∙ made) in
    work_by (Start row j) old new did
    (λ n. start_keeps old.layout (state_of old.layout (old.seen ++ did.between)) row j
    (is_sound old.layout (old.seen ++ did.between) (legal-front old.layout (old.seen ++ did.between) (entry old.number (Start row j) ∷ []) (legal_before (Start row j) old new did)))
    (λ r on. makes_none old r alone holds
    (subst (λ (d : ℕ). OnRow (state_of old.layout old.seen) r (IsMadeBy d)) (sym n) (subst (λ (l : List Entry). OnRow (state_of old.layout l) r (IsMadeBy 0)) before on))))
    of.work number made)

-- a row in the making is no row of which this holds
apart_from : (s : State) (q r : ℕ) (b : Booking) (P : Booking → Type 0) → ((b : Booking) → P b → b.phase ≡ Making → ⊥) → OnRow s q P → present s r ≡ Some b → b.phase ≡ Making → not (eqb q r) ≡ true
apart_from s q r b P unlike on at making =
    let f = found (present s q) P on in
    let other : q ≡ r → ⊥ = λ e. unlike f.0 f.2 (phase_of_same f.0 b (sym f.1 ∙ (ap (present s) e ∙ at)) ∙ making) in
    ap not (ne_eqb q r other)
  where
    phase_of_same : (x y : Booking) → Some x ≡ Some y → x.phase ≡ y.phase
    phase_of_same x y e = let same : x ≡ y = cc in ap (λ (b : Booking). b.phase) same

-- a kept row is no row whose present booking is past the making
pub kept_apart : (books : BooksView) (desk : DeskView) (r : RowNo) (q : ℕ) (P : Booking → Type 0) → ((b : Booking) → P b → b.phase ≡ Making → ⊥) → IsOf books desk → OnRow (state_of desk.layout desk.seen) q P → desk.kept ≡ Some r → not (eqb q r.row) ≡ true
kept_apart books desk r q P unlike of on kept =
    let is : StandsFor desk (empty_hold r) = subst (λ (o : Option RowNo). IfSome o (λ r. StandsFor desk (empty_hold r))) kept of.kept in
    apart_from (state_of desk.layout desk.seen) q r.row is.booking P unlike on is.found is.making

-- the hold with one more item, after a take
abbrev pub hold_takes : (i : Item) (old new : DeskView) (hold : HoldView) → IsItem old.layout i → Stepped (Take hold.row.row i.place i.span) old new → StandsFor old hold → StandsFor new (with_one hold i)
hold_takes i old new hold fits did is = record {
  booking = item_taken i.place i.span is.booking;
  found = own_changes (Take hold.row.row i.place i.span) old new did hold.row.row is.booking (item_taken i.place i.span) (λ s. refl) (λ _. refl) is.found is.owner (firm_making is.booking.phase is.making);
  generation = is.generation;
  owner = is.owner ∙ sym did.same.2;
  making = is.making;
  items = ap (λ l. l ++ held i ∷ []) is.items ∙ sym (map-append held hold.items (i ∷ []));
  row = subst (λ (l : Layout). hold.row.row < l.rows) (sym did.same.1) is.row;
  within = subst (λ (l : Layout). Each (IsItem l) (hold.items ++ i ∷ [])) (sym did.same.1) (each_append (IsItem old.layout) hold.items (i ∷ []) is.within (fits, tt));
}

pub take_front : {X : Type 0} (xs : List X) (x : X) → take (length (xs ++ x ∷ []) - 1) (xs ++ x ∷ []) ≡ xs
take_front xs x = ap (λ (n : ℕ). take (n - 1) (xs ++ x ∷ [])) (length-append xs (x ∷ [])) ∙ (ap (λ (n : ℕ). take n (xs ++ x ∷ [])) (less (length xs)) ∙ go xs x)
  where
    less : (n : ℕ) → n + 1 - 1 ≡ n
    less n = omega arith

    go : {X : Type 0} (xs : List X) (x : X) → take (length xs) (xs ++ x ∷ []) ≡ xs
    go [] x = refl
    go (y ∷ ys) x = ap (λ l. y ∷ l) (go ys x)

-- lists with one more at the end are equal only where these are
pub same_front : {X : Type 0} (xs ys : List X) (x y : X) → xs ++ x ∷ [] ≡ ys ++ y ∷ [] → xs ≡ ys
same_front {X = X} xs ys x y e = sym (take_front xs x) ∙ (ap (λ (l : List X). take (length l - 1) l) e ∙ take_front ys y)

last_at : {X : Type 0} (xs : List X) (x : X) → slice_get (xs ++ x ∷ []) (length xs) ≡ Some x
last_at [] x = refl
last_at (y ∷ ys) x = last_at ys x

-- the hold without its last item, after a give
abbrev pub hold_gives : (i : Item) (k : ℕ) (old new : DeskView) (hold less : HoldView) → hold ≡ with_one less i → Stepped (Give hold.row.row k) old new → StandsFor old hold → StandsFor new less
hold_gives i k old new hold less one did is =
    let row : hold.row.row ≡ less.row.row = ap (λ (h : HoldView). h.row.row) one in
    let items : hold.items ≡ less.items ++ i ∷ [] = ap (λ (h : HoldView). h.items) one in
    let its : is.booking.items ≡ map held less.items ++ held i ∷ [] = is.items ∙ (ap (map held) items ∙ map-append held less.items (i ∷ [])) in
    let parts = each_front (IsItem old.layout) less.items (i ∷ []) (subst (λ (l : List Item). Each (IsItem old.layout) l) items is.within) in
    record {
      booking = given k is.booking;
      found = subst (λ (r : ℕ). present (state_of new.layout new.seen) r ≡ Some (given k is.booking)) row
          (own_changes (Give hold.row.row k) old new did hold.row.row is.booking (given k) (λ s. refl) (λ _. refl) is.found is.owner (firm_making is.booking.phase is.making));
      generation = is.generation ∙ ap (λ (h : HoldView). h.row.generation) one;
      owner = is.owner ∙ sym did.same.2;
      making = is.making;
      items = ap (λ (b : Booking). b.items) (given_making k is.booking is.making) ∙ (ap (λ (l : List BookedItem). take (length l - 1) l) its ∙ take_front (map held less.items) (held i));
      row = subst (λ (l : Layout). less.row.row < l.rows) (sym did.same.1) (subst (λ (r : ℕ). r < old.layout.rows) row is.row);
      within = subst (λ (l : Layout). Each (IsItem l) less.items) (sym did.same.1) parts.0;
    }

-- a new hold, after a start
abbrev pub hold_starts : (row : RowNo) (old new : DeskView) → row.row < old.layout.rows → Stepped (Start row.row row.generation) old new → StandsFor new (empty_hold row)
hold_starts row old new l did =
    let r = row.row in
    let j = row.generation in
    let h : List Entry = old.seen ++ did.between in
    let may : IsAllowedStep old.layout (state_of old.layout h) old.number (Start r j) = (legal-rest old.layout h (entry old.number (Start r j) ∷ []) (legal_before (Start r j) old new did)).0 in
    record {
      booking = started r j old.number (words_of_row (state_of old.layout h) r);
      found = ap (λ (s : State). present s r) (state_then (Start r j) old new did) ∙ present-started (state_of old.layout h) r j old.number (words_of_row (state_of old.layout h) r) may.1;
      generation = refl;
      owner = sym did.same.2;
      making = refl;
      items = refl;
      row = subst (λ (g : Layout). r < g.rows) (sym did.same.1) l;
      within = tt;
    }

-- what the rule asks of a hold's row

module _ (a : Seat ℕ View) (kept : Option RowNo) (past : ℕ) (lay : Layout) (desk : DeskView) (hold : HoldView) (view : desk_view a kept past ≡ desk) (layout : desk.layout ≡ lay) (is : StandsFor desk hold) where
  row_below : hold.row.row < lay.rows
  row_below = subst (λ (l : Layout). hold.row.row < l.rows) layout is.row

  here : present (state_of lay a.me.0.seen) hold.row.row ≡ Some is.booking
  here = subst (λ (g : Layout). present (state_of g a.me.0.seen) hold.row.row ≡ Some is.booking) layout (ap (λ (d : DeskView). present (state_of desk.layout d.seen) hold.row.row) view ∙ is.found)

  mine : IsMadeBy a.me.0.number is.booking
  mine = (is.making, is.owner ∙ sym (ap (λ (d : DeskView). d.number) view))

  pub can_take : length hold.items < most_items → CanTake lay a hold.row.row
  can_take room = (
    row_below,
    on_row (state_of lay a.me.0.seen) hold.row.row is.booking (λ b. IsMadeBy a.me.0.number b × (length b.items < most_items)) here
        (mine, subst (λ (n : ℕ). n < most_items) (sym (ap length is.items ∙ length-map hold.items held)) room),
  )

  pub can_note : (w : ℕ) → IsMakerWord w → CanNote lay a hold.row.row w
  can_note w word = (row_below, on_row (state_of lay a.me.0.seen) hold.row.row is.booking (MayNote a.me.0.number w) here (inl (mine, word)))

-- a hold that is ready can be sealed
pub can_seal : (lay : Layout) (desk : DeskView) (hold : HoldView) (phase : Phase) → desk.layout ≡ lay → StandsFor desk hold → IsAllowedStep lay (state_of lay desk.seen) desk.number (Seal hold.row.row phase) → CanSeal lay desk.seen desk.number hold.row phase
can_seal lay desk hold phase layout is ready =
    let at : present (state_of lay desk.seen) hold.row.row ≡ Some is.booking = subst (λ (l : Layout). present (state_of l desk.seen) hold.row.row ≡ Some is.booking) layout is.found in
    (ready, on_row (state_of lay desk.seen) hold.row.row is.booking (λ b. b.generation ≡ hold.row.generation) at is.generation)

-- the last item of a hold can be given back
pub can_give : (a : Seat ℕ View) (kept : Option RowNo) (past : ℕ) (lay : Layout) (desk : DeskView) (hold less : HoldView) (i : Item) (k : ℕ) → desk_view a kept past ≡ desk → desk.layout ≡ lay → StandsFor desk hold → hold ≡ with_one less i → k ≡ length less.items → CanGive lay a less.row.row k i
can_give a kept past lay desk hold less i k view layout is one count =
    let row : hold.row.row ≡ less.row.row = ap (λ (h : HoldView). h.row.row) one in
    let items : hold.items ≡ less.items ++ i ∷ [] = ap (λ (h : HoldView). h.items) one in
    let its : is.booking.items ≡ map held less.items ++ held i ∷ [] = is.items ∙ (ap (map held) items ∙ map-append held less.items (i ∷ [])) in
    let fits = (each_front (IsItem desk.layout) less.items (i ∷ []) (subst (λ (l : List Item). Each (IsItem desk.layout) l) items is.within)).1.0 in
    let k_is : k ≡ length (map held less.items) = count ∙ sym (length-map less.items held) in
    let many : k + 1 ≡ length is.booking.items = ap (λ (n : ℕ). n + 1) k_is ∙ sym (ap length its ∙ length-append (map held less.items) (held i ∷ [])) in
    let at : slice_get is.booking.items k ≡ Some (held i) = ap (λ (n : ℕ). slice_get is.booking.items n) k_is ∙ (ap (λ (l : List BookedItem). slice_get l (length (map held less.items))) its ∙ last_at (map held less.items) (held i)) in
    let P : Booking → Type 0 = λ b. MayGive a.me.0.number k b × (slice_get b.items k ≡ Some (held i)) in (
      subst (λ (n : ℕ). n < lay.rows) row (row_below a kept past lay desk hold view layout is),
      subst (λ (l : Layout). i.place < length l.legs) layout fits.place,
      fits.fits,
      subst (λ (n : ℕ). OnRow (state_of lay a.me.0.seen) n P) row
          (on_row (state_of lay a.me.0.seen) hold.row.row is.booking P (here a kept past lay desk hold view layout is) (inl (mine a kept past lay desk hold view layout is, many), at)),
    )

-- the same hold, after a note
abbrev pub hold_notes : (w n : ℕ) (old new : DeskView) (hold : HoldView) → Stepped (Note hold.row.row w n) old new → StandsFor old hold → StandsFor new hold
hold_notes w n old new hold did is = record {
  booking = noted w n is.booking;
  found = own_changes (Note hold.row.row w n) old new did hold.row.row is.booking (noted w n) (λ s. refl) (λ _. refl) is.found is.owner (firm_making is.booking.phase is.making);
  generation = is.generation;
  owner = is.owner ∙ sym did.same.2;
  making = is.making;
  items = is.items;
  row = subst (λ (l : Layout). hold.row.row < l.rows) (sym did.same.1) is.row;
  within = subst (λ (l : Layout). Each (IsItem l) hold.items) (sym did.same.1) is.within;
}

-- a row of one's own stays as it is where its owner's further entries leave it
pub through : (lay : Layout) (seen now : List Entry) (d : ℕ) (es : List Step) (r : ℕ) (b : Booking) → IsPrefix seen now → IsLegal lay now → own now d ≡ own seen d ++ map (entry d) es → AllQuiet r es → present (state_of lay seen) r ≡ Some b → b.owner ≡ d → is_owners b.phase ≡ true
    → present (state_of lay now) r ≡ Some b
through lay seen now d es r b (rest, e) legal mine quiet at its firm =
    let whole : IsLegal lay (seen ++ rest) = subst (IsLegal lay) (sym e) legal in
    let owned : own rest d ≡ map (entry d) es = append_cancel_left (own seen d) (own rest d) (map (entry d) es) (sym (own-append seen rest d) ∙ (ap (λ (l : List Entry). own l d) e ∙ mine)) in
    subst (λ (l : List Entry). present (state_of lay l) r ≡ Some b) e
    (ap (λ (s : State). present s r) (state_of-append lay seen rest)
    ∙ quiet_stays lay (state_of lay seen) r b rest es at firm (subst (λ (k : ℕ). own rest k ≡ map (entry k) es) (sym its) owned) quiet (legal-rest lay seen rest whole))

-- a kept row, after a meeting
met_kept : (books : BooksView) (old other new : DeskView) (o : Option RowNo) → HasMet old other new → IfSome o (λ r. StandsFor old (empty_hold r)) → IfSome o (λ r. StandsFor new (empty_hold r))
met_kept books old other new None met is = tt
met_kept books old other new (Some r) met is =
    let s = met.same in
    let legal : IsLegal old.layout new.seen = subst (λ (l : Layout). IsLegal l new.seen) s.1 met.legal in
    let at = through old.layout old.seen new.seen old.number (Met ∷ []) r.row is.booking met.front legal met.mine (refl, tt) is.found is.owner (firm_making is.booking.phase is.making) in
    record {
      booking = is.booking;
      found = ap (λ (l : Layout). present (state_of l new.seen) r.row) s.1 ∙ at;
      generation = is.generation;
      owner = is.owner ∙ sym s.2;
      making = is.making;
      items = is.items;
      row = subst (λ (l : Layout). r.row < l.rows) (sym s.1) is.row;
      within = tt;
    }

pub still_met : (books : BooksView) (old other new : DeskView) → HasMet old other new → IsOf books old → IsOf books new
still_met books old other new met of = record {
  table = met.same.0 ∙ of.table;
  layout = met.same.1 ∙ of.layout;
  legal = met.legal;
  kept = subst (λ (o : Option RowNo). IfSome o (λ r. StandsFor new (empty_hold r))) (sym met.same.4) (met_kept books old other new old.kept met of.kept);
  past = past_on old new met.front met.legal met.same.1 met.same.5 of.past;
  within = within_on old new met.same.1 met.same.5 of.within;
  work = λ number made. absurd (met.parted (sym met.same.2 ∙ number) (sym met.same.3 ∙ made));
}

-- how many desks a desk has parted is nothing to its rows
made_kept : (desk : DeskView) (m : ℕ) (o : Option RowNo) → IfSome o (λ r. StandsFor (record desk { parted = m }) (empty_hold r)) → IfSome o (λ r. StandsFor desk (empty_hold r))
made_kept desk m None is = tt
made_kept desk m (Some r) is = record { booking = is.booking; found = is.found; generation = is.generation; owner = is.owner; making = is.making; items = is.items; row = is.row; within = is.within }

pub still_parted : (books : BooksView) (old new : DeskView) → Stepped Met old (record new { parted = old.parted }) → new.parted ≡ old.parted + 1 → IsOf books old → IsOf books new
still_parted books old new did more of =
    let is = still_of Met books old (record new { parted = old.parted }) refl (λ r e. refl) did of in
    record {
      table = is.table;
      layout = is.layout;
      legal = is.legal;
      kept = made_kept new old.parted new.kept is.kept;
      past = is.past;
      within = is.within;
      work = λ number made. absurd (omega (arith, more, made));
    }

-- which rows a desk keeps and remembers is nothing to its rows

stands_kept : (desk : DeskView) (o : Option RowNo) (hold : HoldView) → StandsFor desk hold → StandsFor (record desk { kept = o }) hold
stands_kept desk o hold is = record { booking = is.booking; found = is.found; generation = is.generation; owner = is.owner; making = is.making; items = is.items; row = is.row; within = is.within }

pub still_kept : (books : BooksView) (old : DeskView) (hold : HoldView) → StandsFor old hold → hold.items ≡ [] → IsOf books old → IsOf books (record old { kept = Some hold.row })
still_kept books old hold is empty of = record {
  table = of.table;
  layout = of.layout;
  legal = of.legal;
  kept = stands_kept old (Some hold.row) (empty_hold hold.row) (subst (λ (items : List Item). StandsFor old (record { row = hold.row; items = items })) empty is);
  past = of.past;
  within = of.within;
  work = of.work;
}

pub still_unkept : (books : BooksView) (old : DeskView) → IsOf books old → IsOf books (record old { kept = None })
still_unkept books old of = record { table = of.table; layout = of.layout; legal = of.legal; kept = tt; past = of.past; within = of.within; work = of.work }

kept_past : (desk : DeskView) (n : ℕ) (o : Option RowNo) → IfSome o (λ r. StandsFor desk (empty_hold r)) → IfSome o (λ r. StandsFor (record desk { past = n }) (empty_hold r))
kept_past desk n None is = tt
kept_past desk n (Some r) is = stands_past desk (empty_hold r) n is

pub still_past : (books : BooksView) (old : DeskView) (n : ℕ) → AreTaken old n → n ≤ old.layout.rows → IsOf books old → IsOf books (record old { past = n })
still_past books old n taken below of = record { table = of.table; layout = of.layout; legal = of.legal; kept = kept_past old n old.kept of.kept; past = taken; within = below; work = of.work }

-- a row that is no longer kept is the hold's
pub unkept_holding : (books : BooksView) (old : DeskView) (row : RowNo) (hold : HoldView) → old.kept ≡ Some row → hold ≡ empty_hold row → IsOf books old → HoldsNone old → IsHolding (record old { kept = None }) hold
unkept_holding books old row hold kept is of holds = subst (IsHolding (record old { kept = None })) (sym is) record {
  of = (stands_kept old None (empty_hold row) (subst (λ (o : Option RowNo). IfSome o (λ r. StandsFor old (empty_hold r))) kept of.kept), refl);
  only = λ r m. same r (holds r m);
}
  where
    same : (r : ℕ) → option_map (λ (k : RowNo). k.row) old.kept ≡ Some r → r ≡ row.row
    same r e = let both : Some row.row ≡ Some r = sym (ap (option_map (λ (k : RowNo). k.row)) kept) ∙ e in cc

pub newly_of : (books : BooksView) (old : DeskView) (new : DeskView) → IsOf books old → new.table ≡ old.table → new.layout ≡ old.layout → new.seen ≡ old.seen → new.kept ≡ None → new.past ≡ old.past → (new.number ≡ 0 → ⊥) → IsOf books new
newly_of books old new of table layout seen kept past other = record {
  table = table ∙ of.table;
  layout = layout ∙ of.layout;
  legal = subst (λ (x : Layout × List Entry). IsLegal x.0 x.1) (λ i. (sym layout i, sym seen i)) of.legal;
  kept = subst (λ (o : Option RowNo). IfSome o (λ r. StandsFor new (empty_hold r))) (sym kept) tt;
  past = λ r l. subst (λ (x : Layout × List Entry). 1 ≤ stage (phase_of_row (state_of x.0 x.1) r)) (λ i. (sym layout i, sym seen i)) (of.past r (subst (λ (n : ℕ). r < n) past l));
  within = within_on old new layout past of.within;
  work = λ number made. absurd (other number);
}

-- a turn that is made leaves a kept row, which is in the making
turn_quiet : (q : ℕ) (from to : Phase) (end : End) (books : BooksView) (old new : DeskView) → Stepped (end_turn q from to end) old new → IsOf books old → (r : RowNo) → old.kept ≡ Some r → not (eqb q r.row) ≡ true
turn_quiet q from to end books old new did of r kept =
    let st : Step = end_turn q from to end in
    let h : List Entry = old.seen ++ did.between in
    let s : State = state_of old.layout h in
    let is : StandsFor old (empty_hold r) = subst (λ (o : Option RowNo). IfSome o (λ r. StandsFor old (empty_hold r))) kept of.kept in
    let may : IsAllowedStep old.layout s old.number st = (legal-rest old.layout h (entry old.number st ∷ []) (legal_before st old new did)).0 in
    apart_from s q r.row is.booking (λ b. (b.phase ≡ from) × TurnsWith s old.number (limit_of b) to end) (λ b p making. unlike b.phase p.0 may.1 making) may.3
    (own_before st old new did r.row is.booking is.found is.owner (firm_making is.booking.phase is.making)) is.making
  where
    unlike : (ph : Phase) → ph ≡ from → is_turn from to ≡ true → ph ≡ Making → ⊥
    unlike ph at t making = let no : false ≡ true = subst (λ (p : Phase). is_turn p to ≡ true) (sym at ∙ making) t in cc

pub still_turned : (books : BooksView) (old new : DeskView) (q : ℕ) (from to : Phase) (end : End) → IsOf books old → Stepped (end_turn q from to end) old new → IsOf books new
still_turned books old new q from to end of did = still_of (end_turn q from to end) books old new refl (turn_quiet q from to end books old new did of) did of
