-- A reservation, call by call.
use Rattle.std.proofs.Common.{◌≡◌, ℕ, zero, suc, ◌+◌, ◌<◌, ◌≤◌, List, [], ◌∷◌, ◌++◌, length, map, replicate, get_or, Some, None, sym, ap, ◌∙◌, subst, arith, append-nil}
use Rattle.std.specs.Prelude.{◌↔◌, All, slice_index}
use Rattle.std.specs.List.{range_with_len}
use Rattle.std.proofs.lemmas.List.{get_or-replicate, length-replicate}
use Rattle.leg_masks.specs.Interval.{Interval, items_at, PlacedSpan as Item}
use Rattle.rail_ids.specs.declared.PlaceNo.{PlaceNo}
use Rattle.history_model.specs.declared.booking.BookedItem.{BookedItem}
use Rattle.history_model.specs.declared.entry.Step.{Step}
use Rattle.history_model.specs.declared.phase.Phase.TheVariants.{Making}
use Rattle.history_model.specs.Booking.{Booking, Layout, State, present}
use Rattle.claim_rule.specs.Rule.{BooksView, DeskView, state_seen}
use Rattle.claim_rule.specs.Desks.{IsOf, AddsSteps}
use Rattle.claim_rule.specs.Calls.{AddsStepsBy}
use Rattle.claim_rule.specs.Holds.{HoldView, held as item_of}
use Rattle.claim_rule.specs.Out.{HoldsNone, IsHolding}
use Rattle.booking_rows.specs.Starts.{StartsHold}
use Rattle.hold_core.specs.declared.adds.Added.{Added}
use Rattle.hold_core.specs.declared.adds.Added.TheVariants as added
use Rattle.hold_core.specs.Tries.{place_number, with_items}
use Rattle.hold_core.specs.Places.{Adds, gives_back}
use Rattle.lone_desk.specs.Lone.{IsAlone, after_steps}
use Rattle.lone_desk.specs.Decided.{IsFreeAt, FindsFirst}
use Rattle.lone_desk.proofs.Following.{shape_follows}
use Rattle.lone_desk.proofs.Finding.{finds_first}
use Rattle.lone_desk.proofs.OwnRow.{IsApart, AllAt, steps_keep, tries_at_row}
use Rattle.lone_desk.proofs.Starting.{starts_least}
use Rattle.host_tiny.specs.Reservations.{Held, IsFree, IsLeastFree, IsNoneFree}
use Rattle.rail_ids.specs.declared.RowNo.{RowNo}
use Rattle.host_tiny.specs.Run.{notes_and_seal, IsRun, IsSettled, held_of, reservations, reserved}
use Rattle.host_tiny.proofs.Selling.{HasRow, row_started, no_row_started, rows_apart, found_last, one_each, settled_reservations, row_reservations, reservations_more, settles_empty, settles_sold, sealed_last}
use Rattle.host_tiny.proofs.Pieces.{one_held}
use Rattle.host_tiny.proofs.Freeness.{free_at, least_found, none_found}

-- the run after calls that leave it settled
pub run_still : (legs : ℕ) (places : List PlaceNo) (books : BooksView) (old new : DeskView) → IsRun legs places books old → IsOf books new → IsAlone new → HoldsNone new
    → IsSettled (state_seen new) → IsRun legs places books new
run_still legs places books old new run own alone none settled = record {
  some = run.some;
  few = run.few;
  most = run.most;
  numbers = run.numbers;
  layout = run.layout;
  own = own;
  alone = alone;
  none = none;
  settled = settled;
}

layout_is : (legs : ℕ) (places : List PlaceNo) (books : BooksView) (desk : DeskView) → IsRun legs places books desk → desk.layout.rows ≡ 1024
layout_is legs places books desk run = ap (λ (g : Layout). g.rows) (run.own.layout ∙ run.layout)

-- the places are candidates, each with so many legs
pub candidates_fit : (legs : ℕ) (places : List PlaceNo) (books : BooksView) (desk : DeskView) (span : Interval) → IsRun legs places books desk → span.to ≤ legs
    → All (λ p. (p.0 < length books.layout.legs) × (span.to ≤ slice_index books.layout.legs p.0)) places
candidates_fit legs places books desk span run fits k d below =
    let n = length places in
    let is : books.layout.legs ≡ replicate n legs = ap (λ (g : Layout). g.legs) run.layout in
    let number : (get_or places k d).0 ≡ k = omega (arith, numbered 0 places k d run.numbers below) in
    let inside : (get_or places k d).0 < n = omega (arith, number, below) in (
      subst (λ (m : ℕ). (get_or places k d).0 < m) (sym (ap length is ∙ length-replicate n legs)) inside,
      subst (λ (m : ℕ). span.to ≤ m) (sym (ap (λ (l : List ℕ). get_or l (get_or places k d).0 0) is ∙ get_or-replicate n (get_or places k d).0 legs 0 inside)) fits,
    )
  where
    numbered : (a : ℕ) (ps : List PlaceNo) (k : ℕ) (d : PlaceNo) → map place_number ps ≡ range_with_len a (length ps) → k < length ps → (get_or ps k d).0 ≡ a + k
    numbered a [] k d e below = absurd (omega (arith, below))
    numbered a (p ∷ ps) zero d e below = let here : p.0 ≡ a = cc in omega (arith, here)
    numbered a (p ∷ ps) (suc k) d e below =
        let rest : map place_number ps ≡ range_with_len (a + 1) (length ps) = cc in
        omega (arith, numbered (a + 1) ps k d rest (omega (arith, below)))

-- ---- the start

-- no row was left
pub full : (legs : ℕ) (places : List PlaceNo) (books : BooksView) (old new : DeskView) → IsRun legs places books old → AddsStepsBy (StartsHold old new None) old new
    → (1024 ≤ length (reserved old)) × (state_seen new ≡ state_seen old) × IsAlone new
full legs places books old new run did =
    let s = state_seen old in
    let none = no_row_started old new run.alone.number (layout_is legs places books old run) run.settled (starts_least old new None run.alone did) in
    let many = ap length (settled_reservations s run.settled) ∙ one_each run.settled.sold run.settled.each in
    (omega (arith, none.0, many), none.1, (shape_follows old new did.0 run.alone did.2).alone)

-- what the start of a hold leaves
pub record Begun (old new : DeskView) (settled : IsSettled (state_seen old)) (row : RowNo) : Type 0 where
  pub has : HasRow (state_seen old) settled (state_seen new) row.row
  pub first : row.generation ≡ 0
  pub alone : IsAlone new
  pub few : length (reserved old) < 1024
  pub same : reserved new ≡ reserved old
  pub free : (place : ℕ) (span : Interval) → IsFreeAt (state_seen new) span place ↔ IsFree (reserved old) place span

pub begun : (legs : ℕ) (places : List PlaceNo) (books : BooksView) (old new : DeskView) (hold : HoldView) → (run : IsRun legs places books old)
    → AddsStepsBy (StartsHold old new (Some hold.row)) old new → IsHolding new hold → IsOf books new → Begun old new run.settled hold.row
begun legs places books old new hold run did holding own =
    let s = state_seen old in
    let settled = run.settled in
    let f = shape_follows old new did.0 run.alone did.2 in
    let starts = row_started old new hold.row run.alone.number settled (starts_least old new (Some hold.row) run.alone did) in
    let has = starts.0 in
    let many = ap length (settled_reservations s settled) ∙ one_each settled.sold settled.each in
    let below : hold.row.row < new.layout.rows = holding.of.0.row in
    let rows : new.layout.rows ≡ 1024 = ap (λ (g : Layout). g.rows) f.layout ∙ layout_is legs places books old run in
    record {
      has = has;
      first = starts.1;
      alone = f.alone;
      few = omega (arith, many, has.row_is, below, rows);
      same = row_reservations s settled (state_seen new) hold.row.row has ∙ sym (settled_reservations s settled);
      free = λ place span. subst (λ (hs : List Held). IsFreeAt (state_seen new) span place ↔ IsFree hs place span) (sym (settled_reservations s settled))
          (free_at (state_seen new) settled.sold has.last settled.each has.empty.none has.now_is place span);
    }

-- ---- the places

pub adds_found : (legs : ℕ) (places : List PlaceNo) (books : BooksView) (start old new : DeskView) (hold : HoldView) (span : Interval) (answer : Added) (won : List Item)
    → IsRun legs places books start → IsAlone old → span.to ≤ legs
    → AddsStepsBy (Adds hold.row.row (length hold.items) span 1 (map place_number places) answer won) old new
    → FindsFirst (state_seen old) span (length places) answer won
adds_found legs places books start old new hold span answer won run alone fits (steps, adds, did) =
    let f = shape_follows old new steps alone did in
    finds_first old.layout (state_seen old) old.number hold.row.row (length hold.items) span (length places) answer won steps (omega (arith, fits, run.few)) f.legal
    (subst (λ (cs : List ℕ). Adds hold.row.row (length hold.items) span 1 cs answer won steps) run.numbers adds)

-- the row in the making stands behind those that are sold, with the hold's items
pub record LastHas (sold : State) (row : ℕ) (desk : DeskView) (items : List BookedItem) : Type 0 where
  pub last : Booking
  pub row_is : last.row ≡ row
  pub items_are : last.items ≡ items
  pub making : last.phase ≡ Making
  pub owner : last.owner ≡ 0
  pub first : last.generation ≡ 0
  pub apart : IsApart row sold
  pub state : state_seen desk ≡ sold ++ last ∷ []
  pub alone : IsAlone desk

pub places_added : (start old new : DeskView) (settled : IsSettled (state_seen start)) (hold kept : HoldView) (span : Interval) (candidates : List ℕ) (answer : Added) (won : List Item)
    → Begun start old settled hold.row → AddsStepsBy (Adds hold.row.row (length hold.items) span 1 candidates answer won) old new → kept ≡ with_items hold won → IsHolding new kept
    → LastHas settled.sold hold.row.row new (map item_of kept.items)
places_added start old new settled hold kept span candidates answer won begun (steps, adds, did) is holding =
    let row = hold.row.row in
    let sold = settled.sold in
    let f = shape_follows old new steps begun.alone did in
    let apart : IsApart row sold = rows_apart 0 sold row settled.rows (omega (arith, begun.has.row_is)) in
    let at : AllAt row steps = subst (AllAt row) (sym adds.steps) (tries_at_row row (length hold.items) span adds.tries) in
    let keeps = steps_keep sold begun.has.last row old.number steps begun.has.empty.row_is apart at in
    let state : state_seen new ≡ sold ++ keeps.last ∷ [] =
    f.state ∙ (ap (λ (s : State). after_steps s old.number steps) begun.has.now_is ∙ keeps.is) in
    let stands = holding.of.0 in
    let here : kept.row.row ≡ row = ap (λ (h : HoldView). h.row.row) is in
    let same : Some keeps.last ≡ Some stands.booking =
    sym (ap (λ (s : State). present s row) state ∙ found_last sold keeps.last row keeps.same apart)
    ∙ (ap (present (state_seen new)) (sym here) ∙ stands.found) in
    let one : keeps.last ≡ stands.booking = cc in
    record {
      last = keeps.last;
      row_is = keeps.same;
      items_are = ap (λ (b : Booking). b.items) one ∙ stands.items;
      making = ap (λ (b : Booking). b.phase) one ∙ stands.making;
      owner = ap (λ (b : Booking). b.owner) one ∙ (stands.owner ∙ f.alone.number);
      first = ap (λ (b : Booking). b.generation) one ∙ (stands.generation ∙ (ap (λ (h : HoldView). h.row.generation) is ∙ begun.first));
      apart = apart;
      state = state;
      alone = f.alone;
    }

-- ---- the end

-- sealed: one more place is sold
pub sold_more : (start old new : DeskView) (settled : IsSettled (state_seen start)) (row place m n o p : ℕ) (span : Interval) (items : List Item) → row ≡ length settled.sold
    → LastHas settled.sold row old (map item_of items) → items ≡ items_at span place
    → AddsSteps old new (notes_and_seal row m n o p)
    → IsSettled (state_seen new) × (reserved new ≡ reserved start ++ record { place = place; span = span } ∷ []) × IsAlone new
sold_more start old new settled row place m n o p span items at has is did =
    let sold = settled.sold in
    let f = shape_follows old new (notes_and_seal row m n o p) has.alone did in
    let c = sealed_last sold has.last row old.number m n o p has.row_is has.apart in
    let steps : List Step = notes_and_seal row m n o p in
    let state : state_seen new ≡ sold ++ c.0 ∷ [] = f.state ∙ (ap (λ (s : State). after_steps s old.number steps) has.state ∙ c.4) in
    let one : Held = record { place = place; span = span } in
    let mine : c.0.items ≡ map item_of (items_at span place) = c.2 ∙ (has.items_are ∙ ap (map item_of) is) in (
      settles_sold (state_seen start) settled row (state_seen new) c.0 at c.1 (c.5 ∙ has.first) (record { phase = c.3; one = one; items = mine }) state,
      ap reservations state
          ∙ (reservations_more sold c.0
          ∙ (ap (λ (is : List BookedItem). reservations sold ++ held_of is) mine
          ∙ (ap (λ (hs : List Held). reservations sold ++ hs) (one_held one)
          ∙ ap (λ (hs : List Held). hs ++ one ∷ []) (sym (settled_reservations (state_seen start) settled))))),
      f.alone,
    )

-- abandoned: the row is left empty
pub left_empty : (start old new : DeskView) (settled : IsSettled (state_seen start)) (row : ℕ) (items : List Item) → row ≡ length settled.sold
    → LastHas settled.sold row old (map item_of items) → items ≡ [] → AddsSteps old new (gives_back row (length items))
    → IsSettled (state_seen new) × (reserved new ≡ reserved start) × IsAlone new
left_empty start old new settled row items at has is did =
    let sold = settled.sold in
    let steps : gives_back row (length items) ≡ [] = ap (λ (is : List Item). gives_back row (length is)) is in
    let f = shape_follows old new (gives_back row (length items)) has.alone did in
    let state : state_seen new ≡ sold ++ has.last ∷ [] = f.state ∙ (ap (after_steps (state_seen old) old.number) steps ∙ has.state) in
    let none : has.last.items ≡ [] = has.items_are ∙ ap (map item_of) is in (
      settles_empty (state_seen start) settled row (state_seen new) has.last at
          (record { phase = has.making; none = none; owner = has.owner; row_is = has.row_is; first = has.first }) state,
      ap reservations state
          ∙ (reservations_more sold has.last
          ∙ (ap (λ (is : List BookedItem). reservations sold ++ held_of is) none
          ∙ (append-nil (reservations sold) ∙ sym (settled_reservations (state_seen start) settled)))),
      f.alone,
    )

-- ---- from a wish to its answer

-- the place found, and what the hold has then
pub items_found : (legs : ℕ) (places : List PlaceNo) (books : BooksView) (a b c : DeskView) (hold kept : HoldView) (span : Interval) (won : List Item)
    → IsRun legs places books a → span.to ≤ legs → AddsStepsBy (StartsHold a b (Some hold.row)) a b → IsHolding b hold → hold.items ≡ [] → IsOf books b
    → AddsStepsBy (Adds hold.row.row (length hold.items) span 1 (map place_number places) added.All won) b c → kept ≡ with_items hold won
    → (found : FindsFirst (state_seen b) span (length places) added.All won) × (kept.items ≡ items_at span found.0)
items_found legs places books a b c hold kept span won run fits starts holding none own adds is =
    let begins = begun legs places books a b hold run starts holding own in
    let found = adds_found legs places books a b c hold span added.All won run begins.alone fits adds in
    (found, ap (λ (h : HoldView). h.items) is ∙ (ap (λ (l : List Item). l ++ won) none ∙ found.1))

-- one place is sold
pub reserved_all : (legs : ℕ) (places : List PlaceNo) (books : BooksView) (a b c d : DeskView) (hold kept : HoldView) (span : Interval) (won : List Item) (m n o : ℕ)
    → IsRun legs places books a → span.to ≤ legs → AddsStepsBy (StartsHold a b (Some hold.row)) a b → IsHolding b hold → hold.items ≡ [] → IsOf books b
    → AddsStepsBy (Adds hold.row.row (length hold.items) span 1 (map place_number places) added.All won) b c → kept ≡ with_items hold won → IsHolding c kept
    → AddsSteps c d (notes_and_seal kept.row.row m n o (length kept.items))
    → (place : ℕ) × (kept.items ≡ items_at span place) × (length (reserved a) < 1024)
    × IsLeastFree (reserved a) (length places) place span × IsSettled (state_seen d)
    × (reserved d ≡ reserved a ++ record { place = place; span = span } ∷ []) × IsAlone d
reserved_all legs places books a b c d hold kept span won m n o run fits starts holding none own adds is still did =
    let begins = begun legs places books a b hold run starts holding own in
    let has = places_added a b c run.settled hold kept span (map place_number places) added.All won begins adds is still in
    let (found, items) = items_found legs places books a b c hold kept span won run fits starts holding none own adds is in
    let here : kept.row.row ≡ hold.row.row = ap (λ (h : HoldView). h.row.row) is in
    let sealed = subst (λ (r : ℕ). AddsSteps c d (notes_and_seal r m n o (length kept.items))) here did in
    let sold = sold_more a c d run.settled hold.row.row found.0 m n o (length kept.items) span kept.items begins.has.row_is has items sealed in (
      found.0,
      items,
      begins.few,
      least_found (state_seen b) (reserved a) span (length places) won (λ place. begins.free place span) found,
      sold.0,
      sold.1,
      sold.2,
    )

-- no place is free
pub reserved_none : (legs : ℕ) (places : List PlaceNo) (books : BooksView) (a b c d : DeskView) (hold kept : HoldView) (span : Interval) (count : ℕ) (won : List Item)
    → IsRun legs places books a → span.to ≤ legs → AddsStepsBy (StartsHold a b (Some hold.row)) a b → IsHolding b hold → hold.items ≡ [] → IsOf books b
    → AddsStepsBy (Adds hold.row.row (length hold.items) span 1 (map place_number places) (added.NoPlace count) won) b c → kept ≡ with_items hold won → IsHolding c kept
    → AddsSteps c d (gives_back kept.row.row (length kept.items))
    → (length (reserved a) < 1024) × IsNoneFree (reserved a) (length places) span × IsSettled (state_seen d) × (reserved d ≡ reserved a) × IsAlone d
reserved_none legs places books a b c d hold kept span count won run fits starts holding none own adds is still did =
    let begins = begun legs places books a b hold run starts holding own in
    let found = adds_found legs places books a b c hold span (added.NoPlace count) won run begins.alone fits adds in
    let has = places_added a b c run.settled hold kept span (map place_number places) (added.NoPlace count) won begins adds is still in
    let items : kept.items ≡ [] = ap (λ (h : HoldView). h.items) is ∙ (ap (λ (l : List Item). l ++ won) none ∙ found.0) in
    let here : kept.row.row ≡ hold.row.row = ap (λ (h : HoldView). h.row.row) is in
    let given = subst (λ (r : ℕ). AddsSteps c d (gives_back r (length kept.items))) here did in
    let left = left_empty a c d run.settled hold.row.row kept.items begins.has.row_is has items given in (
      begins.few,
      none_found (state_seen b) (reserved a) span (length places) won (λ place. begins.free place span) count found,
      left.0,
      left.1,
      left.2,
    )

-- the desk is alone, so nothing is contended
pub never_contended : (legs : ℕ) (places : List PlaceNo) (books : BooksView) (a b c : DeskView) (hold : HoldView) (span : Interval) (place : PlaceNo) (won : List Item)
    → IsRun legs places books a → span.to ≤ legs → AddsStepsBy (StartsHold a b (Some hold.row)) a b → IsHolding b hold → IsOf books b
    → AddsStepsBy (Adds hold.row.row (length hold.items) span 1 (map place_number places) (added.Contended place) won) b c → ⊥
never_contended legs places books a b c hold span place won run fits starts holding own adds =
    let begins = begun legs places books a b hold run starts holding own in
    adds_found legs places books a b c hold span (added.Contended place) won run begins.alone fits adds
