-- What steps on a row make of its booking.
use Rattle.std.proofs.Common.{◌≡◌, ◌≢◌, ℕ, zero, suc, Bool, true, false, eq-eqb, List, [], ◌∷◌, ◌++◌, map, length, get_or, set, Some, refl, sym, ap, ◌∙◌, subst, arith}
use Rattle.std.specs.Prelude.{◌==◌}
use Rattle.std.specs.List.{AllByRecursion}
use Rattle.std.proofs.lemmas.Bool.{eqb-true}
use Rattle.std.proofs.lemmas.List.{get_or-set_other}
use Rattle.leg_masks.specs.Interval.{PlacedSpan as Item}
use Rattle.history_model.specs.declared.phase.Phase.{Phase}
use Rattle.history_model.specs.declared.phase.Phase.TheVariants.{Ending, Ended}
use Rattle.history_model.specs.declared.phase.EndKind.{EndKind}
use Rattle.history_model.specs.declared.booking.BookedItem.{BookedItem}
use Rattle.history_model.specs.declared.booking.End.{End}
use Rattle.history_model.specs.declared.entry.Step.{Step}
use Rattle.history_model.specs.declared.entry.Step.TheVariants.{Look, Take, Give, Start, SawRow, Note, Seal, Turn, LostTurn, Close, Met}
use Rattle.history_model.specs.Apply.{apply_step, marked, given, noted, turned, ended_phase, closed}
use Rattle.history_model.specs.Booking.{Booking, State, key_of, stands_in, change, word_at, amount_word}
use Rattle.history_model.specs.Lists.{change_first}
use Rattle.history_model.proofs.Keeping.{turned-key, given_ending}
use Rattle.claim_rule.specs.Endings.{item_looks}
use Rattle.claim_rule.specs.EndSteps.{gives_from, closing, ending_steps}
use Rattle.confirm_core.specs.RowEnds.{ends_as}
use Rattle.booking_service.specs.Deciding.{at_end}
use Rattle.lone_desk.specs.Lone.{after_steps}
use Rattle.lone_desk.proofs.OwnRow.{changed_behind}
use Rattle.plain_host.specs.PlainOf.{item_of, end_in, view_of}
use Rattle.plain_host.proofs.Standings.{Stands, stands_with}

-- a step on the row's booking, and steps one after another
abbrev pub on_booking : ℕ → Step → Booking → Booking
on_booking desk (Give r item) b = given item b
on_booking desk (Note r word value) b = noted word value b
on_booking desk (Turn r from to moment amount successor) b = turned desk to (record { moment = moment; amount = amount; successor = successor }) b
on_booking desk (Close r) b = closed b
on_booking desk _ b = b

abbrev pub steps_on : ℕ → List Step → Booking → Booking
steps_on desk [] b = b
steps_on desk (st ∷ rest) b = steps_on desk rest (on_booking desk st b)

-- the step looks, or changes the booking of the row
abbrev pub is_on : ℕ → Step → Bool
is_on row (Look place half shown) = true
is_on row (Take r place span) = false
is_on row (Give r item) = r == row
is_on row (Start r generation) = false
is_on row (SawRow r word value) = true
is_on row (Note r word value) = r == row
is_on row (Seal r phase) = false
is_on row (Turn r from to moment amount successor) = r == row
is_on row (LostTurn r wanted shown) = true
is_on row (Close r) = r == row
is_on row Met = true

abbrev pub AreOn : ℕ → List Step → Type 0
AreOn row steps = AllByRecursion (λ st. is_on row st ≡ true) steps

pub change_at : (s : State) (b : Booking) (row r : ℕ) (f : Booking → Booking) → (st : Stands s row b) → (r == row) ≡ true → change s r f ≡ st.before ++ f b ∷ st.after
change_at s b row r f st at =
    ap (λ (k : ℕ). change s k f) (eqb-true r row at)
    ∙ (ap (change_first (stands_in s row) f) st.is ∙ changed_behind (stands_in s row) f st.before st.after b st.first st.passes)

step_on : (s : State) (b : Booking) (row desk : ℕ) (step : Step) → (st : Stands s row b) → is_on row step ≡ true
    → apply_step s desk step ≡ st.before ++ on_booking desk step b ∷ st.after
step_on s b row desk (Look place half shown) st at = st.is
step_on s b row desk (Take r place span) st at = absurd cc
step_on s b row desk (Give r item) st at = change_at s b row r (given item) st at
step_on s b row desk (Start r generation) st at = absurd cc
step_on s b row desk (SawRow r word value) st at = st.is
step_on s b row desk (Note r word value) st at = change_at s b row r (noted word value) st at
step_on s b row desk (Seal r phase) st at = absurd cc
step_on s b row desk (Turn r from to moment amount successor) st at =
    change_at s b row r (turned desk to (record { moment = moment; amount = amount; successor = successor })) st at
step_on s b row desk (LostTurn r wanted shown) st at = st.is
step_on s b row desk (Close r) st at = change_at s b row r closed st at
step_on s b row desk Met st at = st.is

pub key_stays : (desk : ℕ) (step : Step) (b : Booking) → key_of (on_booking desk step b) ≡ key_of b
key_stays desk (Look place half shown) b = refl
key_stays desk (Take r place span) b = refl
key_stays desk (Give r item) b = refl
key_stays desk (Start r generation) b = refl
key_stays desk (SawRow r word value) b = refl
key_stays desk (Note r word value) b = refl
key_stays desk (Seal r phase) b = refl
key_stays desk (Turn r from to moment amount successor) b = turned-key desk to (record { moment = moment; amount = amount; successor = successor }) b
key_stays desk (LostTurn r wanted shown) b = refl
key_stays desk (Close r) b = refl
key_stays desk Met b = refl

pub steps_key : (desk : ℕ) (steps : List Step) (b : Booking) → key_of (steps_on desk steps b) ≡ key_of b
steps_key desk [] b = refl
steps_key desk (step ∷ steps) b = steps_key desk steps (on_booking desk step b) ∙ key_stays desk step b

-- steps on a row change its present booking, and no other
pub steps_change : (s : State) (b : Booking) (row desk : ℕ) (steps : List Step) → (st : Stands s row b) → AreOn row steps
    → after_steps s desk steps ≡ st.before ++ steps_on desk steps b ∷ st.after
steps_change s b row desk [] st on = st.is
steps_change s b row desk (step ∷ steps) st on =
    let c = on_booking desk step b in
    ap (λ (t : State). after_steps t desk steps) (step_on s b row desk step st on.0)
    ∙ steps_change (st.before ++ c ∷ st.after) c row desk steps (stands_with s row b c st (key_stays desk step b)) on.1

-- a turn to an end, with all that follows it

looks_on : (row r w : ℕ) (items : List Item) (rest : List Step) → AreOn row rest → AreOn row (item_looks r w items ++ rest)
looks_on row r w [] rest on = on
looks_on row r w (i ∷ is) rest on = (refl, looks_on row r (suc w) is rest on)

gives_on : (row k n : ℕ) (rest : List Step) → AreOn row rest → AreOn row (gives_from row k n ++ rest)
gives_on row k zero rest on = on
gives_on row k (suc n) rest on = (eq-eqb row row refl, gives_on row (suc k) n rest on)

pub ends_on : (row : ℕ) (from : Phase) (kind : EndKind) (end : End) (items : List Item) → AreOn row (ends_as row from kind end items)
ends_on row from kind end items =
    let same = eq-eqb row row refl in
    (same, (refl, looks_on row row 8 items (ending_steps row kind end items) (gives_on row 0 (length items) (closing row kind end) (same, (same, (same, (same, tt)))))))

map_marked : (n : ℕ) (is : List BookedItem) → map item_of (marked n is) ≡ map item_of is
map_marked zero [] = refl
map_marked zero (i ∷ is) = refl
map_marked (suc n) [] = refl
map_marked (suc n) (i ∷ is) = ap (λ (l : List Item). item_of i ∷ l) (map_marked n is)

-- the booking as it was, but for the marks of its items
pub record KeepsAll (b c : Booking) : Type 0 where
  pub key : key_of c ≡ key_of b
  pub phase : c.phase ≡ b.phase
  pub end : c.end ≡ b.end
  pub words : c.words ≡ b.words
  pub items : map item_of c.items ≡ map item_of b.items

keeps_then : (b c d : Booking) → KeepsAll b c → KeepsAll c d → KeepsAll b d
keeps_then b c d h k = record {
  key = k.key ∙ h.key;
  phase = k.phase ∙ h.phase;
  end = k.end ∙ h.end;
  words = k.words ∙ h.words;
  items = k.items ∙ h.items;
}

looks_keep : (desk row w : ℕ) (items : List Item) (rest : List Step) (b : Booking) → steps_on desk (item_looks row w items ++ rest) b ≡ steps_on desk rest b
looks_keep desk row w [] rest b = refl
looks_keep desk row w (i ∷ is) rest b = looks_keep desk row (suc w) is rest b

gives_keep : (desk row k n : ℕ) (kind : EndKind) (rest : List Step) (b : Booking) → b.phase ≡ Ending kind
    → (c : Booking) × (steps_on desk (gives_from row k n ++ rest) b ≡ steps_on desk rest c) × KeepsAll b c
gives_keep desk row k zero kind rest b ending = (b, refl, record { key = refl; phase = refl; end = refl; words = refl; items = refl })
gives_keep desk row k (suc n) kind rest b ending =
    let more = gives_keep desk row (suc k) n kind rest (given k b) ending in
    let one : KeepsAll b (given k b) = record {
      key = refl;
      phase = refl;
      end = refl;
      words = refl;
      items = ap (λ (x : Booking). map item_of x.items) (given_ending k b kind ending) ∙ map_marked k b.items;
    } in
    (more.0, more.1, keeps_then b (given k b) more.0 one more.2)

-- word 5, 6 or 7 is written, and word w is another
other_word : (ws : List ℕ) (w x y z : ℕ) → w ≢ 5 → w ≢ 6 → w ≢ 7 → get_or (set (set (set ws 5 x) 6 y) 7 z) w 0 ≡ get_or ws w 0
other_word ws w x y z five six seven =
    get_or-set_other (set (set ws 5 x) 6 y) 7 w z 0 seven
    ∙ (get_or-set_other (set ws 5 x) 6 w y 0 six ∙ get_or-set_other ws 5 w x 0 five)

-- what a turn to an end leaves of the booking
pub record IsEndedAs (kind : EndKind) (end : End) (b c : Booking) : Type 0 where
  pub key : key_of c ≡ key_of b
  pub phase : c.phase ≡ Ended kind
  pub view : view_of c ≡ at_end kind end (view_of b)

ended_in : (p : Phase) (kind : EndKind) (e end : End) → p ≡ Ending kind → e ≡ end → end_in (ended_phase p) e ≡ Some end
ended_in p kind e end phase same = ap (λ (q : Phase). end_in (ended_phase q) e) phase ∙ ap (λ (x : End). Some x) same

closes : (desk row : ℕ) (kind : EndKind) (end : End) (b d : Booking) → key_of d ≡ key_of b → d.phase ≡ Ending kind → d.end ≡ end → d.words ≡ b.words
    → map item_of d.items ≡ map item_of b.items → IsEndedAs kind end b (steps_on desk (closing row kind end) d)
closes desk row kind end b d key phase end_is words items =
    record {
      key = key;
      phase = ap ended_phase phase;
      view = λ i. record {
        phase = ap ended_phase phase i;
        retailer = word 1 (λ e. omega (arith, e)) (λ e. omega (arith, e)) (λ e. omega (arith, e)) i;
        limit = word 2 (λ e. omega (arith, e)) (λ e. omega (arith, e)) (λ e. omega (arith, e)) i;
        total = word 3 (λ e. omega (arith, e)) (λ e. omega (arith, e)) (λ e. omega (arith, e)) i;
        items = items i;
        ended = ended_in d.phase kind d.end end phase end_is i;
      };
    }
  where
    word : (w : ℕ) → w ≢ 5 → w ≢ 6 → w ≢ 7 → get_or (set (set (set d.words 5 end.successor) 6 (amount_word kind end.amount)) 7 end.moment) w 0 ≡ word_at b w
    word w five six seven =
        other_word d.words w end.successor (amount_word kind end.amount) end.moment five six seven
        ∙ ap (λ (l : List ℕ). get_or l w 0) words

pub ends_leave : (desk row : ℕ) (from : Phase) (kind : EndKind) (end : End) (items : List Item) (b : Booking)
    → IsEndedAs kind end b (steps_on desk (ends_as row from kind end items) b)
ends_leave desk row from kind end items b =
    let ending : Booking = turned desk (Ending kind) end b in
    let gives = gives_keep desk row 0 (length items) kind (closing row kind end) ending refl in
    subst (IsEndedAs kind end b) (sym (looks_keep desk row 8 items (ending_steps row kind end items) ending ∙ gives.1))
    (closes desk row kind end b gives.0 gives.2.key gives.2.phase gives.2.end gives.2.words gives.2.items)
