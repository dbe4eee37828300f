-- Rows that are open: ending, or exchanged for a booking that isn't made yet.
use Rattle.std.proofs.Common.{◌≡◌, ◌≢◌, ◌∙◌, ℕ, ◌+◌, ◌*◌, ◌/◌, ◌%◌, ◌<◌, ◌≤◌, inl, inr, ⊎_elim, refl, sym, ap, subst, Option, Some, None, arith}
use Rattle.std.specs.Option.{option_map_or}
use Rattle.history_model.specs.declared.phase.Phase.{Phase}
use Rattle.history_model.specs.declared.phase.Phase.TheVariants.{Free, Making, Ending, Ended}
use Rattle.history_model.specs.declared.phase.EndKind.{EndKind}
use Rattle.history_model.specs.declared.phase.EndKind.TheVariants.{Exchange}
use Rattle.history_model.specs.Allowed.{OnRow}
use Rattle.history_model.specs.Booking.{Booking, State, phase_of_row, present, successor_rows, successor_word}
use Rattle.history_model.specs.Laws.{IsInRange}
use Rattle.history_model.specs.Phase.{row_word_of}
use Rattle.history_model.specs.Words.{row_word}
use Rattle.history_model.proofs.Keeping.{found}
use Rattle.history_model.proofs.Owners.{on_row}
use Rattle.history_model.proofs.Ranges.{all_found, ranges_all, row_of}
use Rattle.history_model.proofs.Writing.{booking_of_word, free_of_word}
use Rattle.claim_rule.specs.Walls.{WallView}
use Rattle.cold_store.specs.Exports.{IsClosed, IsOpenBooking, IsOpenRow, IsUnmade, state_on}
use Rattle.cold_store.proofs.WallRows.{sound_on, well_formed, word_on}

-- no booking stands behind the rows
pub none_behind : (w : WallView) (row : ℕ) → IsClosed w → w.layout.rows ≤ row → present (state_on w) row ≡ None
none_behind w row closed behind = go (present (state_on w) row) refl
  where
    go : (o : Option Booking) → present (state_on w) row ≡ o → present (state_on w) row ≡ None
    go None e = e
    go (Some b) e =
        let within = (all_found (IsInRange w.layout) (state_on w) row b (ranges_all w.layout w.history closed.legal) e).row in
        let here = row_of (state_on w) row b e in
        absurd (omega (arith, within, here))

pub free_is_unmade : (w : WallView) (row generation : ℕ) → IsClosed w → row_word (state_on w) row 0 ≡ 0 → IsUnmade (state_on w) row generation
free_is_unmade w row generation closed e = inl (free_of_word w.layout (state_on w) row (well_formed w closed) e)

pub making_is_unmade : (s : State) (row generation : ℕ) → row_word s row 0 ≡ row_word_of Making generation → IsUnmade s row generation
making_is_unmade s row generation e =
    let b = booking_of_word s row Making generation (λ (n : Making ≡ Free). cc) e in
    inr (on_row s row b.0 (λ b. (b.phase ≡ Making) × (b.generation ≡ generation)) b.1 (b.2, b.3))

pub unmade_word : (s : State) (row generation : ℕ) → row_word s row 0 ≢ 0 → IsUnmade s row generation → row_word s row 0 ≡ row_word_of Making generation
unmade_word s row generation some unmade =
    ⊎_elim
    (λ (none : present s row ≡ None). absurd (some (ap (λ (o : Option Booking). option_map_or (λ (b : Booking). row_word_of b.phase b.generation) o 0) none)))
    (λ (on : OnRow s row (λ b. (b.phase ≡ Making) × (b.generation ≡ generation))).
    let b = found (present s row) (λ b. (b.phase ≡ Making) × (b.generation ≡ generation)) on in
    ap (λ (o : Option Booking). option_map_or (λ (b : Booking). row_word_of b.phase b.generation) o 0) b.1 ∙ (λ j. row_word_of (b.2.0 j) (b.2.1 j)))
    unmade

-- the booking of a row in a phase
pub booking_in : (s : State) (row : ℕ) (phase : Phase) → phase ≢ Free → phase ≡ phase_of_row s row → (b : Booking) × (present s row ≡ Some b) × (b.phase ≡ phase)
booking_in s row phase some e = go (present s row) refl
  where
    go : (o : Option Booking) → present s row ≡ o → (b : Booking) × (present s row ≡ Some b) × (b.phase ≡ phase)
    go None at = absurd (some (e ∙ ap (λ (o : Option Booking). option_map_or (λ (b : Booking). b.phase) o Free) at))
    go (Some b) at = (b, at, sym (e ∙ ap (λ (o : Option Booking). option_map_or (λ (b : Booking). b.phase) o Free) at))

-- the word of a successor is that of one row and one generation
row_back : (r g : ℕ) → r < 4294967296 → (r + 4294967296 * g) % 4294967296 ≡ r
row_back r g l = omega arith

generation_back : (r g : ℕ) → r < 4294967296 → (r + 4294967296 * g) / 4294967296 ≡ g
generation_back r g l = omega arith

pub successor_same : (r g q h : ℕ) → r < successor_rows → q < successor_rows → successor_word r g ≡ successor_word q h → (r ≡ q) × (g ≡ h)
successor_same r g q h l m e =
    let same : r + 4294967296 * g ≡ q + 4294967296 * h = omega arith in (
      sym (row_back r g l) ∙ (ap (λ n. n % 4294967296) same ∙ row_back q h m),
      sym (generation_back r g l) ∙ (ap (λ n. n / 4294967296) same ∙ generation_back q h m),
    )

-- the successor of a row that was exchanged and is open
exchanged_row : (w : WallView) (row word : ℕ) → IsClosed w → Ended Exchange ≡ phase_of_row (state_on w) row → word ≡ row_word (state_on w) row 5 → IsOpenRow (state_on w) row
    → (r : ℕ) × (g : ℕ) × (r < successor_rows) × (word ≡ successor_word r g) × IsUnmade (state_on w) r g
exchanged_row w row word closed phase is open_row =
    let b = found (present (state_on w) row) (IsOpenBooking (state_on w)) open_row in
    let ended : b.0.phase ≡ Ended Exchange = sym (phase ∙ ap (λ (o : Option Booking). option_map_or (λ (b : Booking). b.phase) o Free) b.1) in
    ⊎_elim
    (λ (ending : (kind : EndKind) × (b.0.phase ≡ Ending kind)). absurd (unlike ending.0 (sym ended ∙ ending.1)))
    (λ (x : (b.0.phase ≡ Ended Exchange) × ((r : ℕ) × (g : ℕ) × (r < successor_rows) × (b.0.end.successor ≡ successor_word r g) × IsUnmade (state_on w) r g)).
    let end = ((sound_on w row b.0 closed b.1).ended Exchange ended).1 in
    let word_is : word ≡ successor_word x.1.0 x.1.1 = is ∙ (word_on (state_on w) row 5 b.0 b.1 (λ (n : 5 ≡ 0). omega arith) ∙ (end.successor ∙ x.1.3)) in
    (x.1.0, x.1.1, x.1.2, word_is, x.1.4))
    b.2
  where
    unlike : (kind : EndKind) → Ended Exchange ≡ Ending kind → ⊥
    unlike kind e = cc

-- a row that was exchanged is open where its successor is unmade
pub exchanged_open : (w : WallView) (row word r g : ℕ) → IsClosed w → Ended Exchange ≡ phase_of_row (state_on w) row → word ≡ row_word (state_on w) row 5
    → r < successor_rows → word ≡ successor_word r g → (IsUnmade (state_on w) r g → IsOpenRow (state_on w) row) × (IsOpenRow (state_on w) row → IsUnmade (state_on w) r g)
exchanged_open w row word r g closed phase is low says = (there, back)
  where
    there : IsUnmade (state_on w) r g → IsOpenRow (state_on w) row
    there unmade =
        let b = booking_in (state_on w) row (Ended Exchange) (λ (n : Ended Exchange ≡ Free). cc) phase in
        let end = ((sound_on w row b.0 closed b.1).ended Exchange b.2).1 in
        on_row (state_on w) row b.0 (IsOpenBooking (state_on w)) b.1
        (inr (b.2, (r, g, low, sym end.successor ∙ (sym (word_on (state_on w) row 5 b.0 b.1 (λ (n : 5 ≡ 0). omega arith)) ∙ (sym is ∙ says)), unmade)))

    back : IsOpenRow (state_on w) row → IsUnmade (state_on w) r g
    back open_row =
        let x = exchanged_row w row word closed phase is open_row in
        let same = successor_same x.0 x.1 r g x.2 low (sym x.3 ∙ says) in
        subst (λ (p : ℕ × ℕ). IsUnmade (state_on w) p.0 p.1) (λ j. (same.0 j, same.1 j)) x.4

-- and one without a successor isn't
pub exchanged_shut : (w : WallView) (row word : ℕ) → IsClosed w → Ended Exchange ≡ phase_of_row (state_on w) row → word ≡ row_word (state_on w) row 5 → word ≡ 0 → ¬ IsOpenRow (state_on w) row
exchanged_shut w row word closed phase is none open_row =
    let x = exchanged_row w row word closed phase is open_row in
    omega (arith, none, x.3)
